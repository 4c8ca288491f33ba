-- Small worlds, in which terms and axioms that are easily taken for one another differ: a role and
-- its inverse, "at least n" and "some", an individual and all elements.
use Rattle.std.specs.Prelude.{◌≡◌, ℕ, zero, suc, List, [], ◌∷◌, ◌++◌, ◌&&◌, ◌==◌, if◌then◌else◌, min, slice_index_or}
use Rattle.std.specs.List.{list_any}
use Rattle.vocabulary.specs.declared.name.NameId.{NameId}
use Rattle.terms.specs.declared.term.RoleItem.{RoleItem}
use Rattle.terms.specs.declared.term.RoleItem.TheVariants.{Forward, Inverse}
use Rattle.terms.specs.Forms.{Form, Rule, nothing, everything, concept, just, negation, both, exists, at_least, inclusion, equivalence, role_inclusion, transitive, functional, member, related}
use Rattle.locality.specs.Meaning.{belongs, Holds}
use Rattle.locality.specs.Worlds.{World}
use Rattle.locality.specs.lemmas.Small.{some_element, min_inside}

-- the name of a number, the role of that name, and its inverse
abbrev pub name : ℕ → NameId
name n = record { 0 = n }

abbrev pub role : ℕ → RoleItem
role n = Forward (name n)

abbrev pub inverse : ℕ → RoleItem
inverse n = Inverse (name n)

-- the elements 0 to `last`; of the concept of each number its elements, of the role of each number
-- its pairs, and none of others; the individual of a number is the element of that number, or the last
abbrev pub small_world : ℕ → List (List ℕ) → List (List (ℕ × ℕ)) → World
small_world last concepts roles = record {
  size = suc last;
  some = some_element last;
  concepts = λ n x. list_any (λ y. y == x) (slice_index_or concepts n.0 []);
  roles = λ n x y. list_any (λ p. p.0 == x && p.1 == y) (slice_index_or roles n.0 []);
  individuals = λ a. min a.0 last;
  inside = λ a. min_inside a.0 last;
}

-- the elements of a world that are in a term, in order
abbrev pub elements_below : ℕ → World → Form → List ℕ
elements_below zero w f = []
elements_below (suc n) w f =
    if belongs w f n then elements_below n w f ++ n ∷ [] else elements_below n w f

abbrev pub elements : World → Form → List ℕ
elements w f = elements_below w.size w f

-- of two axioms the first holds in a world, and the second does not
abbrev pub Apart : World → Rule → Rule → Type 0
Apart w r s = Holds w r × ¬ Holds w s

-- one element, and two elements, where role 0 has all pairs
abbrev pub lone : World
lone = small_world 0 [] (((0, 0) ∷ []) ∷ [])

abbrev pub twins : World
twins = small_world 1 [] (((0, 0) ∷ (0, 1) ∷ (1, 0) ∷ (1, 1) ∷ []) ∷ [])

-- concept 0 has element 0; role 0 leads from 0 to 1, role 1 from 1 to 0, and role 2 nowhere
abbrev pub arrow : World
arrow = small_world 1 ((0 ∷ []) ∷ []) (((0, 1) ∷ []) ∷ ((1, 0) ∷ []) ∷ [])

-- concept 0 has element 1; role 0 leads from each of three elements to all that come after it, role
-- 1 to the next one, and role 2 from 0 and from 1 to 2
abbrev pub ladder : World
ladder =
    small_world 2 ((1 ∷ []) ∷ []) (
    ((0, 1) ∷ (0, 2) ∷ (1, 2) ∷ []) ∷ ((0, 1) ∷ (1, 2) ∷ []) ∷ ((0, 2) ∷ (1, 2) ∷ []) ∷ []
    )

-- concept 0, as a term
abbrev pub first : Form
first = concept (name 0)

pub record SmallWorlds : Type 0 where
  -- a role leads one way, and its inverse the other
  pub forward : elements arrow (exists (role 0) everything) ≡ 0 ∷ []
  pub backward : elements arrow (exists (inverse 0) everything) ≡ 1 ∷ []
  -- of the elements 0, 1 and 2, 0 has two partners and 1 has one; backwards 2 has two and 1 has one
  pub some : elements ladder (exists (role 0) everything) ≡ 0 ∷ 1 ∷ []
  pub one : elements ladder (at_least 1 (role 0) everything) ≡ 0 ∷ 1 ∷ []
  pub two : elements ladder (at_least 2 (role 0) everything) ≡ 0 ∷ []
  pub three : elements ladder (at_least 3 (role 0) everything) ≡ []
  pub some_backward : elements ladder (exists (inverse 0) everything) ≡ 1 ∷ 2 ∷ []
  pub one_backward : elements ladder (at_least 1 (inverse 0) everything) ≡ 1 ∷ 2 ∷ []
  pub two_backward : elements ladder (at_least 2 (inverse 0) everything) ≡ 2 ∷ []
  -- only partners in the term count
  pub some_in : elements ladder (exists (role 0) first) ≡ 0 ∷ []
  pub one_in : elements ladder (at_least 1 (role 0) first) ≡ 0 ∷ []
  pub two_in : elements ladder (at_least 2 (role 0) first) ≡ []
  -- over all pairs an only element has one partner, and each of two has both
  pub two_of_one : elements lone (at_least 2 (role 0) everything) ≡ []
  pub two_of_two : elements twins (at_least 2 (role 0) everything) ≡ 0 ∷ 1 ∷ []
  -- an individual is one element among others, and all there is where it is the only one
  pub individual : elements ladder (just (name 1)) ≡ 1 ∷ []
  pub only_individual : elements lone (just (name 1)) ≡ 0 ∷ []
  -- the other terms
  pub none : elements ladder nothing ≡ []
  pub all : elements ladder everything ≡ 0 ∷ 1 ∷ 2 ∷ []
  pub in_concept : elements ladder first ≡ 1 ∷ []
  pub others : elements ladder (negation first) ≡ 0 ∷ 2 ∷ []
  pub in_both : elements ladder (both (negation first) (negation (just (name 0)))) ≡ 2 ∷ []
  -- an inclusion holds one way round; an equivalence asks for both
  pub inclusions : Apart arrow (inclusion first everything) (inclusion everything first)
  pub equivalences :
      Apart arrow (equivalence first (exists (role 0) everything)) (equivalence first everything)
  pub equivalences_turned :
      Apart arrow (equivalence (exists (role 0) everything) first) (equivalence everything first)
  -- a role without pairs is included in every other, and not the other way round
  pub roles : Apart arrow (role_inclusion (role 2) (role 0)) (role_inclusion (role 0) (role 2))
  -- a role is included in itself and not in its inverse, read either way round
  pub itself : Apart arrow (role_inclusion (role 0) (role 0)) (role_inclusion (role 0) (inverse 0))
  pub itself_backward :
      Apart arrow (role_inclusion (inverse 0) (inverse 0)) (role_inclusion (inverse 0) (role 0))
  -- a role is included in the inverse of the opposite one, and not in that one
  pub opposites :
      Apart arrow (role_inclusion (role 0) (inverse 1)) (role_inclusion (role 0) (role 1))
  pub opposites_backward :
      Apart arrow (role_inclusion (inverse 0) (role 1)) (role_inclusion (inverse 0) (inverse 1))
  -- what comes after what comes after comes after, and the next one's next one is not the next one
  pub steps : Apart ladder (transitive (name 0)) (transitive (name 1))
  -- there is one next element at most, and one before it; of those that come after there are two
  pub next : Apart ladder (functional (role 1)) (functional (role 0))
  pub next_backward : Apart ladder (functional (inverse 1)) (functional (inverse 0))
  -- two elements lead to one
  pub joined : Apart ladder (functional (role 2)) (functional (inverse 2))
  -- all pairs are functional in a world of one element, and not in one of two
  pub all_of_one : Holds lone (functional (role 0)) × Holds lone (functional (inverse 0))
  pub all_of_two : (¬ Holds twins (functional (role 0))) × (¬ Holds twins (functional (inverse 0)))
  -- the element of an individual is in a concept, and a role leads from one to another
  pub members : Apart arrow (member (name 0) first) (member (name 1) first)
  pub pairs : Apart arrow (related (name 0) (name 0) (name 1)) (related (name 0) (name 1) (name 0))
