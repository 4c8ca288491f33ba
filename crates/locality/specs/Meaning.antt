-- What terms and axioms mean in a finite world.
use Rattle.std.specs.Prelude.{◌≡◌, ℕ, zero, suc, ◌+◌, ◌<◌, Bool, true, false, if◌then◌else◌, not, ◌&&◌, ◌||◌, ◌==◌, nat_le}
use Rattle.terms.specs.declared.term.RoleItem.{RoleItem}
use Rattle.terms.specs.declared.term.RoleItem.TheVariants.{Forward, Inverse}
use Rattle.terms.specs.Forms.{Form, Rule, nothing, everything, concept, just, negation, both, exists, at_least, inclusion, equivalence, role_inclusion, transitive, functional, member, related}
use Rattle.locality.specs.Worlds.{World}

-- some number below n passes the test, and how many do
abbrev pub some_below : ℕ → (ℕ → Bool) → Bool
some_below zero p = false
some_below (suc n) p = p n || some_below n p

abbrev pub count_below : ℕ → (ℕ → Bool) → ℕ
count_below zero p = 0
count_below (suc n) p = (if p n then 1 else 0) + count_below n p

module _ (w : World) where
  -- the role leads from x to y; the inverse of a role leads back
  abbrev pub leads : RoleItem → ℕ → ℕ → Bool
  leads (Forward r) x y = w.roles r x y
  leads (Inverse r) x y = w.roles r y x

  -- the element x is in the term; its partners are the elements that the role leads to
  abbrev pub belongs : Form → ℕ → Bool
  belongs nothing x = false
  belongs everything x = true
  belongs (concept n) x = w.concepts n x
  belongs (just a) x = w.individuals a == x
  belongs (negation f) x = not (belongs f x)
  belongs (both f g) x = belongs f x && belongs g x
  belongs (exists r f) x = some_below w.size (λ y. leads r x y && belongs f y)
  belongs (at_least n r f) x = nat_le n (count_below w.size (λ y. leads r x y && belongs f y))

  -- what the axiom states is so in the world
  abbrev pub Holds : Rule → Type 0
  Holds (inclusion f g) = (x : ℕ) → x < w.size → belongs f x ≡ true → belongs g x ≡ true
  Holds (equivalence f g) = (x : ℕ) → x < w.size → belongs f x ≡ belongs g x
  Holds (role_inclusion r s) =
      (x y : ℕ) → x < w.size → y < w.size → leads r x y ≡ true → leads s x y ≡ true
  Holds (transitive r) =
      (x y z : ℕ) → x < w.size → y < w.size → z < w.size →
      w.roles r x y ≡ true → w.roles r y z ≡ true → w.roles r x z ≡ true
  Holds (functional r) =
      (x y z : ℕ) → x < w.size → y < w.size → z < w.size →
      leads r x y ≡ true → leads r x z ≡ true → y ≡ z
  Holds (member a f) = belongs f (w.individuals a) ≡ true
  Holds (related r a b) = w.roles r (w.individuals a) (w.individuals b) ≡ true
