-- In a world whose names outside the list have the default, an empty term has no element, a full one has every element,
-- and a local axiom holds.
use Rattle.std.specs.Prelude.{◌≡◌, ℕ, ◌<◌, Bool, true, false, ◌&&◌, nat_le, refl}
use Rattle.std.proofs.Common.{sym, ◌∙◌, ⊎_elim}
use Rattle.vocabulary.specs.declared.name.NameId.{NameId}
use Rattle.terms.specs.declared.term.RoleItem.{RoleItem}
use Rattle.terms.specs.declared.term.RoleItem.TheVariants.{Forward, Inverse}
use Rattle.terms.specs.Counts.{counts_in, counts_fit}
use Rattle.terms.specs.Roles.{role_name}
use Rattle.terms.specs.Forms.{Form, Rule, nothing, everything, concept, just, negation, both, exists, at_least, inclusion, equivalence, role_inclusion, transitive, functional, member, related}
use Rattle.std.proofs.lemmas.Bool.{both_ways, not-true, not_from_true, not_from_false, cond-false, leb-true, lt-leb, and_parts, and_from, and_left, and_right, or_cases}
use Rattle.locality.specs.declared.defaults.ConceptDefault.{ConceptDefault}
use Rattle.locality.specs.declared.defaults.RoleDefault.{RoleDefault}
use Rattle.locality.specs.Defaults.{default_elements, default_pairs, has_no_element, has_every_element, has_no_pair, falls_short, has_partners, has_every_pair, is_transitive, is_functional}
use Rattle.locality.specs.Meaning.{count_below, leads, belongs, Holds}
use Rattle.locality.specs.Tables.{outside, empty_term, full_term, local_rule}
use Rattle.locality.specs.Worlds.{World, Names, Default, HasDefault, reset}
use Rattle.locality.specs.lemmas.Below.{some_none, some_alike, some_with, count_none, count_short}
use Rattle.locality.specs.lemmas.Defaulted.{no_element, every_element, read_by, no_pair, every_pair, few_partners, a_partner, partners_of_partners, one_partner}

module _ (c : ConceptDefault) (d : RoleDefault) (listed : Names) (w : World) (has : HasDefault (record { concept = default_elements c; role = default_pairs d }) listed w) where
  -- an outside name has what the default gives it
  concept_set : (p : Bool) (n : NameId) (x : ℕ) → x < w.size → outside listed p n ≡ true → (p ≡ true) × (w.concepts n x ≡ default_elements c w.size x)
  concept_set p n x l h =
      let parts = and_parts p _ h in
      (parts.0, has.concepts n x (not-true _ parts.1) l)

  role_set : (p : Bool) (n : NameId) (x y : ℕ) → x < w.size → y < w.size → outside listed p n ≡ true → w.roles n x y ≡ default_pairs d w.size x y
  role_set p n x y l m h = has.roles n x y (not-true _ (and_parts p _ h).1) l m

  leads_set : (p : Bool) (r : RoleItem) (x y : ℕ) → x < w.size → y < w.size → outside listed p (role_name r) ≡ true → leads w r x y ≡ read_by r (default_pairs d w.size) x y
  leads_set p (Forward r) x y l m h = role_set p r x y l m h
  leads_set p (Inverse r) x y l m h = role_set p r y x m l h

  leads_emptied : (r : RoleItem) (x y : ℕ) → x < w.size → y < w.size → outside listed (has_no_pair d) (role_name r) ≡ true → leads w r x y ≡ false
  leads_emptied r x y l m h = leads_set _ r x y l m h ∙ no_pair d (and_parts (has_no_pair d) _ h).0 r w.size x y

  leads_filled : (r : RoleItem) (x y : ℕ) → x < w.size → y < w.size → outside listed (has_every_pair d) (role_name r) ≡ true → leads w r x y ≡ true
  leads_filled r x y l m h = leads_set _ r x y l m h ∙ every_pair d (and_parts (has_every_pair d) _ h).0 r w.size x y

  -- an element has no partner in a term by an outside role without pairs, and none where the term is empty
  no_partner : (r : RoleItem) (f : Form) → (empty_term c d listed f ≡ true → (y : ℕ) → y < w.size → belongs w f y ≡ false) → empty_term c d listed (exists r f) ≡ true → (x : ℕ) → x < w.size → (y : ℕ) → y < w.size → (leads w r x y && belongs w f y) ≡ false
  no_partner r f none h x l y m = ⊎_elim (λ e. and_left _ _ (leads_emptied r x y l m e)) (λ e. and_right _ _ (none e y m)) (or_cases (outside listed (has_no_pair d) (role_name r)) _ h)

  -- an element has fewer than n partners, in a term or not, by an outside role that falls short
  short_by_role : (n : ℕ) (r : RoleItem) (f : Form) → 0 < n → (x : ℕ) → x < w.size → outside listed (falls_short d n) (role_name r) ≡ true → count_below w.size (λ y. leads w r x y && belongs w f y) < n
  short_by_role n r f k x l e = count_short w.size n _ _ (λ y m p. sym (leads_set (falls_short d n) r x y l m e) ∙ (and_parts (leads w r x y) _ p).0) (few_partners d n k (and_parts (falls_short d n) _ e).0 r w.size x)

  -- it has fewer than n by an outside role that falls short, and none where the term is empty
  too_few : (n : ℕ) (r : RoleItem) (f : Form) → 0 < n → (empty_term c d listed f ≡ true → (y : ℕ) → y < w.size → belongs w f y ≡ false) → empty_term c d listed (at_least n r f) ≡ true → (x : ℕ) → x < w.size → count_below w.size (λ y. leads w r x y && belongs w f y) < n
  too_few n r f k none h x l = ⊎_elim (short_by_role n r f k x l) (λ e. rw (count_none w.size (λ y. leads w r x y && belongs w f y) (λ y m. and_right _ _ (none e y m))) k) (or_cases (outside listed (falls_short d n) (role_name r)) _ h)

  mutual
    empty_sound : (f : Form) → counts_in f ≡ true → empty_term c d listed f ≡ true → (x : ℕ) → x < w.size → belongs w f x ≡ false
    empty_sound nothing fit h x l = refl
    empty_sound everything fit h x l = sym h
    empty_sound (concept n) fit h x l =
        let set = concept_set (has_no_element c) n x l h in
        set.1 ∙ no_element c set.0 w.size x
    empty_sound (just a) fit h x l = absurd (both_ways false refl h)
    empty_sound (negation f) fit h x l = not_from_true _ (full_sound f fit h x l)
    empty_sound (both f g) fit h x l =
        let counts = and_parts _ _ fit in
        ⊎_elim (λ k. and_left _ _ (empty_sound f counts.0 k x l)) (λ k. and_right _ _ (empty_sound g counts.1 k x l)) (or_cases _ _ h)
    empty_sound (exists r f) fit h x l = some_none w.size _ (no_partner r f (empty_sound f fit) h x l)
    empty_sound (at_least n r f) fit h x l =
        let counts = and_parts (nat_le 1 n) _ fit in
        lt-leb n _ (too_few n r f (leb-true 1 n counts.0) (empty_sound f counts.1) h x l)

    full_sound : (f : Form) → counts_in f ≡ true → full_term c d listed f ≡ true → (x : ℕ) → x < w.size → belongs w f x ≡ true
    full_sound nothing fit h x l = h
    full_sound everything fit h x l = refl
    full_sound (concept n) fit h x l =
        let set = concept_set (has_every_element c) n x l h in
        set.1 ∙ every_element c set.0 w.size x
    full_sound (just a) fit h x l = absurd (both_ways false refl h)
    full_sound (negation f) fit h x l = not_from_false _ (empty_sound f fit h x l)
    full_sound (both f g) fit h x l =
        let counts = and_parts _ _ fit in
        let parts = and_parts _ _ h in
        and_from _ _ (full_sound f counts.0 parts.0 x l) (full_sound g counts.1 parts.1 x l)
    full_sound (exists r f) fit h x l =
        let parts = and_parts (outside listed (has_partners d) (role_name r)) _ h in
        let partner = a_partner d (and_parts (has_partners d) _ parts.0).0 r w.size x w.some l in
        let alike = some_alike w.size (leads w r x) _ (λ y m. leads_set (has_partners d) r x y l m parts.0) in
        some_with w.size (leads w r x) (belongs w f) (full_sound f fit parts.1) (alike ∙ partner)
    full_sound (at_least n r f) fit h x l = absurd (both_ways false refl h)

  pub local_sound : (r : Rule) → counts_fit r ≡ true → local_rule c d listed r ≡ true → Holds w r
  local_sound (inclusion f g) fit h =
      let counts = and_parts _ _ fit in
      λ x l in_f.
      ⊎_elim (λ e. absurd (both_ways _ (empty_sound f counts.0 e x l) in_f)) (λ e. full_sound g counts.1 e x l) (or_cases _ _ h)
  local_sound (equivalence f g) fit h =
      let counts = and_parts _ _ fit in
      λ x l.
      ⊎_elim
      (λ e. let parts = and_parts _ _ e in empty_sound f counts.0 parts.0 x l ∙ sym (empty_sound g counts.1 parts.1 x l))
      (λ e. let parts = and_parts _ _ e in full_sound f counts.0 parts.0 x l ∙ sym (full_sound g counts.1 parts.1 x l))
      (or_cases (empty_term c d listed f && empty_term c d listed g) _ h)
  local_sound (role_inclusion r s) fit h = λ x y l m in-r.
      ⊎_elim (λ e. absurd (both_ways _ (leads_emptied r x y l m e) in-r)) (λ e. leads_filled s x y l m e) (or_cases (outside listed (has_no_pair d) (role_name r)) _ h)
  local_sound (transitive r) fit h = λ x y z k l m first second.
      let set : (i j : ℕ) → i < w.size → j < w.size → w.roles r i j ≡ default_pairs d w.size i j = λ i j a b. role_set (is_transitive d) r i j a b h in
      set x z k m ∙ partners_of_partners d (and_parts (is_transitive d) _ h).0 w.size x y z (sym (set x y k l) ∙ first) (sym (set y z l m) ∙ second)
  local_sound (functional r) fit h = λ x y z k l m first second.
      let set : (i j : ℕ) → i < w.size → j < w.size → leads w r i j ≡ read_by r (default_pairs d w.size) i j = λ i j a b. leads_set (is_functional d) r i j a b h in
      one_partner d (and_parts (is_functional d) _ h).0 r w.size x y z (sym (set x y k l) ∙ first) (sym (set x z k m) ∙ second)
  local_sound (member a f) fit h = full_sound f fit h (w.individuals a) (w.inside a)
  local_sound (related r a b) fit h = leads_filled (Forward r) (w.individuals a) (w.individuals b) (w.inside a) (w.inside b) h

-- a world that is reset has the default
pub reset_has : (d : Default) (listed : Names) (w : World) → HasDefault d listed (reset d listed w)
reset_has d listed w = record {
  concepts = λ n x h l. cond-false (listed n) _ _ h;
  roles = λ n x y h l m. cond-false (listed n) _ _ h;
}
