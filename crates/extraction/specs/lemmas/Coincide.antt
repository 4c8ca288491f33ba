-- Two worlds with the same elements and individuals, in which the names of an axiom stand for the same: the axiom holds
-- in the second if it holds in the first.
use Rattle.std.specs.Prelude.{◌≡◌, ℕ, ◌<◌, true, not, ◌&&◌, ◌||◌, nat_eq, nat_le, refl}
use Rattle.std.proofs.Common.{sym, ap, ap₂, ◌∙◌, arith}
use Rattle.std.proofs.lemmas.Bool.{eq-eqb, or_left, or_right}
use Rattle.vocabulary.specs.declared.name.NameId.{NameId}
use Rattle.terms.specs.declared.term.RoleItem.{RoleItem}
use Rattle.terms.specs.declared.term.RoleItem.TheVariants.{Forward, Inverse}
use Rattle.terms.specs.Forms.{Form, Rule, nothing, everything, concept, just, negation, both, exists, at_least, inclusion, equivalence, role_inclusion, transitive, functional, member, related}
use Rattle.locality.specs.Meaning.{leads, belongs, Holds}
use Rattle.terms.specs.Roles.{role_name}
use Rattle.locality.specs.Mentions.{same, in_term, in_rule}
use Rattle.locality.specs.Worlds.{World, Names}
use Rattle.extraction.specs.Extractors.{Agree}
use Rattle.extraction.specs.lemmas.Below.{some_same, count_same}

-- a name stands for itself
same_self : (n : NameId) → same n n ≡ true
same_self n = eq-eqb n.0 n.0 refl

module _ (listed : Names) (w v : World) (agree : Agree listed w v) where
  -- an element of the second world is one of the first
  within : (x : ℕ) → x < v.size → x < w.size
  within x l = let e = agree.elements in omega arith

  -- a listed role leads to the same elements in both worlds
  leads_same : (r : RoleItem) → listed (role_name r) ≡ true → (x y : ℕ) → x < w.size → y < w.size → leads v r x y ≡ leads w r x y
  leads_same (Forward r) h x y l m = agree.roles r x y h l m
  leads_same (Inverse r) h x y l m = agree.roles r y x h m l

  -- an element has the same partners in a term in both worlds
  partner_same : (r : RoleItem) (f : Form) → ((n : NameId) → (same (role_name r) n || in_term f n) ≡ true → listed n ≡ true) → ((y : ℕ) → y < w.size → belongs v f y ≡ belongs w f y) → (x : ℕ) → x < w.size → (y : ℕ) → y < w.size → (leads v r x y && belongs v f y) ≡ (leads w r x y && belongs w f y)
  partner_same r f h e x l y m =
      ap₂ ◌&&◌ (leads_same r (h (role_name r) (or_left _ _ (same_self (role_name r)))) x y l m) (e y m)

  -- an element is in a term in both worlds or in neither
  belongs_same : (f : Form) → ((n : NameId) → in_term f n ≡ true → listed n ≡ true) → (x : ℕ) → x < w.size → belongs v f x ≡ belongs w f x
  belongs_same nothing h x l = refl
  belongs_same everything h x l = refl
  belongs_same (concept n) h x l = agree.concepts n x (h n (same_self n)) l
  belongs_same (just a) h x l = ap (λ i. nat_eq i x) (agree.individuals a)
  belongs_same (negation f) h x l = ap not (belongs_same f h x l)
  belongs_same (both f g) h x l =
      ap₂ ◌&&◌ (belongs_same f (λ n k. h n (or_left _ _ k)) x l) (belongs_same g (λ n k. h n (or_right _ _ k)) x l)
  belongs_same (exists r f) h x l =
      some_same v.size w.size _ _ agree.elements (partner_same r f h (belongs_same f (λ n k. h n (or_right _ _ k))) x l)
  belongs_same (at_least c r f) h x l =
      ap (nat_le c) (count_same v.size w.size _ _ agree.elements (partner_same r f h (belongs_same f (λ n k. h n (or_right _ _ k))) x l))

  -- an axiom whose names are listed holds in the second world if it holds in the first
  pub coincide : (r : Rule) → ((n : NameId) → in_rule r n ≡ true → listed n ≡ true) → Holds w r → Holds v r
  coincide (inclusion f g) h holds = λ x l in_f.
      let m = within x l in
      belongs_same g (λ n k. h n (or_right _ _ k)) x m ∙ holds x m (sym (belongs_same f (λ n k. h n (or_left _ _ k)) x m) ∙ in_f)
  coincide (equivalence f g) h holds = λ x l.
      let m = within x l in
      belongs_same f (λ n k. h n (or_left _ _ k)) x m ∙ holds x m ∙ sym (belongs_same g (λ n k. h n (or_right _ _ k)) x m)
  coincide (role_inclusion r s) h holds = λ x y k l in-r.
      let k' = within x k in
      let l' = within y l in
      leads_same s (h (role_name s) (or_right _ _ (same_self (role_name s)))) x y k' l' ∙ holds x y k' l' (sym (leads_same r (h (role_name r) (or_left _ _ (same_self (role_name r)))) x y k' l') ∙ in-r)
  coincide (transitive r) h holds = λ x y z k l m first second.
      let e = h r (same_self r) in
      let k' = within x k in
      let l' = within y l in
      let m' = within z m in
      agree.roles r x z e k' m' ∙ holds x y z k' l' m' (sym (agree.roles r x y e k' l') ∙ first) (sym (agree.roles r y z e l' m') ∙ second)
  coincide (functional r) h holds = λ x y z k l m first second.
      let e = leads_same r (h (role_name r) (same_self (role_name r))) in
      let k' = within x k in
      let l' = within y l in
      let m' = within z m in
      holds x y z k' l' m' (sym (e x y k' l') ∙ first) (sym (e x z k' m') ∙ second)
  coincide (member a f) h holds =
      ap (belongs v f) (agree.individuals a) ∙ belongs_same f (λ n k. h n (or_right _ _ k)) (w.individuals a) (w.inside a) ∙ holds
  coincide (related r a b) h holds =
      ap₂ (v.roles r) (agree.individuals a) (agree.individuals b) ∙ agree.roles r (w.individuals a) (w.individuals b) (h r (or_left _ _ (same_self r))) (w.inside a) (w.inside b) ∙ holds
