-- What lies in a table means what was laid down there, whatever is appended later.
use Rattle.std.proofs.Common.{◌≡◌, ℕ, zero, suc, ◌+◌, ◌-◌, ◌<◌, ◌≤◌, true, ◌&&◌, leb, List, [], ◌∷◌, ◌++◌, length, get_or, sym, refl, ap, ap₂, ◌∙◌, append_assoc, sub-one, arith, length-append}
use Rattle.std.proofs.Math.Nat.{max-eq_right}
use Rattle.std.proofs.lemmas.Bool.{and_parts, leb-true}
use Rattle.std.proofs.lemmas.List.{get_or_append_left, get_or_push}
use Rattle.vocabulary.specs.Entities.{Entity}
use Rattle.terms.specs.declared.term.Term.{Term}
use Rattle.terms.specs.declared.term.Term.TheVariants.{Nothing, Everything, Concept, Just, Not, And, Exists, AtLeast}
use Rattle.terms.specs.declared.term.TermId.{TermId}
use Rattle.terms.specs.Forms.{Form, Rule, nothing, everything, concept, just, negation, both, exists, at_least, inclusion, equivalence, role_inclusion, transitive, functional, member, related, nesting, form, meaning, rule, shape}
use Rattle.terms.specs.WellFormed.{role_fits, numbers_fit, term_fits, well_formed}
use Rattle.codec.specs.Laying.{node_count, last_place, term_nodes, term_place, place_behind, axiom_nodes, laid_axiom}

-- a node between others
node_at : (front back ts : List Term) (x : Term) (at : ℕ) → ts ≡ front ++ x ∷ back → at ≡ length front → get_or ts at Nothing ≡ x
node_at front back ts x at e here =
    let whole : ts ≡ front ++ x ∷ [] ++ back = e ∙ sym (append_assoc front (x ∷ []) back) in
    rw (whole, here) (get_or_append_left (front ++ x ∷ []) back Nothing (length front) (omega (arith, length-append front (x ∷ []))) ∙ get_or_push front x Nothing (length front) refl)

-- its tree
own_means : (n : ℕ) (front back ts : List Term) (x : Term) (t : TermId) → 0 < n → ts ≡ front ++ x ∷ back → t.0 ≡ length front → form n ts t ≡ shape (form (n - 1) ts) x
own_means zero front back ts x t h e here = absurd (omega arith)
own_means (suc n) front back ts x t h e here = rw (node_at front back ts x t.0 e here, sub-one) refl

-- the own node of a term behind its inner ones
regroup : (front inner : List Term) (x : Term) (back : List Term) → front ++ (inner ++ x ∷ []) ++ back ≡ front ++ inner ++ x ∷ back
regroup front inner x back = ap (λ l. l ++ back) (sym (append_assoc front inner (x ∷ []))) ∙ append_assoc (front ++ inner) (x ∷ []) back

module _ (n from : ℕ) (front inner back ts : List Term) (x : Term) (some : 0 < n) (start : from ≡ length front) (e : ts ≡ front ++ (inner ++ x ∷ []) ++ back) where
  behind_inner : ts ≡ front ++ inner ++ x ∷ back
  behind_inner = e ∙ regroup front inner x back

  own_behind : form n ts (last_place from (inner ++ x ∷ [])) ≡ shape (form (n - 1) ts) x
  own_behind =
      let place : from + length (inner ++ x ∷ []) - 1 ≡ length (front ++ inner) = omega (arith, length-append inner (x ∷ []), length-append front inner) in
      own_means n (front ++ inner) back ts x _ some behind_inner place

-- a count of at least 1 is the node's
count_kept : (k : ℕ) → 1 ≤ k → (node_count k).value ≡ k
count_kept k h = max-eq_right h

module _ (names : List Entity) where
  -- a term that is laid down is read off the table again
  term_means : (f : Form) (n from : ℕ) (front back ts : List Term) → nesting f ≤ n → numbers_fit names f ≡ true → from ≡ length front → ts ≡ front ++ term_nodes from f ++ back → form n ts (term_place from f) ≡ f
  term_means nothing n from front back ts deep fits start e =
      own_behind n from front [] back ts Nothing (omega arith) start e
  term_means everything n from front back ts deep fits start e =
      own_behind n from front [] back ts Everything (omega arith) start e
  term_means (concept k) n from front back ts deep fits start e =
      own_behind n from front [] back ts (Concept k) (omega arith) start e
  term_means (just k) n from front back ts deep fits start e =
      own_behind n from front [] back ts (Just k) (omega arith) start e
  term_means (negation f) n from front back ts deep fits start e =
      let own = Not (term_place from f) in
      own_behind n from front (term_nodes from f) back ts own (omega arith) start e ∙
      ap negation (term_means f (n - 1) from front (own ∷ back) ts (omega arith) fits start (behind_inner n from front (term_nodes from f) back ts own (omega arith) start e))
  term_means (both f g) n from front back ts deep fits start e =
      let first = term_nodes from f in
      let second = term_nodes (place_behind from f) g in
      let own = And (term_place from f) (term_place (place_behind from f) g) in
      let both_fit = and_parts (numbers_fit names f) (numbers_fit names g) fits in
      let whole : ts ≡ front ++ (first ++ second) ++ own ∷ back = behind_inner n from front (first ++ second) back ts own (omega arith) start e in
      let other : ts ≡ front ++ first ++ second ++ own ∷ back = whole ∙ ap (λ l. l ++ own ∷ back) (sym (append_assoc front first second)) in
      own_behind n from front (first ++ second) back ts own (omega arith) start e ∙
      ap₂ both
      (term_means f (n - 1) from front (second ++ own ∷ back) ts (omega arith) both_fit.0 start (other ∙ append_assoc (front ++ first) second (own ∷ back)))
      (term_means g (n - 1) (place_behind from f) (front ++ first) (own ∷ back) ts (omega arith) both_fit.1 (omega (arith, length-append front first)) other)
  term_means (exists r f) n from front back ts deep fits start e =
      let own = Exists r (term_place from f) in
      let both_fit = and_parts (role_fits names r) (numbers_fit names f) fits in
      own_behind n from front (term_nodes from f) back ts own (omega arith) start e ∙
      ap (exists r) (term_means f (n - 1) from front (own ∷ back) ts (omega arith) both_fit.1 start (behind_inner n from front (term_nodes from f) back ts own (omega arith) start e))
  term_means (at_least k r f) n from front back ts deep fits start e =
      let own = AtLeast (node_count k) r (term_place from f) in
      let all_fit = and_parts (leb 1 k && leb k 65535) (role_fits names r && numbers_fit names f) fits in
      let count_fits = and_parts (leb 1 k) (leb k 65535) all_fit.0 in
      let both_fit = and_parts (role_fits names r) (numbers_fit names f) all_fit.1 in
      own_behind n from front (term_nodes from f) back ts own (omega arith) start e ∙
      ap₂ (λ m g. at_least m r g) (count_kept k (leb-true 1 k count_fits.0))
      (term_means f (n - 1) from front (own ∷ back) ts (omega arith) both_fit.1 start (behind_inner n from front (term_nodes from f) back ts own (omega arith) start e))

  whole_means : (f : Form) (from : ℕ) (front back ts : List Term) → term_fits names f ≡ true → from ≡ length front → ts ≡ front ++ term_nodes from f ++ back → meaning ts (term_place from f) ≡ f
  unfolding meaning
  whole_means f from front back ts fits start e =
      let parts = and_parts (leb (nesting f) 24) (numbers_fit names f) fits in
      term_means f 24 from front back ts (leb-true (nesting f) 24 parts.0) parts.1 start e

  -- two terms, one behind the other
  pair_means : {Y : Type 0} (make : Form → Form → Y) (f g : Form) (old more ts : List Term) → (term_fits names f && term_fits names g) ≡ true → ts ≡ old ++ (term_nodes (length old) f ++ term_nodes (place_behind (length old) f) g) ++ more → make (meaning ts (term_place (length old) f)) (meaning ts (term_place (place_behind (length old) f) g)) ≡ make f g
  pair_means make f g old more ts fits e =
      let first = term_nodes (length old) f in
      let second = term_nodes (place_behind (length old) f) g in
      let both_fit = and_parts (term_fits names f) (term_fits names g) fits in
      let other : ts ≡ old ++ first ++ second ++ more = e ∙ ap (λ l. l ++ more) (sym (append_assoc old first second)) in
      ap₂ make
      (whole_means f (length old) old (second ++ more) ts both_fit.0 refl (other ∙ append_assoc (old ++ first) second more))
      (whole_means g (place_behind (length old) f) (old ++ first) more ts both_fit.1 (sym (length-append old first)) other)

  -- an axiom that is laid down states the same in every later table
  pub rule_means : (r : Rule) (old more ts : List Term) → well_formed names r ≡ true → ts ≡ old ++ axiom_nodes (length old) r ++ more → rule ts (laid_axiom (length old) r) ≡ r
  rule_means (inclusion f g) old more ts fits e = pair_means inclusion f g old more ts fits e
  rule_means (equivalence f g) old more ts fits e = pair_means equivalence f g old more ts fits e
  rule_means (role_inclusion r s) old more ts fits e = refl
  rule_means (transitive r) old more ts fits e = refl
  rule_means (functional r) old more ts fits e = refl
  rule_means (member a f) old more ts fits e =
      ap (member a) (whole_means f (length old) old more ts (and_parts _ _ fits).1 refl e)
  rule_means (related r a b) old more ts fits e = refl
