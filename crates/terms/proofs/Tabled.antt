-- Every term that lies in a table has counts of at least 1, since a count of a node is.
use Rattle.std.proofs.Common.{◌≡◌, ℕ, zero, suc, true, List, get_or, refl}
use Rattle.std.proofs.lemmas.Bool.{and_from, le-leb}
use Rattle.terms.specs.declared.term.TermId.{TermId}
use Rattle.terms.specs.declared.term.Term.{Term}
use Rattle.terms.specs.declared.term.Term.TheVariants.{Nothing, Everything, Concept, Just, Not, And, Exists, AtLeast}
use Rattle.terms.specs.Forms.{Form, form, shape, meaning}
use Rattle.terms.specs.Counts.{counts_in}

shape_counts : (inner : TermId → Form) → ((t : TermId) → counts_in (inner t) ≡ true) → (x : Term) → counts_in (shape inner x) ≡ true
shape_counts inner h Nothing = refl
shape_counts inner h Everything = refl
shape_counts inner h (Concept n) = refl
shape_counts inner h (Just n) = refl
shape_counts inner h (Not t) = h t
shape_counts inner h (And t u) = and_from _ _ (h t) (h u)
shape_counts inner h (Exists r t) = h t
shape_counts inner h (AtLeast n r t) = and_from _ _ (le-leb 1 n.value n.some) (h t)

form_counts : (n : ℕ) (ts : List Term) (t : TermId) → counts_in (form n ts t) ≡ true
form_counts zero ts t = refl
form_counts (suc n) ts t = shape_counts (form n ts) (form_counts n ts) (get_or ts t.0 Nothing)

pub meaning_counts : (ts : List Term) (t : TermId) → counts_in (meaning ts t) ≡ true
unfolding meaning
meaning_counts ts t = form_counts 24 ts t
