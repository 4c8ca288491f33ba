-- The tree at a place, from the node that stands there.
use Rattle.std.proofs.Common.{◌≡◌, ℕ, zero, suc, ◌-◌, ◌<◌, List, get_or, unwrap_or, sym, refl, ◌∙◌, sub-one, arith}
use Rattle.std.specs.List.{slice_get}
use Rattle.std.proofs.lemmas.Option.{unwrap_or-slice_get}
use Rattle.terms.specs.declared.term.TermId.{TermId}
use Rattle.terms.specs.declared.term.Term.{Term}
use Rattle.terms.specs.declared.term.Term.TheVariants.{Nothing}
use Rattle.terms.specs.Forms.{form, shape}

from_node : (ts : List Term) (t : TermId) (x : Term) → get_or ts t.0 Nothing ≡ x → (n : ℕ) → 0 < n → form n ts t ≡ shape (form (n - 1) ts) x
from_node ts t x e zero h = absurd (omega arith)
from_node ts t x e (suc n) h = rw (e, sub-one) refl

-- the node that stands at a place, and the tree there
pub record StandsAt (ts : List Term) (t : TermId) (x : Term) : Type 0 where
  pub value : x ≡ get_or ts t.0 Nothing
  pub tree : (n : ℕ) → 0 < n → form n ts t ≡ shape (form (n - 1) ts) x

stands_at : (ts : List Term) (t : TermId) (x : Term) → x ≡ get_or ts t.0 Nothing → StandsAt ts t x
stands_at ts t x e = record { value = e; tree = from_node ts t x (sym e) }

-- the node that is found at a place, and ⊥ where there is none
pub node_at : (ts : List Term) (t : TermId) (x : Term) → x ≡ unwrap_or (slice_get ts t.0) Nothing → StandsAt ts t x
node_at ts t x e = stands_at ts t x (e ∙ unwrap_or-slice_get ts t.0 Nothing)
