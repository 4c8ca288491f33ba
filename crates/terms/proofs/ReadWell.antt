-- What is read is well formed.
use Rattle.std.proofs.Common.{◌≡◌, ℕ, ◌<◌, true, List, get_or}
use Rattle.vocabulary.specs.Entities.{Entity}
use Rattle.terms.specs.declared.«axiom».AxiomKind.{AxiomKind}
use Rattle.terms.specs.Forms.{Rule}
use Rattle.terms.specs.Reading.{got, read_axiom}
use Rattle.terms.specs.WellFormed.{well_formed}
use Rattle.terms.proofs.Steps.{yielded}
use Rattle.terms.proofs.Found.{rule_found}

-- an axiom that is read from a body of bytes is well formed
pub read_well : (body : List ℕ) (names : List Entity) (k : AxiomKind) (r : Rule) (end : ℕ) → ((i : ℕ) → get_or body i 0 < 256) → read_axiom body names k ≡ got r end → well_formed names r ≡ true
read_well body names k r end bytes e = (yielded _ _ r end (rule_found body bytes names k) e).fits
