-- What is read, written again, gives the same bytes.
use Rattle.std.proofs.Common.{◌≡◌, ℕ, ◌<◌, ◌≤◌, List, length, get_or, take, sym, ap, ◌∙◌, arith}
use Rattle.vocabulary.specs.Entities.{Entity}
use Rattle.terms.specs.declared.«axiom».AxiomKind.{AxiomKind}
use Rattle.terms.specs.Forms.{Rule}
use Rattle.terms.specs.Reading.{got, read_axiom}
use Rattle.terms.specs.Writing.{body_bytes, rule_kind}
use Rattle.terms.proofs.Steps.{yielded}
use Rattle.terms.proofs.Stands.{Stands}
use Rattle.terms.proofs.Found.{rule_found}

-- what stands at the beginning of a body is its front
stands_front : (body bytes : List ℕ) (end : ℕ) → Stands body 0 bytes end → bytes ≡ take end body
stands_front body bytes end s = let e : length bytes ≡ end = omega arith in sym s.same ∙ ap (λ n. take n body) e

-- an axiom that is read from a body of bytes is written as the bytes that were read, is of the kind asked for, and ends within the body
pub same_bytes : (body : List ℕ) (names : List Entity) (k : AxiomKind) (r : Rule) (end : ℕ) → ((i : ℕ) → get_or body i 0 < 256) → read_axiom body names k ≡ got r end → (body_bytes r ≡ take end body) × (rule_kind r ≡ k) × (end ≤ length body)
same_bytes body names k r end bytes e =
    let found = yielded _ _ r end (rule_found body bytes names k) e in
    (stands_front body (body_bytes r) end found.stands, found.kind, found.stands.within)
