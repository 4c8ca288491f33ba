-- When each refusal of a call of a book fits, one by one and in no order: which of them is given, where several fit, is the
-- one rule for all calls. Naming has its own in `vocabulary`, items in `terms`.
use Rattle.std.specs.Prelude.{◌≡◌, ◌⊎◌, ℕ, ◌+◌, ◌<◌, ◌≤◌, List, length, Some}
use Rattle.refusals.specs.declared.reason.Reason.{Reason}
use Rattle.refusals.specs.declared.reason.Reason.TheVariants as Reason'
use Rattle.refusals.specs.declared.refusal.Refusal.{Refusal}
use Rattle.terms.specs.declared.«axiom».AxiomKind.{AxiomKind}
use Rattle.terms.specs.Codes.{kind_number}
use Rattle.terms.specs.Layout.{layout}
use Rattle.terms.specs.Fitting.{ItemFits}
use Rattle.codec.specs.Bodies.{longest_body}
use Rattle.book.specs.Contents.{Contents, bodies_length}
use Rattle.book.specs.Limits.{most_axioms, most_bytes}

-- numbers 16 to 18: bytes are left behind the last item, where all items are told; there are 1,024 axioms; with this body
-- the bodies would have more than 32,768 bytes
abbrev pub BookIsWrong : Contents → AxiomKind → List ℕ → Reason → ℕ → Type 0
BookIsWrong b kind body Reason'.LeftOver at = ((layout body kind).end ≡ Some at) × (at < length body)
BookIsWrong b kind body Reason'.AxiomsFull at = (at ≡ 0) × (most_axioms ≤ length b.axioms)
BookIsWrong b kind body Reason'.BytesFull at = (at ≡ 0) × (most_bytes < bodies_length b.axioms + length body)
BookIsWrong b kind body _ at = ⊥

-- filing by a kind of axioms: an item fits, or the book is wrong for the axiom
abbrev pub AxiomFits : Contents → AxiomKind → List ℕ → Refusal → Type 0
AxiomFits b kind body r = ItemFits b.names body kind r ⊎ BookIsWrong b kind body r.reason r.place

-- numbers 3 and 4: the kind is not 16 to 22; the body has more than 512 bytes
abbrev pub FileIsWrong : ℕ → List ℕ → Reason → ℕ → Type 0
FileIsWrong kind body Reason'.UnknownKind at = (at ≡ 0) × ((kind < 16) ⊎ (22 < kind))
FileIsWrong kind body Reason'.BodyTooLong at = (at ≡ 0) × (longest_body < length body)
FileIsWrong kind body _ at = ⊥

-- filing by a record kind
abbrev pub FilingFits : Contents → ℕ → List ℕ → Refusal → Type 0
FilingFits b kind body r =
    FileIsWrong kind body r.reason r.place ⊎
    ((k : AxiomKind) × (kind_number k ≡ kind) × AxiomFits b k body r)

-- seeding and unseeding: no name has the number
pub record SeedingFits (b : Contents) (n : ℕ) (r : Refusal) : Type 0 where
  pub missing : length b.names ≤ n
  pub reason : r.reason ≡ Reason'.WrongName
  pub place : r.place ≡ 0

-- laying aside and restoring: no axiom has the number
pub record ForcingFits (b : Contents) (k : ℕ) (r : Refusal) : Type 0 where
  pub missing : length b.axioms ≤ k
  pub reason : r.reason ≡ Reason'.NoSuchAxiom
  pub place : r.place ≡ 0
