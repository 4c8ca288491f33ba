-- What is told of a book's signature and of the axioms and names that are marked. A mark is a byte, 1 or 0; past the end of
-- the marks nothing is marked.
use Rattle.std.specs.Prelude.{ℕ, Bool, if◌then◌else◌, not, ◌&&◌, ◌==◌, List, [], ◌++◌, codes, decimal, length, slice_index}
use Rattle.vocabulary.specs.Entities.{Entity}
use Rattle.book.specs.Contents.{Contents, Filing}
use Rattle.notation.specs.Notation.{axiom_text}
use Rattle.notation.specs.Lists.{entity_text, numbered}

-- the item with this number is marked
abbrev pub is_marked : List ℕ → ℕ → Bool
is_marked marks n = slice_index marks n == 1

-- a name that is seeded
abbrev pub signature_line : ℕ → Entity → List ℕ
signature_line n e = if e.seeded then (codes "  " ++ (entity_text n e ++ codes "\n")) else []

-- a name that is drawn in: marked, and not seeded
abbrev pub drawn_line : List ℕ → ℕ → Entity → List ℕ
drawn_line marks n e = if is_marked marks n && not e.seeded then (codes "  " ++ (entity_text n e ++ codes "\n")) else []

-- an axiom that is marked
abbrev pub kept_line : List ℕ → List Entity → ℕ → Filing → List ℕ
kept_line marks names n f =
    if is_marked marks n then (codes "  " ++ (decimal n ++ (codes ": " ++ (axiom_text names f.states ++ codes "\n")))) else []

-- the names in the signature
abbrev pub signature_section : Contents → List ℕ
signature_section b = codes "signature:\n" ++ numbered signature_line b.names

-- the axioms kept, after how many there are
abbrev pub kept_section : Contents → List ℕ → ℕ → List ℕ
kept_section b marks count =
    codes "axioms kept: " ++ (decimal count ++ (codes " of " ++ (decimal (length b.axioms) ++ (codes "\n" ++ numbered (kept_line marks b.names) b.axioms))))

-- the names drawn in, after how many there are
abbrev pub drawn_section : Contents → List ℕ → ℕ → List ℕ
drawn_section b marks count = codes "names drawn in: " ++ (decimal count ++ (codes "\n" ++ numbered (drawn_line marks) b.names))
