-- What each call does to a book's contents, and what it answers. A refused call changes nothing.
use Rattle.std.specs.Prelude.{ℕ, ◌+◌, Bool, true, ◌&&◌, List, [], ◌∷◌, ◌++◌, map, length, Some, None, Ok, Err, Option, Result, ◌==◌, if◌then◌else◌, nat_le, nat_lt}
use Rattle.vocabulary.specs.declared.fault.NameFault.{NameFault}
use Rattle.vocabulary.specs.declared.fault.NoSuchName.{NoSuchName}
use Rattle.vocabulary.specs.declared.name.NameId.{NameId}
use Rattle.vocabulary.specs.declared.table.Vocabulary.{Vocabulary}
use Rattle.vocabulary.specs.Entities.{reseed}
use Rattle.refusals.specs.Turns.{Turn, accepted_turn, refused_turn}
use Rattle.vocabulary.specs.Naming.{entities, naming}
use Rattle.terms.specs.declared.«axiom».AxiomKind.{AxiomKind}
use Rattle.terms.specs.declared.table.Terms.{Terms}
use Rattle.terms.specs.Codes.{axiom_kind_of}
use Rattle.terms.specs.Forms.{Rule}
use Rattle.terms.specs.Reading.{Outcome, got, bad, read_axiom}
use Rattle.terms.specs.Tables.{nodes_of}
use Rattle.codec.specs.Bodies.{longest_body}
use Rattle.book.specs.declared.book.AxiomId.{AxiomId}
use Rattle.book.specs.declared.book.Book.{Book}
use Rattle.book.specs.declared.book.Filed.{Filed}
use Rattle.book.specs.declared.fault.AxiomFault.{AxiomFault}
use Rattle.book.specs.declared.fault.AxiomFault.TheVariants.{Item, LeftOver, AxiomsFull, BytesFull}
use Rattle.book.specs.declared.fault.FileFault.{FileFault}
use Rattle.book.specs.declared.fault.FileFault.TheVariants.{UnknownKind, BodyTooLong, Axiom}
use Rattle.book.specs.declared.fault.NoSuchAxiom.{NoSuchAxiom}
use Rattle.book.specs.Contents.{Contents, filing, bodies_length, reforce}
use Rattle.book.specs.Limits.{most_axioms, most_bytes}

-- the parts of a book: its table of names, its table of terms, and its axioms in the order filed
abbrev pub vocabulary_of : Book → Vocabulary
vocabulary_of b = b.names

abbrev pub terms_of : Book → Terms
terms_of b = b.terms

abbrev pub filed_of : Book → List Filed
filed_of b = b.axioms

-- the contents of a book
abbrev pub contents : Book → Contents
contents b = record {
  names = entities (vocabulary_of b);
  axioms = map (filing (nodes_of (terms_of b))) (filed_of b);
}

-- a book with nothing in it
abbrev pub empty : Contents
empty = record { names = []; axioms = [] }

-- a book with no name and no axiom
abbrev pub blank : Contents → Bool
blank b = length b.names == 0 && length b.axioms == 0

-- an answer with its fault told at the layer above
abbrev pub with_fault : {A F G : Type 0} → (F → G) → Result A F → Result A G
with_fault up (Ok x) = Ok x
with_fault up (Err fault) = Err (up fault)

-- naming with a kind byte and a label
abbrev pub naming_call : Contents → ℕ → List ℕ → Turn Contents (Result NameId NameFault)
naming_call b kind label = record {
  state = record { names = (naming b.names kind label).state; axioms = b.axioms };
  answer = (naming b.names kind label).answer;
}

-- seeding and unseeding
abbrev pub seeding_call : Contents → ℕ → Bool → Turn Contents (Result (Unit {0}) NoSuchName)
seeding_call b n on =
    if nat_lt n (length b.names) then accepted_turn (record { names = reseed b.names n on; axioms = b.axioms }) tt
    else refused_turn b (record {})

-- laying aside and restoring
abbrev pub forcing_call : Contents → ℕ → Bool → Turn Contents (Result (Unit {0}) NoSuchAxiom)
forcing_call b k on =
    if nat_lt k (length b.axioms) then accepted_turn (record { names = b.names; axioms = reforce b.axioms k on }) tt
    else refused_turn b (record {})

-- the contents with a new axiom, which stands at the end and is in force
abbrev pub with_axiom : Contents → Rule → Contents
with_axiom b r = record { names = b.names; axioms = b.axioms ++ record { states = r; in_force = true } ∷ [] }

-- the axiom whose items are read from a body of `len` bytes: it is numbered by how many there were
abbrev pub items_call : Contents → ℕ → Outcome Rule → Turn Contents (Result AxiomId AxiomFault)
items_call b len (bad fault) = refused_turn b (Item fault)
items_call b len (got r end) =
    if nat_lt end len then refused_turn b (LeftOver end)
    else if nat_le most_axioms (length b.axioms) then refused_turn b AxiomsFull
    else if nat_lt most_bytes (bodies_length b.axioms + len) then refused_turn b BytesFull
    else accepted_turn (with_axiom b r) (record { 0 = length b.axioms })

-- filing the body of an axiom of a kind that there is
unfoldable pub axiom_call : Contents → AxiomKind → List ℕ → Turn Contents (Result AxiomId AxiomFault)
axiom_call b kind body = items_call b (length body) (read_axiom body b.names kind)

-- filing bytes for a kind, if there is one
abbrev pub kind_call : Contents → Option AxiomKind → List ℕ → Turn Contents (Result AxiomId FileFault)
kind_call b None body = refused_turn b UnknownKind
kind_call b (Some kind) body =
    if nat_lt longest_body (length body) then refused_turn b BodyTooLong
    else record { state = (axiom_call b kind body).state; answer = with_fault Axiom (axiom_call b kind body).answer }

-- filing bytes by a record kind
abbrev pub filing_call : Contents → ℕ → List ℕ → Turn Contents (Result AxiomId FileFault)
filing_call b kind body = kind_call b (axiom_kind_of kind) body
