-- What it is that a record is taken, and records one behind the other: each is the naming, filing or seeding that it asks
-- for, and that call is accepted.
use Rattle.std.specs.Prelude.{◌≡◌, ℕ, ◌≤◌, true, List, [], ◌∷◌, length}
use Rattle.refusals.specs.Turns.{accepted_turn}
use Rattle.vocabulary.specs.declared.name.NameId.{NameId}
use Rattle.terms.specs.declared.«axiom».AxiomKind.{AxiomKind}
use Rattle.terms.specs.Numbers.{number_of}
use Rattle.codec.specs.Bodies.{longest_body}
use Rattle.book.specs.declared.book.AxiomId.{AxiomId}
use Rattle.book.specs.Contents.{Contents}
use Rattle.book.specs.Calls.{naming_call, seeding_call, axiom_call}
use Rattle.records.specs.declared.kind.RecordKind.{RecordKind}
use Rattle.records.specs.declared.kind.RecordKind.TheVariants.{Name, Axiom, Seed}
use Rattle.records.specs.Files.{Entry}
use Rattle.records.specs.Kinds.{record_number}

-- from the contents b a call that a body asks for is accepted, and leads to the contents c
module _ (b : Contents) (body : List ℕ) (c : Contents) where
  -- the body is a kind byte and a label, and they are named
  pub record IsNaming : Type 0 where
    pub kind : ℕ
    pub label : List ℕ
    pub id : NameId
    pub is_body : body ≡ kind ∷ label
    pub accepted : naming_call b kind label ≡ accepted_turn c id

  -- the body is filed as an axiom
  pub record IsFiling (kind : AxiomKind) : Type 0 where
    pub id : AxiomId
    pub accepted : axiom_call b kind body ≡ accepted_turn c id

  -- the body is the two bytes of a name's number, and the name is seeded
  pub record IsSeeding : Type 0 where
    pub low : ℕ
    pub high : ℕ
    pub is_body : body ≡ low ∷ high ∷ []
    pub accepted : seeding_call b (number_of low high) true ≡ accepted_turn c tt

  abbrev pub IsAskedCall : RecordKind → Type 0
  IsAskedCall Name = IsNaming
  IsAskedCall (Axiom kind) = IsFiling kind
  IsAskedCall Seed = IsSeeding

-- the record has a kind that there is and no more bytes than a body may have, and is taken as what it asks for
pub record IsTaken (b : Contents) (e : Entry) (c : Contents) : Type 0 where
  pub kind : RecordKind
  pub known : record_number kind ≡ e.kind
  pub short : length e.body ≤ longest_body
  pub call : IsAskedCall b e.body c kind

-- the records are taken one behind the other, and lead from the contents b to c
abbrev pub AreTaken : Contents → List Entry → Contents → Type 0
AreTaken b [] c = b ≡ c
AreTaken b (e ∷ es) c = (m : Contents) × IsTaken b e m × AreTaken m es c
