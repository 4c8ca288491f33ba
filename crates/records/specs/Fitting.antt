-- When each refusal of a loading fits, one by one and in no order: which of them is given, where several fit, is the one
-- rule for all calls.
use Rattle.std.specs.Prelude.{◌≡◌, ◌≢◌, ◌⊎◌, ℕ, ◌+◌, ◌<◌, ◌≤◌, true, false, List, [], ◌∷◌, ◌++◌, length, take, drop}
use Rattle.refusals.specs.declared.reason.Reason.{Reason}
use Rattle.refusals.specs.declared.reason.Reason.TheVariants as Reason'
use Rattle.refusals.specs.declared.refusal.Refusal.{Refusal}
use Rattle.refusals.specs.Refusals.{refusal_at}
use Rattle.vocabulary.specs.Fitting.{NamingFits}
use Rattle.terms.specs.Numbers.{number_at}
use Rattle.codec.specs.Bodies.{longest_body}
use Rattle.book.specs.Contents.{Contents}
use Rattle.book.specs.Calls.{blank}
use Rattle.book.specs.Fitting.{AxiomFits}
use Rattle.records.specs.declared.kind.RecordKind.{RecordKind}
use Rattle.records.specs.declared.kind.RecordKind.TheVariants.{Name, Axiom, Seed}
use Rattle.records.specs.Files.{Entry, head_length, file_bytes}
use Rattle.records.specs.Kinds.{name_kind, seed_kind, record_number}
use Rattle.records.specs.Taking.{AreTaken}

-- ---- what a body asks for

-- a name's body: it is empty, and so has no kind byte; or what it asks to name is refused
abbrev pub NameBodyFits : Contents → List ℕ → Refusal → Type 0
NameBodyFits b [] r = r ≡ refusal_at Reason'.BadKind 0
NameBodyFits b (kind ∷ label) r = NamingFits b.names kind label r

module _ (b : Contents) (body : List ℕ) where
  -- a seed's body: it ends before or inside the number, which lies at its beginning; no name has the number; or bytes are
  -- left behind it
  abbrev pub SeedIsWrong : Reason → ℕ → Type 0
  SeedIsWrong Reason'.ItemCutShort at = (at ≡ 0) × (length body < 2)
  SeedIsWrong Reason'.WrongName at = (at ≡ 0) × (2 ≤ length body) × (length b.names ≤ number_at body 0)
  SeedIsWrong Reason'.LeftOver at = (at ≡ 2) × (2 < length body)
  SeedIsWrong _ at = ⊥

  -- a refusal, with its place in the body, fits what the body asks for
  abbrev pub BodyFits : RecordKind → Refusal → Type 0
  BodyFits Name r = NameBodyFits b body r
  BodyFits (Axiom kind) r = AxiomFits b kind body r
  BodyFits Seed r = SeedIsWrong r.reason r.place

-- ---- a record

-- the bytes from where a record begins
module _ (bytes : List ℕ) where
  -- its head is there: two numbers, how many bytes its body has and its kind
  abbrev pub IsHeaded : Type 0
  IsHeaded = head_length ≤ length bytes

  abbrev pub told_length : ℕ
  told_length = number_at bytes 0

  abbrev pub told_kind : ℕ
  told_kind = number_at bytes 2

  -- its body, or what is there of it
  abbrev pub told_body : List ℕ
  told_body = take told_length (drop head_length bytes)

  -- what is wrong with the record itself: its head or its body is cut short; its kind is not 1, 16 to 22 or 32; its
  -- body is too long
  abbrev pub RecordIsWrong : Reason → Type 0
  RecordIsWrong Reason'.RecordCutShort = (length bytes < head_length) ⊎ (length bytes < head_length + told_length)
  RecordIsWrong Reason'.UnknownKind =
      IsHeaded × (told_kind ≢ name_kind) × (told_kind ≢ seed_kind) × ((told_kind < 16) ⊎ (22 < told_kind))
  RecordIsWrong Reason'.BodyTooLong = IsHeaded × (longest_body < told_length)
  RecordIsWrong _ = ⊥

-- they begin at an offset of the file, and the records before them led to the contents b
module _ (b : Contents) (bytes : List ℕ) (at : ℕ) where
  -- a refusal fits the record itself, at its offset
  pub record FitsRecord (r : Refusal) : Type 0 where
    pub wrong : RecordIsWrong bytes r.reason
    pub place : r.place ≡ at

  -- or it fits what the body asks for, at a place of the body, which begins behind the head
  pub record FitsBody (r : Refusal) : Type 0 where
    pub headed : IsHeaded bytes
    pub kind : RecordKind
    pub known : record_number kind ≡ told_kind bytes
    pub place : ℕ
    pub behind : r.place ≡ at + head_length + place
    pub fits : BodyFits b (told_body bytes) kind (refusal_at r.reason place)

  abbrev pub RecordFits : Refusal → Type 0
  RecordFits r = FitsRecord r ⊎ FitsBody r

-- ---- a file

-- some records that these bytes begin with are all taken from the contents b, bytes are left behind them, and the refusal
-- fits the record that begins there
pub record FitsBehind (b : Contents) (bytes : List ℕ) (at : ℕ) (r : Refusal) : Type 0 where
  pub entries : List Entry
  pub rest : List ℕ
  pub later : Contents
  pub splits : bytes ≡ file_bytes entries ++ rest
  pub left : 0 < length rest
  pub taken : AreTaken b entries later
  pub fits : RecordFits later rest (at + length (file_bytes entries)) r

-- the book has a name or an axiom, and then nothing else counts; or a record of the file is refused
abbrev pub LoadFits : Contents → List ℕ → Refusal → Type 0
LoadFits b file r =
    ((blank b ≡ false) × (r ≡ refusal_at Reason'.NotEmpty 0)) ⊎ ((blank b ≡ true) × FitsBehind b file 0 r)
