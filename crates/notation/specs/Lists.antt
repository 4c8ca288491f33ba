-- The lists of a book's names and axioms, a line for each.
use Rattle.std.specs.Prelude.{ℕ, Bool, if◌then◌else◌, List, [], ◌++◌, codes, decimal, flat_map}
use Rattle.std.specs.List.{enumerate_from}
use Rattle.vocabulary.specs.Entities.{Entity}
use Rattle.vocabulary.specs.Kinds.{kind_text}
use Rattle.book.specs.Contents.{Contents, Filing}
use Rattle.locality.specs.declared.test.Test.TheVariants.{Bottom, Top}
use Rattle.locality.specs.Tables.{local_by}
use Rattle.locality.specs.Worlds.{Names}
use Rattle.notation.specs.Notation.{axiom_text}

-- what is written for each item with its number, in their order
unfoldable pub numbered : {X : Type 0} → (ℕ → X → List ℕ) → List X → List ℕ
numbered line items = flat_map (λ p. line p.0 p.1) (enumerate_from 0 items)

-- a name with its number: its kind and its label
abbrev pub entity_text : ℕ → Entity → List ℕ
entity_text n e = decimal n ++ (codes ": " ++ (kind_text e.kind ++ (codes " " ++ e.label)))

-- a name that is seeded says so
abbrev pub seeded_text : Bool → List ℕ
seeded_text seeded = if seeded then (codes " (seeded)") else []

-- the line of a name
abbrev pub entity_line : ℕ → Entity → List ℕ
entity_line n e = entity_text n e ++ (seeded_text e.seeded ++ codes "\n")

-- an axiom that is laid aside says so
abbrev pub force_text : Bool → List ℕ
force_text in_force = if in_force then [] else (codes " (laid aside)")

-- the line of an axiom
abbrev pub filing_line : List Entity → ℕ → Filing → List ℕ
filing_line names n f =
    decimal n ++ (codes ": " ++ (axiom_text names f.states ++ (force_text f.in_force ++ codes "\n")))

-- all that a book holds
abbrev pub listing_text : Contents → List ℕ
listing_text b =
    codes "names:\n" ++ (numbered entity_line b.names ++ (codes "axioms:\n" ++ numbered (filing_line b.names) b.axioms))

-- a verdict in words
abbrev pub verdict_text : Bool → List ℕ
verdict_text local = if local then (codes "local") else (codes "not local")

-- the line of an axiom with the verdicts of both tests, against a list of names
abbrev pub verdict_line : Names → ℕ → Filing → List ℕ
verdict_line listed n f =
    decimal n ++ (codes ": bottom " ++ (verdict_text (local_by Bottom f.states listed) ++ (codes ", top " ++ (verdict_text (local_by Top f.states listed) ++ codes "\n"))))
