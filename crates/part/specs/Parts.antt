-- The part of a book that a set of its axioms makes, as a file of records: all names in the order of their numbers, then
-- the numbers of the seeded names, ascending and each once, then the axioms of the set in the order filed.
use Rattle.std.specs.Prelude.{ℕ, suc, ◌+◌, true, List, [], ◌∷◌, ◌++◌, map, length, if◌then◌else◌}
use Rattle.vocabulary.specs.Entities.{Entity}
use Rattle.vocabulary.specs.Kinds.{code_of}
use Rattle.terms.specs.Forms.{Rule}
use Rattle.terms.specs.Writing.{body_bytes, rule_kind}
use Rattle.terms.specs.Numbers.{two_bytes}
use Rattle.book.specs.Contents.{Contents, Filing}
use Rattle.records.specs.declared.kind.RecordKind.TheVariants.{Name, Axiom, Seed}
use Rattle.records.specs.Files.{Entry, record_bytes, file_bytes}
use Rattle.records.specs.Kinds.{record_number}
use Rattle.extraction.specs.Sets.{Marks}

-- the record of a name: its kind byte, then its label
abbrev pub name_entry : Entity → Entry
name_entry e = record { kind = record_number Name; body = code_of e.kind ∷ e.label }

-- the record that seeds the name with a number
abbrev pub seed_entry : ℕ → Entry
seed_entry n = record { kind = record_number Seed; body = two_bytes n }

-- the record of an axiom
abbrev pub axiom_entry : Rule → Entry
axiom_entry r = record { kind = record_number (Axiom (rule_kind r)); body = body_bytes r }

abbrev pub name_as_record : Entity → List ℕ
name_as_record e = record_bytes (name_entry e)

abbrev pub seed_as_record : ℕ → List ℕ
seed_as_record n = record_bytes (seed_entry n)

abbrev pub axiom_as_record : Rule → List ℕ
axiom_as_record r = record_bytes (axiom_entry r)

-- the numbers of the seeded names, where the first name has the number n
abbrev pub seeds_from : ℕ → List Entity → List ℕ
seeds_from n [] = []
seeds_from n (e ∷ es) = if e.seeded then n ∷ seeds_from (suc n) es else seeds_from (suc n) es

-- what the axioms of the set state, where the first axiom has the number k
abbrev pub kept_from : ℕ → Marks → List Filing → List Rule
kept_from k kept [] = []
kept_from k kept (f ∷ fs) = if kept k then f.states ∷ kept_from (suc k) kept fs else kept_from (suc k) kept fs

-- an axiom in force
abbrev pub forced : Rule → Filing
forced r = record { states = r; in_force = true }

module _ (b : Contents) where
  abbrev pub part_names : List ℕ
  part_names = file_bytes (map name_entry b.names)

  abbrev pub part_seeds : List ℕ
  part_seeds = file_bytes (map seed_entry (seeds_from 0 b.names))

  module _ (kept : Marks) where
    abbrev pub part_axioms : List ℕ
    part_axioms = file_bytes (map axiom_entry (kept_from 0 kept b.axioms))

    abbrev pub part_bytes : List ℕ
    part_bytes = part_names ++ (part_seeds ++ part_axioms)

    -- how many records the part has
    abbrev pub record_count : ℕ
    record_count = length b.names + (length (seeds_from 0 b.names) + length (kept_from 0 kept b.axioms))

    -- what a book holds that the part was loaded into: the same names with the same signature, and the axioms of the
    -- set, numbered anew from 0 and all in force
    abbrev pub part_contents : Contents
    part_contents = record { names = b.names; axioms = map forced (kept_from 0 kept b.axioms) }
