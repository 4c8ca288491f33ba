-- What an extractor comes to on a book, as data; that of the whole extractor, of a stage, and of a pile.
use Rattle.std.specs.Prelude.{ℕ, Bool, List, [], ◌∷◌}
use Rattle.terms.specs.Forms.{Rule}
use Rattle.book.specs.Contents.{Contents}
use Rattle.locality.specs.Laws.{TestMeaning}
use Rattle.locality.specs.Worlds.{World, Names, Default}
use Rattle.extraction.specs.Rounds.{stage_finish, add_rounds, stage_repair}
use Rattle.extraction.specs.Sets.{Marks, is_in_force, closed_signature}

-- a stage in an extractor: what its test says, the axioms handed up to it, and the rounds counted below it. What it marks,
-- and the rounds with its own, are what the level above is handed and has below it, or what the extractor keeps and counts.
pub record Level : Type 0 where
  pub local : Rule → Names → Bool
  pub handed : Marks
  pub below : ℕ

-- the axioms kept, how worlds are repaired, the rounds counted, and the stages, the uppermost first: an extractor that knows
-- of none has none
pub record Extraction : Type 0 where
  pub kept : Marks
  pub repair : World → World
  pub rounds : ℕ
  pub levels : List Level

-- the whole extractor keeps all axioms in force
abbrev pub whole : Contents → Extraction
whole b = record { kept = is_in_force b; repair = λ w. w; rounds = 0; levels = [] }

-- a stage over what it is handed up from
abbrev pub staged : Contents → (Rule → Names → Bool) → Default → Extraction → Extraction
staged b local default below = record {
  kept = (stage_finish b local below.kept).marked;
  repair = stage_repair default (closed_signature b (stage_finish b local below.kept).marked) below.repair;
  rounds = add_rounds below.rounds (stage_finish b local below.kept).rounds;
  levels = record { local = local; handed = below.kept; below = below.rounds } ∷ below.levels;
}

-- stages of these tests on top of each other, the uppermost first
abbrev pub piled : Contents → List TestMeaning → Extraction → Extraction
piled b [] below = below
piled b (t ∷ tests) below = staged b t.local t.default (piled b tests below)
