-- What tables hold, and what they hold after an extractor was called.
use Rattle.std.specs.Prelude.{◌≡◌, ℕ, ◌<◌, Bool, true, false, not, ◌&&◌, ◌||◌, replicate}
use Rattle.book.specs.Contents.{Contents}
use Rattle.book.specs.Limits.{most_axioms}
use Rattle.terms.specs.Forms.{Rule}
use Rattle.locality.specs.Meaning.{some_below}
use Rattle.locality.specs.Flags.{set_of, listed_in}
use Rattle.locality.specs.Worlds.{Names}
use Rattle.extraction.specs.declared.tables.Tables.{Tables}
use Rattle.extraction.specs.Rounds.{stage_finish, add_rounds}
use Rattle.extraction.specs.Sets.{Marks, axiom_count, rule_at, names_of, closed_signature}

-- the axioms kept, and the names of the closed signature
abbrev pub kept_in : Tables → Marks
kept_in t = set_of t.kept

abbrev pub closed_in : Tables → Names
closed_in t = listed_in t.closed

-- the axioms handed up to a stage
abbrev pub handed_in : Tables → Marks
handed_in t = set_of t.handed

-- tables with nothing in them
abbrev pub blank_tables : Tables
blank_tables = record { handed = replicate most_axioms false; kept = replicate most_axioms false; closed = replicate most_axioms false }

-- the tables hold a kept set and its closed signature
pub record Holding (b : Contents) (kept : Marks) (t : Tables) : Type 0 where
  pub axioms : kept_in t ≡ kept
  pub names : closed_in t ≡ closed_signature b kept

-- an extractor that keeps this set in so many rounds was asked for it alone, and answered r
pub record HandsUp (kept : Marks) (rounds : ℕ) (t : Tables) (r : ℕ) : Type 0 where
  pub holds : kept_in t ≡ kept
  pub counts : r ≡ rounds

-- it was asked for the closed signature too
pub record Extracts (b : Contents) (kept : Marks) (rounds : ℕ) (t : Tables) (r : ℕ) : Type 0 where
  pub holds : Holding b kept t
  pub counts : r ≡ rounds

-- the set has axioms of the book only
abbrev pub Inside : Contents → Marks → Type 0
Inside b s = (k : ℕ) → s k ≡ true → k < axiom_count b

-- the axioms that a round over the tables marks: handed up, not marked, and not local against the list
abbrev pub new_marks : Contents → (Rule → Names → Bool) → Tables → Marks
new_marks b local t k = handed_in t k && (not (kept_in t k) && not (local (rule_at b k) (closed_in t)))

-- a round was done: those are marked too, and their names are on the list; r says whether there was one
pub record RoundDone (b : Contents) (local : Rule → Names → Bool) (before after : Tables) (r : Bool) : Type 0 where
  pub handed : after.handed ≡ before.handed
  pub axioms : kept_in after ≡ (λ k. kept_in before k || new_marks b local before k)
  pub names : closed_in after ≡ (λ n. closed_in before n || names_of b (new_marks b local before) n)
  pub marks : r ≡ some_below (axiom_count b) (new_marks b local before)

-- the rounds of a stage were done on what was handed up, r of them
pub record RoundsDone (b : Contents) (local : Rule → Names → Bool) (before after : Tables) (r : ℕ) : Type 0 where
  pub holds : Holding b (stage_finish b local (handed_in before)).marked after
  pub counts : r ≡ (stage_finish b local (handed_in before)).rounds

-- a stage was added to tables that held what is handed up to it, where the rounds below were so many; r with its own
pub record StageDone (b : Contents) (local : Rule → Names → Bool) (before : Tables) (below : ℕ) (after : Tables) (r : ℕ) : Type 0 where
  pub holds : Holding b (stage_finish b local (kept_in before)).marked after
  pub counts : r ≡ add_rounds below (stage_finish b local (kept_in before)).rounds
