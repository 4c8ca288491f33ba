-- What tables come to, where they are counted.
use Rattle.std.specs.Prelude.{◌≡◌, ℕ, true}
use Rattle.book.specs.Contents.{Contents}
use Rattle.locality.specs.Meaning.{count_below}
use Rattle.locality.specs.Flags.{set_of, by_number, listed_in}
use Rattle.extraction.specs.declared.marking.Marking.{Marking}
use Rattle.extraction.specs.declared.tables.Tables.{Tables}
use Rattle.extraction.specs.Sets.{axiom_count, name_count, signature, outsiders, list_size}

-- every seeded name is on the list
abbrev pub ListsSeeded : Contents → Tables → Type 0
ListsSeeded b t = (k : ℕ) → by_number (signature b) k ≡ true → set_of t.closed k ≡ true

-- the axioms and the names that the tables hold, and the names among them that are not seeded
pub record Tallies (b : Contents) (t : Tables) (own : ℕ) (m : Marking) : Type 0 where
  pub marked : m.marked ≡ count_below (axiom_count b) (set_of t.kept)
  pub closed : m.closed ≡ count_below (name_count b) (set_of t.closed)
  pub drawn_in : m.drawn_in ≡ list_size b (outsiders b (listed_in t.closed))
  pub rounds : m.rounds ≡ own
