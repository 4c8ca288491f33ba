-- Tables of flags, by the sets that they hold, and what adding names to one does.
use Rattle.std.specs.Prelude.{◌≡◌, ℕ, Bool, ◌&&◌, ◌||◌, List, length, nat_lt}
use Rattle.book.specs.Limits.{most_axioms}
use Rattle.vocabulary.specs.declared.name.NameId.{NameId}
use Rattle.locality.specs.Flags.{set_of, listed_in}
use Rattle.locality.specs.Worlds.{Names}
use Rattle.extraction.specs.Sets.{Marks}

-- the names were added to the list, those that it has a flag for
pub record Adds (names : Names) (before after : List Bool) : Type 0 where
  pub flags : length after ≡ length before
  pub listed : (n : NameId) → listed_in after n ≡ (listed_in before n || (nat_lt n.0 (length before) && names n))

-- the table holds the set as far as the numbers below i go, and nothing else
pub record FilledTo (i : ℕ) (s : Marks) (flags : List Bool) : Type 0 where
  pub room : length flags ≡ most_axioms
  pub flag : (k : ℕ) → set_of flags k ≡ (nat_lt k i && s k)
