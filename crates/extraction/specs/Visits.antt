-- Going through the axioms of a book, with the names of those chosen added to a list.
use Rattle.std.specs.Prelude.{◌≡◌, ℕ, Bool, ◌&&◌, ◌||◌, List, length, nat_lt}
use Rattle.book.specs.Contents.{Contents}
use Rattle.book.specs.Limits.{most_axioms}
use Rattle.locality.specs.Meaning.{some_below}
use Rattle.locality.specs.Mentions.{in_rule}
use Rattle.locality.specs.Flags.{set_of, listed_in}
use Rattle.locality.specs.Worlds.{Names}
use Rattle.extraction.specs.Sets.{Marks, rule_at}

-- the axioms below i that are chosen
abbrev pub chosen_below : ℕ → Marks → Marks
chosen_below i chosen k = nat_lt k i && chosen k

-- the names of the chosen axioms below i were added to the list
pub record ListedTo (b : Contents) (i : ℕ) (chosen : Marks) (before : Names) (listed : List Bool) : Type 0 where
  pub room : length listed ≡ most_axioms
  pub names : listed_in listed ≡ (λ n. before n || some_below i (λ k. chosen k && in_rule (rule_at b k) n))

-- the chosen axioms below i were marked, their names added to the list; `any` says whether there was one
pub record MarkedTo (b : Contents) (i : ℕ) (chosen marked : Marks) (before : Names) (kept listed : List Bool) (any : Bool) : Type 0 where
  pub room : length kept ≡ most_axioms
  pub axioms : (k : ℕ) → set_of kept k ≡ (marked k || chosen_below i chosen k)
  pub names : ListedTo b i chosen before listed
  pub some : any ≡ some_below i chosen
