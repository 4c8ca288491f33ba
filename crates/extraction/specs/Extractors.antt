-- What it means to be an extractor, and what holds of a stage.
use Rattle.std.specs.Prelude.{◌≡◌, ℕ, ◌+◌, ◌<◌, ◌≤◌, Bool, true, false, List, [], ◌∷◌}
use Rattle.vocabulary.specs.declared.name.NameId.{NameId}
use Rattle.terms.specs.Forms.{Rule}
use Rattle.book.specs.Contents.{Contents}
use Rattle.locality.specs.Meaning.{Holds}
use Rattle.locality.specs.Worlds.{World, Names}
use Rattle.extraction.specs.Extractions.{Level, Extraction}
use Rattle.extraction.specs.Rounds.{Run, no_axiom, round_limit, add_rounds}
use Rattle.extraction.specs.Sets.{Marks, rule_at, is_in_force, closed_signature, names_drawn_in, size, list_size}

-- the second world has the elements and the individuals of the first, and what the listed names stand for
pub record Agree (listed : Names) (w v : World) : Type 0 where
  pub elements : v.size ≡ w.size
  pub individuals : (a : NameId) → v.individuals a ≡ w.individuals a
  pub concepts : (n : NameId) (x : ℕ) → listed n ≡ true → x < w.size → v.concepts n x ≡ w.concepts n x
  pub roles : (n : NameId) (x y : ℕ) → listed n ≡ true → x < w.size → y < w.size → v.roles n x y ≡ w.roles n x y

-- all axioms of the set hold in the world
abbrev pub AllHold : Contents → Marks → World → Type 0
AllHold b s w = (k : ℕ) → s k ≡ true → Holds w (rule_at b k)

-- a set of axioms handed up is closed where those left out of it are all local, with the signature and the names of the set
-- as the list
pub record Closed (b : Contents) (local : Rule → Names → Bool) (handed s : Marks) : Type 0 where
  pub part : (k : ℕ) → s k ≡ true → handed k ≡ true
  pub others : (k : ℕ) → handed k ≡ true → s k ≡ false → local (rule_at b k) (closed_signature b s) ≡ true

-- what a stage marks is the least closed set of the axioms handed up; it is what the rounds end in, and these, with those
-- below, are counted and bounded
pub record StageLaws (b : Contents) (local : Rule → Names → Bool) (handed marked : Marks) (below rounds : ℕ) : Type 0 where
  pub closed : Closed b local handed marked
  pub least : (s : Marks) → Closed b local handed s → (k : ℕ) → marked k ≡ true → s k ≡ true
  pub own : ℕ
  pub run : Run b local handed no_axiom marked own
  pub counted : rounds ≡ add_rounds below own
  pub by_marked : rounds ≤ below + size b marked + 1
  pub by_names : rounds ≤ below + list_size b (names_drawn_in b marked) + 2

-- what holds of each stage in a list of them, the uppermost first, where the uppermost marks these axioms and the rounds
-- with its own are so many
abbrev pub AllLaws : Contents → Marks → ℕ → List Level → Type 0
AllLaws b marked rounds [] = Unit {0}
AllLaws b marked rounds (l ∷ levels) =
    StageLaws b l.local l.handed marked l.below rounds × AllLaws b l.handed l.below levels

-- what it means to be an extractor, said of what it comes to on a book
pub record Meaning (b : Contents) (x : Extraction) : Type 0 where
  -- it keeps axioms in force
  pub part : (k : ℕ) → x.kept k ≡ true → is_in_force b k ≡ true
  -- the repair touches no element, no individual and no name of the closed signature
  pub untouched : (w : World) → Agree (closed_signature b x.kept) w (x.repair w)
  -- if the kept axioms hold in a world, all axioms in force hold in its repair
  pub repaired : (w : World) → AllHold b x.kept w → AllHold b (is_in_force b) (x.repair w)
  pub limited : x.rounds ≤ round_limit
  -- and each of its stages is one
  pub levels : AllLaws b x.kept x.rounds x.levels
