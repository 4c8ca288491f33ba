-- How a stage goes on in rounds. It works on the axioms that the extractor below it keeps, which are handed up to it. Before
-- the first round nothing is marked, and its list of names is the signature. A round looks at every axiom handed up that is
-- not marked, with the list as it was when the round began; those that the test does not find local become marked, and at
-- the round's end their names join the list. The stage is over with a round that marks nothing, which counts as a round.
use Rattle.std.specs.Prelude.{◌≡◌, ℕ, zero, suc, ◌+◌, min, Bool, true, false, not, ◌&&◌, ◌||◌, if◌then◌else◌}
use Rattle.terms.specs.Forms.{Rule}
use Rattle.book.specs.Contents.{Contents}
use Rattle.locality.specs.Meaning.{some_below}
use Rattle.locality.specs.Worlds.{World, Names, Default, reset}
use Rattle.extraction.specs.Sets.{Marks, axiom_count, rule_at, closed_signature}

-- what a stage comes to: the axioms it marked, and how many rounds it took
pub record Finish : Type 0 where
  pub marked : Marks
  pub rounds : ℕ

-- a round more
abbrev pub with_round : Finish → Finish
with_round f = record { marked = f.marked; rounds = suc f.rounds }

-- no axiom
abbrev pub no_axiom : Marks
no_axiom k = false

module _ (b : Contents) (local : Rule → Names → Bool) (handed : Marks) where
  -- what a round marks, where s is marked already: the list is then the signature with the names of s
  abbrev pub round_marks : Marks → Marks
  round_marks s k = handed k && (not (s k) && not (local (rule_at b k) (closed_signature b s)))

  -- what is marked after the round
  abbrev pub after_round : Marks → Marks
  after_round s k = s k || round_marks s k

  -- the round marks an axiom
  abbrev pub marks_more : Marks → Bool
  marks_more s = some_below (axiom_count b) (round_marks s)

  -- the rounds from s on end in e, and are so many: the last marks none, and each before it marks an axiom
  pub data Run : Marks → Marks → ℕ → Type 0 where
    last : {s : Marks} → marks_more s ≡ false → Run s s 1
    next : {s e : Marks} {r : ℕ} → marks_more s ≡ true → Run (after_round s) e r → Run s e (suc r)

  -- the same by counting: the rounds from s on, at most so many
  abbrev pub rounds_from : ℕ → Marks → Finish
  rounds_from zero s = record { marked = s; rounds = 0 }
  rounds_from (suc most) s =
      if marks_more s then with_round (rounds_from most (after_round s))
      else record { marked = s; rounds = 1 }

  -- every round but the last marks an axiom, so there is at most one round more than axioms
  unfoldable pub stage_finish : Finish
  stage_finish = rounds_from (suc (axiom_count b)) no_axiom

-- rounds are counted up to a limit
abbrev pub round_limit : ℕ
round_limit = 4294967295

-- the rounds below and a stage's own; a sum above the limit counts as the limit
abbrev pub add_rounds : ℕ → ℕ → ℕ
add_rounds below own = min (below + own) round_limit

-- how a stage repairs a world: first it gives the names outside its closed signature the default, then the extractor below
-- repairs the result
abbrev pub stage_repair : Default → Names → (World → World) → World → World
stage_repair default closed below w = below (reset default closed w)
