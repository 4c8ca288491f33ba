-- Where a stage stands between two rounds.
use Rattle.std.specs.Prelude.{◌≡◌, ℕ, suc, ◌+◌, ◌≤◌, Bool}
use Rattle.terms.specs.Forms.{Rule}
use Rattle.book.specs.Contents.{Contents}
use Rattle.locality.specs.Worlds.{Names}
use Rattle.extraction.specs.Rounds.{rounds_from, stage_finish}
use Rattle.extraction.specs.Sets.{Marks, axiom_count, size}

-- after so many rounds that each marked an axiom, s is marked: the rounds from here on come to what the stage comes to
pub record Midway (b : Contents) (local : Rule → Names → Bool) (handed s : Marks) (done : ℕ) : Type 0 where
  pub left : ℕ
  pub enough : done + left ≡ suc (axiom_count b)
  pub marked : (rounds_from b local handed left s).marked ≡ (stage_finish b local handed).marked
  pub rounds : done + (rounds_from b local handed left s).rounds ≡ (stage_finish b local handed).rounds
  pub each : done ≤ size b s
