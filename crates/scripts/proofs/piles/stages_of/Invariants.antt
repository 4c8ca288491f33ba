use Rattle.std.proofs.Common.{◌≡◌, ◌-◌, ◌≤◌, ◌==◌, length}
use denote.Text.{Utf8}
use denote.Shadow.{shadow}
use Rattle.std.specs.List.{slice_split}
use Rattle.scripts.specs.Piles.{stages_named}
use Rattle.scripts.proofs.Stages.{behind}
use Rattle.scripts.proofs.piles.stages_of.Given as goal

-- the tests read so far, and the words behind them
abbrev pub invariant-loop-rest : goal.invariant-loop-rest
invariant-loop-rest g l = shadow (Utf8 l.rest) × (length l.tests.items ≤ 16) × (stages_named g.T.Worded.named l.word ≡ behind g.T.Worded.named l.tests.items (slice_split (λ b. b == 47) l.rest))

abbrev pub decreases-loop-rest : goal.decreases-loop-rest
decreases-loop-rest g l = 16 - length l.tests.items
