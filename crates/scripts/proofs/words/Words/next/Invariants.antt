use Rattle.std.proofs.Common.{◌≡◌, length}
use Rattle.scripts.specs.Readings.{left}
use Rattle.scripts.proofs.words.Words.next.Given as goal

-- no word has been passed over
abbrev pub invariant-loop-word : goal.invariant-loop-word
invariant-loop-word l = left l.self ≡ left l.fn.self

abbrev pub decreases-loop-word : goal.decreases-loop-word
decreases-loop-word l = length l.self.rest.now
