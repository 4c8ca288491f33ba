-- Each term inside is written with one level fewer.
use Rattle.notation.proofs.shown.+write_term.Given as goal

abbrev pub decreases-write_term : goal.decreases-write_term
decreases-write_term g l = l.levels
