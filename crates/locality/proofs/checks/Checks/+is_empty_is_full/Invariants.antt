use Rattle.locality.proofs.checks.Checks.+is_empty_is_full.Given as goal

abbrev pub decreases-is_empty : goal.decreases-is_empty
decreases-is_empty l = l.levels

abbrev pub decreases-is_full : goal.decreases-is_full
decreases-is_full l = l.levels
