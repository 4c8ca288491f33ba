use Rattle.writer.proofs.axioms.+put_term.Given as goal

abbrev pub decreases-put_term : goal.decreases-put_term
decreases-put_term g l = l.levels
