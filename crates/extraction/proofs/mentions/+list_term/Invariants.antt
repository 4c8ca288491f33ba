use Rattle.extraction.proofs.mentions.+list_term.Given as goal

abbrev pub decreases-list_term : goal.decreases-list_term
decreases-list_term l = l.levels
