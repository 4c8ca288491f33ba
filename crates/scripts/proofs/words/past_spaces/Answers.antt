use Rattle.scripts.proofs.Spaced.{spaces_off}
use Rattle.scripts.proofs.words.past_spaces.Goals as goal

pub returns-clause-same : goal.returns-clause-same
returns-clause-same c = let off = c.trim_start_matches.ensures.matches.0 in spaces_off _ _ off.0 off.1
