use Rattle.std.proofs.Common.{◌+◌, ◌*◌}
use Rattle.codec.proofs.term_reader.TermReader.+after_code_term.Given as goal

abbrev pub decreases-after_code : goal.decreases-after_code
decreases-after_code l = 2 * l.allowed + 1

abbrev pub decreases-term : goal.decreases-term
decreases-term l = 2 * l.allowed
