use Rattle.terms.specs.Reading.{read_whole}
use Rattle.codec.proofs.term_reader.TermReader.whole.Goals as goal

pub returns : goal.returns
unfolding read_whole
returns c = record { table = c.term.ensures.table; builds = c.term.ensures.builds }
