use Rattle.std.proofs.Common.{rules}
use Rattle.scripts.specs.Hex.{bytes_value}
use Rattle.scripts.specs.Readings.{left}
use Rattle.scripts.proofs.Reading.{read_word}
use Rattle.scripts.proofs.words.Words.bytes.Goals as goal

pub returns : goal.returns
returns c = read_word _ bytes_value c.wanted.new.self (left c.args.self.now) c.in_ok-wanted.field-0.now (search rules) c.bytes_of.result c.bytes_of.ensures
