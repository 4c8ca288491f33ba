use Rattle.std.proofs.Common.{rules}
use Rattle.scripts.proofs.Digits.{parses, too_large}
use Rattle.scripts.proofs.words.number_of.Goals as goal

pub returns-in-Ok : goal.returns-in-Ok
returns-in-Ok c = parses c.args.word.now (search rules) _ c.parse.result c.in-Ok.number c.parse.ensures.value.0 (search rules)

pub returns-in-Err : goal.returns-in-Err
returns-in-Err c = too_large c.args.word.now (search rules) c.parse.result c.in-Err.field-0 c.parse.ensures.value.0 (search rules)
