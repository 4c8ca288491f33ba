use Rattle.std.proofs.Common.{codes}
use Rattle.std.proofs.lemmas.Str.Pattern.{starts_text}
use Rattle.winavulor.proofs.command.is_option.Goals as goal

pub returns : goal.returns
returns c = starts_text c.starts_with.result (codes "--") c.args.word.now c.starts_with.ensures.cases
