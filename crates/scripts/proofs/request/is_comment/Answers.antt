use Rattle.std.proofs.Common.{codes}
use Rattle.std.proofs.lemmas.Str.Pattern.{starts_text}
use Rattle.scripts.proofs.request.is_comment.Goals as goal

pub returns : goal.returns
returns c = starts_text c.starts_with.result (codes "#") c.args.line.now c.starts_with.ensures.cases
