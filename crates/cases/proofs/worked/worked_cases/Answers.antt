use Rattle.cases.proofs.Kept.{all_cases}
use Rattle.cases.proofs.worked.worked_cases.Goals as goal

pub returns : goal.returns
returns c = all_cases
