use Rattle.book.proofs.Proper.{book_proper}
use Rattle.book.proofs.frozen.AtRest.book.Goals as goal

pub returns-clause-proper : goal.returns-clause-proper
returns-clause-proper c = book_proper c.self.inside.book
