use Rattle.std.proofs.Common.{rules}
use Rattle.book.proofs.Keeping.{whole_naming}
use Rattle.book.proofs.Held.{whole_of}
use Rattle.book.proofs.book.Book.name.Goals as goal

pub invariant_of-self : goal.invariant_of-self
invariant_of-self c =
    let w = whole_naming c.args.kind c.args.label.now c.name.ensures.turn.state (whole_of c.args.self.now) in
    search rules
