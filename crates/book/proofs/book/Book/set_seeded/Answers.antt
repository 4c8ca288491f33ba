use Rattle.std.proofs.Common.{rules}
use Rattle.book.specs.Calls.{contents}
use Rattle.book.proofs.Keeping.{whole_reseed}
use Rattle.book.proofs.Held.{whole_of}
use Rattle.book.proofs.Seeding.{seeding_gives}
use Rattle.book.proofs.book.Book.set_seeded.Goals as goal

pub invariant_of-self : goal.invariant_of-self
invariant_of-self c =
    let w = whole_reseed c.args.id.0 c.args.on c.set_seeded.ensures.after (whole_of c.args.self.now) in
    search rules

pub returns : goal.returns
returns c = seeding_gives (contents c.args.self.now) _ c.args.id.0 c.args.on _ c.set_seeded.ensures.after c.set_seeded.ensures.value
