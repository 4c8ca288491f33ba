use Rattle.std.proofs.Common.{arith}
use Rattle.book.specs.Calls.{contents}
use Rattle.locality.specs.Flags.{set_of}
use Rattle.book.proofs.Proper.{book_proper}
use Rattle.part.proofs.Sections.{part_few}
use Rattle.part.proofs.writing.sections.Part.len.Goals as goal

pub returns : goal.returns
returns c =
    let few = part_few (contents c.args.self.now.book.now) (set_of c.args.self.now.kept.now) (book_proper c.args.self.now.book.now) in
    let all = c.put.ensures (omega arith) in
    omega arith
