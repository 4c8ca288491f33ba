use Rattle.std.proofs.Common.{length}
use Rattle.book.specs.Calls.{contents}
use Rattle.locality.specs.Flags.{set_of, listed_in}
use Rattle.extraction.specs.Visits.{ListedTo}
use Rattle.extraction.proofs.whole.list_names.Given as goal

abbrev pub invariant-loop-filed : goal.invariant-loop-filed
invariant-loop-filed l = ListedTo (contents l.book) (length l.yielded) (set_of l.kept) (listed_in l.initial.listed) l.listed
