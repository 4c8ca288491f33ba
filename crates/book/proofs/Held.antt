-- What a book that is at hand keeps.
use Rattle.vocabulary.specs.Naming.{entities}
use Rattle.terms.specs.Tables.{nodes_of}
use Rattle.book.specs.declared.book.Book.{Book}
use Rattle.book.proofs.Keeping.{Whole}

pub whole_of : (b : Book) → Whole (entities b.names) (nodes_of b.terms) b.axioms b.bytes
whole_of b = record { tally = b.tally; limit = b.limit; sparse = b.sparse; right = b.right; firm = b.firm }
