-- What verdicts are told of: a book, and a list of names.
use Rattle.book.specs.declared.book.Book.{Book}
use Rattle.locality.specs.Flags.{listed_in}
use Rattle.locality.specs.Worlds.{Names}
use Rattle.notation.specs.declared.verdicts.Verdicts.{Verdicts}

abbrev pub book_of : Verdicts → Book
book_of v = v.book.now

abbrev pub names_of : Verdicts → Names
names_of v = listed_in v.listed
