-- What every book keeps makes its contents proper.
use Rattle.std.proofs.Common.{◌≡◌, true, List, [], ◌∷◌, map, refl, arith}
use Rattle.std.proofs.lemmas.List.{length-map}
use Rattle.std.proofs.lemmas.Bool.{and_from}
use Rattle.std.specs.List.{list_all}
use Rattle.vocabulary.specs.declared.name.Name.{Name}
use Rattle.vocabulary.specs.Entities.{entity}
use Rattle.terms.specs.Tables.{nodes_of}
use Rattle.book.specs.declared.book.Book.{Book}
use Rattle.book.specs.Contents.{filing}
use Rattle.book.specs.Calls.{contents}
use Rattle.book.specs.Proper.{Proper, well_labelled}

labels_fit : (ns : List Name) → list_all well_labelled (map entity ns) ≡ true
labels_fit [] = refl
labels_fit (n ∷ ns) = and_from _ _ (and_from _ _ n.label.fits n.label.clean) (labels_fit ns)

-- the contents of a book are proper
pub book_proper : (b : Book) → Proper (contents b)
book_proper b = record {
  labels = labels_fit b.names.names;
  apart = b.names.apart;
  few_names = let few = b.names.few in omega (arith, length-map b.names.names entity);
  right = b.right;
  few_axioms = let few = b.few in omega (arith, length-map b.axioms (filing (nodes_of b.terms)));
  few_bytes = let limit = b.limit in let tally = b.tally in omega arith;
}
