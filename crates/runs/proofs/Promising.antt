-- What is promised of every list of calls, and of the book at hand.
use Rattle.std.proofs.Common.{◌≡◌, List, ◌++◌, sym, ap, ◌∙◌, subst}
use Rattle.book.specs.Contents.{Contents}
use Rattle.book.specs.Proper.{Proper, Sound}
use Rattle.book.proofs.Proper.{book_proper}
use Rattle.extraction.specs.Extractions.{Extraction}
use Rattle.extraction.specs.Extractors.{Meaning}
use Rattle.part.proofs.Delivered.{part_again}
use Rattle.part.proofs.ReadsBack.{loads_back}
use Rattle.runs.specs.declared.state.State.{State}
use Rattle.runs.specs.declared.state.State.TheVariants.{Draft, Frozen}
use Rattle.runs.specs.History.{history, standing_after}
use Rattle.runs.specs.Promise.{AreOfBytes, BookPromise, Promise, LedTo, LedThrough}
use Rattle.runs.specs.Steps.{Step, Standing, standing, start, state_after, state_from}
use Rattle.runs.proofs.Kept.{state_after_proper}
use Rattle.runs.proofs.Lists.{state_from-append}
use Rattle.runs.proofs.Told.{book_told}

-- every book that calls are performed on keeps what every book keeps
pub state_proper : (s : State) → Proper (standing s).book
state_proper (Draft d) = book_proper d
state_proper (Frozen f) = book_proper f

module _ (x : Contents → Extraction) (means : (b : Contents) → Sound b → Meaning b (x b)) where
  pub book_promised : (b : Contents) → Proper b → BookPromise b (x b)
  book_promised b p = record { proper = p; means = means b p.right; back = loads_back b p (x b).kept; again = part_again b (x b).kept }

  -- of a list that leads to a book that keeps this
  promised_after : (cs : List Step) → Proper (state_after cs).book → Promise cs x
  promised_after cs p =
      let stands = book_told cs in
      record {
        stands = stands;
        keeps = book_promised (standing_after (history cs)).book (subst (λ (s : Standing). Proper s.book) stands p);
      }

  pub promised : (cs : List Step) → AreOfBytes cs → Promise cs x
  promised cs bytes = promised_after cs (state_after_proper cs bytes)

  pub led_to : (s : Standing) → Proper s.book → LedTo s x
  led_to s p cs is = promised_after cs (subst (λ (t : Standing). Proper t.book) is p)

-- with more calls behind it, where these lead to that book
pub led_through : {x : Contents → Extraction} {s next : Standing} (more : List Step) → next ≡ state_from s more → LedTo next x → LedThrough s more x
led_through {s = s} more moved led cs is =
    let leads : state_from s more ≡ state_after (cs ++ more) = ap (λ t. state_from t more) is ∙ sym (state_from-append start cs more) in
    (leads, led (cs ++ more) (moved ∙ leads))
