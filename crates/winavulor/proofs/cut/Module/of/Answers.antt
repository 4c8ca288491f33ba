use Rattle.std.proofs.Common.{Ok, subst}
use Rattle.refusals.specs.Turns.{Gives}
use Rattle.book.specs.Calls.{contents}
use Rattle.book.specs.declared.book.Book.{Book}
use Rattle.locality.specs.declared.test.Test.{Test}
use Rattle.extraction.specs.Marking.{lent, marking}
use Rattle.scripts.specs.Replies.{pile_of}
use Rattle.winavulor.specs.Cuts.{no_marks}
use Rattle.winavulor.proofs.cut.Module.of.Goals as goal
use mathlib.Core.List.{List}

pub returns-clause-marks : goal.returns-clause-marks
returns-clause-marks c =
    let marks = lent c.mark_pile.new.axioms c.mark_pile.new.names in
    let m = c.in_ok-marking.marking in
    subst (λ (ts : List Test). Gives marks (Ok m) (marking (contents c.freeze_after-frozen.result) (pile_of ts (contents c.freeze_after-frozen.result)) no_marks)) c.extractor-stages.ensures
    (subst (λ (k : Book). Gives marks (Ok m) (marking (contents k) (pile_of c.extractor-stages.result.tests.now (contents k)) no_marks)) c.at_rest.ensures c.in_ok-marking.ensures.gives)
