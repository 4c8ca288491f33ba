use Rattle.std.proofs.Common.{length, sym, ap, ◌∙◌}
use Rattle.book.specs.declared.book.Book.{Book}
use Rattle.book.specs.Calls.{contents}
use Rattle.writer.specs.Placing.{overlay}
use Rattle.extraction.specs.Marking.{lent, is_unseeded, is_too_short}
use Rattle.part.proofs.Delivered.{part_again, part_is, room, short_marks, short_part, write_done}
use Rattle.part.proofs.Judging.{empty_judged, short_judged, none_judged}
use Rattle.part.proofs.writing.call.write.Goals as goal
use Rattle.part.proofs.writing.call.write.Goals.{then-is_too_short-via-then-is_too_short, then-is_too_short-via-else-is_too_short+then-part-len}

pub returns-then-is_unseeded-clause-law : goal.returns-then-is_unseeded-clause-law
returns-then-is_unseeded-clause-law g c =
    empty_judged (contents c.args.rest.now) _ _ (ap (λ (k : Book). is_unseeded (contents k)) (sym c.book-book.ensures.value) ∙ sym c.is_unseeded.ensures ∙ c.if-is_unseeded.true)

pub returns-then-is_too_short-clause-law : goal.returns-then-is_too_short-clause-law
returns-then-is_too_short-clause-law g c =
    let b = contents c.args.rest.now in
    let kept = (g.E.Extractor.extraction c.args.pile.now b).kept in
    let seeded = ap (λ (k : Book). is_unseeded (contents k)) (sym c.book-book.ensures.value) ∙ sym c.is_unseeded.ensures ∙ c.if-is_unseeded.false in
    let size = c.len-len.ensures ∙ ap length (part_is c.book-book.ensures.value c.kept.ensures c.extract.ensures.holds.axioms) in
    short_judged b _ _ seeded
    (elim c.then-is_too_short.branch [
      | then-is_too_short-via-then-is_too_short w ↦
          short_marks b kept c.args.axioms.now c.args.names.now c.args.part.now
          (ap (λ (k : Book). is_too_short (contents k) (lent c.args.axioms.now c.args.names.now)) (sym c.book-book.ensures.value) ∙ sym c.is_too_short.ensures ∙ w.if-is_too_short.true)
      | then-is_too_short-via-else-is_too_short+then-part-len w ↦
          short_part b kept c.args.axioms.now c.args.names.now c.args.part.now c.len-len.result size w.if-part-len.true
    ])

pub returns-clause-gives : goal.returns-clause-gives
returns-clause-gives g c =
    let b = contents c.args.rest.now in
    let seeded = ap (λ (k : Book). is_unseeded (contents k)) (sym c.book-book.ensures.value) ∙ sym c.is_unseeded.ensures ∙ c.if-is_unseeded.false in
    let marks = ap (λ (k : Book). is_too_short (contents k) (lent c.args.axioms.now c.args.names.now)) (sym c.book-book.ensures.value) ∙ sym c.is_too_short.ensures ∙ c.if-is_too_short.false in
    let same = part_is c.book-book.ensures.value c.kept.ensures c.extract.ensures.holds.axioms in
    write_done b _ _ _ _ _ _ c.extract.ensures.holds (c.len-len.ensures ∙ ap length same) seeded marks c.if-part-len.false _ _ _ c.write.ensures.axioms c.write.ensures.names
    (c.write-2.ensures ∙ ap (λ bytes. overlay 0 bytes c.args.part.now) same)

pub returns-clause-law : goal.returns-clause-law
returns-clause-law g c =
    let b = contents c.args.rest.now in
    let seeded = ap (λ (k : Book). is_unseeded (contents k)) (sym c.book-book.ensures.value) ∙ sym c.is_unseeded.ensures ∙ c.if-is_unseeded.false in
    let marks = ap (λ (k : Book). is_too_short (contents k) (lent c.args.axioms.now c.args.names.now)) (sym c.book-book.ensures.value) ∙ sym c.is_too_short.ensures ∙ c.if-is_too_short.false in
    let same = part_is c.book-book.ensures.value c.kept.ensures c.extract.ensures.holds.axioms in
    none_judged b _ _ seeded (room b _ _ _ _ _ (c.len-len.ensures ∙ ap length same) marks c.if-part-len.false)

pub returns-then-is_unseeded-clause-again : goal.returns-then-is_unseeded-clause-again
returns-then-is_unseeded-clause-again g c = part_again _ _

pub returns-then-is_too_short-clause-again : goal.returns-then-is_too_short-clause-again
returns-then-is_too_short-clause-again g c = part_again _ _

pub returns-clause-again : goal.returns-clause-again
returns-clause-again g c = part_again _ _
