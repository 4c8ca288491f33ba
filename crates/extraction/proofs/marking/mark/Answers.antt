use Rattle.std.proofs.Common.{◌≡◌, false, sym, ap, ◌∙◌, subst}
use Rattle.book.specs.Calls.{contents}
use Rattle.book.specs.declared.book.Book.{Book}
use Rattle.extraction.specs.Marking.{lent, is_unseeded, is_too_short}
use Rattle.extraction.specs.Tallying.{ListsSeeded, Tallies}
use Rattle.extraction.proofs.Accepting.{accepted_marked, lists_seeded}
use Rattle.extraction.proofs.Judging.{empty_decides, short_decides, none_fits}
use Rattle.extraction.proofs.marking.mark.Given as given
use Rattle.extraction.proofs.marking.mark.Goals as goal

pub returns-then-is_unseeded-clause-law : goal.returns-then-is_unseeded-clause-law
returns-then-is_unseeded-clause-law g c =
    empty_decides (contents c.args.rest.now) _ (ap (λ (k : Book). is_unseeded (contents k)) (sym c.book-book.ensures.value) ∙ sym c.is_unseeded.ensures ∙ c.if-is_unseeded.true)

pub returns-then-is_too_short-clause-law : goal.returns-then-is_too_short-clause-law
returns-then-is_too_short-clause-law g c =
    short_decides (contents c.args.rest.now) _
    (ap (λ (k : Book). is_unseeded (contents k)) (sym c.book-book.ensures.value) ∙ sym c.is_unseeded.ensures ∙ c.if-is_unseeded.false)
    (ap (λ (k : Book). is_too_short (contents k) (lent c.args.axioms.now c.args.names.now)) (sym c.book-book.ensures.value) ∙ sym c.is_too_short.ensures ∙ c.if-is_too_short.true)

pub tally-requires : goal.tally-requires
tally-requires g c = subst (λ (k : Book). ListsSeeded (contents k) c.extract-rounds.new.tables) (sym c.book-book.ensures.value) (lists_seeded (contents c.args.rest.now) _ _ c.extract-rounds.ensures.holds)

-- nothing stands against the marking
seeded : (g : given.Over) (c : goal.After-tally g) → is_unseeded (contents c.args.rest.now) ≡ false
seeded g c = ap (λ (k : Book). is_unseeded (contents k)) (sym c.book-book.ensures.value) ∙ sym c.is_unseeded.ensures ∙ c.if-is_unseeded.false

room : (g : given.Over) (c : goal.After-tally g) → is_too_short (contents c.args.rest.now) (lent c.args.axioms.now c.args.names.now) ≡ false
room g c = ap (λ (k : Book). is_too_short (contents k) (lent c.args.axioms.now c.args.names.now)) (sym c.book-book.ensures.value) ∙ sym c.is_too_short.ensures ∙ c.if-is_too_short.false

pub returns-clause-gives : goal.returns-clause-gives
returns-clause-gives g c =
    accepted_marked (contents c.args.rest.now) (g.E.Extractor.extraction c.args.pile.now (contents c.args.rest.now)) c.extract-rounds.new.tables _ _ _ _ _ _ (seeded g c) (room g c) c.extract-rounds.ensures c.write.ensures.axioms c.write.ensures.names
    (subst (λ (k : Book). Tallies (contents k) c.extract-rounds.new.tables c.extract-rounds.result c.tally.result) c.book-book.ensures.value c.tally.ensures)

pub returns-clause-law : goal.returns-clause-law
returns-clause-law g c = none_fits (contents c.args.rest.now) _ (seeded g c) (room g c)
