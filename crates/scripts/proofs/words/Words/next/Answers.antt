use Rattle.std.proofs.Common.{refl, sym, ◌∙◌, subst, arith}
use Rattle.scripts.proofs.Spaced.{Cut, cut_once, no_words}
use Rattle.scripts.proofs.words.Words.next.Goals as goal

pub loop-word-init : goal.loop-word-init
loop-word-init c = refl

pub returns-then-not-is_empty : goal.returns-then-not-is_empty
returns-then-not-is_empty c =
    let line = c.loop-word.self.rest.now in
    let cut = subst (λ p. Cut line p.0.now p.1.now) (sym c.unwrap_or.ensures) (cut_once line c.loop-word.self.rest _ c.split_once.result refl refl c.split_once.ensures.cases) in
    sym c.loop-word.invariant ∙ cut.word (sym c.is_empty-in-loop-word.ensures ∙ c.if-not-is_empty.true)

pub loop-word-smaller : goal.loop-word-smaller
loop-word-smaller c =
    let line = c.loop-word.self.rest.now in
    let cut = subst (λ p. Cut line p.0.now p.1.now) (sym c.unwrap_or.ensures) (cut_once line c.loop-word.self.rest _ c.split_once.result refl refl c.split_once.ensures.cases) in
    let less = cut.shorter (sym c.is_empty.ensures ∙ c.loop-word-test.true) in
    omega (arith, less, c.past_spaces-self.ensures.bound)

pub loop-word-preserved : goal.loop-word-preserved
loop-word-preserved c =
    let line = c.loop-word.self.rest.now in
    let cut = subst (λ p. Cut line p.0.now p.1.now) (sym c.unwrap_or.ensures) (cut_once line c.loop-word.self.rest _ c.split_once.result refl refl c.split_once.ensures.cases) in
    c.past_spaces-self.ensures.same ∙ sym (cut.space (sym c.is_empty-in-loop-word.ensures ∙ c.if-not-is_empty.false)) ∙ c.loop-word.invariant

pub returns : goal.returns
returns c = sym c.loop-word.invariant ∙ no_words c.loop-word.self.rest.now (sym c.is_empty.ensures ∙ c.loop-word-test.false)
