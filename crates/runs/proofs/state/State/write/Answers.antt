use Rattle.runs.proofs.Promising.{state_proper, book_promised, promised, led_to}
use Rattle.runs.proofs.state.State.write.Goals as goal

pub returns-in-Draft-clause-promise : goal.returns-in-Draft-clause-promise
returns-in-Draft-clause-promise g c = promised _ (g.met.E.Extractor.means c.args.pile.now)

pub returns-in-Draft-clause-led : goal.returns-in-Draft-clause-led
returns-in-Draft-clause-led g c = led_to _ (g.met.E.Extractor.means c.args.pile.now) _ (state_proper c.args.self.now)

pub returns-in-Draft-clause-book : goal.returns-in-Draft-clause-book
returns-in-Draft-clause-book g c = book_promised _ (g.met.E.Extractor.means c.args.pile.now) _ (state_proper c.args.self.now)

pub returns-in-Frozen-clause-promise : goal.returns-in-Frozen-clause-promise
returns-in-Frozen-clause-promise g c = promised _ (g.met.E.Extractor.means c.args.pile.now)

pub returns-in-Frozen-clause-led : goal.returns-in-Frozen-clause-led
returns-in-Frozen-clause-led g c = led_to _ (g.met.E.Extractor.means c.args.pile.now) _ (state_proper c.args.self.now)

pub returns-in-Frozen-clause-book : goal.returns-in-Frozen-clause-book
returns-in-Frozen-clause-book g c = book_promised _ (g.met.E.Extractor.means c.args.pile.now) _ (state_proper c.args.self.now)
