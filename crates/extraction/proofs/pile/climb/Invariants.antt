use Rattle.std.proofs.Common.{List, map, reverse}
use denote.Ref.{Bor}
use Rattle.book.specs.Calls.{contents}
use Rattle.locality.specs.Laws.{TestMeaning}
use Rattle.extraction.specs.Extractions.{piled}
use Rattle.extraction.specs.Extracts.{HandsUp}
use Rattle.extraction.proofs.pile.climb.Given as goal

-- what the tests mean
abbrev pub meaning : (g : goal.Over) → g.row.T.Denot → TestMeaning
meaning g t = record { local = g.T.LocalityTest.local t; default = g.T.LocalityTest.default t }

-- the tests that were gone through, the uppermost first
abbrev pub climbed_tests : {T : Type 0} → List (Bor T) → List T
climbed_tests yielded = reverse (map (λ t. t.now) yielded)

abbrev pub invariant-loop-test : goal.invariant-loop-test
invariant-loop-test g l =
    let b = contents l.rest in
    let x = piled b (map (meaning g) (climbed_tests l.yielded)) (g.E.Extractor.extraction l.below b) in
    HandsUp x.kept x.rounds l.tables l.counted
