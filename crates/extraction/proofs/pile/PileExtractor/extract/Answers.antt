use Rattle.std.proofs.Common.{◌≡◌, ◌-◌, ◌≤◌, List, [], ◌∷◌, map, length, get_or, take, drop, ap, ◌∙◌, ap₂, subst, arith}
use Rattle.std.proofs.lemmas.List.{take_rest}
use Rattle.book.specs.Calls.{contents}
use Rattle.extraction.specs.Extractions.{piled}
use Rattle.extraction.specs.Extracts.{Extracts}
use Rattle.extraction.specs.Sets.{signature}
use Rattle.extraction.specs.lemmas.Repaired.{piled_meaning}
use Rattle.extraction.proofs.Climbing.{own_listed, kept_inside, climbed}
use Rattle.extraction.proofs.pile.PileExtractor.extract.Goals as goal

pub add_stage-requires : goal.add_stage-requires
add_stage-requires g c =
    let b = contents c.args.rest.now in
    let right = c.args.rest.now.right in
    record {
      kept = kept_inside b _ _ _ (piled_meaning b right (λ t. record { local = g.T.LocalityTest.local t; default = g.T.LocalityTest.default t }) g.met.T.LocalityTest.keeps _ (g.met.E.Extractor.means c.args.self.now.below b right) _) c.climb-counted.ensures;
      listed = own_listed b _ (c.seeded_names-signature.ensures ∙ ap (λ k. signature (contents k)) c.book.ensures.value);
    }

-- what a pattern with a first element takes apart
first_and_rest : {T : Type 0} (tests : List T) (x : T) → 1 ≤ length tests → x ≡ get_or tests 0 x → x ∷ take (length tests - 1) (drop 1 tests) ≡ tests
first_and_rest [] x some is = absurd (omega arith)
first_and_rest (t ∷ tests) x some is = ap₂ ◌∷◌ is (take_rest (t ∷ tests) 1)

pub returns-in-len1-up : goal.returns-in-len1-up
returns-in-len1-up g c =
    let b = contents c.args.rest.now in
    subst (λ tests. let x = piled b (map (λ t. record { local = g.T.LocalityTest.local t; default = g.T.LocalityTest.default t }) tests) (g.E.Extractor.extraction c.args.self.now.below b) in Extracts b x.kept x.rounds c.add_stage.new.tables c.add_stage.result)
    (first_and_rest c.args.self.now.tests.now c.uppermost-item.result c.in-len1-up.len_at_least c.uppermost-item.is)
    (climbed b _ (c.seeded_names-signature.ensures ∙ ap (λ k. signature (contents k)) c.book.ensures.value) _ _ _ _ _ _ _ c.climb-counted.ensures c.add_stage.ensures)
