use Rattle.std.proofs.Common.{◌≡◌, List, [], ◌∷◌, ◌++◌, map, reverse, sym, ap, ◌∙◌, subst}
use denote.Ref.{Bor}
use Rattle.std.proofs.lemmas.Iterator.Adapters.{YieldsList-from_rev_slice}
use Rattle.std.proofs.lemmas.Iterator.Consumers.{YieldsList-end}
use Rattle.std.proofs.lemmas.List.{reverse-reverse, reverse-append, map-append}
use Rattle.book.specs.Calls.{contents}
use Rattle.extraction.specs.Extractions.{piled}
use Rattle.extraction.specs.Extracts.{HandsUp}
use Rattle.extraction.specs.Sets.{signature}
use Rattle.extraction.specs.lemmas.Repaired.{piled_meaning}
use Rattle.extraction.proofs.Climbing.{own_listed, kept_inside, handed_climbed}
use Rattle.extraction.proofs.pile.climb.Invariants.{meaning, climbed_tests}
use Rattle.extraction.proofs.pile.climb.Goals as goal

pub add_stage-counted-requires : goal.add_stage-counted-requires
add_stage-counted-requires g c =
    let b = contents c.args.rest.now in
    let right = c.args.rest.now.right in
    record {
      kept = kept_inside b _ _ _ (piled_meaning b right (meaning g) g.met.T.LocalityTest.keeps _ (g.met.E.Extractor.means c.args.below.now b right) (climbed_tests c.loop-test.yielded)) c.loop-test.invariant;
      listed = own_listed b _ (c.seeded_names-signature.ensures ∙ ap (λ k. signature (contents k)) c.book.ensures.value);
    }

-- one test more
climbed_more : {T : Type 0} (ys : List (Bor T)) (t : Bor T) → climbed_tests (ys ++ t ∷ []) ≡ t.now ∷ climbed_tests ys
climbed_more ys t = ap reverse (map-append (λ (y : Bor _). y.now) ys (t ∷ [])) ∙ reverse-append (map (λ (y : Bor _). y.now) ys) (t.now ∷ [])

pub loop-test-preserved : goal.loop-test-preserved
loop-test-preserved g c =
    let b = contents c.args.rest.now in
    subst (λ tests. let x = piled b (map (meaning g) tests) (g.E.Extractor.extraction c.args.below.now b) in HandsUp x.kept x.rounds c.add_stage-counted.new.tables c.add_stage-counted.result) (sym (climbed_more c.loop-test.yielded _))
    (handed_climbed b _ (c.seeded_names-signature.ensures ∙ ap (λ k. signature (contents k)) c.book.ensures.value) _ _ _ _ _ _ _ c.loop-test.invariant c.add_stage-counted.ensures)

pub returns : goal.returns
returns g c =
    let b = contents c.args.rest.now in
    let all = YieldsList-end (YieldsList-from_rev_slice c.args.tests.now cc) c.loop-test.yielded c.loop-test.test-iterator c.loop-test.yielded_by c.next.result _ c.in-None.is c.next.ensures.steps in
    subst (λ tests. let x = piled b (map (meaning g) tests) (g.E.Extractor.extraction c.args.below.now b) in HandsUp x.kept x.rounds c.loop-test.tables c.loop-test.counted) (ap reverse all.0 ∙ reverse-reverse _) c.loop-test.invariant
