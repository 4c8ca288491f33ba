use Rattle.std.proofs.Common.{ap, ◌∙◌}
use Rattle.book.specs.Calls.{contents}
use Rattle.extraction.specs.Sets.{signature}
use Rattle.extraction.proofs.Climbing.{own_listed, kept_inside, climbed}
use Rattle.extraction.proofs.stage.StageExtractor.extract.Goals as goal

pub add_stage-requires : goal.add_stage-requires
add_stage-requires g c =
    let b = contents c.args.rest.now in
    record {
      kept = kept_inside b _ _ _ (g.met.E.Extractor.means c.args.self.now.below b c.args.rest.now.right) c.hand_up-below.ensures;
      listed = own_listed b _ (c.seeded_names-signature.ensures ∙ ap (λ k. signature (contents k)) c.book.ensures.value);
    }

pub returns : goal.returns
returns g c =
    climbed (contents c.args.rest.now) _ (c.seeded_names-signature.ensures ∙ ap (λ k. signature (contents k)) c.book.ensures.value) _ _ _ _ _ _ _ c.hand_up-below.ensures c.add_stage.ensures
