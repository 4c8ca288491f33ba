use Rattle.std.proofs.Common.{refl, rules, ◌∙◌}
use Rattle.writer.proofs.Laid.{some_body, took_wrote}
use Rattle.writer.proofs.axioms.write_axiom.Goals as goal

pub returns : goal.returns
returns c =
    let wrote = took_wrote _ _ _ _ (some_body _) refl c.put_axiom.ensures.bytes in
    record { wrote = record { placed = search rules ∙ wrote.placed; answer = wrote.answer }; back = c.put_axiom.ensures.back }
