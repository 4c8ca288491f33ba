use Rattle.std.proofs.Common.{refl, ap}
use Rattle.terms.specs.Forms.{rule}
use Rattle.terms.specs.Tables.{nodes_of}
use Rattle.terms.specs.Writing.{body_bytes}
use Rattle.writer.proofs.axioms.put_axiom.Goals as goal

pub returns-in-RoleAssertion-clause-bytes : goal.returns-in-RoleAssertion-clause-bytes
returns-in-RoleAssertion-clause-bytes g c =
    let more = g.met.S.Sink.more in
    let individuals = more _ _ _ _ _ _ c.put_number-in-RoleAssertion-2.ensures c.put_number-in-RoleAssertion-3.ensures refl in
    more _ _ _ _ _ _ c.put_number-in-RoleAssertion.ensures individuals (ap (λ a. body_bytes (rule (nodes_of c.args.terms.now) a)) c.in-RoleAssertion.is)
