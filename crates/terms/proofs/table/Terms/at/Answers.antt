use Rattle.std.proofs.Common.{◌≡◌, unwrap_or, rules}
use Rattle.std.specs.List.{slice_get}
use Rattle.terms.specs.declared.term.Term.TheVariants.{Nothing}
use Rattle.terms.proofs.Nodes.{node_at}
use Rattle.terms.proofs.Tabled.{meaning_counts}
use Rattle.terms.proofs.table.Terms.at.Goals as goal

pub returns : goal.returns
returns c =
    let found : c.unwrap_or.result ≡ unwrap_or (slice_get c.args.self.now.nodes c.args.id.0) Nothing = search rules in
    let s = node_at c.args.self.now.nodes c.args.id _ found in
    record {
      value = s.value;
      tree = s.tree;
      counts = meaning_counts c.args.self.now.nodes c.args.id;
    }
