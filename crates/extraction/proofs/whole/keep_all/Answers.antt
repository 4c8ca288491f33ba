use Rattle.extraction.proofs.Visiting.{list_closed}
use Rattle.extraction.proofs.whole.keep_all.Goals as goal

pub returns : goal.returns
returns c = record {
  axioms = c.axioms_in_force-tables.ensures;
  names = list_closed _ _ _ _ _ c.seeded_names-tables.ensures c.axioms_in_force-tables.ensures c.list_names.ensures;
}
