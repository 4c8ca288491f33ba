use Rattle.std.proofs.Common.{◌≡◌, false, map, Ok, Err, sym, arith, rules}
use Rattle.std.proofs.lemmas.List.{map_push, length-map}
use Rattle.vocabulary.specs.declared.fault.NameFault.TheVariants.{LabelTaken}
use Rattle.vocabulary.specs.Entities.{entity, is_taken, label_of}
use Rattle.vocabulary.proofs.Kept.{names_pushed, labelling_same}
use Rattle.vocabulary.proofs.Turns.{naming_bad_kind, naming_bad_label, naming_taken, naming_full, naming_done}
use Rattle.vocabulary.proofs.Judging.{answer_judged}
use Rattle.vocabulary.proofs.table.Vocabulary.name.Goals as goal

pub returns-in_err-kind : goal.returns-in_err-kind
returns-in_err-kind c = search (rules, naming_bad_kind)

pub returns-in_err-checked-clause-turn : goal.returns-in_err-checked-clause-turn
returns-in_err-checked-clause-turn c = search (rules, naming_bad_label)

pub returns-in_err-checked-clause-law : goal.returns-in_err-checked-clause-law
returns-in_err-checked-clause-law c = answer_judged _ _ _ _ (search (rules, naming_bad_label))

pub returns-then-holds-clause-turn : goal.returns-then-holds-clause-turn
returns-then-holds-clause-turn c = search (rules, naming_taken)

pub returns-then-holds-clause-law : goal.returns-then-holds-clause-law
returns-then-holds-clause-law c = answer_judged _ c.args.kind c.args.label.now (Err LabelTaken) (search (rules, naming_taken))

pub invariant_of-self : goal.invariant_of-self
invariant_of-self c =
    let same = labelling_same c.args.label.now (label_of c.in_ok-checked.checked) c.in_ok-checked.ensures in
    let clear : is_taken c.in_ok-kind.kind (label_of c.in_ok-checked.checked) (map entity c.args.self.now.names) ≡ false = rw same (sym c.if-holds.ensures) in
    let kept = names_pushed _ c.push.result c.args.self.now.names c.push.new.self _ (omega arith) c.push.ensures.variant.0 c.push.ensures.added c.push.ensures.full c.args.self.now.few c.args.self.now.apart clear in
    record { few = kept.0; apart = kept.1 }

pub returns-in_err-number-clause-turn : goal.returns-in_err-number-clause-turn
returns-in_err-number-clause-turn c = search (rules, naming_full, length-map)

pub returns-in_err-number-clause-law : goal.returns-in_err-number-clause-law
returns-in_err-number-clause-law c = answer_judged _ _ _ _ (search (rules, naming_full, length-map))

pub returns-clause-turn : goal.returns-clause-turn
returns-clause-turn c = search (rules, naming_done, length-map, map_push)

pub returns-clause-law : goal.returns-clause-law
returns-clause-law c = answer_judged (map entity c.args.self.now.names) c.args.kind c.args.label.now (Ok (record { 0 = c.in_ok-number.number })) (search (rules, naming_done, length-map, map_push))
