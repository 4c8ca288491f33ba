use Rattle.std.proofs.Common.{◌≡◌, ◌<◌, map, length, get_or, set, refl, rules}
use Rattle.std.proofs.lemmas.List.{length-map}
use Rattle.vocabulary.specs.declared.name.Name.{Name}
use Rattle.vocabulary.specs.Entities.{entity, reseed}
use Rattle.vocabulary.proofs.Kept.{reseed_past, names_reseed, reseed_apart}
use Rattle.vocabulary.proofs.table.Vocabulary.set_seeded.Goals as goal
use Rattle.vocabulary.proofs.table.Vocabulary.set_seeded.Goals.{In_ok-name}

pub returns-in_err-name-clause-after : goal.returns-in_err-name-clause-after
returns-in_err-name-clause-after c = search (rules, reseed_past, length-map)

-- what the name is after the write
changed : (c : In_ok-name) → Name
changed c = record { kind = c.in_ok-name.name.now.kind; label = c.in_ok-name.name.now.label; seeded = c.args.on }

written : (c : In_ok-name) → map entity (set c.args.self.now.names c.from.result (changed c)) ≡ reseed (map entity c.args.self.now.names) c.from.result c.args.on
unfolding changed
written c =
    let within : c.from.result < length c.args.self.now.names = search rules in
    let value : c.in_ok-name.name.now ≡ get_or c.args.self.now.names c.from.result c.in_ok-name.name.now = search rules in
    names_reseed c.args.self.now.names c.from.result c.in_ok-name.name.now (changed c) c.args.on within value refl

pub invariant_of-self-2 : goal.invariant_of-self-2
unfolding changed
invariant_of-self-2 c =
    let apart = reseed_apart c.args.self.now.names _ c.from.result c.args.on (written (goal.at.invariant_of-self-2 c).In_ok-name) c.args.self.now.apart in
    search rules

pub returns-clause-after : goal.returns-clause-after
unfolding changed
returns-clause-after c =
    let same = written (goal.at.returns-clause-after c).In_ok-name in
    search rules
