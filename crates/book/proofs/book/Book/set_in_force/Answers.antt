use Rattle.std.proofs.Common.{◌≡◌, ◌<◌, length, get_or, refl, rules}
use Rattle.std.proofs.lemmas.List.{length-map}
use Rattle.terms.specs.Tables.{nodes_of}
use Rattle.book.specs.declared.book.Filed.{Filed}
use Rattle.book.proofs.Keeping.{reforced, filings_reforce}
use Rattle.book.proofs.Held.{whole_of}
use Rattle.book.proofs.book.Book.set_in_force.Goals as goal
use Rattle.book.proofs.book.Book.set_in_force.Goals.{In_ok-filed}

-- what the axiom is after the write
abbrev changed : In_ok-filed → Filed
changed c = record { «axiom» = c.in_ok-filed.filed.now.«axiom»; in_force = c.args.on }

within : (c : In_ok-filed) → c.from.result < length c.args.self.now.axioms
within c = search rules

stood : (c : In_ok-filed) → c.in_ok-filed.filed.now ≡ get_or c.args.self.now.axioms c.from.result c.in_ok-filed.filed.now
stood c = search rules

pub invariant_of-self-2 : goal.invariant_of-self-2
invariant_of-self-2 c =
    let m = (goal.at.invariant_of-self-2 c).In_ok-filed in
    let w = reforced c.from.result c.in_ok-filed.filed.now (changed m) c.args.on (within m) (stood m) refl (whole_of c.args.self.now) in
    search rules

pub returns : goal.returns
returns c =
    let m = (goal.at.returns c).In_ok-filed in
    let same = filings_reforce (nodes_of c.args.self.now.terms) c.args.self.now.axioms c.from.result c.in_ok-filed.filed.now (changed m) c.args.on (within m) (stood m) refl in
    search (rules, length-map)
