use Rattle.std.proofs.Common.{◌≡◌, ◌+◌, ◌≤◌, List, map, length, length-append, Err, Ok, Result, sym, ap, ◌∙◌, subst, arith, rules}
use Rattle.std.proofs.lemmas.List.{length-map}
use Rattle.std.proofs.lemmas.Result.{err_from_is_err_and}
use Rattle.vocabulary.specs.Naming.{entities}
use Rattle.terms.specs.declared.term.Term.{Term}
use Rattle.terms.specs.Tables.{nodes_of}
use Rattle.codec.specs.Parsing.{Accepts, Refuses}
use Rattle.book.specs.declared.book.AxiomId.{AxiomId}
use Rattle.book.specs.declared.book.Filed.{Filed}
use Rattle.book.specs.declared.fault.AxiomFault.{AxiomFault}
use Rattle.book.specs.Contents.{Contents, filing}
use Rattle.book.specs.Calls.{contents}
use Rattle.book.proofs.Keeping.{Whole, filed, filings_add, read_is}
use Rattle.book.proofs.Admitting.{cut_back, axiom_call_bad, axiom_call_stopped, axiom_call_done, nothing_against}
use Rattle.book.proofs.Held.{whole_of}
use Rattle.book.proofs.book.Book.admit.Goals as goal
use Rattle.book.proofs.book.Book.admit.Goals.{In_err-parsed, In_ok-parsed}

-- the contents of the book at the entry, with another table of terms
abbrev with_table : (b : Contents) → List Filed → List Term → Contents
with_table b fs ts = record { names = b.names; axioms = map (filing ts) fs }

refuses : (c : In_err-parsed) → Refuses (nodes_of c.args.self.now.terms) (entities c.args.self.now.names) c.args.kind c.args.body.now c.in_err-parsed.field-0.0 (nodes_of c.read_axiom.new.terms)
refuses c = rw c.in_err-parsed.ensures at c.read_axiom.ensures.outcome

accepts : (c : In_ok-parsed) → Accepts (nodes_of c.args.self.now.terms) (entities c.args.self.now.names) c.args.kind c.args.body.now c.in_ok-parsed.parsed (nodes_of c.read_axiom.new.terms)
accepts c = rw c.in_ok-parsed.ensures at c.read_axiom.ensures.outcome

number : (c : In_ok-parsed) → length c.args.self.now.axioms ≡ length (contents c.args.self.now).axioms
number c = sym (length-map c.args.self.now.axioms (filing (nodes_of c.args.self.now.terms)))

pub returns-in_err-parsed : goal.returns-in_err-parsed
returns-in_err-parsed c =
    let p = err_from_is_err_and c.from_residual.result c.from_residual.ensures.1 in
    let r = refuses (goal.at.returns-in_err-parsed c).In_err-parsed in
    let turn = axiom_call_bad (contents c.args.self.now) c.args.kind c.args.body.now c.in_err-parsed.field-0.0 r.reads in
    record {
      state = ap (with_table (contents c.args.self.now) c.args.self.now.axioms) r.same ∙ sym (ap (λ t. t.state) turn);
      answer = p.1 ∙ ap Err p.2 ∙ sym (ap (λ t. t.answer) turn);
    }

pub returns-in-Some : goal.returns-in-Some
returns-in-Some c =
    let m = (goal.at.returns-in-Some c).In_ok-parsed in
    let a = accepts m in
    let turn = axiom_call_stopped (contents c.args.self.now) c.args.kind c.args.body.now _ _ _ _ (read_is a) (c.len-count.ensures.value ∙ number m) c.args.self.now.tally c.in-Some.fault (rw c.len-len.ensures.value at c.in-Some.ensures) in
    record {
      state = ap (with_table (contents c.args.self.now) c.args.self.now.axioms) (cut_back _ a.begins c.count-before.ensures c.truncate.ensures) ∙ sym (ap (λ t. t.state) turn);
      answer = sym (ap (λ t. t.answer) turn);
    }

pub invariant_of-self-2 : goal.invariant_of-self-2
invariant_of-self-2 c =
    let a = accepts (goal.at.invariant_of-self-2 c).In_ok-parsed in
    let free = nothing_against _ _ _ _ (rw c.len-len.ensures.value at c.in_default.ensures) in
    let short : length c.args.body.now ≤ 512 = omega (arith, c.len-len.ensures.value, c.len-len.ensures.bound) in
    let added = rw c.unwrap-number.ensures at c.push.ensures.added in
    let grown = filed a (whole_of c.args.self.now) free.0 short free.2 in
    let w = subst (λ fs. Whole (entities c.args.self.now.names) (nodes_of c.read_axiom.new.terms) fs (c.args.self.now.bytes + c.len-len.result)) (sym added) (rw c.len-len.ensures.value grown) in
    let few : length c.push.new.self ≤ 1024 = omega (arith, ap length added, length-append {A = Filed}) in
    search rules

pub returns : goal.returns
returns c =
    let m = (goal.at.returns c).In_ok-parsed in
    let a = accepts m in
    let added = rw c.unwrap-number.ensures at c.push.ensures.added in
    let numbered = rw c.unwrap-number.ensures at c.push.ensures.number in
    let turn = axiom_call_done (contents c.args.self.now) c.args.kind c.args.body.now _ _ _ _ (read_is a) (c.len-count.ensures.value ∙ number m) c.args.self.now.tally (rw c.len-len.ensures.value at c.in_default.ensures) in
    let same = ap (λ fs. map (filing (nodes_of c.read_axiom.new.terms)) fs) added ∙ filings_add a (whole_of c.args.self.now) in
    record {
      state = ap (λ fs. record { names = entities c.args.self.now.names; axioms = fs }) same ∙ sym (ap (λ t. t.state) turn);
      answer = ap {B = Result AxiomId AxiomFault} (λ n. Ok (record { 0 = n })) (numbered ∙ number m) ∙ sym (ap (λ t. t.answer) turn);
    }
