use Rattle.std.proofs.Common.{arith}
use Rattle.std.proofs.lemmas.Result.{err_from_is_err_and}
use Rattle.codec.proofs.Chains.{at_least_read, term_err, term_ok}
use Rattle.codec.proofs.term_reader.TermReader.+after_code_term.Goals as goal

pub after_code-returns-in_ok-inner-in-AtLeast : goal.after_code-returns-in_ok-inner-in-AtLeast
after_code-returns-in_ok-inner-in-AtLeast t c = record {
  table = c.in_ok-inner-in-AtLeast.ensures.table;
  builds = rw c.in-AtLeast.is (at_least_read c.args.allowed c.in_ok-count-in-AtLeast.ensures c.in_ok-role-in-AtLeast.ensures c.in_ok-inner-in-AtLeast.ensures.builds);
}

pub term-returns-in_err-node : goal.term-returns-in_err-node
term-returns-in_err-node t c =
    let p = err_from_is_err_and c.from_residual-in_err-node.result c.from_residual-in_err-node.ensures.1 in
    record {
      table = c.in_err-node.ensures.table;
      builds = rw (p.1, p.2) (term_err c.args.allowed (omega arith) c.in_ok-code.ensures c.in_err-node.ensures.builds);
    }

pub term-returns : goal.term-returns
term-returns t c = record {
  table = c.in_ok-node.ensures.table;
  builds = term_ok c.args.allowed (omega arith) c.in_ok-code.ensures c.in_ok-node.ensures.builds (rw c.unwrap.ensures at c.push.ensures);
}
