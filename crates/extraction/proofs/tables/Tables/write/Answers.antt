use Rattle.std.proofs.Common.{◌≡◌, ◌≤◌, length, ap, ◌∙◌, arith, rules}
use Rattle.book.specs.declared.book.Book.{Book}
use Rattle.locality.specs.Flags.{set_of}
use Rattle.extraction.specs.Marking.{flags_over}
use Rattle.extraction.proofs.Accepting.{axiom_total, name_total}
use Rattle.extraction.proofs.Counting.{flags_over-taken}
use Rattle.extraction.proofs.tables.Tables.write.Goals as goal

pub returns : goal.returns
returns c =
    let kept : length c.args.self.now.kept ≡ 1024 = search rules in
    let closed : length c.args.self.now.closed ≡ 1024 = search rules in
    let axioms : length c.axioms.result.now ≤ 1024 = search rules in
    record {
      axioms = c.write_flags.ensures ∙ flags_over-taken c.args.self.now.kept _ (omega arith) c.args.axioms.now ∙ ap (λ n. flags_over n (set_of c.args.self.now.kept) c.args.axioms.now) (axiom_total c.args.rest.now _ (c.axioms.ensures ∙ ap (λ (b : Book). b.axioms) c.book-book.ensures.value));
      names = c.write_flags-2.ensures ∙ flags_over-taken c.args.self.now.closed _ (omega arith) c.args.names.now ∙ ap (λ n. flags_over n (set_of c.args.self.now.closed) c.args.names.now) (name_total c.args.rest.now _ _ (c.names.ensures ∙ ap (λ (b : Book). b.names) c.book-book.ensures.value) c.count.ensures.value);
    }
