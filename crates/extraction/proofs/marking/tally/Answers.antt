use Rattle.std.proofs.Common.{◌≡◌, ◌-◌, ◌≤◌, length, ap, ◌∙◌, refl, arith, rules}
use Rattle.book.specs.Calls.{contents}
use Rattle.locality.specs.Meaning.{count_below}
use Rattle.locality.specs.Flags.{set_of, listed_in}
use Rattle.extraction.specs.Sets.{name_count, list_size, outsiders}
use Rattle.extraction.proofs.Accepting.{axiom_total, name_total}
use Rattle.extraction.proofs.Counting.{count_taken, drawn_without}
use Rattle.extraction.proofs.marking.tally.Goals as goal
use Rattle.extraction.proofs.marking.tally.Goals.{After-count_seeded}

listed : (c : After-count_seeded) → c.count_flags-closed.result ≡ count_below (name_count (contents c.args.book.now)) (set_of c.args.tables.now.closed)
listed c =
    let full : length c.args.tables.now.closed ≡ 1024 = search rules in
    let few : c.count.result ≤ 1024 = search rules in
    c.count_flags-closed.ensures ∙ count_taken c.args.tables.now.closed _ (omega arith) ∙ ap (λ n. count_below n (set_of c.args.tables.now.closed)) (name_total c.args.book.now _ _ c.names.ensures c.count.ensures.value)

drawn : (c : After-count_seeded) → (c.count_seeded.result ≤ c.count_flags-closed.result) × (c.count_flags-closed.result - c.count_seeded.result ≡ list_size (contents c.args.book.now) (outsiders (contents c.args.book.now) (listed_in c.args.tables.now.closed)))
drawn c = drawn_without (contents c.args.book.now) c.args.tables.now _ _ c.requires (listed c) c.count_seeded.ensures

pub overflow_sub-result : goal.overflow_sub-result
overflow_sub-result c = (drawn c).0

pub returns : goal.returns
returns c =
    let full : length c.args.tables.now.kept ≡ 1024 = search rules in
    let few : length c.axioms.result.now ≤ 1024 = search rules in
    record {
      marked = c.count_flags.ensures ∙ count_taken c.args.tables.now.kept _ (omega arith) ∙ ap (λ n. count_below n (set_of c.args.tables.now.kept)) (axiom_total c.args.book.now _ c.axioms.ensures);
      closed = listed c;
      drawn_in = (drawn c).1;
      rounds = refl;
    }
