-- The records of axioms, loaded after those of the names, file these axioms one after the other, all in force.
use Rattle.std.proofs.Common.{◌≡◌, ℕ, ◌+◌, ◌<◌, ◌≤◌, true, List, [], ◌∷◌, ◌++◌, map, length, None, sym, refl, ap, ◌∙◌, append-nil, arith, length-append}
use lib.Seq.{append_snoc}
use Rattle.std.proofs.lemmas.List.Sums.{sum_by-append, sum_by-cons}
use Rattle.std.proofs.lemmas.Bool.{leb-true, le-ltb, lt-leb, and_parts, cond-false}
use Rattle.vocabulary.specs.Entities.{Entity}
use Rattle.std.specs.List.{list_all}
use Rattle.terms.specs.Forms.{Rule}
use Rattle.terms.specs.WellFormed.{well_formed}
use Rattle.terms.specs.Writing.{body_bytes, rule_kind}
use Rattle.terms.proofs.ReadBack.{read_back}
use Rattle.book.specs.Contents.{Contents, Filing, body_length, bodies_length, sound}
use Rattle.codec.specs.Bodies.{longest_body}
use Rattle.book.specs.Calls.{with_axiom}
use Rattle.book.specs.Limits.{most_axioms, most_bytes}
use Rattle.book.proofs.Admitting.{obstacle, axiom_call_done}
use Rattle.records.specs.declared.kind.RecordKind.TheVariants as Kind'
use Rattle.records.specs.Taking.{IsTaken, AreTaken}
use Rattle.part.specs.Parts.{axiom_entry, forced}

-- nothing stands against an axiom whose items end where its body ends, while there is room
room_left : (count bytes len : ℕ) → count < most_axioms → bytes + len ≤ most_bytes → None ≡ obstacle count bytes len len
room_left count bytes len h l =
    sym (cond-false _ _ _ (le-ltb len len (omega arith)) ∙ cond-false _ _ _ (lt-leb most_axioms count h) ∙ cond-false _ _ _ (le-ltb most_bytes (bytes + len) l))

-- one axiom
axiom_taken : (b : Contents) (r : Rule) → sound b.names (forced r) ≡ true → length b.axioms < most_axioms → bodies_length b.axioms + length (body_bytes r) ≤ most_bytes → IsTaken b (axiom_entry r) (with_axiom b r)
axiom_taken b r good room space =
    let p = and_parts (well_formed b.names r) _ good in
    record {
      kind = Kind'.Axiom (rule_kind r);
      known = refl;
      short = leb-true (length (body_bytes r)) longest_body p.1;
      call = record {
        id = record { 0 = length b.axioms };
        accepted = axiom_call_done b (rule_kind r) (body_bytes r) r _ _ _ (sym (read_back b.names r p.0)) refl refl (room_left _ _ _ room space);
      };
    }

-- all axioms, after those that there are
pub axioms_taken : (names : List Entity) (fs : List Filing) (rs : List Rule) (all : List Filing) → all ≡ fs ++ map forced rs → list_all (sound names) (map forced rs) ≡ true → length all ≤ most_axioms → bodies_length all ≤ most_bytes → AreTaken (record { names = names; axioms = fs }) (map axiom_entry rs) (record { names = names; axioms = all })
axioms_taken names fs [] all is good few short = ap (λ l. record { names = names; axioms = l }) (sym (is ∙ append-nil fs))
axioms_taken names fs (r ∷ rs) all is good few short =
    let p = and_parts (sound names (forced r)) _ good in
    let count = ap length is ∙ length-append fs (map forced (r ∷ rs)) in
    let bytes = ap bodies_length is ∙ sum_by-append body_length fs (map forced (r ∷ rs)) in
    let more = sum_by-cons body_length (forced r) (map forced rs) in (
      record { names = names; axioms = fs ++ forced r ∷ [] },
      axiom_taken (record { names = names; axioms = fs }) r p.0 (omega arith) (omega arith),
      axioms_taken names (fs ++ forced r ∷ []) rs all (is ∙ sym (append_snoc fs (forced r) (map forced rs))) p.1 few short,
    )
