-- Records that are taken one behind the other are what loading takes.
use Rattle.std.proofs.Common.{◌≡◌, ℕ, zero, suc, ◌+◌, ◌≤◌, List, [], ◌∷◌, ◌++◌, length, drop, sym, ap, ◌∙◌, subst, ap₂, arith}
use Rattle.refusals.specs.Turns.{accepted_turn}
use Rattle.book.specs.Contents.{Contents}
use Rattle.records.specs.Files.{Entry, record_length, file_bytes}
use Rattle.records.specs.Loading.{after_turn, after_record, loads}
use Rattle.records.specs.Taking.{AreTaken}
use Rattle.records.proofs.Asked.{taken_to}
use Rattle.records.proofs.Files.{first_record-record_bytes, drop-record_bytes}

-- more records behind those
pub are_taken_append : (xs ys : List Entry) (b m c : Contents) → AreTaken b xs m → AreTaken m ys c → AreTaken b (xs ++ ys) c
are_taken_append [] ys b m c s t = subst (λ d. AreTaken d ys c) (sym s) t
are_taken_append (x ∷ xs) ys b m c s t = (s.0, s.1, are_taken_append xs ys s.0 m c s.2 t)

-- loading takes them
pub taken_loads : (most : ℕ) (es : List Entry) (b c : Contents) (at taken : ℕ) → length es ≤ most → AreTaken b es c → loads most (file_bytes es) b at taken ≡ accepted_turn c (taken + length es)
taken_loads zero [] b c at taken h t = ap₂ accepted_turn t (omega arith)
taken_loads (suc most) [] b c at taken h t = ap₂ accepted_turn t (omega arith)
taken_loads zero (e ∷ es) b c at taken h t = absurd (omega arith)
taken_loads (suc most) (e ∷ es) b c at taken h t =
    let bytes = file_bytes (e ∷ es) in
    let next = at + record_length e in
    ap (after_record (loads most) bytes b at taken) (first_record-record_bytes e (file_bytes es)) ∙
    ap (λ turn. after_turn (λ d. loads most (drop (record_length e) bytes) d next) at taken turn.state turn.answer) (taken_to b t.0 e t.1) ∙
    ap (λ l. loads most l t.0 next (taken + 1)) (drop-record_bytes e (file_bytes es)) ∙
    taken_loads most es t.0 c next (taken + 1) (omega arith) t.2 ∙
    ap (accepted_turn c) (omega arith)
