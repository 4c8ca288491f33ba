-- Bytes that are copied into a buffer lie over it.
use Rattle.std.proofs.Common.{◌≡◌, ℕ, ◌+◌, ◌-◌, ◌≤◌, Some, List, [], ◌∷◌, ◌++◌, length, take, drop, set, sym, ap, ap₂, ◌∙◌, refl, add-zero, append-nil, arith, length-set}
use Rattle.std.proofs.lemmas.Bool.Decides.{nat_tests}
use Rattle.std.proofs.lemmas.List.{append_assoc, take-append-drop, take_more_set, drop-set-lt}
use Rattle.std.proofs.lemmas.Slice.{take-put_mid, drop-put_mid}
use borrow.Rule.Slice.PartMut.{put_mid}
use Rattle.writer.specs.Placing.{overlay}
use Rattle.writer.specs.Sinks.{place_after}

overlay_fits : (at : ℕ) (bytes out : List ℕ) → at + length bytes ≤ length out → overlay at bytes out ≡ (take at out ++ bytes) ++ drop (at + length bytes) out
overlay_fits at [] out h =
    sym (ap₂ (λ (front back : List ℕ). front ++ back) (append-nil (take at out)) (ap (λ n. drop n out) (add-zero at)) ∙ take-append-drop at out)
overlay_fits at (b ∷ bs) out h =
    let front : take (at + 1) (set out at b) ++ bs ≡ take at out ++ (b ∷ bs) = ap (λ l. l ++ bs) (take_more_set out at b (omega arith)) ∙ append_assoc (take at out) (b ∷ []) bs in
    let far : (at + 1) + length bs ≡ at + length (b ∷ bs) = omega arith in
    let back : drop ((at + 1) + length bs) (set out at b) ≡ drop (at + length (b ∷ bs)) out = drop-set-lt ((at + 1) + length bs) out at b (omega arith) ∙ ap (λ n. drop n out) far in
    overlay_fits (at + 1) bs (set out at b) (omega (arith, length-set out at b)) ∙ ap₂ (λ (l m : List ℕ). l ++ m) front back

pub copied : (at k : ℕ) (bytes out : List ℕ) → length bytes ≡ k → at + k ≤ length out → put_mid at k out bytes ≡ overlay at bytes out
copied at k bytes out size fits =
    let n = at + length bytes in
    sym (take-append-drop n (put_mid at k out bytes)) ∙
    ap₂ (λ (front back : List ℕ). front ++ back) (take-put_mid at k out bytes n refl (omega arith)) (drop-put_mid at k out bytes n (omega arith) (omega arith) size) ∙
    sym (overlay_fits at bytes out (omega arith))

pub place_fits : (at n size : ℕ) → at ≤ size → n ≤ size - at → Some (at + n) ≡ place_after (Some at) n size
place_fits at n size inside fits = grind (arith, nat_tests)
