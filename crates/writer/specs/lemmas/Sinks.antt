-- A cursor and a count keep the laws of a sink, which their `impl`s name.
use Rattle.std.specs.Prelude.{◌≡◌, ℕ, ◌+◌, ◌-◌, ◌≤◌, cond, List, [], ◌∷◌, ◌++◌, length, Some, None, Option, nat_le}
use Rattle.std.proofs.Common.{Bool, true, false, refl, sym, ap, ap₂, ◌∙◌, set, add-zero, arith, length-append, length-set, leb-false}
use Rattle.std.proofs.lemmas.Bool.{leb-true}
use Rattle.std.proofs.lemmas.Bool.Decides.{nat_tests}
use Rattle.std.proofs.lemmas.List.{set_past}
use Rattle.writer.specs.declared.sink.Cursor.{Cursor}
use Rattle.writer.specs.declared.sink.Length.{Length}
use Rattle.writer.specs.Placing.{overlay}
use Rattle.writer.specs.Sinks.{Took, Counted, place_after, filled}

overlay_length : (at : ℕ) (ys out : List ℕ) → length (overlay at ys out) ≡ length out
overlay_length at [] out = refl
overlay_length at (b ∷ ys) out = overlay_length (at + 1) ys (set out at b) ∙ length-set out at b

overlay_append : (at : ℕ) (xs ys out : List ℕ) → overlay at (xs ++ ys) out ≡ overlay (at + length xs) ys (overlay at xs out)
overlay_append at [] ys out = rw add-zero refl
overlay_append at (a ∷ xs) ys out =
    let e : (at + 1) + length xs ≡ at + length (a ∷ xs) = omega arith in
    overlay_append (at + 1) xs ys (set out at a) ∙ ap (λ n. overlay n ys (overlay (at + 1) xs (set out at a))) e

overlay_past : (at : ℕ) (ys out : List ℕ) → length out ≤ at → overlay at ys out ≡ out
overlay_past at [] out h = refl
overlay_past at (b ∷ ys) out h = ap (overlay (at + 1) ys) (set_past out at b h) ∙ overlay_past (at + 1) ys out (omega arith)

filled_append : (at : Option ℕ) (xs ys out : List ℕ) → filled at (xs ++ ys) out ≡ filled (place_after at (length xs) (length out)) ys (filled at xs out)
filled_append None xs ys out = refl
filled_append (Some at) xs ys out = by_room (nat_le (length xs) (length out - at)) refl
  where
    by_room : (room : Bool) → nat_le (length xs) (length out - at) ≡ room → overlay at (xs ++ ys) out ≡ filled (cond room (Some (at + length xs)) None) ys (overlay at xs out)
    by_room true e = overlay_append at xs ys out
    by_room false e =
        let short = leb-false (length xs) (length out - at) e in
        overlay_append at xs ys out ∙ overlay_past (at + length xs) ys (overlay at xs out) (omega (arith, overlay_length at xs out))

filled_length : (at : Option ℕ) (bytes out : List ℕ) → length (filled at bytes out) ≡ length out
filled_length None bytes out = refl
filled_length (Some at) bytes out = overlay_length at bytes out

place_append : (at : Option ℕ) (m n size : ℕ) → place_after at (m + n) size ≡ place_after (place_after at m size) n size
place_append None m n size = refl
place_append (Some at) m n size = by_room (nat_le m (size - at)) refl
  where
    by_room : (room : Bool) → nat_le m (size - at) ≡ room → place_after (Some at) (m + n) size ≡ place_after (cond room (Some (at + m)) None) n size
    by_room true e = let fits = leb-true m (size - at) e in grind (arith, nat_tests)
    by_room false e = let short = leb-false m (size - at) e in grind (arith, nat_tests)

pub took_nothing : (s : Cursor) → Took s [] s
took_nothing s = record { same_reference = refl; buffer = filled_nothing s.at; place = place_nothing s.at }
  where
    filled_nothing : (at : Option ℕ) → s.out.now ≡ filled at [] s.out.now
    filled_nothing None = refl
    filled_nothing (Some at) = refl

    place_nothing : (at : Option ℕ) → at ≡ place_after at 0 (length s.out.now)
    place_nothing None = refl
    place_nothing (Some at) = grind (arith, nat_tests)

pub took_more : (s m t : Cursor) (xs ys zs : List ℕ) → Took s xs m → Took m ys t → zs ≡ xs ++ ys → Took s zs t
took_more s m t xs ys zs v w e =
    let size : length m.out.now ≡ length s.out.now = ap length v.buffer ∙ filled_length s.at xs s.out.now in
    record {
      same_reference = w.same_reference ∙ v.same_reference;
      buffer = w.buffer ∙ ap₂ (λ at out. filled at ys out) v.place v.buffer ∙ sym (filled_append s.at xs ys s.out.now) ∙ ap (λ l. filled s.at l s.out.now) (sym e);
      place = w.place ∙ ap₂ (λ at n. place_after at (length ys) n) v.place size ∙ sym (place_append s.at (length xs) (length ys) (length s.out.now)) ∙ ap (λ n. place_after s.at n (length s.out.now)) (sym (ap length e ∙ length-append xs ys));
    }

pub counted_nothing : (s : Length) → Counted s [] s
counted_nothing s fits = omega arith

pub counted_more : (s m t : Length) (xs ys zs : List ℕ) → Counted s xs m → Counted m ys t → zs ≡ xs ++ ys → Counted s zs t
counted_more s m t xs ys zs v w e fits =
    let total : length zs ≡ length xs + length ys = ap length e ∙ length-append xs ys in
    let first = v fits in
    let second = w (omega arith) in
    omega arith
