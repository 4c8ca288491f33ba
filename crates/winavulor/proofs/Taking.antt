-- The bytes of a part, taken out of the buffer that they were written to.
use Rattle.std.proofs.Common.{◌≡◌, ℕ, suc, ◌+◌, ◌≤◌, Bool, true, false, List, [], ◌∷◌, ◌++◌, drop, length, set, take, Ok, Result, refl, sym, ap, ap₂, ◌∙◌, arith}
use Rattle.std.proofs.lemmas.Bool.{ltb-false, or_parts}
use Rattle.std.specs.Prelude.{if◌then◌else◌}
use Rattle.std.proofs.Math.Seq.{take-append_seam}
use Rattle.refusals.specs.Turns.{Turn, Gives, accepted_turn, refused_turn}
use Rattle.book.specs.Contents.{Contents}
use Rattle.extraction.specs.declared.marking.MarkFault.{MarkFault}
use Rattle.extraction.specs.declared.marking.MarkFault.TheVariants.{EmptySignature, ShortBuffer}
use Rattle.extraction.specs.Marking.{is_unseeded, is_too_short}
use Rattle.extraction.specs.Sets.{Marks}
use Rattle.writer.specs.Placing.{overlay}
use Rattle.part.specs.Parts.{part_bytes}
use Rattle.part.specs.Writing.{PartBuffers, lacks_room, writing, written_buffers}

-- bytes that a buffer has room for lie in front of what is left of it
overlay_later : (n : ℕ) (bytes : List ℕ) (x : ℕ) (old : List ℕ) → overlay (suc n) bytes (x ∷ old) ≡ x ∷ overlay n bytes old
overlay_later n [] x old = refl
overlay_later n (b ∷ bytes) x old =
    let next : suc n + 1 ≡ suc (n + 1) = omega arith in
    ap (λ m. overlay m bytes (x ∷ set old n b)) next ∙ overlay_later (n + 1) bytes x (set old n b)

overlay_first : (bytes old : List ℕ) → length bytes ≤ length old → overlay 0 bytes old ≡ bytes ++ drop (length bytes) old
overlay_first [] old h = refl
overlay_first (b ∷ bytes) [] h = absurd (omega arith)
overlay_first (b ∷ bytes) (x ∷ old) h = overlay_later 0 bytes b old ∙ ap (λ l. b ∷ l) (overlay_first bytes old (omega arith))

-- a writing that answers a length was not refused, so the part lies in front
pub part_taken : (b : Contents) (kept : Marks) (before after : PartBuffers) (n : ℕ) (taken : List ℕ) → Gives after (Ok n) (writing b kept before) → taken ≡ take n after.part → taken ≡ part_bytes b kept
part_taken b kept before after n taken g t = t ∙ from (is_unseeded b) (lacks_room b kept before) refl g
  where
    turn : Bool → Bool → Turn PartBuffers (Result ℕ MarkFault)
    turn u l =
        if u then refused_turn before EmptySignature
        else if l then refused_turn before ShortBuffer
        else accepted_turn (written_buffers b kept before) (length (part_bytes b kept))

    from : (u l : Bool) → lacks_room b kept before ≡ l → Gives after (Ok n) (turn u l) → take n after.part ≡ part_bytes b kept
    from true l room h = absurd (let a = h.answer in let z : ◌≡◌ {A = ℕ} 0 1 = cc in omega arith)
    from false true room h = absurd (let a = h.answer in let z : ◌≡◌ {A = ℕ} 0 1 = cc in omega arith)
    from false false room h =
        let a = h.answer in
        let fits = ltb-false _ _ (or_parts (is_too_short b before.marks) _ room).1 in
        let e : n ≡ length (part_bytes b kept) = cc in
        ap₂ take e (ap (λ x. x.part) h.state ∙ overlay_first (part_bytes b kept) before.part (omega arith)) ∙ take-append_seam (part_bytes b kept) _

-- a buffer's items, once a slice of all of it was written
pub lent_items : (len : ℕ) (xs ys : List ℕ) → length xs ≡ len → take len (xs ++ ys) ≡ xs
lent_items len xs ys e = ap (λ n. take n (xs ++ ys)) (sym e) ∙ take-append_seam xs ys
