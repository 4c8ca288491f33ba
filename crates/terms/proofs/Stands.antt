-- Bytes that stand in a body from one place to another.
use Rattle.std.proofs.Common.{◌≡◌, ℕ, ◌+◌, ◌<◌, ◌≤◌, List, [], ◌∷◌, ◌++◌, length, get_or, take, drop, sym, refl, ap, ◌∙◌, arith, length-append, take-take, drop-drop, take_at, take-add, drop_at}
use lib.Seq.{take-length}
use Rattle.std.proofs.lemmas.List.{drop-take, drop_more}

-- the bytes stand in the body from `at` on, and end before `end`
pub record Stands (body : List ℕ) (at : ℕ) (bytes : List ℕ) (end : ℕ) : Type 0 where
  pub ends : at + length bytes ≡ end
  pub within : end ≤ length body
  pub same : take (length bytes) (drop at body) ≡ bytes

-- a whole body stands in itself
pub stands_whole : (body : List ℕ) → Stands body 0 body (length body)
stands_whole body = record { ends = omega arith; within = omega arith; same = take-length body }

module _ (body : List ℕ) where
  -- the byte at a place
  pub stands_byte : (at : ℕ) → at < length body → Stands body at (get_or body at 0 ∷ []) (at + 1)
  stands_byte at h = record { ends = refl; within = omega arith; same = ap (take 1) (drop_more body at 0 h) }

  -- bytes that follow one another
  pub stands_join : (at mid end : ℕ) (xs ys : List ℕ) → Stands body at xs mid → Stands body mid ys end → Stands body at (xs ++ ys) end
  stands_join at mid end xs ys s t =
      record { ends = omega (arith, length-append xs ys); within = t.within; same = same_bytes }
    where
      later : drop (length xs) (drop at body) ≡ drop mid body
      later = drop-drop (length xs) at body ∙ ap (λ n. drop n body) s.ends

      same_bytes : take (length (xs ++ ys)) (drop at body) ≡ xs ++ ys
      same_bytes = rw (length-append xs ys, take-add (length xs) (length ys) (drop at body), later, s.same, t.same) refl

  -- the first part of bytes that stand stands too
  pub stands_left : (at end : ℕ) (xs ys : List ℕ) → Stands body at (xs ++ ys) end → Stands body at xs (at + length xs)
  stands_left at end xs ys s =
      record { ends = refl; within = omega (arith, length-append xs ys); same = same_bytes }
    where
      same_bytes : take (length xs) (drop at body) ≡ xs
      same_bytes =
          sym (take-take (length xs) (length (xs ++ ys)) (drop at body) (omega (arith, length-append xs ys)))
          ∙ ap (take (length xs)) s.same ∙ take_at xs ys _ refl

  -- and so does the second, behind it
  pub stands_right : (at end : ℕ) (xs ys : List ℕ) → Stands body at (xs ++ ys) end → Stands body (at + length xs) ys end
  stands_right at end xs ys s =
      record { ends = omega (arith, length-append xs ys); within = s.within; same = same_bytes }
    where
      same_bytes : take (length ys) (drop (at + length xs) body) ≡ ys
      same_bytes =
          ap (take (length ys)) (sym (drop-drop (length xs) at body))
          ∙ sym (drop-take (length xs) (length ys) (drop at body))
          ∙ ap (λ n. drop (length xs) (take n (drop at body))) (sym (length-append xs ys))
          ∙ ap (drop (length xs)) s.same ∙ drop_at xs ys _ refl
