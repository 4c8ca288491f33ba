-- Lists with a line for each item, by the item's number.
use Rattle.std.proofs.Common.{◌≡◌, ℕ, ◌+◌, ◌<◌, ◌≤◌, List, [], ◌∷◌, ◌++◌, map, length, get_or, take, refl, sym, ap, ◌∙◌, append-nil, arith, length-take-le, take_all}
use Rattle.std.specs.List.{enumerate_from, flat_map}
use Rattle.std.specs.Fmt.{HasWritten, IsPlainFormatter}
use Rattle.std.specs.declared.fmt.Formatter.{Formatter}
use Rattle.std.proofs.Output.{has_written_append, has_written_of_eq, writes_in_calls_nil}
use Rattle.std.proofs.lemmas.List.{take_more}
use Rattle.std.proofs.lemmas.Grind.{common_steps, flat_map-append}
use Rattle.notation.specs.Lists.{numbered}

enumerate_push : {X : Type 0} (n : ℕ) (xs : List X) (x : X) → enumerate_from n (xs ++ x ∷ []) ≡ enumerate_from n xs ++ (n + length xs, x) ∷ []
enumerate_push {X} n [] x = let e : n ≡ n + 0 = omega arith in ap (λ (k : ℕ). (k, x) ∷ []) e
enumerate_push {X} n (y ∷ ys) x =
    let e : (n + 1) + length ys ≡ n + length (y ∷ ys) = omega arith in
    ap (λ (l : List (ℕ × X)). (n, y) ∷ l) (enumerate_push (n + 1) ys x ∙ ap (λ (k : ℕ). enumerate_from (n + 1) ys ++ (k, x) ∷ []) e)

module _ {X : Type 0} (line : ℕ → X → List ℕ) where
  -- one item more at the end
  push : (xs : List X) (x : X) → numbered line (xs ++ x ∷ []) ≡ numbered line xs ++ line (length xs) x
  unfolding numbered
  push xs x =
      ap (flat_map (λ p. line p.0 p.1)) (enumerate_push 0 xs x)
      ∙ flat_map-append (λ p. line p.0 p.1) (enumerate_from 0 xs) ((0 + length xs, x) ∷ [])
      ∙ (let e : 0 + length xs ≡ length xs = omega arith in
      ap (λ (l : List ℕ). flat_map (λ p. line p.0 p.1) (enumerate_from 0 xs) ++ l) (append-nil (line (0 + length xs) x) ∙ ap (λ (k : ℕ). line k x) e))

  -- the line of the item at i, behind those of the items before it
  pub numbered_more : (xs : List X) (i : ℕ) (x : X) → i < length xs → numbered line (take (i + 1) xs) ≡ numbered line (take i xs) ++ line i (get_or xs i x)
  numbered_more xs i x h =
      let e : length (take i xs) ≡ i = length-take-le i xs (omega arith) in
      ap (numbered line) (take_more xs i x h) ∙ push (take i xs) (get_or xs i x) ∙ ap (λ (k : ℕ). numbered line (take i xs) ++ line k (get_or xs i x)) e

  -- the lines of all items
  pub numbered_whole : (xs : List X) (i : ℕ) → length xs ≤ i → numbered line (take i xs) ≡ numbered line xs
  numbered_whole xs i h = ap (numbered line) (take_all i xs h)

module _ {X Y : Type 0} (view : X → Y) (line : ℕ → Y → List ℕ) where
  viewed : (n : ℕ) (xs : List X) → flat_map (λ p. line p.0 p.1) (enumerate_from n (map view xs)) ≡ flat_map (λ p. line p.0 (view p.1)) (enumerate_from n xs)
  viewed n [] = refl
  viewed n (x ∷ xs) = ap (λ (l : List ℕ). line n (view x) ++ l) (viewed (n + 1) xs)

  -- the items seen as others
  pub numbered_view : (xs : List X) → numbered line (map view xs) ≡ numbered (λ n x. line n (view x)) xs
  unfolding numbered
  numbered_view xs = viewed 0 xs

module _ {W : Type 0} (took : W → List ℕ → W → Type 0) where
  -- before the first item nothing is written
  pub written_none : {X : Type 0} (line : ℕ → X → List ℕ) (f : Formatter W) → IsPlainFormatter f → HasWritten took f (numbered line []) f
  unfolding numbered
  written_none line f plain = record { wrote = writes_in_calls_nil took _; plain = plain }

  -- one line more
  pub written_more : {X : Type 0} (line : ℕ → X → List ℕ) (f g h : Formatter W) (xs : List X) (i : ℕ) (x : X)
      → i < length xs → x ≡ get_or xs i x
      → HasWritten took f (numbered line (take i xs)) g → HasWritten took g (line i x) h → HasWritten took f (numbered line (take (i + 1) xs)) h
  written_more line f g h xs i x below at before more =
      has_written_of_eq took f _ _ h (ap (λ y. numbered line (take i xs) ++ line i y) at ∙ sym (numbered_more line xs i x below)) (has_written_append took f _ g _ h before more)

  -- all lines
  pub written_whole : {X : Type 0} (line : ℕ → X → List ℕ) (f g : Formatter W) (xs : List X) (i : ℕ)
      → length xs ≤ i → HasWritten took f (numbered line (take i xs)) g → HasWritten took f (numbered line xs) g
  written_whole line f g xs i past done = has_written_of_eq took f _ _ g (numbered_whole line xs i past) done

pub ruleset listing = (common_steps, numbered_view)
