-- Reading the words of a pile, one after the other.
use Rattle.std.proofs.Common.{◌≡◌, ◌<◌, ◌+◌, ℕ, Bool, true, false, cond, List, [], ◌∷◌, ◌++◌, length, Some, None, Option, refl, ap, ap₂, sym, ◌∙◌, arith, nat_le, append-nil, eqb, length-append}
use Rattle.std.proofs.lemmas.Bool.{lt-leb, le-leb}
use Rattle.std.proofs.lemmas.List.{append_assoc}
use Rattle.std.proofs.lemmas.List.Splits.{length-slice_split}
use Rattle.std.specs.Option.{option_map, option_and_then}
use Rattle.scripts.specs.Piles.{tests_named}
use Rattle.scripts.proofs.Separated.{Lacks, first_part, one_part, parts}

-- the words of a text that are separated by a slash
abbrev pub words : List ℕ → List (List ℕ)
words w = parts 47 w

module _ {T : Type 0} (named : List ℕ → Option T) where
  -- the tests of words behind others that were read
  abbrev pub behind : List T → List (List ℕ) → Option (List T)
  behind ts ws = cond (nat_le (length ts + length ws) 16) (option_map (λ us. ts ++ us) (tests_named named ws)) None

  -- whichever a condition is
  either : {X : Type 0} (b : Bool) (x y : X) → x ≡ y → cond b x y ≡ y
  either true x y e = e
  either false x y e = refl

  -- a word that is that of no test
  none_from : (ts : List T) (w : List ℕ) (ws : List (List ℕ)) → named w ≡ None → behind ts (w ∷ ws) ≡ None
  none_from ts w ws e =
      either (nat_le (length ts + length (w ∷ ws)) 16) _ None (ap (λ o. option_map (λ us. ts ++ us) (option_and_then (λ t. option_map (λ us. t ∷ us) (tests_named named ws)) o)) e)

  -- one that is
  some_from : (ts : List T) (t : T) (w : List ℕ) (ws : List (List ℕ)) → named w ≡ Some t → behind ts (w ∷ ws) ≡ behind (ts ++ t ∷ []) ws
  some_from ts t w ws e =
      let size : length ts + length (w ∷ ws) ≡ length (ts ++ t ∷ []) + length ws = omega (arith, length-append ts (t ∷ [])) in
      ap₂ (λ n o. cond (nat_le n 16) (option_map (λ us. ts ++ us) (option_and_then (λ u. option_map (λ us. u ∷ us) (tests_named named ws)) o)) None) size e
      ∙ ap (λ o. cond (nat_le (length (ts ++ t ∷ []) + length ws) 16) o None) (moved (tests_named named ws))
    where
      moved : (o : Option (List T)) → option_map (λ us. ts ++ us) (option_map (λ us. t ∷ us) o) ≡ option_map (λ us. (ts ++ t ∷ []) ++ us) o
      moved None = refl
      moved (Some us) = ap Some (sym (append_assoc ts (t ∷ []) us))

  module _ (whole : Option (List T)) (ts : List T) (w : List ℕ) (goes : whole ≡ behind ts (words w)) where
    pub last_unknown : Lacks 47 w → named w ≡ None → None ≡ whole
    last_unknown h e = sym (goes ∙ ap (behind ts) (one_part 47 w h) ∙ none_from ts w [] e)

    pub last_known : (t : T) → length ts < 16 → Lacks 47 w → named w ≡ Some t → Some (ts ++ t ∷ []) ≡ whole
    last_known t l h e =
        let room : nat_le (length (ts ++ t ∷ []) + 0) 16 ≡ true = le-leb _ _ (omega (arith, length-append ts (t ∷ []))) in
        let done : behind (ts ++ t ∷ []) [] ≡ Some (ts ++ t ∷ []) = ap (λ b. cond b (Some ((ts ++ t ∷ []) ++ [])) None) room ∙ ap Some (append-nil _) in
        sym (goes ∙ ap (behind ts) (one_part 47 w h) ∙ some_from ts t w [] e ∙ done)

    module _ (first rest : List ℕ) (cut : w ≡ first ++ 47 ∷ rest) (h : Lacks 47 first) where
      pub unknown : named first ≡ None → None ≡ whole
      unknown e = sym (goes ∙ ap (behind ts) (first_part 47 w first rest cut h) ∙ none_from ts first (words rest) e)

      pub known : (t : T) → named first ≡ Some t → whole ≡ behind (ts ++ t ∷ []) (words rest)
      known t e = goes ∙ ap (behind ts) (first_part 47 w first rest cut h) ∙ some_from ts t first (words rest) e

    -- where 16 tests were read, a word more is one too many
    pub too_many : length ts ≡ 16 → None ≡ whole
    too_many e =
        let size = length-slice_split (λ b. eqb b 47) w in
        let short : nat_le (length ts + length (words w)) 16 ≡ false = lt-leb _ _ (omega arith) in
        sym (goes ∙ ap (λ b. cond b (option_map (λ us. ts ++ us) (tests_named named (words w))) None) short)
