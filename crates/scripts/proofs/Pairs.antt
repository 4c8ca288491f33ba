-- Words of hexadecimal digits, read pair by pair.
use Rattle.std.proofs.Common.{◌≡◌, ◌<◌, ℕ, false, cond, List, [], ◌∷◌, ◌++◌, length, min, ◌≤◌, Some, Ok, Err, Result, codes, refl, ap, sym, ◌∙◌, get_or, append-nil, bytes_eq, arith}
use Rattle.std.proofs.Math.Nat.{min-eq_left}
use Rattle.std.proofs.lemmas.List.{append_assoc}
use Rattle.scripts.specs.declared.halt.LineFault.{LineFault}
use Rattle.scripts.specs.declared.halt.LineFault.TheVariants.{OddDigits}
use Rattle.scripts.specs.Hex.{before, pair_value, pairs_value, bytes_value}

-- bytes that were read before others
abbrev pub behind : List ℕ → Result (List ℕ) LineFault → Result (List ℕ) LineFault
behind bs (Ok cs) = Ok (bs ++ cs)
behind bs (Err f) = Err f

-- one byte more
behind_on : (items : List ℕ) (b : ℕ) (o : Result (List ℕ) LineFault) → behind items (before (Some b) o) ≡ behind (items ++ b ∷ []) o
behind_on items b (Ok cs) = ap Ok (sym (append_assoc items (b ∷ []) cs))
behind_on items b (Err f) = refl

pair_first : (p rest : List ℕ) → length p ≡ 2 → pairs_value (p ++ rest) ≡ before (pair_value (get_or p 0 0) (get_or p 1 0)) (pairs_value rest)
pair_first [] rest h = absurd (omega (arith, h))
pair_first (d ∷ []) rest h = absurd (omega (arith, h))
pair_first (high ∷ low ∷ []) rest h = refl
pair_first (high ∷ low ∷ d ∷ ds) rest h = absurd (omega (arith, h))

-- a pair is read, and the bytes grow
pub read_on : (w r p rest items more : List ℕ) (b : ℕ) → pairs_value w ≡ behind items (pairs_value r) → r ≡ p ++ rest → length p ≡ 2 → pair_value (get_or p 0 0) (get_or p 1 0) ≡ Some b → more ≡ items ++ b ∷ [] → pairs_value w ≡ behind more (pairs_value rest)
read_on w r p rest items more b so parts two value grows =
    so ∙ (ap (behind items) (ap pairs_value parts ∙ (pair_first p rest two ∙ ap (λ o. before o (pairs_value rest)) value)) ∙ (behind_on items b (pairs_value rest) ∙ ap (λ m. behind m (pairs_value rest)) (sym grows)))

-- of a word that is no dash
module _ (w : List ℕ) (n : bytes_eq w (codes "-") ≡ false) where
  no_dash : (o : Result (List ℕ) LineFault) → pairs_value w ≡ o → bytes_value w ≡ o
  no_dash o e = ap (λ t. cond t (Ok []) (pairs_value w)) n ∙ e

  -- a digit stands alone at the end
  pub odd_end : (r p items : List ℕ) → pairs_value w ≡ behind items (pairs_value r) → length p ≡ min 2 (length r) → length p < 2 → 0 < length r → bytes_value w ≡ Err OddDigits
  odd_end [] p items so short few some = absurd (omega (arith, some))
  odd_end (d ∷ []) p items so short few some = no_dash (Err OddDigits) so
  odd_end (d ∷ e ∷ ds) p items so short few some = absurd (omega (arith, few, short ∙ min-eq_left two))
    where
      two : 2 ≤ length (d ∷ e ∷ ds)
      two = omega arith

  none_left : (r : List ℕ) → length r ≡ 0 → pairs_value r ≡ Ok []
  none_left [] h = refl
  none_left (d ∷ ds) h = absurd (omega (arith, h))

  -- it is read, once no digits are left
  pub word_read : (r items : List ℕ) → length r ≡ 0 → pairs_value w ≡ behind items (pairs_value r) → bytes_value w ≡ Ok items
  word_read r items e so = no_dash (Ok items) (so ∙ (ap (behind items) (none_left r e) ∙ ap Ok (append-nil items)))
