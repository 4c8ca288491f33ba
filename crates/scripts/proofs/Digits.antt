-- Words of decimal digits.
use Rattle.std.proofs.Common.{◌≡◌, ◌<◌, ◌^◌, ℕ, zero, suc, Bool, true, false, not, ◌==◌, cond, length, List, Ok, Err, Result, refl, sym, ap, ◌∙◌, T, rules, arith, nat_lt, ltb→lt, subst}
use Rattle.std.proofs.lemmas.Bool.{and_parts, false≢true}
use Rattle.std.proofs.lemmas.Str.Parse.{IsNumeralModel, numerals_by_value, parse_digits}
use Rattle.std.specs.Char.{is_ascii_digit}
use Rattle.std.specs.List.{list_all}
use Rattle.std.specs.Result.{OkIff}
use Rattle.std.specs.Str.Parse.{ParsesUnsigned, digits_value}
use Rattle.scripts.specs.declared.halt.LineFault.TheVariants.{NotDecimal, TooLarge}
use Rattle.scripts.specs.Words.{is_numeral, number_value}

numerals : IsNumeralModel (λ ds. list_all is_ascii_digit ds ≡ true) (digits_value 10)
numerals = numerals_by_value _ (search rules)

module _ (w : List ℕ) (n : is_numeral w ≡ true) where
  parsed : {E : Type 0} (r : Result ℕ E) → ParsesUnsigned 16 10 w r → OkIff r ((0 < length w) × (digits_value 10 w < 2 ^ 16)) (digits_value 10 w)
  parsed r h = parse_digits numerals 16 w r h (and_parts (not (length w == 0)) (list_all is_ascii_digit w) n).1

  measured : (b : Bool) → nat_lt (digits_value 10 w) (2 ^ 16) ≡ b → number_value w ≡ cond b (Ok (digits_value 10 w)) (Err TooLarge)
  measured b e = ap (λ t. cond t (cond (nat_lt (digits_value 10 w) (2 ^ 16)) (Ok (digits_value 10 w)) (Err TooLarge)) (Err NotDecimal)) n ∙ ap (λ t. cond t (Ok (digits_value 10 w)) (Err TooLarge)) e

  large : (b : Bool) → nat_lt (digits_value 10 w) (2 ^ 16) ≡ b → (digits_value 10 w < 2 ^ 16 → ⊥) → number_value w ≡ Err TooLarge
  large true e not_less = absurd (not_less (ltb→lt _ _ (subst T (sym e) tt)))
  large false e not_less = measured false e

  long : (l : ℕ) → not (l == 0) ≡ true → 0 < l
  long zero e = absurd (false≢true e)
  long (suc l) e = omega arith

  -- a number that is parsed is the word's value
  pub parses : (E : Type 0) (r : Result ℕ E) (v : ℕ) → ParsesUnsigned 16 10 w r → r ≡ Ok v → Ok v ≡ number_value w
  parses E r v h e =
      let so : OkIff {E = E} (Ok v) ((0 < length w) × (digits_value 10 w < 2 ^ 16)) (digits_value 10 w) = subst (λ x. OkIff x ((0 < length w) × (digits_value 10 w < 2 ^ 16)) (digits_value 10 w)) e (parsed r h) in
      ap Ok so.1 ∙ sym (measured true (search (rules, so.0.1)))

  -- a word that is not parsed stands for a number that is too large
  pub too_large : {E : Type 0} (r : Result ℕ E) (x : E) → ParsesUnsigned 16 10 w r → r ≡ Err x → Err TooLarge ≡ number_value w
  too_large r x h e =
      let so : OkIff (Err x) ((0 < length w) × (digits_value 10 w < 2 ^ 16)) (digits_value 10 w) = subst (λ y. OkIff y ((0 < length w) × (digits_value 10 w < 2 ^ 16)) (digits_value 10 w)) e (parsed r h) in
      sym (large _ refl (λ less. so (long (length w) (and_parts (not (length w == 0)) (list_all is_ascii_digit w) n).0, less)))
