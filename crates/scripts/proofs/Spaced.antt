-- The words of a line, from the front.
use Rattle.std.proofs.Common.{◌≡◌, ◌<◌, ℕ, Bool, Bor, cond, not, true, false, List, [], ◌∷◌, length, drop, lit<, length-append, ◌==◌, Some, None, Option, ap, arith, subst, sym, ◌∙◌}
use Rattle.std.proofs.lemmas.Bool.{eqb-true, true≢false}
use Rattle.std.proofs.lemmas.List.{nil_from_length}
use Rattle.std.proofs.lemmas.Str.Pattern.{IsSplitOnceResult, drop_at_char, split_parts}
use Rattle.std.specs.List.{filter}
use Rattle.std.specs.Option.{unwrap_or}
use Rattle.std.specs.Str.Pattern.{CutsPrefixes, FindsCharPrefix}
use Rattle.scripts.specs.Lines.{words}
use Rattle.scripts.proofs.Separated.{first_part, one_part}

abbrev is_word : List ℕ → Bool
is_word w = not (length w == 0)

-- no byte is left
pub no_words : (line : List ℕ) → (length line == 0) ≡ true → words line ≡ []
no_words line e = ap words (nil_from_length line (eqb-true (length line) 0 e))

some_left : (line : List ℕ) → (length line == 0) ≡ false → 0 < length line
some_left [] e = absurd (true≢false e)
some_left (b ∷ line) e = omega arith

-- a line is what comes first, and what is behind it: a word, or nothing before a space
pub record Cut (line first behind : List ℕ) : Type 0 where
  pub word : (length first == 0) ≡ false → words line ≡ first ∷ words behind
  pub space : (length first == 0) ≡ true → words line ≡ words behind
  pub shorter : (length line == 0) ≡ false → length behind < length line

-- which a cut at a space is, and with no space the whole line before nothing
pub cut_once : (line : List ℕ) (here last : Bor (List ℕ)) (r : Option (Bor (List ℕ) × Bor (List ℕ))) → here.now ≡ line → last.now ≡ [] → IsSplitOnceResult 32 line r → Cut line (unwrap_or r (here, last)).0.now (unwrap_or r (here, last)).1.now
cut_once line here last (Some x) whole nothing cut =
    let at = split_parts 32 line (Some x) cut (omega arith) in
    let go = ap (filter is_word) (first_part 32 line x.0.now x.1.now at.0 at.1) in
    let by : (b : Bool) → (length x.0.now == 0) ≡ b → words line ≡ cond (not b) (x.0.now ∷ words x.1.now) (words x.1.now) = λ b e. go ∙ ap (λ b. cond (not b) (x.0.now ∷ words x.1.now) (words x.1.now)) e in
    record { word = by false; space = by true; shorter = λ e. omega (arith, ap length at.0 ∙ length-append x.0.now _) }
cut_once line here last None whole nothing cut =
    let plain = split_parts 32 line None cut (omega arith) in
    let go = ap (filter is_word) (one_part 32 line plain) in
    let by : (b : Bool) → (length line == 0) ≡ b → words line ≡ cond (not b) (line ∷ []) [] = λ b e. go ∙ ap (λ b. cond (not b) (line ∷ []) []) e in
    let all : Cut line line [] = record { word = by false; space = by true; shorter = some_left line } in
    subst (λ w. Cut line w last.now) (sym whole) (subst (λ w. Cut line line w) (sym nothing) all)

-- spaces in front do not matter
pub spaces_off : (line rest : List ℕ) (ns : List ℕ) → CutsPrefixes (FindsCharPrefix 32) line ns rest → words rest ≡ words line
spaces_off line rest [] e = ap words e
spaces_off line rest (n ∷ ns) c =
    let at : c.0 ≡ 32 ∷ drop n c.0 = drop_at_char 32 c.0 0 n c.2 (lit< tt) in
    ap words c.3 ∙ sym (ap (filter is_word) (first_part 32 c.0 [] (drop n c.0) at (λ i l. absurd (omega arith)))) ∙ spaces_off line c.0 ns c.1
