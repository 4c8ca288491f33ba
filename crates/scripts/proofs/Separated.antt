-- A text cut at a byte, from the front.
use Rattle.std.proofs.Common.{◌≡◌, ◌≢◌, ◌<◌, ℕ, false, List, [], ◌∷◌, ◌++◌, length, refl, ap, ◌∙◌, eqb, get_or}
use Rattle.std.proofs.lemmas.Bool.{eq-eqb, ne_eqb}
use Rattle.std.proofs.lemmas.List.Elements.{All-from_get_or}
use Rattle.std.proofs.lemmas.List.Splits.{slice_split_none, slice_split_at}
use Rattle.std.specs.List.{slice_split}

module _ (c : ℕ) where
  -- the texts between
  abbrev pub parts : List ℕ → List (List ℕ)
  parts w = slice_split (λ b. eqb b c) w

  -- the byte is not in it
  abbrev pub Lacks : List ℕ → Type 0
  Lacks w = (i : ℕ) → i < length w → get_or w i 0 ≢ c

  pub one_part : (w : List ℕ) → Lacks w → parts w ≡ w ∷ []
  one_part w h = slice_split_none (λ b. eqb b c) w (All-from_get_or (λ x. eqb x c ≡ false) w 0 (λ i l. ne_eqb _ c (h i l)))

  pub first_part : (w first rest : List ℕ) → w ≡ first ++ c ∷ rest → Lacks first → parts w ≡ first ∷ parts rest
  first_part w first rest e h =
      ap parts e ∙ slice_split_at (λ b. eqb b c) first c rest (All-from_get_or (λ x. eqb x c ≡ false) first 0 (λ i l. ne_eqb _ c (h i l))) (eq-eqb c c refl)
