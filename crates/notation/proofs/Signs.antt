-- The signs of the notation, by their bytes.
use Rattle.std.proofs.Common.{◌≡◌, [], ◌∷◌, refl}
use lib.Utf8.{encode}
use Rattle.std.proofs.lemmas.Grind.{common_steps}
use Rattle.notation.specs.Notation.{utf8}

pub nothing_sign : utf8 "⊥" ≡ 226 ∷ 138 ∷ 165 ∷ []
unfolding utf8 encode
nothing_sign = refl

pub everything_sign : utf8 "⊤" ≡ 226 ∷ 138 ∷ 164 ∷ []
unfolding utf8 encode
everything_sign = refl

pub inverse_sign : utf8 "⁻" ≡ 226 ∷ 129 ∷ 187 ∷ []
unfolding utf8 encode
inverse_sign = refl

pub negation_sign : utf8 "¬" ≡ 194 ∷ 172 ∷ []
unfolding utf8 encode
negation_sign = refl

pub intersection_sign : utf8 " ⊓ " ≡ 32 ∷ 226 ∷ 138 ∷ 147 ∷ 32 ∷ []
unfolding utf8 encode
intersection_sign = refl

pub exists_sign : utf8 "∃" ≡ 226 ∷ 136 ∷ 131 ∷ []
unfolding utf8 encode
exists_sign = refl

pub at_least_sign : utf8 "≥" ≡ 226 ∷ 137 ∷ 165 ∷ []
unfolding utf8 encode
at_least_sign = refl

pub inclusion_sign : utf8 " ⊑ " ≡ 32 ∷ 226 ∷ 138 ∷ 145 ∷ 32 ∷ []
unfolding utf8 encode
inclusion_sign = refl

pub equivalence_sign : utf8 " ≡ " ≡ 32 ∷ 226 ∷ 137 ∷ 161 ∷ 32 ∷ []
unfolding utf8 encode
equivalence_sign = refl

pub ruleset signs = (common_steps, nothing_sign, everything_sign, inverse_sign, negation_sign, intersection_sign, exists_sign, at_least_sign, inclusion_sign, equivalence_sign)
