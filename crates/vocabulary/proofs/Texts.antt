-- The bytes of a label as a text.
use Rattle.std.proofs.Common.{◌≡◌, ℕ, zero, suc, ◌<◌, true, List, [], ◌∷◌, arith}
use Rattle.std.specs.Str.{IsAscii, IsUtf8}
use Rattle.std.proofs.lemmas.Str.{IsUtf8-from_ascii}
use Rattle.std.proofs.lemmas.Bool.{and_parts}
use Rattle.std.proofs.lemmas.Bool.Decides.{nat_tests}
use Rattle.vocabulary.specs.Labels.{is_graphic_byte, is_graphic_text}

graphic_ascii : (b : ℕ) → is_graphic_byte b ≡ true → b < 128
graphic_ascii b h = grind (arith, nat_tests)

ascii : (bs : List ℕ) → is_graphic_text bs ≡ true → IsAscii bs
ascii [] h i = grind arith
ascii (b ∷ bs) h zero = graphic_ascii b (and_parts (is_graphic_byte b) (is_graphic_text bs) h).0
ascii (b ∷ bs) h (suc i) = ascii bs (and_parts (is_graphic_byte b) (is_graphic_text bs) h).1 i

pub graphic_text : (bs : List ℕ) → is_graphic_text bs ≡ true → IsUtf8 bs
graphic_text bs h = IsUtf8-from_ascii bs (ascii bs h)
