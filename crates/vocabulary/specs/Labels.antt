-- What a label is: 1 to 32 bytes, each from 33 to 126.
use Rattle.std.specs.Prelude.{ℕ, Bool, ◌&&◌, List, length, nat_le}
use Rattle.std.specs.List.{list_all}
use Rattle.vocabulary.specs.Limits.{longest_label}

abbrev pub has_label_length : List ℕ → Bool
has_label_length label = nat_le 1 (length label) && nat_le (length label) longest_label

abbrev pub is_graphic_byte : ℕ → Bool
is_graphic_byte byte = nat_le 33 byte && nat_le byte 126

abbrev pub is_graphic_text : List ℕ → Bool
is_graphic_text label = list_all is_graphic_byte label
