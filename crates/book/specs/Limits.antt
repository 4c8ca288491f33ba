-- The limits of a book's axioms.
use Rattle.std.specs.Prelude.{ℕ}

-- how many axioms a book may have
abbrev pub most_axioms : ℕ
most_axioms = 1024

-- how many bytes all bodies may have together
abbrev pub most_bytes : ℕ
most_bytes = 32768
