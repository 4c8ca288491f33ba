-- What a table ends as, where one of its items is lent to be written.
use Rattle.std.specs.Prelude.{ℕ, List, Option, slice_set}
use Rattle.std.specs.Borrow.{LendsIf, Fml, RattleType, MutBor}
use Rattle.bounded.specs.contracts.Bounded.{the_row}

-- once the borrow r ends, the item has the last value written through r; where there is none, all stay as they were
abbrev pub lends_item : (T LIMIT : RattleType) → MutBor (List T.Denot) → ℕ → Option (MutBor T.Denot) → Fml
lends_item T LIMIT b number r = LendsIf (the_row T LIMIT) T b r (λ w. slice_set b.now number w) b.now
