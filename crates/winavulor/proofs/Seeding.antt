-- The edits of a cut, word by word.
use Rattle.std.proofs.Common.{ℕ, List, ◌++◌, Ok, Err, Result}
use Rattle.runs.specs.Steps.{Change}

-- these edits, and the rest's behind them
abbrev pub ahead : List Change → Result (List Change) (List ℕ) → Result (List Change) (List ℕ)
ahead done (Ok cs) = Ok (done ++ cs)
ahead done (Err w) = Err w
