-- What is told of refusals.
use Rattle.std.specs.Prelude.{ℕ, List, ◌++◌, codes, decimal}
use Rattle.refusals.specs.declared.refusal.Refusal.{Refusal}
use Rattle.refusals.specs.Refusals.{layer_of, layer_number, layer_text, reason_number, reason_text}

-- a refusal told to a reader: its number, its layer by number and word, its place, and what was wrong
abbrev pub told_text : Refusal → List ℕ
told_text r =
    codes "number " ++ (decimal (reason_number r.reason) ++ (codes ", layer " ++ (decimal (layer_number (layer_of r.reason)) ++ (codes " (" ++ (layer_text (layer_of r.reason) ++ (codes "), place " ++ (decimal r.place ++ (codes ": " ++ reason_text r.reason))))))))
