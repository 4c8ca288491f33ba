-- The number of a name of any kind, as the body of a seed begins with it.
use Rattle.std.specs.Prelude.{ℕ, List, length, Ok, Err, Result, if◌then◌else◌, nat_lt}
use Rattle.vocabulary.specs.declared.name.NameId.{NameId}
use Rattle.vocabulary.specs.Entities.{Entity}
use Rattle.terms.specs.declared.fault.ItemFault.{ItemFault}
use Rattle.terms.specs.declared.fault.ItemFault.TheVariants.{WrongName}
use Rattle.terms.specs.Reading.{Outcome, got, bad, next, read_number}
use Rattle.codec.specs.declared.parsed.ParsedName.{ParsedName}

-- the number of a name of any kind, and the place behind it
abbrev pub read_any_name : List ℕ → List Entity → ℕ → Outcome NameId
read_any_name body names at =
    next (read_number body at) (λ n end. if nat_lt n (length names) then got (record { 0 = n }) end else bad (WrongName at))

-- what was read of a name's number, as the format has it
abbrev pub name_outcome : Result ParsedName ItemFault → Outcome NameId
name_outcome (Ok p) = got p.name p.end
name_outcome (Err e) = bad e
