-- The kinds of records, and the number that stands for each.
use Rattle.std.specs.Prelude.{ℕ, Some, Option, ◌==◌, if◌then◌else◌}
use Rattle.std.specs.Option.{option_map}
use Rattle.terms.specs.Codes.{axiom_kind_of, kind_number}
use Rattle.records.specs.declared.kind.RecordKind.{RecordKind}
use Rattle.records.specs.declared.kind.RecordKind.TheVariants as Kind'

abbrev pub name_kind : ℕ
name_kind = 1

abbrev pub seed_kind : ℕ
seed_kind = 32

-- a name, a seed, or an axiom, which has the number of its kind, 16 to 22
abbrev pub record_kind_of : ℕ → Option RecordKind
record_kind_of n =
    if n == name_kind then Some Kind'.Name
    else if n == seed_kind then Some Kind'.Seed
    else option_map Kind'.Axiom (axiom_kind_of n)

abbrev pub record_number : RecordKind → ℕ
record_number Kind'.Name = name_kind
record_number (Kind'.Axiom kind) = kind_number kind
record_number Kind'.Seed = seed_kind
