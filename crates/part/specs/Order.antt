-- The order in which a part has its records.
use Rattle.std.specs.Prelude.{ℕ, suc, Bool, true, not, ◌&&◌, List, [], ◌∷◌, ◌==◌, if◌then◌else◌, nat_le}
use Rattle.std.specs.List.{list_all}
use Rattle.terms.specs.Numbers.{number_at}
use Rattle.records.specs.Files.{Entry}
use Rattle.records.specs.Kinds.{name_kind, seed_kind}

-- the number of the name that a record seeds
abbrev pub seed_number : Entry → ℕ
seed_number e = number_at e.body 0

-- no names and no seeds
abbrev pub axioms_only : List Entry → Bool
axioms_only es = list_all (λ e. not (e.kind == name_kind) && not (e.kind == seed_kind)) es

-- seeds with ascending numbers, none below `least`, and then axioms only
abbrev pub seeds_then_axioms : ℕ → List Entry → Bool
seeds_then_axioms least [] = true
seeds_then_axioms least (e ∷ es) =
    if e.kind == seed_kind then nat_le least (seed_number e) && seeds_then_axioms (suc (seed_number e)) es
    else axioms_only (e ∷ es)

-- names first, then seeds with ascending numbers, then axioms
abbrev pub in_writer_order : List Entry → Bool
in_writer_order [] = true
in_writer_order (e ∷ es) = if e.kind == name_kind then in_writer_order es else seeds_then_axioms 0 (e ∷ es)
