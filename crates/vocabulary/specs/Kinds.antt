-- The kinds of names, and the byte that stands for each.
use Rattle.std.specs.Prelude.{ℕ, List, codes, Bool, if◌then◌else◌, Some, None, Option, ◌==◌}
use Rattle.vocabulary.specs.declared.kind.Kind.{Kind}
use Rattle.vocabulary.specs.declared.kind.Kind.TheVariants.{Concept, Role, Individual}

-- 0 a concept, 1 a role, 2 an individual; no other byte stands for a kind
abbrev pub kind_of : ℕ → Option Kind
kind_of b =
    if b == 0 then Some Concept
    else if b == 1 then Some Role
    else if b == 2 then Some Individual
    else None

abbrev pub code_of : Kind → ℕ
code_of Concept = 0
code_of Role = 1
code_of Individual = 2

abbrev pub kind_text : Kind → List ℕ
kind_text Concept = codes "concept"
kind_text Role = codes "role"
kind_text Individual = codes "individual"

abbrev pub same_kind : Kind → Kind → Bool
same_kind k l = code_of k == code_of l
