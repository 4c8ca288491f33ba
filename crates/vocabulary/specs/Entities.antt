-- The names of a book: each has a kind, a label, and stands in the signature or not.
use Rattle.std.specs.Prelude.{ℕ, zero, suc, Bool, true, if◌then◌else◌, not, ◌&&◌, List, [], ◌∷◌, Ok, Err, Option, Result, slice_get}
use Rattle.std.specs.List.{list_any}
use Rattle.std.specs.Str.{bytes_eq}
use Rattle.std.specs.Option.{ok_or, option_map}
use Rattle.vocabulary.specs.declared.fault.NameFault.{NameFault}
use Rattle.vocabulary.specs.declared.fault.NameFault.TheVariants.{BadKind, LabelLength, LabelByte}
use Rattle.vocabulary.specs.declared.kind.Kind.{Kind}
use Rattle.vocabulary.specs.declared.label.Label.{Label}
use Rattle.vocabulary.specs.declared.name.Name.{Name}
use Rattle.vocabulary.specs.Kinds.{kind_of, same_kind}
use Rattle.vocabulary.specs.Labels.{has_label_length, is_graphic_text}

-- a name, with its label as bytes, where a `Name` of the table keeps the label as a text; `seeded` says that it stands in
-- the signature
pub record Entity : Type 0 where
  pub kind : Kind
  pub label : List ℕ
  pub seeded : Bool

-- a label's bytes
abbrev pub label_of : Label → List ℕ
label_of l = l.text.bytes

-- what a name of the table stands for
abbrev pub entity : Name → Entity
entity n = record { kind = n.kind; label = label_of n.label; seeded = n.seeded }

-- the kind that a byte stands for, or what is wrong with it
abbrev pub kind_or_fault : ℕ → Result Kind NameFault
kind_or_fault b = ok_or (kind_of b) BadKind

-- a label's bytes, or what is wrong with them: the length is looked at first
abbrev pub label_or_fault : List ℕ → Result (List ℕ) NameFault
label_or_fault l =
    if not (has_label_length l) then Err LabelLength
    else if not (is_graphic_text l) then Err LabelByte
    else Ok l

-- the bytes of a checked label, or the same fault
abbrev pub bytes_or_fault : Result Label NameFault → Result (List ℕ) NameFault
bytes_or_fault (Ok l) = Ok (label_of l)
bytes_or_fault (Err f) = Err f

-- e has this kind and this label
abbrev pub is_named : Kind → List ℕ → Entity → Bool
is_named k l e = same_kind e.kind k && bytes_eq e.label l

-- one of the names has this kind and this label
abbrev pub is_taken : Kind → List ℕ → List Entity → Bool
is_taken k l es = list_any (is_named k l) es

-- no two names have both kind and label in common
abbrev pub all_distinct : List Entity → Bool
all_distinct [] = true
all_distinct (e ∷ es) = not (is_taken e.kind e.label es) && all_distinct es

-- the name with a number, if there is one
abbrev pub entity_at : List Entity → ℕ → Option Entity
entity_at es n = slice_get es n

-- its kind
abbrev pub kind_at : List Entity → ℕ → Option Kind
kind_at es n = option_map (λ e. e.kind) (entity_at es n)

-- the name with this number is seeded or not, as `on` says; every other stays as it was
abbrev pub reseed : List Entity → ℕ → Bool → List Entity
reseed [] n on = []
reseed (e ∷ es) zero on = record { kind = e.kind; label = e.label; seeded = on } ∷ es
reseed (e ∷ es) (suc n) on = e ∷ reseed es n on
