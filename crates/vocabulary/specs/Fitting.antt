-- When each refusal of naming fits, one by one and in no order: which of them is given, where several fit, is the one
-- rule for all calls.
use Rattle.std.specs.Prelude.{◌≡◌, ◌⊎◌, ℕ, ◌<◌, ◌≤◌, List, length, Any}
use Rattle.refusals.specs.declared.reason.Reason.{Reason}
use Rattle.refusals.specs.declared.reason.Reason.TheVariants as Reason'
use Rattle.refusals.specs.declared.refusal.Refusal.{Refusal}
use Rattle.vocabulary.specs.Limits.{most_names, longest_label}
use Rattle.vocabulary.specs.Kinds.{code_of}
use Rattle.vocabulary.specs.Entities.{Entity}

module _ (names : List Entity) (kind : ℕ) (label : List ℕ) where
  -- what is wrong with a new name of this kind byte and this label: the kind byte is above 2; the label has no byte, or
  -- more than 32; some byte of it is below 33 or above 126; a name of this kind has this label; there are 1,024 names
  abbrev pub NameIsWrong : Reason → Type 0
  NameIsWrong Reason'.BadKind = 2 < kind
  NameIsWrong Reason'.LabelLength = (length label ≡ 0) ⊎ (longest_label < length label)
  NameIsWrong Reason'.LabelByte = Any (λ byte. (byte < 33) ⊎ (126 < byte)) label
  NameIsWrong Reason'.LabelTaken = Any (λ name. (code_of name.kind ≡ kind) × (name.label ≡ label)) names
  NameIsWrong Reason'.NamesFull = most_names ≤ length names
  NameIsWrong _ = ⊥

  -- a refusal of naming has the place 0
  pub record NamingFits (r : Refusal) : Type 0 where
    pub wrong : NameIsWrong r.reason
    pub place : r.place ≡ 0
