-- When each refusal of an item fits, one by one and in no order: which of them is given, where several fit, is the one
-- rule for all calls.
use Rattle.std.specs.Prelude.{◌≡◌, ◌≢◌, ℕ, ◌+◌, ◌<◌, ◌≤◌, List, length, Some, slice_index, Any}
use Rattle.refusals.specs.declared.reason.Reason.{Reason}
use Rattle.refusals.specs.declared.reason.Reason.TheVariants as Reason'
use Rattle.refusals.specs.declared.refusal.Refusal.{Refusal}
use Rattle.vocabulary.specs.Entities.{Entity, kind_at}
use Rattle.terms.specs.declared.«axiom».AxiomKind.{AxiomKind}
use Rattle.terms.specs.Limits.{most_levels}
use Rattle.terms.specs.Numbers.{number_at}
use Rattle.terms.specs.Layout.{Item, code, count, direction, number, width, Due, layout}

module _ (names : List Entity) (body : List ℕ) where
  -- what is wrong with an item that is due at a place: it is the code of a term inside 24 others; the body ends before it
  -- or inside it; it is there, and is a code above 7, a direction byte above 1, the number of no name of the wanted kind,
  -- or a count of 0
  abbrev pub ItemIsWrong : Reason → Item → ℕ → Type 0
  ItemIsWrong Reason'.TooDeep (code around) at = most_levels ≤ around
  ItemIsWrong Reason'.ItemCutShort x at = length body < at + width x
  ItemIsWrong Reason'.UnknownCode (code around) at = (at < length body) × (7 < slice_index body at)
  ItemIsWrong Reason'.UnknownDirection direction at = (at < length body) × (1 < slice_index body at)
  ItemIsWrong Reason'.WrongName (number kind) at = (at + 2 ≤ length body) × (kind_at names (number_at body at) ≢ Some kind)
  ItemIsWrong Reason'.ZeroCount count at = (at + 2 ≤ length body) × (number_at body at ≡ 0)
  ItemIsWrong _ _ _ = ⊥

  -- a refusal fits one of the items that are due if that item lies at the refusal's place and is wrong for its reason
  abbrev pub FitsOneOf : List Due → Refusal → Type 0
  FitsOneOf items r = Any (λ d. (d.place ≡ r.place) × ItemIsWrong r.reason d.item d.place) items

  -- a refusal fits an item of an axiom's body
  abbrev pub ItemFits : AxiomKind → Refusal → Type 0
  ItemFits kind = FitsOneOf (layout body kind).items
