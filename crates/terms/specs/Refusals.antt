-- Number, layer and place of the refusals of an item: the place is the item's offset in its body.
use Rattle.refusals.specs.declared.reason.Reason.TheVariants as Reason'
use Rattle.refusals.specs.declared.refusal.Refusal.{Refusal}
use Rattle.refusals.specs.Refusals.{refusal_at}
use Rattle.terms.specs.declared.fault.ItemFault.{ItemFault}
use Rattle.terms.specs.declared.fault.ItemFault.TheVariants.{TooDeep, CutShort, UnknownCode, UnknownDirection, WrongName, ZeroCount}

abbrev pub item_refusal : ItemFault → Refusal
item_refusal (TooDeep at) = refusal_at Reason'.TooDeep at
item_refusal (CutShort at) = refusal_at Reason'.ItemCutShort at
item_refusal (UnknownCode at) = refusal_at Reason'.UnknownCode at
item_refusal (UnknownDirection at) = refusal_at Reason'.UnknownDirection at
item_refusal (WrongName at) = refusal_at Reason'.WrongName at
item_refusal (ZeroCount at) = refusal_at Reason'.ZeroCount at
