-- When each refusal of marking fits, one by one and in no order: which of them is given, where both fit, is the one rule for
-- all calls.
use Rattle.std.specs.Prelude.{◌≡◌, ◌<◌, false, length}
use Rattle.refusals.specs.declared.reason.Reason.TheVariants as Reason'
use Rattle.refusals.specs.declared.refusal.Refusal.{Refusal}
use Rattle.refusals.specs.Refusals.{refusal_at}
use Rattle.vocabulary.specs.declared.name.NameId.{NameId}
use Rattle.book.specs.Contents.{Contents}
use Rattle.extraction.specs.Marking.{Buffers}
use Rattle.extraction.specs.Sets.{axiom_count, name_count, signature}

pub data MarkingFits (b : Contents) (buffers : Buffers) : Refusal → Type 0 where
  -- no name is seeded
  none_seeded : ((n : NameId) → signature b n ≡ false) → MarkingFits b buffers (refusal_at Reason'.EmptySignature 0)
  -- the first buffer has fewer bytes than axioms are filed, or the second fewer than there are names
  few_for_axioms : length buffers.axioms < axiom_count b → MarkingFits b buffers (refusal_at Reason'.ShortBuffer 0)
  few_for_names : length buffers.names < name_count b → MarkingFits b buffers (refusal_at Reason'.ShortBuffer 0)
