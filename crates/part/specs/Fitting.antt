-- When each refusal of writing a part fits, one by one and in no order: which of them is given, where several fit, is the
-- one rule for all calls.
use Rattle.std.specs.Prelude.{◌<◌, length}
use Rattle.refusals.specs.declared.reason.Reason.TheVariants as Reason'
use Rattle.refusals.specs.declared.refusal.Refusal.{Refusal}
use Rattle.refusals.specs.Refusals.{refusal_at}
use Rattle.book.specs.Contents.{Contents}
use Rattle.extraction.specs.Fitting.{MarkingFits}
use Rattle.extraction.specs.Sets.{Marks}
use Rattle.part.specs.Parts.{part_bytes}
use Rattle.part.specs.Writing.{PartBuffers}

pub data WritingFits (b : Contents) (kept : Marks) (buffers : PartBuffers) : Refusal → Type 0 where
  -- marking would be refused so
  as_marking : (r : Refusal) → MarkingFits b buffers.marks r → WritingFits b kept buffers r
  -- the third buffer has fewer bytes than the part
  few_for_part : length buffers.part < length (part_bytes b kept) → WritingFits b kept buffers (refusal_at Reason'.ShortBuffer 0)
