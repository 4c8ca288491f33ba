-- What marking answers, and what it writes into its two buffers.
use Rattle.std.specs.Prelude.{ℕ, zero, suc, Bool, true, false, not, ◌||◌, if◌then◌else◌, List, [], ◌∷◌, length, Result, nat_lt}
use Rattle.refusals.specs.declared.reason.Reason.TheVariants as Reason'
use Rattle.refusals.specs.declared.refusal.Refusal.{Refusal}
use Rattle.refusals.specs.Turns.{Turn, accepted_turn, refused_turn}
use Rattle.refusals.specs.Refusals.{refusal_at}
use Rattle.book.specs.Contents.{Contents}
use Rattle.locality.specs.Meaning.{some_below}
use Rattle.extraction.specs.declared.marking.Marking.{Marking}
use Rattle.extraction.specs.declared.marking.MarkFault.{MarkFault}
use Rattle.extraction.specs.declared.marking.MarkFault.TheVariants.{EmptySignature, ShortBuffer}
use Rattle.extraction.specs.Extractions.{Extraction}
use Rattle.locality.specs.Flags.{by_number}
use Rattle.extraction.specs.Sets.{Marks, axiom_count, name_count, signature, closed_signature, names_drawn_in, size, list_size}

abbrev pub bit : Bool → ℕ
bit true = 1
bit false = 0

-- the first n bytes of a buffer say which numbers below n are in a set; later bytes stay
abbrev pub flags_over : ℕ → (ℕ → Bool) → List ℕ → List ℕ
flags_over zero s bytes = bytes
flags_over (suc n) s [] = []
flags_over (suc n) s (x ∷ bytes) = bit (s 0) ∷ flags_over n (λ k. s (suc k)) bytes

-- the buffer for the axioms, and the one for the names
pub record Buffers : Type 0 where
  pub axioms : List ℕ
  pub names : List ℕ

abbrev pub lent : List ℕ → List ℕ → Buffers
lent axioms names = record { axioms = axioms; names = names }

module _ (b : Contents) where
  -- no name is seeded
  abbrev pub is_unseeded : Bool
  is_unseeded = not (some_below (name_count b) (by_number (signature b)))

  -- a buffer has fewer bytes than there are axioms, or names
  abbrev pub is_too_short : Buffers → Bool
  is_too_short buffers =
      nat_lt (length buffers.axioms) (axiom_count b) || nat_lt (length buffers.names) (name_count b)

  -- the buffers with a kept set and its closed signature written over
  abbrev pub marked_buffers : Marks → Buffers → Buffers
  marked_buffers kept buffers = record {
    axioms = flags_over (axiom_count b) kept buffers.axioms;
    names = flags_over (name_count b) (by_number (closed_signature b kept)) buffers.names;
  }

  -- the counts that marking answers
  abbrev pub marked_counts : Extraction → Marking
  marked_counts x = record {
    marked = size b x.kept;
    closed = list_size b (closed_signature b x.kept);
    drawn_in = list_size b (names_drawn_in b x.kept);
    rounds = x.rounds;
  }

  -- marking with an extractor that comes to this: an empty signature is refused first, then a buffer that is too short,
  -- and a refusal changes no buffer
  abbrev pub marking : Extraction → Buffers → Turn Buffers (Result Marking MarkFault)
  marking x buffers =
      if is_unseeded then refused_turn buffers EmptySignature
      else if is_too_short buffers then refused_turn buffers ShortBuffer
      else accepted_turn (marked_buffers x.kept buffers) (marked_counts x)

abbrev pub mark_refusal : MarkFault → Refusal
mark_refusal EmptySignature = refusal_at Reason'.EmptySignature 0
mark_refusal ShortBuffer = refusal_at Reason'.ShortBuffer 0
