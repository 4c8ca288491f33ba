-- The refusal that decides, found by numbers and places.
use Rattle.std.proofs.Common.{◌≡◌, ◌⊎◌, inl, inr, ℕ, ◌-◌, ◌<◌, ◌≤◌, true, false, eqb, ◌&&◌, not, [], ◌∷◌, get_or, sym, refl, ap, ap₂, ◌∙◌, arith, ⊎_elim, lt-ltb}
use Rattle.std.proofs.lemmas.Bool.{cases_lt}
use Rattle.std.proofs.lemmas.Bool.Decides.{nat_tests}
use Rattle.refusals.specs.declared.reason.Reason.{Reason}
use Rattle.refusals.specs.declared.reason.Reason.TheVariants as Reason'
use Rattle.refusals.specs.declared.refusal.Refusal.{Refusal}
use Rattle.refusals.specs.Refusals.{reason_number}
use Rattle.refusals.specs.Choice.{is_item, comes_before, Decides}

-- the reason with a number
abbrev reason_with : ℕ → Reason
reason_with n = get_or (Reason'.NotEmpty ∷ Reason'.RecordCutShort ∷ Reason'.UnknownKind ∷ Reason'.BodyTooLong ∷ Reason'.BadKind ∷ Reason'.LabelLength ∷ Reason'.LabelByte ∷ Reason'.LabelTaken ∷ Reason'.NamesFull ∷ Reason'.TooDeep ∷ Reason'.ItemCutShort ∷ Reason'.UnknownCode ∷ Reason'.UnknownDirection ∷ Reason'.WrongName ∷ Reason'.ZeroCount ∷ Reason'.LeftOver ∷ Reason'.AxiomsFull ∷ Reason'.BytesFull ∷ Reason'.NoSuchAxiom ∷ Reason'.EmptySignature ∷ Reason'.ShortBuffer ∷ []) (n - 1) Reason'.ShortBuffer

found_again : (r : Reason) → reason_with (reason_number r) ≡ r
found_again Reason'.NotEmpty = refl
found_again Reason'.RecordCutShort = refl
found_again Reason'.UnknownKind = refl
found_again Reason'.BodyTooLong = refl
found_again Reason'.BadKind = refl
found_again Reason'.LabelLength = refl
found_again Reason'.LabelByte = refl
found_again Reason'.LabelTaken = refl
found_again Reason'.NamesFull = refl
found_again Reason'.TooDeep = refl
found_again Reason'.ItemCutShort = refl
found_again Reason'.UnknownCode = refl
found_again Reason'.UnknownDirection = refl
found_again Reason'.WrongName = refl
found_again Reason'.ZeroCount = refl
found_again Reason'.LeftOver = refl
found_again Reason'.AxiomsFull = refl
found_again Reason'.BytesFull = refl
found_again Reason'.NoSuchAxiom = refl
found_again Reason'.EmptySignature = refl
found_again Reason'.ShortBuffer = refl

-- no two reasons have the same number
pub same_reason : (q r : Reason) → reason_number q ≡ reason_number r → q ≡ r
same_reason q r e = sym (found_again q) ∙ ap reason_with e ∙ found_again r

-- two refusals with the same number and the same place
pub same_refusal : (r s : Refusal) → reason_number r.reason ≡ reason_number s.reason → r.place ≡ s.place → r ≡ s
same_refusal r s e p = ap₂ {C = Refusal} (λ reason place. record { reason = reason; place = place }) (same_reason r.reason s.reason e) p

-- a refusal decides if it fits, and every one that fits is this one or comes later
pub decides : (Fits : Refusal → Type 0) (r : Refusal) → Fits r → ((s : Refusal) → Fits s → (comes_before r s ≡ true) ⊎ (s ≡ r)) → Decides Fits r
decides Fits r f later = record { fits = f; first = λ s g other. ⊎_elim (λ b. b) (λ e. absurd (other e)) (later s g) }

-- of two that are not both items, or lie at one place, the smaller number comes first
pub before_by_number : (r s : Refusal) → (is_item r && (is_item s && not (eqb r.place s.place))) ≡ false → reason_number r.reason < reason_number s.reason → comes_before r s ≡ true
before_by_number r s e l = rw e (lt-ltb (reason_number r.reason) (reason_number s.reason) l)

-- of two items, the one further left comes first
pub before_by_place : (r s : Refusal) → is_item r ≡ true → is_item s ≡ true → r.place < s.place → comes_before r s ≡ true
before_by_place r s i j l = rw (i, j, apart) (lt-ltb r.place s.place l)
  where
    apart : eqb r.place s.place ≡ false
    apart = grind (arith, nat_tests)

-- a refusal that is no item's decides if it fits, and none that fits has a smaller number, or the same with another place
pub decides_by_number : (Fits : Refusal → Type 0) (r : Refusal) → is_item r ≡ false → Fits r → ((s : Refusal) → Fits s → (reason_number r.reason ≤ reason_number s.reason) × (s.place ≡ r.place)) → Decides Fits r
decides_by_number Fits r book f least =
    decides Fits r f (λ s g.
    let l = least s g in
    ⊎_elim (λ less. inl (before_by_number r s (rw book refl) less))
    (λ same. inr (same_refusal s r (omega arith) l.1))
    (cases_lt (reason_number r.reason) (reason_number s.reason)))
