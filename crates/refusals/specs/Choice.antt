-- Which refusal decides, where several fit.
use Rattle.std.specs.Prelude.{◌≡◌, ◌≢◌, Bool, true, not, ◌&&◌, ◌==◌, if◌then◌else◌, nat_le, nat_lt, Some, None, Option, Ok, Err, Result}
use Rattle.refusals.specs.declared.refusal.Refusal.{Refusal}
use Rattle.refusals.specs.Refusals.{reason_number}

-- numbers 10 to 15 are about an item of a body
abbrev pub is_item : Refusal → Bool
is_item r = nat_le 10 (reason_number r.reason) && nat_le (reason_number r.reason) 15

-- of two items the one further left comes first; otherwise, and within one item, the smaller number. So the numbers of
-- the file, 1 to 4, come before all items.
abbrev pub comes_before : Refusal → Refusal → Bool
comes_before r s =
    if is_item r && (is_item s && not (r.place == s.place)) then nat_lt r.place s.place
    else nat_lt (reason_number r.reason) (reason_number s.reason)

-- a refusal that fits, and comes before every other one that fits
pub record Decides (Fits : Refusal → Type 0) (r : Refusal) : Type 0 where
  pub fits : Fits r
  pub first : (s : Refusal) → Fits s → s ≢ r → comes_before r s ≡ true

-- a call is refused exactly if some refusal fits, and then by the one that decides
abbrev pub Judged : (Refusal → Type 0) → Option Refusal → Type 0
Judged Fits None = (s : Refusal) → ¬ Fits s
Judged Fits (Some r) = Decides Fits r

-- the refusal that an answer tells, if it is one; `told` says how its faults are told
abbrev pub refusal_of : {A F : Type 0} → (F → Refusal) → Result A F → Option Refusal
refusal_of told (Ok x) = None
refusal_of told (Err fault) = Some (told fault)
