-- Reasoning about a reading step by step: what holds of the value and the place that it gives, if it gives any.
use Rattle.std.proofs.Common.{◌≡◌, ℕ, Bool, true, false, cond, Some, None, Option, refl, ap, ◌∙◌, subst}
use Rattle.terms.specs.declared.fault.ItemFault.{ItemFault}
use Rattle.terms.specs.Reading.{Outcome, got, bad, next, value_or_fault}

-- the value and the place after it, if there are any, are as P says
unfoldable pub Yields : {X : Type 0} → (X → ℕ → Type 0) → Outcome X → Type 0
Yields P (got x end) = P x end
Yields P (bad fault) = Unit {0}

-- what is yielded is as P says
pub yielded : {X : Type 0} (P : X → ℕ → Type 0) (o : Outcome X) (x : X) (end : ℕ) → Yields P o → o ≡ got x end → P x end
unfolding Yields
yielded P o x end h e = subst (Yields P) e h

-- a value that is yielded at once
pub yields_got : {X : Type 0} (P : X → ℕ → Type 0) (x : X) (end : ℕ) → P x end → Yields P (got x end)
unfolding Yields
yields_got P x end h = h

-- what P says may be weakened
pub yields_each : {X : Type 0} (P Q : X → ℕ → Type 0) (o : Outcome X) → Yields P o → ((x : X) (end : ℕ) → P x end → Q x end) → Yields Q o
unfolding Yields
yields_each P Q (got x end) h k = k x end h
yields_each P Q (bad fault) h k = tt

-- one after the other
pub yields_next : {X Y : Type 0} (P : X → ℕ → Type 0) (Q : Y → ℕ → Type 0) (o : Outcome X) (more : X → ℕ → Outcome Y) → Yields P o → ((x : X) (mid : ℕ) → P x mid → Yields Q (more x mid)) → Yields Q (next o more)
unfolding Yields
yields_next P Q (got x mid) more h k = k x mid h
yields_next P Q (bad fault) more h k = tt

-- an item that must stand for a value
pub yields_known : {X : Type 0} (P : X → ℕ → Type 0) (o : Option X) (fault : ItemFault) (end : ℕ) → ((x : X) → o ≡ Some x → P x end) → Yields P (value_or_fault o fault end)
unfolding Yields
yields_known P (Some x) fault end h = h x refl
yields_known P None fault end h = tt

-- a value that must pass a test
pub yields_cond : {X : Type 0} (P : X → ℕ → Type 0) (b : Bool) (x : X) (end : ℕ) (fault : ItemFault) → (b ≡ true → P x end) → Yields P (cond b (got x end) (bad fault))
unfolding Yields
yields_cond P true x end fault h = h refl
yields_cond P false x end fault h = tt

-- a reading whose first part is known
pub next_got : {X Y : Type 0} (o : Outcome X) (more : X → ℕ → Outcome Y) (x : X) (mid : ℕ) (z : Outcome Y) → o ≡ got x mid → more x mid ≡ z → next o more ≡ z
next_got o more x mid z e h = ap (λ (p : Outcome _). next p more) e ∙ h
