-- A book with another signature, and with its own.
use Rattle.std.proofs.Common.{◌≡◌, ℕ, zero, suc, ◌<◌, ◌≤◌, Bool, true, false, List, [], ◌∷◌, length, get_or, sym, refl, ap, ◌∙◌, ⊎_elim, arith}
use mathlib.Core.Path.{fun_ext}
use Rattle.std.specs.List.{list_all}
use Rattle.std.proofs.lemmas.Bool.{and_parts, and_from, cases_Bool, cases_lt}
use Rattle.vocabulary.specs.Entities.{Entity, kind_at}
use Rattle.terms.proofs.Growth.{well_same}
use Rattle.terms.specs.WellFormed.{well_formed}
use Rattle.book.specs.Contents.{Contents, Filing, sound}
use Rattle.book.specs.Proper.{Sound}
use Rattle.locality.specs.Flags.{by_number}
use Rattle.locality.specs.Worlds.{Names}
use Rattle.extraction.specs.Sets.{no_entity, name_count, signature}
use Rattle.extraction.specs.Signatures.{seeded_by, with_signature, ListsOwn}

-- the names seeded as they are
seeded_same : (es : List Entity) → seeded_by (λ k. (get_or es k no_entity).seeded) es ≡ es
seeded_same [] = refl
seeded_same (e ∷ es) = ap (λ xs. e ∷ xs) (seeded_same es)

pub own_signature : (b : Contents) → with_signature b (signature b) ≡ b
own_signature b = ap (λ es. record { names = es; axioms = b.axioms }) (seeded_same b.names)

-- which names are seeded then: those of the list, as far as there are names
seeded_in : (listed : ℕ → Bool) (es : List Entity) (k : ℕ) → k < length es → (get_or (seeded_by listed es) k no_entity).seeded ≡ listed k
seeded_in listed [] k h = absurd (omega arith)
seeded_in listed (e ∷ es) zero h = refl
seeded_in listed (e ∷ es) (suc k) h = seeded_in (λ k. listed (suc k)) es k (omega arith)

seeded_past : (listed : ℕ → Bool) (es : List Entity) (k : ℕ) → length es ≤ k → (get_or (seeded_by listed es) k no_entity).seeded ≡ false
seeded_past listed [] k h = refl
seeded_past listed (e ∷ es) zero h = absurd (omega arith)
seeded_past listed (e ∷ es) (suc k) h = seeded_past (λ k. listed (suc k)) es k (omega arith)

-- of a list that has names of the book only, all
pub signature_with : (b : Contents) (listed : Names) → ListsOwn b listed → signature (with_signature b listed) ≡ listed
signature_with b listed own = fun_ext (λ n. ⊎_elim
    (λ h. seeded_in (by_number listed) b.names n.0 h)
    (λ h. seeded_past (by_number listed) b.names n.0 h ∙ sym (⊎_elim (λ e. let l = own n e in absurd (omega arith)) (λ e. e) (cases_Bool (listed n))))
    (cases_lt n.0 (name_count b)))

-- the same kinds, so the axioms stay sound
kinds_same : (listed : ℕ → Bool) (es : List Entity) (k : ℕ) → kind_at es k ≡ kind_at (seeded_by listed es) k
kinds_same listed [] k = refl
kinds_same listed (e ∷ es) zero = refl
kinds_same listed (e ∷ es) (suc k) = kinds_same (λ k. listed (suc k)) es k

pub sound_with : (b : Contents) (listed : Names) → Sound b → Sound (with_signature b listed)
sound_with b listed right = go b.axioms right
  where
    other : List Entity
    other = seeded_by (by_number listed) b.names

    go : (fs : List Filing) → list_all (sound b.names) fs ≡ true → list_all (sound other) fs ≡ true
    go [] h = refl
    go (f ∷ fs) h =
        let parts = and_parts (sound b.names f) _ h in
        let here = and_parts (well_formed b.names f.states) _ parts.0 in
        and_from _ _ (and_from _ _ (sym (well_same b.names other (kinds_same (by_number listed) b.names) f.states) ∙ here.0) here.1) (go fs parts.1)
