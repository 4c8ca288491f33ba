-- A record is refused exactly if some refusal fits it, and then by the one that decides.
use Rattle.std.proofs.Common.{◌≡◌, ◌≢◌, ◌⊎◌, inl, inr, ⊎_elim, ℕ, ◌+◌, ◌≤◌, Bool, true, false, cond, eqb, ltb, not, ◌&&◌, List, [], ◌∷◌, Ok, Err, Result, sym, refl, ap, ap₂, ◌∙◌, subst, arith, lt-ltb, le-ltb, ltb-true, ltb-false}
use Rattle.std.proofs.lemmas.Bool.{cases_lt, eqb-true, eq-eqb, eqb-false}
use Rattle.refusals.specs.declared.reason.Reason.{Reason}
use Rattle.refusals.specs.declared.reason.Reason.TheVariants as Reason'
use Rattle.refusals.specs.declared.refusal.Refusal.{Refusal}
use Rattle.refusals.specs.Refusals.{reason_number, refusal_at}
use Rattle.refusals.specs.Choice.{is_item, comes_before, Decides, Judged, refusal_of}
use Rattle.refusals.proofs.Choosing.{decides, same_refusal, before_by_number}
use Rattle.vocabulary.specs.Entities.{Entity}
use Rattle.vocabulary.specs.Fitting.{NameIsWrong}
use Rattle.terms.specs.declared.«axiom».AxiomKind.{AxiomKind}
use Rattle.terms.specs.Layout.{Item}
use Rattle.terms.specs.Fitting.{ItemIsWrong}
use Rattle.book.specs.Contents.{Contents}
use Rattle.book.specs.Calls.{with_fault}
use Rattle.book.specs.Fitting.{AxiomFits, BookIsWrong}
use Rattle.records.specs.declared.fault.RecordFault.{RecordFault}
use Rattle.records.specs.declared.kind.RecordKind.{RecordKind}
use Rattle.records.specs.declared.kind.RecordKind.TheVariants as Kind'
use Rattle.records.specs.Faults.{record_refusal}
use Rattle.records.specs.Files.{head_length}
use Rattle.records.specs.Fitting.{SeedIsWrong, NameBodyFits, BodyFits, IsHeaded, told_kind, told_body, RecordIsWrong, FitsRecord, FitsBody, RecordFits}
use Rattle.records.specs.Kinds.{record_number}
use Rattle.records.specs.Loading.{without_value}
use Rattle.records.proofs.KindNumbers.{same_kind}

-- ---- what a body asks for is refused with a number above the file's

late : (P : Reason → Type 0) → ¬ P Reason'.NotEmpty → ¬ P Reason'.RecordCutShort → ¬ P Reason'.UnknownKind → ¬ P Reason'.BodyTooLong → (q : Reason) → P q → 5 ≤ reason_number q
late P a b c d Reason'.NotEmpty w = absurd (a w)
late P a b c d Reason'.RecordCutShort w = absurd (b w)
late P a b c d Reason'.UnknownKind w = absurd (c w)
late P a b c d Reason'.BodyTooLong w = absurd (d w)
late P a b c d _ w = omega arith

name_late : (b : Contents) (body : List ℕ) (s : Refusal) → NameBodyFits b body s → 5 ≤ reason_number s.reason
name_late b [] s w = let e = ap (λ (r : Refusal). reason_number r.reason) w in omega arith
name_late b (kind ∷ label) s w = late (NameIsWrong b.names kind label) (λ v. v) (λ v. v) (λ v. v) (λ v. v) s.reason w.wrong

item_late : (names : List Entity) (body : List ℕ) (x : Item) (at : ℕ) (q : Reason) → ItemIsWrong names body q x at → 5 ≤ reason_number q
item_late names body x at = late (λ q. ItemIsWrong names body q x at) (λ v. v) (λ v. v) (λ v. v) (λ v. v)

axiom_late : (b : Contents) (kind : AxiomKind) (body : List ℕ) (s : Refusal) → AxiomFits b kind body s → 5 ≤ reason_number s.reason
axiom_late b kind body s (inl (k, d, l, e, p)) = item_late b.names body d.item d.place s.reason p.1
axiom_late b kind body s (inr w) = late (λ q. BookIsWrong b kind body q s.place) (λ v. v) (λ v. v) (λ v. v) (λ v. v) s.reason w

body_late : (b : Contents) (body : List ℕ) (kind : RecordKind) (s : Refusal) → BodyFits b body kind s → 5 ≤ reason_number s.reason
body_late b body Kind'.Name s w = name_late b body s w
body_late b body (Kind'.Axiom kind) s w = axiom_late b kind body s w
body_late b body Kind'.Seed s w = late (λ q. SeedIsWrong b body q s.place) (λ v. v) (λ v. v) (λ v. v) (λ v. v) s.reason w

-- ---- places in a body and in a file

eqb-add : (n a b : ℕ) → eqb (n + a) (n + b) ≡ eqb a b
eqb-add n a b = go (eqb a b) refl
  where
    go : (t : Bool) → eqb a b ≡ t → eqb (n + a) (n + b) ≡ t
    go true h = eq-eqb (n + a) (n + b) (let e = eqb-true a b h in omega arith)
    go false h = other (eqb (n + a) (n + b)) refl
      where
        other : (t : Bool) → eqb (n + a) (n + b) ≡ t → t ≡ false
        other false i = refl
        other true i = let e = eqb-true (n + a) (n + b) i in absurd (eqb-false a b h (omega arith))

ltb-add : (n a b : ℕ) → ltb (n + a) (n + b) ≡ ltb a b
ltb-add n a b = go (ltb a b) refl
  where
    go : (t : Bool) → ltb a b ≡ t → ltb (n + a) (n + b) ≡ t
    go true h = lt-ltb (n + a) (n + b) (let l = ltb-true a b h in omega arith)
    go false h = le-ltb (n + a) (n + b) (let l = ltb-false a b h in omega arith)

-- which of two comes first is the same wherever the body begins
before-add : (n p q : ℕ) (x y : Reason) → comes_before (refusal_at x (n + p)) (refusal_at y (n + q)) ≡ comes_before (refusal_at x p) (refusal_at y q)
before-add n p q x y =
    ap₂ (λ s t. cond (is_item (refusal_at x 0) && (is_item (refusal_at y 0) && not s)) t (ltb (reason_number x) (reason_number y))) (eqb-add n p q) (ltb-add n p q)

-- ---- a record

module _ (b : Contents) (bytes : List ℕ) (at : ℕ) where
  abbrev Wrong : Reason → Type 0
  Wrong = RecordIsWrong bytes

  abbrev Fits : Refusal → Type 0
  Fits = RecordFits b bytes at

  -- whatever is wrong with the record itself, it is one of the three, with its number
  each_wrong : (P : ℕ → Type 0) → (Wrong Reason'.RecordCutShort → P 2) → (Wrong Reason'.UnknownKind → P 3) → (Wrong Reason'.BodyTooLong → P 4) → (q : Reason) → Wrong q → P (reason_number q)
  each_wrong P x y z Reason'.RecordCutShort w = x w
  each_wrong P x y z Reason'.UnknownKind w = y w
  each_wrong P x y z Reason'.BodyTooLong w = z w
  each_wrong P x y z _ w = absurd w

  -- a wrong of the record itself decides if no other has a smaller number
  record_decides : (q : Reason) → is_item (refusal_at q at) ≡ false → reason_number q ≤ 4 → Wrong q → ((s : Reason) → Wrong s → reason_number q ≤ reason_number s) → Decides Fits (refusal_at q at)
  record_decides q book early w least =
      decides Fits (refusal_at q at) (inl (record { wrong = w; place = refl })) later
    where
      later : (s : Refusal) → Fits s → (comes_before (refusal_at q at) s ≡ true) ⊎ (s ≡ refusal_at q at)
      later s (inl f) =
          let l = least s.reason f.wrong in
          ⊎_elim (λ less. inl (before_by_number (refusal_at q at) s (rw book refl) less))
          (λ same. inr (same_refusal s (refusal_at q at) (omega arith) f.place))
          (cases_lt (reason_number q) (reason_number s.reason))
      later s (inr f) =
          let l = body_late b (told_body bytes) f.kind (refusal_at s.reason f.place) f.fits in
          inl (before_by_number (refusal_at q at) s (rw book refl) (omega arith))

  -- cut short
  pub cut_decides : Wrong Reason'.RecordCutShort → Decides Fits (refusal_at Reason'.RecordCutShort at)
  cut_decides w =
      record_decides Reason'.RecordCutShort refl (omega arith) w
      (each_wrong (λ n. 2 ≤ n) (λ v. omega arith) (λ v. omega arith) (λ v. omega arith))

  module _ (whole : ¬ Wrong Reason'.RecordCutShort) where
    -- whole, and of no kind
    pub kind_decides : Wrong Reason'.UnknownKind → Decides Fits (refusal_at Reason'.UnknownKind at)
    kind_decides w =
        record_decides Reason'.UnknownKind refl (omega arith) w
        (each_wrong (λ n. 3 ≤ n) (λ v. absurd (whole v)) (λ v. omega arith) (λ v. omega arith))

    module _ (known : ¬ Wrong Reason'.UnknownKind) where
      -- whole, of a kind, and too long
      pub length_decides : Wrong Reason'.BodyTooLong → Decides Fits (refusal_at Reason'.BodyTooLong at)
      length_decides w =
          record_decides Reason'.BodyTooLong refl (omega arith) w
          (each_wrong (λ n. 4 ≤ n) (λ v. absurd (whole v)) (λ v. absurd (known v)) (λ v. omega arith))

      module _ (short : ¬ Wrong Reason'.BodyTooLong) (headed : IsHeaded bytes) (kind : RecordKind) (is : record_number kind ≡ told_kind bytes) where
        abbrev body : List ℕ
        body = told_body bytes

        no_wrong : (s : Refusal) → FitsRecord b bytes at s → ⊥
        no_wrong s f = each_wrong (λ n. ⊥) whole known short s.reason f.wrong

        fits_kind : (s : Refusal) (f : FitsBody b bytes at s) → BodyFits b body kind (refusal_at s.reason f.place)
        fits_kind s f =
            let same : f.kind ≡ kind = same_kind f.kind kind (f.known ∙ sym is) in
            subst (λ k. BodyFits b body k (refusal_at s.reason f.place)) same f.fits

        -- with nothing wrong with the record itself, what its body asks for is judged
        pub body_judges : {A F : Type 0} (up : F → RecordFault) (tell : F → Refusal) → ((f : F) → record_refusal at (up f) ≡ refusal_at (tell f).reason (at + head_length + (tell f).place)) → (r : Result A F) → Judged (BodyFits b body kind) (refusal_of tell r) → Judged Fits (refusal_of (record_refusal at) (without_value (with_fault up r)))
        body_judges up tell told (Ok x) none =
            λ s f. ⊎_elim (λ g. no_wrong s g) (λ g. none (refusal_at s.reason g.place) (fits_kind s g)) f
        body_judges {A} {F} up tell told (Err fault) d =
            subst (Decides Fits) (sym (told fault)) (record {
              fits = inr (record { headed = headed; kind = kind; known = is; place = (tell fault).place; behind = refl; fits = d.fits });
              first = first;
            })
          where
            far : Refusal
            far = refusal_at (tell fault).reason (at + head_length + (tell fault).place)

            first : (s : Refusal) → Fits s → s ≢ far → comes_before far s ≡ true
            first s (inl f) other = absurd (no_wrong s f)
            first s (inr f) other =
                let here : s ≡ refusal_at s.reason (at + head_length + f.place) = ap (refusal_at s.reason) f.behind in
                let earlier = d.first (refusal_at s.reason f.place) (fits_kind s f) (λ e. other (here ∙ ap (λ (r : Refusal). refusal_at r.reason (at + head_length + r.place)) e)) in
                ap (comes_before far) here ∙ before-add (at + head_length) (tell fault).place f.place (tell fault).reason s.reason ∙ earlier
