-- A reading and a layout of the same bytes agree: where a value is read, all items are right and the layout ends behind
-- it; where a fault is told, it is the one that decides.
use Rattle.std.proofs.Common.{◌≡◌, ⊎_elim, inl, inr, ℕ, ◌+◌, ◌<◌, ◌≤◌, Bool, true, false, eqb, not, ◌&&◌, List, [], ◌∷◌, ◌++◌, Some, None, Option, sym, refl, subst, arith}
use Rattle.std.proofs.lemmas.Bool.{eq-eqb, cases_lt}
use Rattle.refusals.specs.declared.reason.Reason.{Reason}
use Rattle.refusals.specs.declared.reason.Reason.TheVariants as Reason'
use Rattle.refusals.specs.declared.refusal.Refusal.{Refusal}
use Rattle.refusals.specs.Refusals.{reason_number, refusal_at}
use Rattle.refusals.specs.Choice.{is_item, Decides}
use Rattle.refusals.proofs.Choosing.{decides, before_by_number, before_by_place, same_refusal}
use Rattle.refusals.proofs.Somewhere.{any_none, any_first, any_split, any_left, any_right, any_parts}
use Rattle.vocabulary.specs.Entities.{Entity}
use Rattle.terms.specs.Reading.{Outcome, got, bad, next}
use Rattle.terms.specs.Refusals.{item_refusal}
use Rattle.terms.specs.Layout.{Item, code, count, direction, number, width, Due, Layout, empty_layout, broken_layout, sequence_from, sequence, item_layout}
use Rattle.terms.specs.Fitting.{ItemIsWrong, FitsOneOf}

module _ (names : List Entity) (body : List ℕ) where
  abbrev pub Wrong : Reason → Item → ℕ → Type 0
  Wrong = ItemIsWrong names body

  abbrev pub Fits : List Due → Refusal → Type 0
  Fits = FitsOneOf names body

  -- what is wrong with an item is an item's refusal
  wrong_item : (q : Reason) (x : Item) (at place : ℕ) → Wrong q x at → is_item (refusal_at q place) ≡ true
  wrong_item Reason'.TooDeep x at place w = refl
  wrong_item Reason'.ItemCutShort x at place w = refl
  wrong_item Reason'.UnknownCode x at place w = refl
  wrong_item Reason'.UnknownDirection x at place w = refl
  wrong_item Reason'.WrongName x at place w = refl
  wrong_item Reason'.ZeroCount x at place w = refl
  wrong_item _ (code around) at place w = absurd w
  wrong_item _ count at place w = absurd w
  wrong_item _ direction at place w = absurd w
  wrong_item _ (number k) at place w = absurd w

  pub fits_item : (xs : List Due) (s : Refusal) → Fits xs s → is_item s ≡ true
  fits_item xs s (k, d, l, e, p) = wrong_item s.reason d.item d.place s.place p.1

  -- of one item, what fits lies at its place
  abbrev pub one : Item → ℕ → List Due
  one x at = record { item = x; place = at } ∷ []

  pub one_fits : (x : Item) (at : ℕ) (s : Refusal) → Fits (one x at) s → (at ≡ s.place) × Wrong s.reason x at
  one_fits x at s f = ⊎_elim (λ p. p) (λ w. absurd (any_none _ w)) (any_split _ _ [] f)

  -- the smallest wrong of an item decides
  pub one_decides : (q : Reason) (x : Item) (at : ℕ) → Wrong q x at → ((r : Reason) → Wrong r x at → reason_number q ≤ reason_number r) → Decides (Fits (one x at)) (refusal_at q at)
  one_decides q x at w least =
      decides _ _ (any_first _ _ [] (refl, w)) (λ s f.
      let p = one_fits x at s f in
      let l = least s.reason p.1 in
      ⊎_elim (λ less. inl (before_by_number (refusal_at q at) s (one_place s p.0) less))
      (λ same. inr (same_refusal s (refusal_at q at) (omega arith) (sym p.0)))
      (cases_lt (reason_number q) (reason_number s.reason)))
    where
      one_place : (s : Refusal) → at ≡ s.place → (is_item (refusal_at q at) && (is_item s && not (eqb at s.place))) ≡ false
      one_place s e = rw (eq-eqb at s.place e) (go (is_item (refusal_at q at)) (is_item s))
        where
          go : (a b : Bool) → (a && (b && false)) ≡ false
          go false b = refl
          go true false = refl
          go true true = refl

  -- what fits a layout that begins at `at` lies at `at` or behind it, and before the layout's end
  pub record Lies (at : ℕ) (l : Layout) : Type 0 where
    pub from : (s : Refusal) → Fits l.items s → at ≤ s.place
    pub until : (e : ℕ) → l.end ≡ Some e → (at ≤ e) × ((s : Refusal) → Fits l.items s → s.place < e)

  pub lies_ends : (at : ℕ) → Lies at (empty_layout at)
  lies_ends at = record { from = λ s f. absurd (any_none _ f); until = λ e h. (let z : at ≡ e = cc in omega arith, λ s f. absurd (any_none _ f)) }

  pub lies_breaks : (x : Item) (at : ℕ) → Lies at (broken_layout x at)
  lies_breaks x at = record { from = λ s f. let p = (one_fits x at s f).0 in omega arith; until = λ e h. absurd (let z : ◌≡◌ {A = ℕ} 0 1 = cc in omega arith) }

  pub lies_item : (x : Item) (at : ℕ) → Lies at (item_layout x at)
  lies_item x at =
      record {
        from = λ s f. let p = (one_fits x at s f).0 in omega arith;
        until = λ e h. let z : at + width x ≡ e = cc in let w = wide x in (omega arith, λ s f. let p = (one_fits x at s f).0 in omega arith);
      }
    where
      wide : (y : Item) → 1 ≤ width y
      wide (code around) = omega arith
      wide count = omega arith
      wide direction = omega arith
      wide (number k) = omega arith

  pub lies_followed : (at : ℕ) (l : Layout) (rest : ℕ → Layout) → Lies at l → ((mid : ℕ) → at ≤ mid → Lies mid (rest mid)) → Lies at (sequence l rest)
  lies_followed at l rest h k = go l.end refl
    where
      go : (o : Option ℕ) → l.end ≡ o → Lies at (sequence_from o l.items rest)
      go None e = record { from = h.from; until = λ f g. absurd (let z : ◌≡◌ {A = ℕ} 0 1 = cc in omega arith) }
      go (Some mid) e =
          let u = h.until mid e in
          let r = k mid u.0 in
          record {
            from = λ s f. ⊎_elim (h.from s) (λ g. let p = r.from s g in let q = u.0 in omega arith) (any_parts _ l.items (rest mid).items f);
            until = λ end g.
                let v = r.until end g in
                (omega (arith, u.0, v.0), λ s f. ⊎_elim (λ w. let p = u.1 s w in let q = v.0 in omega arith) (v.1 s) (any_parts _ l.items (rest mid).items f));
          }

  -- the reading and the layout agree
  unfoldable pub Agrees : {X : Type 0} → Outcome X → Layout → Type 0
  Agrees (got x e) l = (l.end ≡ Some e) × ((s : Refusal) → ¬ Fits l.items s)
  Agrees (bad fault) l = Decides (Fits l.items) (item_refusal fault)

  -- what is right may stand before
  pub agrees_behind : {X : Type 0} (o : Outcome X) (xs : List Due) (l : Layout) → ((s : Refusal) → ¬ Fits xs s) → Agrees o l → Agrees o (record { items = xs ++ l.items; end = l.end })
  unfolding Agrees
  agrees_behind (got x e) xs l right h = (h.0, λ s f. ⊎_elim (right s) (h.1 s) (any_parts _ xs l.items f))
  agrees_behind (bad fault) xs l right h =
      record {
        fits = any_right _ xs l.items h.fits;
        first = λ s f. h.first s (⊎_elim (λ w. absurd (right s w)) (λ g. g) (any_parts _ xs l.items f));
      }

  -- one after the other
  pub agrees_next : {X Y : Type 0} (at : ℕ) (o : Outcome X) (more : X → ℕ → Outcome Y) (l : Layout) (rest : ℕ → Layout) → Agrees o l → Lies at l → ((mid : ℕ) → at ≤ mid → Lies mid (rest mid)) → ((x : X) (mid : ℕ) → at ≤ mid → Agrees (more x mid) (rest mid)) → Agrees (next o more) (sequence l rest)
  unfolding Agrees
  agrees_next at (got x mid) more l rest h lies later k =
      subst (λ end. Agrees (more x mid) (sequence_from end l.items rest)) (sym h.0)
      (agrees_behind (more x mid) l.items (rest mid) h.1 (k x mid (lies.until mid h.0).0))
  agrees_next at (bad fault) more l rest h lies later k = go l.end refl
    where
      go : (o : Option ℕ) → l.end ≡ o → Decides (Fits (sequence_from o l.items rest).items) (item_refusal fault)
      go None e = h
      go (Some mid) e =
          let u = lies.until mid e in
          record {
            fits = any_left _ l.items (rest mid).items h.fits;
            first = λ s f other. ⊎_elim (λ w. h.first s w other) (λ w.
                let far = (later mid u.0).from s w in
                let near = u.1 (item_refusal fault) h.fits in
                before_by_place (item_refusal fault) s (fits_item l.items _ h.fits) (fits_item (rest mid).items s w) (omega arith))
                (any_parts _ l.items (rest mid).items f);
          }
