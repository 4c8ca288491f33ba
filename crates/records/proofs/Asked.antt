-- A record's turn is accepted exactly if the record is taken as what it asks for.
use Rattle.std.proofs.Common.{◌≡◌, ℕ, ◌<◌, Bool, true, false, cond, ltb, leb, List, [], ◌∷◌, length, Some, None, Ok, Err, Option, Result, sym, refl, ap, ap₂, ◌∙◌, subst, arith, lt-ltb}
use Rattle.std.proofs.lemmas.Bool.{le-leb, leb-true, cond-true, cond-false}
use Rattle.refusals.specs.Turns.{Turn, accepted_turn, refused_turn}
use Rattle.vocabulary.specs.Entities.{Entity}
use Rattle.terms.specs.declared.fault.ItemFault.TheVariants.{CutShort, WrongName}
use Rattle.terms.specs.Numbers.{number_of}
use Rattle.terms.specs.Reading.{got, bad}
use Rattle.codec.specs.Bodies.{longest_body}
use Rattle.codec.specs.Numbers.{read_any_name}
use Rattle.book.specs.Contents.{Contents}
use Rattle.book.specs.Calls.{with_fault, naming_call, seeding_call, axiom_call}
use Rattle.records.specs.declared.fault.RecordFault.TheVariants as Record'
use Rattle.records.specs.declared.fault.SeedFault.TheVariants.{LeftOver}
use Rattle.records.specs.declared.kind.RecordKind.{RecordKind}
use Rattle.records.specs.declared.kind.RecordKind.TheVariants as Kind'
use Rattle.records.specs.Files.{Entry}
use Rattle.records.specs.Kinds.{record_kind_of}
use Rattle.records.specs.Loading.{without_value, taken_as, name_turn, missing_name, seed_call, seed_turn, body_turn, short_turn, known_turn, record_turn}
use Rattle.records.specs.Taking.{IsNaming, IsSeeding, IsAskedCall, IsTaken}
use Rattle.records.proofs.KindNumbers.{kind_back, number_is}

-- a refusal is no acceptance
pub refused_not : {S A F : Type 0} (s m : S) (f : F) (x : A) → refused_turn s f ≡ accepted_turn m x → ⊥
refused_not s m f x e = let a = ap (λ t. t.answer) e in cc

-- a call that a test might refuse was not refused by it
pub passed : {S A F : Type 0} (t : Bool) (s : S) (f : F) (turn : Turn S (Result A F)) (m : S) (x : A) → cond t (refused_turn s f) turn ≡ accepted_turn m x → turn ≡ accepted_turn m x
passed true s f turn m x h = absurd (refused_not s m f x h)
passed false s f turn m x h = h

-- an answer that was told at the layer above, and one without its value
raise_ok : {A F G : Type 0} (up : F → G) (r : Result A F) (x : A) → with_fault up r ≡ Ok x → r ≡ Ok x
raise_ok up (Ok y) x e = let is : y ≡ x = cc in ap Ok is
raise_ok up (Err f) x e = absurd (cc)

done_ok : {A F : Type 0} (r : Result A F) → without_value r ≡ Ok tt → (x : A) × (r ≡ Ok x)
done_ok (Ok x) e = (x, refl)
done_ok (Err f) e = absurd (cc)

-- a record's turn that was accepted is that of an accepted call
pub taken_ok : {A F G : Type 0} (up : F → G) (t : Turn Contents (Result A F)) (m : Contents) → taken_as up t ≡ accepted_turn m tt → (x : A) × (t ≡ accepted_turn m x)
taken_ok up t m h =
    let d = done_ok (with_fault up t.answer) (ap (λ u. u.answer) h) in
    (d.0, ap₂ (λ s a. record { state = s; answer = a }) (ap (λ u. u.state) h) (raise_ok up t.answer d.0 d.1))

-- and the other way round
ok_taken : {A F G : Type 0} (up : F → G) (t : Turn Contents (Result A F)) (m : Contents) (x : A) → t ≡ accepted_turn m x → taken_as up t ≡ accepted_turn m tt
ok_taken up t m x h = ap (taken_as up) h

-- ---- the number of a seed's body

-- two bytes are there
pub read_any_name-two : (low high : ℕ) (rest : List ℕ) (names : List Entity) → read_any_name (low ∷ high ∷ rest) names 0 ≡ cond (ltb (number_of low high) (length names)) (got (record { 0 = number_of low high }) 2) (bad (WrongName 0))
read_any_name-two low high rest names =
    let one : ltb 0 (length (low ∷ high ∷ rest)) ≡ true = lt-ltb _ _ (omega arith) in
    let two : ltb 1 (length (low ∷ high ∷ rest)) ≡ true = lt-ltb _ _ (omega arith) in
    rw (one, two) refl

-- or not
pub read_any_name-cut : (body : List ℕ) (names : List Entity) → length body < 2 → read_any_name body names 0 ≡ bad (CutShort 0)
read_any_name-cut [] names h = refl
read_any_name-cut (x ∷ []) names h = refl
read_any_name-cut (x ∷ y ∷ rest) names h = absurd (omega arith)

module _ (b c : Contents) where
  -- ---- a turn that is accepted

  name_from : (body : List ℕ) → name_turn b body ≡ accepted_turn c tt → IsNaming b body c
  name_from [] h = absurd (refused_not _ _ _ _ h)
  name_from (kind ∷ label) h =
      let t = taken_ok (λ f. f) (naming_call b kind label) c h in
      record { kind = kind; label = label; id = t.0; is_body = refl; accepted = t.1 }

  -- with the number read
  seed_from_two : (low high : ℕ) (rest : List ℕ) (t : Bool) → seed_call b (length (low ∷ high ∷ rest)) (cond t (got (record { 0 = number_of low high }) 2) (bad (WrongName 0))) ≡ accepted_turn c tt → IsSeeding b (low ∷ high ∷ rest) c
  seed_from_two low high rest false h = absurd (refused_not _ _ _ _ h)
  seed_from_two low high [] true h =
      let call = passed (ltb 2 (length (low ∷ high ∷ []))) b (LeftOver 2) (taken_as missing_name (seeding_call b (number_of low high) true)) c tt h in
      record { low = low; high = high; is_body = refl; accepted = (taken_ok missing_name (seeding_call b (number_of low high) true) c call).1 }
  seed_from_two low high (x ∷ rest) true h =
      absurd (refused_not {A = Unit {0}} b c (LeftOver 2) tt (sym (cond-true _ _ _ (lt-ltb 2 (length (low ∷ high ∷ x ∷ rest)) (omega arith))) ∙ h))

  seed_from : (body : List ℕ) → seed_turn b body ≡ accepted_turn c tt → IsSeeding b body c
  seed_from [] h = absurd (refused_not _ _ _ _ h)
  seed_from (x ∷ []) h = absurd (refused_not _ _ _ _ h)
  seed_from (low ∷ high ∷ rest) h =
      seed_from_two low high rest (ltb (number_of low high) (length b.names))
      (ap (seed_call b (length (low ∷ high ∷ rest))) (sym (read_any_name-two low high rest b.names)) ∙ h)

  body_from : (kind : RecordKind) (body : List ℕ) → body_turn b kind body ≡ accepted_turn c tt → IsAskedCall b body c kind
  body_from Kind'.Name body h = name_from body (taken_ok Record'.Name (name_turn b body) c h).1
  body_from (Kind'.Axiom kind) body h = let t = taken_ok Record'.Axiom (axiom_call b kind body) c h in record { id = t.0; accepted = t.1 }
  body_from Kind'.Seed body h = seed_from body (taken_ok Record'.Seed (seed_turn b body) c h).1

  pub taken_from : (e : Entry) → record_turn b e ≡ accepted_turn c tt → IsTaken b e c
  taken_from e = known (record_kind_of e.kind) refl
    where
      short : (kind : RecordKind) → record_kind_of e.kind ≡ Some kind → (t : Bool) → leb (length e.body) longest_body ≡ t → short_turn b kind (cond t (Some e.body) None) ≡ accepted_turn c tt → IsTaken b e c
      short kind is false few h = absurd (refused_not _ _ _ _ h)
      short kind is true few h = record { kind = kind; known = number_is e.kind kind is; short = leb-true (length e.body) longest_body few; call = body_from kind e.body h }

      known : (o : Option RecordKind) → record_kind_of e.kind ≡ o → known_turn b o e.body ≡ accepted_turn c tt → IsTaken b e c
      known None is h = absurd (refused_not _ _ _ _ h)
      known (Some kind) is h = short kind is (leb (length e.body) longest_body) refl h

  -- ---- and the other way round

  seed_two_to : (low high : ℕ) → seeding_call b (number_of low high) true ≡ accepted_turn c tt → (t : Bool) → ltb (number_of low high) (length b.names) ≡ t → seed_call b 2 (cond t (got (record { 0 = number_of low high }) 2) (bad (WrongName 0))) ≡ accepted_turn c tt
  seed_two_to low high call false is = absurd (refused_not {A = Unit {0}} b c (record {}) tt (sym (cond-false _ _ _ is) ∙ call))
  seed_two_to low high call true is = ok_taken missing_name (seeding_call b (number_of low high) true) c tt call

  seed_to : (body : List ℕ) → IsSeeding b body c → seed_turn b body ≡ accepted_turn c tt
  seed_to body s =
      subst (λ l. seed_turn b l ≡ accepted_turn c tt) (sym s.is_body)
      (ap (seed_call b 2) (read_any_name-two s.low s.high [] b.names) ∙ seed_two_to s.low s.high s.accepted (ltb (number_of s.low s.high) (length b.names)) refl)

  name_to : (body : List ℕ) → IsNaming b body c → name_turn b body ≡ accepted_turn c tt
  name_to body n =
      subst (λ l. name_turn b l ≡ accepted_turn c tt) (sym n.is_body) (ok_taken (λ f. f) (naming_call b n.kind n.label) c n.id n.accepted)

  body_to : (kind : RecordKind) (body : List ℕ) → IsAskedCall b body c kind → body_turn b kind body ≡ accepted_turn c tt
  body_to Kind'.Name body n = ok_taken Record'.Name (name_turn b body) c tt (name_to body n)
  body_to (Kind'.Axiom kind) body f = ok_taken Record'.Axiom (axiom_call b kind body) c f.id f.accepted
  body_to Kind'.Seed body s = ok_taken Record'.Seed (seed_turn b body) c tt (seed_to body s)

  pub taken_to : (e : Entry) → IsTaken b e c → record_turn b e ≡ accepted_turn c tt
  taken_to e t =
      ap (λ o. known_turn b o e.body) (ap record_kind_of (sym t.known) ∙ kind_back t.kind) ∙
      ap (short_turn b t.kind) (cond-true _ _ _ (le-leb (length e.body) longest_body t.short)) ∙
      body_to t.kind e.body t.call
