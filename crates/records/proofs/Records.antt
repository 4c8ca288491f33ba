-- The record that begins some bytes is refused exactly if some refusal fits it, and then by the one that decides.
use Rattle.std.proofs.Common.{◌≡◌, ◌⊎◌, inl, inr, ⊎_elim, ℕ, ◌<◌, ◌≤◌, Bool, true, false, cond, ltb, leb, ◌&&◌, List, [], ◌∷◌, length, take, Some, None, Ok, Err, Option, Result, sym, refl, ap, subst, arith, ltb-true, ltb-false, length-take}
use Rattle.std.proofs.lemmas.Bool.{leb-true, leb-false, cond-true}
use Rattle.refusals.specs.declared.reason.Reason.{Reason}
use Rattle.refusals.specs.declared.reason.Reason.TheVariants as Reason'
use Rattle.refusals.specs.declared.refusal.Refusal.{Refusal}
use Rattle.refusals.specs.Refusals.{reason_number, refusal_at}
use Rattle.refusals.specs.Turns.{Turn, refused_turn}
use Rattle.refusals.specs.Choice.{is_item, comes_before, Decides, Judged, refusal_of}
use Rattle.refusals.proofs.Choosing.{decides, same_refusal, before_by_number}
use Rattle.vocabulary.specs.declared.fault.NoSuchName.{NoSuchName}
use Rattle.vocabulary.specs.Refusals.{name_refusal}
use Rattle.vocabulary.specs.Naming.{naming}
use Rattle.vocabulary.proofs.Judging.{naming_judged}
use Rattle.terms.specs.declared.fault.ItemFault.TheVariants as Item'
use Rattle.terms.specs.Numbers.{number_of, number_at}
use Rattle.terms.specs.Reading.{got, bad}
use Rattle.codec.specs.Bodies.{longest_body}
use Rattle.book.specs.Contents.{Contents}
use Rattle.book.specs.Calls.{with_fault, seeding_call, axiom_call}
use Rattle.book.specs.Refusals.{axiom_refusal}
use Rattle.book.proofs.FilingJudged.{axiom_call_judged}
use Rattle.records.specs.declared.fault.RecordFault.{RecordFault}
use Rattle.records.specs.declared.fault.RecordFault.TheVariants as Record'
use Rattle.records.specs.declared.fault.SeedFault.{SeedFault}
use Rattle.records.specs.declared.fault.SeedFault.TheVariants.{LeftOver}
use Rattle.records.specs.declared.kind.RecordKind.{RecordKind}
use Rattle.records.specs.declared.kind.RecordKind.TheVariants as Kind'
use Rattle.records.specs.Faults.{seed_refusal, record_refusal}
use Rattle.records.specs.Files.{Entry, head_length, first_record}
use Rattle.records.specs.Fitting.{SeedIsWrong, NameBodyFits, RecordIsWrong, RecordFits}
use Rattle.records.specs.Kinds.{record_kind_of}
use Rattle.records.specs.Loading.{Taking, without_value, taken_as, name_turn, missing_name, seed_call, seed_turn, body_turn, short_turn, known_turn, record_turn}
use Rattle.records.proofs.Asked.{read_any_name-two}
use Rattle.records.proofs.KindNumbers.{number_is, kind_none, kind_some}
use Rattle.records.proofs.Judging.{cut_decides, kind_decides, length_decides, body_judges}

-- an answer told without its value, and at the layer above
lifted : {A F G : Type 0} (Fits : Refusal → Type 0) (up : F → G) (tell : G → Refusal) (r : Result A F) → Judged Fits (refusal_of (λ f. tell (up f)) r) → Judged Fits (refusal_of tell (without_value (with_fault up r)))
lifted Fits up tell (Ok x) j = j
lifted Fits up tell (Err f) j = j

-- ---- a name's body

name_judged : (b : Contents) (body : List ℕ) → Judged (NameBodyFits b body) (refusal_of name_refusal (name_turn b body).answer)
name_judged b [] = record { fits = refl; first = λ s f other. absurd (other f) }
name_judged b (kind ∷ label) = lifted _ (λ f. f) name_refusal (naming b.names kind label).answer (naming_judged b.names kind label)

-- ---- a seed's body

module _ (b : Contents) (body : List ℕ) where
  abbrev SeedFits : Refusal → Type 0
  SeedFits r = SeedIsWrong b body r.reason r.place

  -- whatever is wrong, it is one of the three, with its number and place
  each_seed : (P : ℕ → ℕ → Type 0) → (length body < 2 → P 11 0) → (2 ≤ length body → length b.names ≤ number_at body 0 → P 14 0) → (2 < length body → P 16 2) → (q : Reason) (at : ℕ) → SeedIsWrong b body q at → P (reason_number q) at
  each_seed P x y z Reason'.ItemCutShort at w = subst (P 11) (sym w.0) (x w.1)
  each_seed P x y z Reason'.WrongName at w = subst (P 14) (sym w.0) (y w.1 w.2)
  each_seed P x y z Reason'.LeftOver at w = subst (P 16) (sym w.0) (z w.1)
  each_seed P x y z _ at w = absurd w

  -- the number is cut short
  number_cut : length body < 2 → Decides SeedFits (refusal_at Reason'.ItemCutShort 0)
  number_cut h =
      decides SeedFits (refusal_at Reason'.ItemCutShort 0) (refl, h) (λ s f.
      let e : (reason_number s.reason ≡ 11) × (s.place ≡ 0) = each_seed (λ n at. (n ≡ 11) × (at ≡ 0)) (λ w. (refl, refl)) (λ l m. absurd (omega arith)) (λ l. absurd (omega arith)) s.reason s.place f in
      inr (same_refusal s (refusal_at Reason'.ItemCutShort 0) e.0 e.1))

  -- no name has it
  number_missing : 2 ≤ length body → length b.names ≤ number_at body 0 → Decides SeedFits (refusal_at Reason'.WrongName 0)
  number_missing h missing =
      decides SeedFits (refusal_at Reason'.WrongName 0) (refl, h, missing) (λ s f.
      ⊎_elim (λ e. inr (same_refusal s (refusal_at Reason'.WrongName 0) e.0 e.1)) (λ e. inl (left_over s e))
      (each_seed (λ n at. ((n ≡ 14) × (at ≡ 0)) ⊎ (n ≡ 16)) (λ w. absurd (omega arith)) (λ l m. inl (refl, refl)) (λ l. inr refl) s.reason s.place f))
    where
      left_over : (s : Refusal) → reason_number s.reason ≡ 16 → comes_before (refusal_at Reason'.WrongName 0) s ≡ true
      left_over s e =
          let book : is_item s ≡ false = ap (λ n. leb 10 n && leb n 15) e in
          before_by_number (refusal_at Reason'.WrongName 0) s (rw book refl) (omega arith)

  -- bytes are left behind the number of a name
  number_left : 2 < length body → number_at body 0 < length b.names → Decides SeedFits (refusal_at Reason'.LeftOver 2)
  number_left h there =
      decides SeedFits (refusal_at Reason'.LeftOver 2) (refl, h) (λ s f.
      let e : (reason_number s.reason ≡ 16) × (s.place ≡ 2) = each_seed (λ n at. (n ≡ 16) × (at ≡ 2)) (λ w. absurd (omega arith)) (λ l m. absurd (omega arith)) (λ l. (refl, refl)) s.reason s.place f in
      inr (same_refusal s (refusal_at Reason'.LeftOver 2) e.0 e.1))

  -- nothing is wrong
  number_right : length body ≡ 2 → number_at body 0 < length b.names → (s : Refusal) → ¬ SeedFits s
  number_right h there s f = each_seed (λ n at. ⊥) (λ w. omega arith) (λ l m. omega arith) (λ l. omega arith) s.reason s.place f

seed_judged : (b : Contents) (body : List ℕ) → Judged (SeedFits b body) (refusal_of seed_refusal (seed_turn b body).answer)
seed_judged b [] = number_cut b [] (omega arith)
seed_judged b (x ∷ []) = number_cut b (x ∷ []) (omega arith)
seed_judged b (low ∷ high ∷ rest) =
    subst (λ o. Told (seed_call b (length body) o)) (sym (read_any_name-two low high rest b.names)) (found (ltb n (length b.names)) refl)
  where
    n : ℕ
    n = number_of low high

    body : List ℕ
    body = low ∷ high ∷ rest

    Told : Taking SeedFault → Type 0
    Told t = Judged (SeedFits b body) (refusal_of seed_refusal t.answer)

    seeds : ltb n (length b.names) ≡ true → length body ≡ 2 → Told (taken_as missing_name (seeding_call b n true))
    seeds is two =
        subst (λ (t : Turn Contents (Result (Unit {0}) NoSuchName)). Told (taken_as missing_name t)) (sym (cond-true _ _ _ is))
        (number_right b body two (ltb-true n (length b.names) is))

    ends : ltb n (length b.names) ≡ true → (t : Bool) → ltb 2 (length body) ≡ t → Told (cond t (refused_turn b (LeftOver 2)) (taken_as missing_name (seeding_call b n true)))
    ends is true more = number_left b body (ltb-true 2 (length body) more) (ltb-true n (length b.names) is)
    ends is false more = seeds is (let l = ltb-false 2 (length body) more in omega arith)

    found : (t : Bool) → ltb n (length b.names) ≡ t → Told (seed_call b (length body) (cond t (got (record { 0 = n }) 2) (bad (Item'.WrongName 0))))
    found false is = number_missing b body (omega arith) (ltb-false n (length b.names) is)
    found true is = ends is (ltb 2 (length body)) refl

-- ---- the record

-- what is answered at the record that begins some bytes
abbrev pub first_answer : Contents → Option Entry → Result (Unit {0}) RecordFault
first_answer b None = Err Record'.CutShort
first_answer b (Some e) = (record_turn b e).answer

-- a record with a whole head
module _ (b : Contents) (at : ℕ) (size_low size_high kind_low kind_high : ℕ) (behind : List ℕ) where
  abbrev bytes : List ℕ
  bytes = size_low ∷ size_high ∷ kind_low ∷ kind_high ∷ behind

  abbrev size : ℕ
  size = number_of size_low size_high

  abbrev kind : ℕ
  kind = number_of kind_low kind_high

  abbrev body : List ℕ
  body = take size behind

  abbrev FirstJudged : Result (Unit {0}) RecordFault → Type 0
  FirstJudged r = Judged (RecordFits b bytes at) (refusal_of (record_refusal at) r)

  headed : head_length ≤ length bytes
  headed = omega arith

  module _ (fits : size ≤ length behind) where
    whole : ¬ RecordIsWrong bytes Reason'.RecordCutShort
    whole w = ⊎_elim (λ l. omega arith) (λ l. omega arith) w

    body_size : length body ≡ size
    body_size = omega (arith, length-take size behind)

    module _ (k : RecordKind) (is : record_kind_of kind ≡ Some k) where
      known : ¬ RecordIsWrong bytes Reason'.UnknownKind
      known w = kind_some kind k (number_is kind k is) (w.1, w.2, w.3)

      asked : ¬ RecordIsWrong bytes Reason'.BodyTooLong → (j : RecordKind) → record_kind_of kind ≡ Some j → FirstJudged (body_turn b j body).answer
      asked short Kind'.Name e = body_judges b bytes at whole known short headed Kind'.Name (number_is kind Kind'.Name e) Record'.Name name_refusal (λ f. refl) (name_turn b body).answer (name_judged b body)
      asked short (Kind'.Axiom j) e = body_judges b bytes at whole known short headed (Kind'.Axiom j) (number_is kind (Kind'.Axiom j) e) Record'.Axiom axiom_refusal (λ f. refl) (axiom_call b j body).answer (axiom_call_judged b j body)
      asked short Kind'.Seed e = body_judges b bytes at whole known short headed Kind'.Seed (number_is kind Kind'.Seed e) Record'.Seed seed_refusal (λ f. refl) (seed_turn b body).answer (seed_judged b body)

      sized : (t : Bool) → leb (length body) longest_body ≡ t → FirstJudged (short_turn b k (cond t (Some body) None)).answer
      sized false few = length_decides b bytes at whole known (headed, (let l = leb-false (length body) longest_body few in let s = body_size in omega arith))
      sized true few = asked (λ w. let l = leb-true (length body) longest_body few in let s = body_size in let more = w.1 in omega arith) k is

    kinds : (o : Option RecordKind) → record_kind_of kind ≡ o → FirstJudged (known_turn b o body).answer
    kinds None is = let none = kind_none kind is in kind_decides b bytes at whole (headed, none.0, none.1, none.2)
    kinds (Some k) is = sized k is (leb (length body) longest_body) refl

  head_judged : (t : Bool) → leb size (length behind) ≡ t → FirstJudged (first_answer b (cond t (Some (record { kind = kind; body = body })) None))
  head_judged false is = cut_decides b bytes at (inr (let l = leb-false size (length behind) is in omega arith))
  head_judged true is = kinds (leb-true size (length behind) is) (record_kind_of kind) refl

pub record_judged : (b : Contents) (bytes : List ℕ) (at : ℕ) → Judged (RecordFits b bytes at) (refusal_of (record_refusal at) (first_answer b (first_record bytes)))
record_judged b [] at = cut_decides b [] at (inl (omega arith))
record_judged b (x ∷ []) at = cut_decides b (x ∷ []) at (inl (omega arith))
record_judged b (x ∷ y ∷ []) at = cut_decides b (x ∷ y ∷ []) at (inl (omega arith))
record_judged b (x ∷ y ∷ z ∷ []) at = cut_decides b (x ∷ y ∷ z ∷ []) at (inl (omega arith))
record_judged b (x ∷ y ∷ z ∷ w ∷ behind) at = head_judged b at x y z w behind (leb (number_of x y) (length behind)) refl
