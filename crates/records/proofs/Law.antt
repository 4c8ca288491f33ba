-- The law of loading, record by record.
use Rattle.std.proofs.Common.{◌≡◌, ◌≢◌, inl, inr, ℕ, zero, suc, ◌+◌, ◌<◌, ◌≤◌, true, false, List, [], ◌∷◌, ◌++◌, length, drop, Some, None, Ok, Err, Option, Result, sym, refl, ap, ap₂, ◌∙◌, subst, arith, length-append, length-drop, append-nil}
use Rattle.std.proofs.lemmas.List.{append_assoc}
use Rattle.refusals.specs.declared.reason.Reason.TheVariants as Reason'
use Rattle.refusals.specs.declared.refusal.Refusal.{Refusal}
use Rattle.refusals.specs.Refusals.{refusal_at}
use Rattle.refusals.specs.Choice.{comes_before, Decides, Judged, refusal_of}
use Rattle.refusals.specs.Turns.{Gives, accepted_turn, refused_turn}
use Rattle.book.specs.Contents.{Contents}
use Rattle.book.specs.Calls.{blank}
use Rattle.records.specs.declared.fault.RecordFault.{RecordFault}
use Rattle.records.specs.declared.fault.RecordFault.TheVariants.{CutShort}
use Rattle.records.specs.Faults.{record_refusal}
use Rattle.records.specs.Files.{Entry, record_length, record_bytes, file_bytes, first_record}
use Rattle.records.specs.Fitting.{RecordFits, FitsBehind, LoadFits}
use Rattle.records.specs.Law.{IsLoading}
use Rattle.records.specs.Loading.{Loaded, record_turn, after_turn, after_record, loads}
use Rattle.records.specs.Stops.{Stop, not_blank, at_record}
use Rattle.records.specs.Taking.{IsTaken, AreTaken}
use Rattle.records.proofs.Asked.{taken_from, taken_to}
use Rattle.records.proofs.Files.{drop_bytes, record_split, first_record-record_bytes, drop-record_bytes, length-record_bytes}
use Rattle.records.specs.Files.{all_bytes}
use Rattle.records.proofs.Near.{record_near}
use Rattle.records.proofs.Records.{first_answer, record_judged}

-- ---- what loading some bytes comes to

-- they begin at an offset, and so many records were taken before
module _ (b : Contents) (bytes : List ℕ) (at taken : ℕ) (c : Contents) where
  pub record Ends (n : ℕ) : Type 0 where
    pub entries : List Entry
    pub whole : bytes ≡ file_bytes entries
    pub count : n ≡ taken + length entries
    pub are : AreTaken b entries c

  pub record StopsAt (place : ℕ) (fault : RecordFault) (n : ℕ) : Type 0 where
    pub entries : List Entry
    pub rest : List ℕ
    pub splits : bytes ≡ file_bytes entries ++ rest
    pub left : 0 < length rest
    pub count : n ≡ taken + length entries
    pub are : AreTaken b entries c
    pub offset : place ≡ at + length (file_bytes entries)
    pub refused : Decides (RecordFits c rest place) (record_refusal place fault)

  abbrev pub Comes : Result ℕ Stop → Type 0
  Comes (Ok n) = Ends n
  Comes (Err (at_record place fault n)) = StopsAt place fault n
  Comes (Err not_blank) = ⊥

-- one record more before them
module _ (b m c : Contents) (e : Entry) (is : IsTaken b e m) (bytes : List ℕ) (at taken : ℕ) where
  more : (r : Result ℕ Stop) → Comes m bytes (at + record_length e) (taken + 1) c r → Comes b (record_bytes e ++ bytes) at taken c r
  more (Ok n) k = record {
    entries = e ∷ k.entries;
    whole = ap (λ l. record_bytes e ++ l) k.whole;
    count = omega (arith, k.count);
    are = (m, is, k.are);
  }
  more (Err (at_record place fault n)) k = record {
    entries = e ∷ k.entries;
    rest = k.rest;
    splits = ap (λ l. record_bytes e ++ l) k.splits ∙ sym (append_assoc (record_bytes e) (file_bytes k.entries) k.rest);
    left = k.left;
    count = omega (arith, k.count);
    are = (m, is, k.are);
    offset = omega (arith, k.offset, length-record_bytes e (file_bytes k.entries));
    refused = k.refused;
  }
  more (Err not_blank) k = absurd k

-- what begins with these bytes, given what later ones come to
abbrev AllCome : ℕ → Type 0
AllCome most = (bytes : List ℕ) → all_bytes bytes ≡ true → length bytes ≤ most → (b : Contents) (at taken : ℕ) → Comes b bytes at taken (loads most bytes b at taken).state (loads most bytes b at taken).answer

module _ (most : ℕ) (later_come : AllCome most) (bytes : List ℕ) (all : all_bytes bytes ≡ true) (begun : 0 < length bytes) (enough : length bytes ≤ suc most) (b : Contents) (at taken : ℕ) where
  abbrev Told : Loaded → Type 0
  Told t = Comes b bytes at taken t.state t.answer

  -- nothing was taken
  stops : (fault : RecordFault) → Decides (RecordFits b bytes at) (record_refusal at fault) → Told (refused_turn b (at_record at fault taken))
  stops fault d = record {
    entries = [];
    rest = bytes;
    splits = refl;
    left = begun;
    count = omega arith;
    are = refl;
    offset = omega arith;
    refused = d;
  }

  judged : (o : Option Entry) → first_record bytes ≡ o → Judged (RecordFits b bytes at) (refusal_of (record_refusal at) (first_answer b o))
  judged o h = subst (λ p. Judged (RecordFits b bytes at) (refusal_of (record_refusal at) (first_answer b p))) h (record_judged b bytes at)

  turn_comes : (e : Entry) → first_record bytes ≡ Some e → (r : Result (Unit {0}) RecordFault) → (record_turn b e).answer ≡ r → Told (after_turn (λ c. loads most (drop (record_length e) bytes) c (at + record_length e)) at taken (record_turn b e).state r)
  turn_comes e h (Err fault) is =
      let same : (record_turn b e).state ≡ b = (record_near at b e).same fault is in
      subst (λ s. Comes b bytes at taken s (Err (at_record at fault taken))) (sym same)
      (stops fault (subst (λ r. Judged (RecordFits b bytes at) (refusal_of (record_refusal at) r)) is (judged (Some e) h)))
  turn_comes e h (Ok u) is =
      let m = (record_turn b e).state in
      let later = drop (record_length e) bytes in
      let next = loads most later m (at + record_length e) (taken + 1) in
      let accepted : record_turn b e ≡ accepted_turn m tt = ap (λ a. record { state = m; answer = a }) is in
      let come = later_come later (drop_bytes (record_length e) bytes all) (omega (arith, length-drop (record_length e) bytes)) m (at + record_length e) (taken + 1) in
      subst (λ l. Comes b l at taken next.state next.answer) (sym (record_split bytes all e h)) (more b m next.state e (taken_from b m e accepted) later at taken next.answer come)

  record_comes : (o : Option Entry) → first_record bytes ≡ o → Told (after_record (loads most) bytes b at taken o)
  record_comes None h = stops CutShort (judged None h)
  record_comes (Some e) h = turn_comes e h (record_turn b e).answer refl

-- some bytes, whatever was taken before
pub loads_come : (most : ℕ) → AllCome most
loads_come zero [] all enough b at taken = record { entries = []; whole = refl; count = omega arith; are = refl }
loads_come zero (x ∷ l) all enough b at taken = absurd (omega arith)
loads_come (suc most) [] all enough b at taken = record { entries = []; whole = refl; count = omega arith; are = refl }
loads_come (suc most) (x ∷ l) all enough b at taken =
    record_comes most (loads_come most) (x ∷ l) all (omega arith) enough b at taken (first_record (x ∷ l)) refl

-- ---- where a refusal fits behind records that are taken, it fits behind fewer of them

-- a record that is taken is not refused
none_fits : (b m : Contents) (e : Entry) (rest : List ℕ) (at : ℕ) (r : Refusal) → IsTaken b e m → RecordFits b (record_bytes e ++ rest) at r → ⊥
none_fits b m e rest at r is fits = none r fits
  where
    accepted : first_answer b (first_record (record_bytes e ++ rest)) ≡ Ok tt
    accepted = ap (first_answer b) (first_record-record_bytes e rest) ∙ ap (λ t. t.answer) (taken_to b m e is)

    none : (s : Refusal) → ¬ RecordFits b (record_bytes e ++ rest) at s
    none = subst (λ a. Judged (RecordFits b (record_bytes e ++ rest) at) (refusal_of (record_refusal at) a)) accepted (record_judged b (record_bytes e ++ rest) at)

-- with one record that is taken, it fits behind that one
behind_one : (b m : Contents) (e : Entry) (bytes : List ℕ) (at : ℕ) (r : Refusal) → IsTaken b e m → FitsBehind b (record_bytes e ++ bytes) at r → FitsBehind m bytes (at + record_length e) r
behind_one b m e bytes at r is f = go f.entries f.splits f.taken f.fits
  where
    go : (es : List Entry) → record_bytes e ++ bytes ≡ file_bytes es ++ f.rest → AreTaken b es f.later → RecordFits f.later f.rest (at + length (file_bytes es)) r → FitsBehind m bytes (at + record_length e) r
    go [] splits are fits =
        let here : RecordFits b (record_bytes e ++ bytes) (at + 0) r = subst (λ l. RecordFits b l (at + 0) r) (sym splits) (subst (λ s. RecordFits s f.rest (at + 0) r) (sym are) fits) in
        absurd (none_fits b m e bytes (at + 0) r is here)
    go (d ∷ ds) splits (k, one, are) fits =
        let all : record_bytes e ++ bytes ≡ record_bytes d ++ (file_bytes ds ++ f.rest) = splits ∙ append_assoc (record_bytes d) (file_bytes ds) f.rest in
        let first : Some e ≡ Some d = sym (first_record-record_bytes e bytes) ∙ ap first_record all ∙ first_record-record_bytes d (file_bytes ds ++ f.rest) in
        let same : e ≡ d = cc in
        let tail : bytes ≡ file_bytes ds ++ f.rest = sym (drop-record_bytes e bytes) ∙ ap₂ (λ x l. drop (record_length x) l) same all ∙ drop-record_bytes d (file_bytes ds ++ f.rest) in
        let states : m ≡ k = ap (λ t. t.state) (sym (taken_to b m e is) ∙ ap (record_turn b) same ∙ taken_to b k d one) in
        let far : at + length (file_bytes (d ∷ ds)) ≡ at + record_length e + length (file_bytes ds) = omega (arith, length-record_bytes d (file_bytes ds), ap record_length same) in
        record {
          entries = ds;
          rest = f.rest;
          later = f.later;
          splits = tail;
          left = f.left;
          taken = subst (λ s. AreTaken s ds f.later) (sym states) are;
          fits = subst (λ n. RecordFits f.later f.rest n r) far fits;
        }

-- with any of them
behind_all : (es : List Entry) (b c : Contents) (rest : List ℕ) (at : ℕ) (r : Refusal) → AreTaken b es c → FitsBehind b (file_bytes es ++ rest) at r → FitsBehind c rest (at + length (file_bytes es)) r
behind_all [] b c rest at r are f = subst (λ n. FitsBehind c rest n r) (omega arith) (subst (λ s. FitsBehind s rest at r) are f)
behind_all (e ∷ es) b c rest at r (m, is, are) f =
    let all : record_bytes e ++ (file_bytes es ++ rest) ≡ file_bytes (e ∷ es) ++ rest = sym (append_assoc (record_bytes e) (file_bytes es) rest) in
    let one = behind_one b m e (file_bytes es ++ rest) at r is (subst (λ l. FitsBehind b l at r) (sym all) f) in
    subst (λ n. FitsBehind c rest n r) (omega (arith, length-record_bytes e (file_bytes es))) (behind_all es m c rest (at + record_length e) r are one)

-- behind all bytes nothing fits
no_more : (c : Contents) (at : ℕ) (r : Refusal) → FitsBehind c [] at r → ⊥
no_more c at r f = let l = f.left in let s = ap length f.splits in omega (arith, length-append (file_bytes f.entries) f.rest)

-- what fits behind the record that is refused fits that record
at_once : (c : Contents) (rest : List ℕ) (at : ℕ) (d : Refusal) → RecordFits c rest at d → (r : Refusal) → FitsBehind c rest at r → RecordFits c rest at r
at_once c rest at d refused r f = go f.entries f.splits f.taken f.fits
  where
    go : (es : List Entry) → rest ≡ file_bytes es ++ f.rest → AreTaken c es f.later → RecordFits f.later f.rest (at + length (file_bytes es)) r → RecordFits c rest at r
    go [] splits are fits =
        subst (λ n. RecordFits c rest n r) (omega arith) (subst (λ l. RecordFits c l (at + 0) r) (sym splits) (subst (λ s. RecordFits s f.rest (at + 0) r) (sym are) fits))
    go (e ∷ es) splits (m, is, are) fits =
        absurd (none_fits c m e (file_bytes es ++ f.rest) at d is (subst (λ l. RecordFits c l at d) (splits ∙ append_assoc (record_bytes e) (file_bytes es) f.rest) refused))

-- ---- the law

module _ (b : Contents) (file : List ℕ) (c : Contents) (is : blank b ≡ true) where
  filled_not : blank b ≡ false → ⊥
  filled_not h = let e : true ≡ false = sym is ∙ h in cc

  lawful : (r : Result ℕ Stop) → Comes b file 0 0 c r → IsLoading b file r c
  lawful (Ok n) k = record {
    loaded = (is, record { entries = k.entries; whole = k.whole; count = omega (arith, k.count); taken = k.are });
    judged = none;
  }
    where
      none : (s : Refusal) → ¬ LoadFits b file s
      none s (inl f) = filled_not f.0
      none s (inr f) =
          let all : file ≡ file_bytes k.entries ++ [] = k.whole ∙ sym (append-nil (file_bytes k.entries)) in
          no_more c _ s (behind_all k.entries b c [] 0 s k.are (subst (λ l. FitsBehind b l 0 s) all f.1))
  lawful (Err not_blank) k = absurd k
  lawful (Err (at_record place fault n)) k = record {
    loaded = (is, record { entries = k.entries; rest = k.rest; splits = k.splits; left = k.left; count = omega (arith, k.count); taken = k.are; offset = omega (arith, k.offset); refused = k.refused });
    judged = record { fits = inr (is, here); first = first };
  }
    where
      d : Refusal
      d = record_refusal place fault

      here : FitsBehind b file 0 d
      here = record { entries = k.entries; rest = k.rest; later = c; splits = k.splits; left = k.left; taken = k.are; fits = subst (λ n. RecordFits c k.rest n d) k.offset k.refused.fits }

      first : (s : Refusal) → LoadFits b file s → s ≢ d → comes_before d s ≡ true
      first s (inl f) other = absurd (filled_not f.0)
      first s (inr f) other =
          let behind = behind_all k.entries b c k.rest 0 s k.are (subst (λ l. FitsBehind b l 0 s) k.splits f.1) in
          k.refused.first s (at_once c k.rest place d k.refused.fits s (subst (λ n. FitsBehind c k.rest n s) (sym k.offset) behind)) other

-- a book that is not blank
pub filled : (b : Contents) (file : List ℕ) → blank b ≡ false → IsLoading b file (Err not_blank) b
filled b file is = record { loaded = (is, refl); judged = record { fits = inl (is, refl); first = first } }
  where
    first : (s : Refusal) → LoadFits b file s → s ≢ refusal_at Reason'.NotEmpty 0 → comes_before (refusal_at Reason'.NotEmpty 0) s ≡ true
    first s (inl f) other = absurd (other f.1)
    first s (inr f) other = absurd (let e : true ≡ false = sym f.0 ∙ is in cc)

-- of what the records of a file leave and answer, where the book is blank
pub loads_lawful : (b : Contents) (file : List ℕ) → all_bytes file ≡ true → blank b ≡ true → {c : Contents} {r : Result ℕ Stop} → Gives c r (loads (length file) file b 0 0) → IsLoading b file r c
loads_lawful b file all is {c} {r} g =
    subst (λ s. IsLoading b file r s) (sym g.state) (subst (λ a. IsLoading b file a (loads (length file) file b 0 0).state) (sym g.answer)
    (lawful b file _ is _ (loads_come (length file) file all (omega arith) b 0 0)))
