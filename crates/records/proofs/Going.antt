-- One record after the other.
use Rattle.std.proofs.Common.{◌≡◌, ℕ, zero, suc, ◌+◌, ◌<◌, ◌≤◌, Bool, true, false, cond, leb, List, [], ◌∷◌, length, take, drop, IfOk, IfErr, Some, None, Ok, Err, Result, sym, refl, ap, ap₂, ◌∙◌, subst, arith, length-drop, length-take, drop-drop}
use Rattle.std.proofs.lemmas.Bool.{leb-true}
use Rattle.std.proofs.lemmas.List.{drop_all}
use Rattle.refusals.specs.Turns.{accepted_turn, refused_turn, Gives}
use Rattle.terms.specs.Numbers.{number_of}
use Rattle.book.specs.declared.draft.Draft.{Draft}
use Rattle.book.specs.Contents.{Contents}
use Rattle.book.specs.Calls.{contents}
use Rattle.records.specs.declared.fault.RecordFault.{RecordFault}
use Rattle.records.specs.declared.reader.Record.{Record}
use Rattle.records.specs.declared.reader.RecordReader.{RecordReader}
use Rattle.records.specs.Faults.{place_in}
use Rattle.records.specs.Files.{Entry, head_length, record_length, first_record}
use Rattle.records.specs.Loading.{Loaded, record_turn, after_record, after_turn, loads}
use Rattle.records.specs.Reading.{Yields, entry_of}
use Rattle.records.specs.Steps.{Stepped, rest_of}
use Rattle.records.specs.Stops.{at_record}
use Rattle.records.proofs.Near.{record_near}

-- a record lies in the bytes that it begins
pub entry_size : (bytes : List ℕ) (e : Entry) → first_record bytes ≡ Some e → record_length e ≤ length bytes
entry_size [] e h = absurd (cc)
entry_size (x ∷ []) e h = absurd (cc)
entry_size (x ∷ y ∷ []) e h = absurd (cc)
entry_size (x ∷ y ∷ z ∷ []) e h = absurd (cc)
entry_size (x ∷ y ∷ z ∷ w ∷ behind) e h = go (leb size (length behind)) refl h
  where
    size : ℕ
    size = number_of x y

    go : (t : Bool) → leb size (length behind) ≡ t → cond t (Some (record { kind = number_of z w; body = take size behind })) None ≡ Some e → record_length e ≤ length (x ∷ y ∷ z ∷ w ∷ behind)
    go false is i = absurd (cc)
    go true is i =
        let same : record { kind = number_of z w; body = take size behind } ≡ e = cc in
        let long : length (take size behind) ≡ length e.body = ap (λ (d : Entry). length d.body) same in
        omega (arith, long, length-take size behind, leb-true size (length behind) is)

-- where the head or the body is cut short
pub stepped_cut : (d : Draft) {from to : RecordReader} (f : RecordFault) (r : Result (Unit {0}) RecordFault) → r ≡ Err f → Yields from (Err f) to → Stepped d from r d to
stepped_cut d {from} {to} f r is y = subst (λ a. Stepped d from a d to) (sym is) (record {
  file = y.file;
  farther = tt;
  near = subst (λ g. place_in from.at g ≤ length from.file.now) (sym y.reads.1) from.inside;
  goes = λ loads taken.
      ap (after_record loads (rest_of from) (contents d) from.at taken) y.reads.0 ∙
      ap (λ g. refused_turn (contents d) (at_record from.at g taken)) (sym y.reads.1);
})

module _ {from to : RecordReader} {x : Record} (y : Yields from (Ok x) to) where
  abbrev e : Entry
  e = entry_of x

  size : from.at + record_length e ≤ length from.file.now
  size = omega (arith, entry_size (rest_of from) e y.reads.0, length-drop from.at from.file.now)

  farther_on : (r : Result (Unit {0}) RecordFault) → IfOk r (λ u. from.at + head_length ≤ to.at)
  farther_on (Ok u) = omega (arith, y.reads.1)
  farther_on (Err f) = tt

  near_by : (b : Contents) (r : Result (Unit {0}) RecordFault) → r ≡ (record_turn b e).answer → IfErr r (λ f. place_in from.at f ≤ length from.file.now)
  near_by b (Ok u) h = tt
  near_by b (Err f) h = omega (arith, size, (record_near from.at b e).near f (sym h))

  -- what is left is what the reader has before it now
  left : drop (record_length e) (rest_of from) ≡ rest_of to
  left = drop-drop (record_length e) from.at from.file.now ∙ ap₂ drop (sym y.reads.1) (sym y.file)

  -- a record was read, and taken or refused
  pub stepped : {before later : Draft} (r : Result (Unit {0}) RecordFault) → Gives (contents later) r (record_turn (contents before) e) → Stepped before from r later to
  stepped {before} {later} r g =
      let b = contents before in
      record {
        file = y.file;
        farther = farther_on r;
        near = near_by b r g.answer;
        goes = λ loads taken.
            ap (after_record loads (rest_of from) b from.at taken) y.reads.0 ∙
            ap₂ (λ bytes at. after_turn (λ c. loads bytes c at) from.at taken (record_turn b e).state (record_turn b e).answer) left (sym y.reads.1) ∙
            ap₂ (λ s a. after_turn (λ c. loads (rest_of to) c to.at) from.at taken s a) (sym g.state) (sym g.answer);
      }

-- ---- the loop: from its state the loading comes to what it comes to from the beginning

pub record Goes (file : List ℕ) (b : Contents) (at taken : ℕ) (whole : Loaded) : Type 0 where
  pub few : taken ≤ at
  pub most : ℕ
  pub enough : length file ≤ at + most
  pub comes : loads most (drop at file) b at taken ≡ whole

pub begins : (file : List ℕ) (b : Contents) → Goes file b 0 0 (loads (length file) file b 0 0)
begins file b = record { few = omega arith; most = length file; enough = omega arith; comes = refl }

-- with a record ahead
there : (most : ℕ) (bytes : List ℕ) (b : Contents) (at taken : ℕ) → 0 < length bytes → loads (suc most) bytes b at taken ≡ after_record (loads most) bytes b at taken (first_record bytes)
there most [] b at taken h = absurd (omega arith)
there most (x ∷ more) b at taken h = refl

ahead : (most : ℕ) (file : List ℕ) (b : Contents) (at taken : ℕ) → at < length file → length file ≤ at + most → (m : ℕ) × (length file ≤ at + suc m) × (loads most (drop at file) b at taken ≡ after_record (loads m) (drop at file) b at taken (first_record (drop at file)))
ahead zero file b at taken h e = absurd (omega arith)
ahead (suc m) file b at taken h e = (m, e, there m (drop at file) b at taken (omega (arith, length-drop at file)))

-- a step, told of the file
abbrev StepsIn : Draft → RecordReader → Result (Unit {0}) RecordFault → Draft → RecordReader → (List ℕ → Contents → ℕ → ℕ → Loaded) → ℕ → List ℕ → List ℕ → Type 0
StepsIn before from r later to next taken l m =
    after_record next (drop from.at l) (contents before) from.at taken (first_record (drop from.at l)) ≡
    after_turn (λ c. next (drop to.at m) c to.at) from.at taken (contents later) r

module _ {file : List ℕ} {before later : Draft} {from to : RecordReader} {taken : ℕ} {whole : Loaded} (same : from.file.now ≡ file) (h : from.at < length file) (g : Goes file (contents before) from.at taken whole) where
  told : (r : Result (Unit {0}) RecordFault) (next : List ℕ → Contents → ℕ → ℕ → Loaded) → Stepped before from r later to → StepsIn before from r later to next taken file file
  told r next s =
      subst (λ m. StepsIn before from r later to next taken file m) (s.file ∙ same)
      (subst (λ l. StepsIn before from r later to next taken l to.file.now) same (s.goes next taken))

  pub goes_on : (u : Unit {0}) → Stepped before from (Ok u) later to → Goes file (contents later) to.at (taken + 1) whole
  goes_on u s =
      let a = ahead g.most file (contents before) from.at taken h g.enough in
      record {
        few = omega (arith, g.few, s.farther);
        most = a.0;
        enough = omega (arith, a.1, s.farther);
        comes = sym (told (Ok u) (loads a.0) s) ∙ sym a.2 ∙ g.comes;
      }

  pub goes_stop : (f : RecordFault) → Stepped before from (Err f) later to → refused_turn (contents later) (at_record from.at f taken) ≡ whole
  goes_stop f s =
      let a = ahead g.most file (contents before) from.at taken h g.enough in
      sym (told (Err f) (loads a.0) s) ∙ sym a.2 ∙ g.comes

-- at the file's end
pub goes_done : {file : List ℕ} {b : Contents} {at taken : ℕ} {whole : Loaded} → length file ≤ at → Goes file b at taken whole → accepted_turn b taken ≡ whole
goes_done {file} {b} {at} {taken} {whole} h g = ended g.most (drop at file) (drop_all at file h) ∙ g.comes
  where
    ended : (most : ℕ) (bytes : List ℕ) → bytes ≡ [] → accepted_turn b taken ≡ loads most bytes b at taken
    ended zero bytes e = refl
    ended (suc m) [] e = refl
    ended (suc m) (x ∷ more) e = absurd (cc)
