-- The standing that follows from events, and how each event changes it as its call does.
use Rattle.std.proofs.Common.{◌≡◌, ℕ, ◌<◌, ◌≤◌, Bool, true, false, not, ◌&&◌, ◌||◌, eqb, List, [], ◌∷◌, ◌++◌, length, Option, Result, sym, refl, ap, ◌∙◌, subst, ap₂, subst₂, arith, length-append, eq-eqb, ne_eqb}
use Rattle.vocabulary.specs.declared.kind.Kind.{Kind}
use Rattle.vocabulary.specs.declared.name.NameId.{NameId}
use Rattle.vocabulary.specs.Kinds.{kind_of}
use Rattle.vocabulary.specs.Entities.{reseed}
use Rattle.refusals.specs.Turns.{Turn}
use Rattle.terms.specs.declared.«axiom».AxiomKind.{AxiomKind}
use Rattle.terms.specs.Codes.{axiom_kind_of}
use Rattle.terms.specs.Forms.{Rule}
use Rattle.terms.specs.Reading.{read_axiom}
use Rattle.book.specs.declared.book.AxiomId.{AxiomId}
use Rattle.vocabulary.specs.declared.fault.NameFault.{NameFault}
use Rattle.vocabulary.specs.declared.fault.NoSuchName.{NoSuchName}
use Rattle.book.specs.declared.fault.FileFault.{FileFault}
use Rattle.book.specs.declared.fault.NoSuchAxiom.{NoSuchAxiom}
use Rattle.book.specs.Contents.{Contents, reforce}
use Rattle.book.specs.Calls.{with_axiom, naming_call, seeding_call, forcing_call, filing_call}
use Rattle.runs.specs.Steps.{Standing, start}
use Rattle.runs.specs.History.{Event, named, filed, laid_aside, restored, seeded, unseeded, is_still_in_force, is_seeded, status_after, names_made, axioms_filed, book_after, standing_after, if_accepted, if_known, if_read, after_naming, after_filing, after_seeding, after_forcing}
use Rattle.runs.proofs.Numbering.{map_by_number_length, map_by_number_push, map_by_number_same, forced, Switched, designated_switched, forced_switched}
use Rattle.part.proofs.Answered.{with_name, Naming, Filing, Seeding, Forcing, made, not_made, naming_way, filing_way, seeding_way, forcing_way}

-- what follows from the events, with another book
abbrev with_book : List Event → Contents → Standing
with_book past b = record { status = status_after past; book = b }

-- the standing follows from the events, and no number past the names made is seeded
pub record Tells (past : List Event) (s : Standing) : Type 0 where
  pub agrees : s ≡ standing_after past
  pub late : (n : ℕ) → length (names_made past) ≤ n → is_seeded past n ≡ false

-- an empty draft, before any event
pub nothing_told : Tells [] start
nothing_told = record { agrees = refl; late = λ n h. refl }

-- ---- marks

-- begun at m, ended at m
begun : (f : ℕ → Bool) (m : ℕ) → Switched f (λ n. eqb m n || f n) m true
begun f m = record { there = ap (λ t. t || f m) (eq-eqb m m refl); elsewhere = λ n h. ap (λ t. t || f n) (ne_eqb m n (λ e. h (sym e))) }

ended : (f : ℕ → Bool) (m : ℕ) → Switched f (λ n. not (eqb m n) && f n) m false
ended f m = record { there = ap (λ t. not t && f m) (eq-eqb m m refl); elsewhere = λ n h. ap (λ t. not t && f n) (ne_eqb m n (λ e. h (sym e))) }

module _ (past : List Event) (late : (n : ℕ) → length (names_made past) ≤ n → is_seeded past n ≡ false) where
  -- nothing happened
  told_nothing : Tells past (standing_after past)
  told_nothing = record { agrees = refl; late = late }

  -- as many names as were made, as many axioms as were filed
  names_count : length (book_after past).names ≡ length (names_made past)
  names_count = map_by_number_length _ (names_made past)

  axioms_count : length (book_after past).axioms ≡ length (axioms_filed past)
  axioms_count = map_by_number_length _ (axioms_filed past)

  -- ---- the events

  -- the new name is at the end, and not seeded
  told_named : (n : ℕ) (kind : Kind) (label : List ℕ) → Tells (named n kind label ∷ past) (with_book past (with_name (book_after past) kind label))
  told_named n kind label = record {
    agrees =
        ap (λ l. with_book past (record { names = l; axioms = (book_after past).axioms })) (
        ap (λ s. (book_after past).names ++ record { kind = kind; label = label; seeded = s } ∷ []) (sym (late (length (names_made past)) (omega arith))) ∙
        sym (map_by_number_push _ (names_made past) (record { kind = kind; label = label })));
    late = λ m h. late m (omega (arith, h, length-append (names_made past) (record { kind = kind; label = label } ∷ [])));
  }

  -- the new axiom is at the end, in force
  told_filed : (k : ℕ) (r : Rule) → k ≡ length (book_after past).axioms → Tells (filed k r ∷ past) (with_book past (with_axiom (book_after past) r))
  told_filed k r e =
      let g : ℕ → Bool = λ j. eqb k j || is_still_in_force past j in
      let fs = axioms_filed past in
      let last : g (length fs) ≡ true = ap (λ s. s || is_still_in_force past (length fs)) (eq-eqb k (length fs) (e ∙ axioms_count)) in
      let same : forced (is_still_in_force past) fs ≡ forced g fs =
      map_by_number_same _ _ fs (λ j x i. ap (λ s. record { states = x; in_force = s || is_still_in_force past j }) (sym (ne_eqb k j (λ q. omega (arith, q, e, axioms_count, i))))) in
      record {
        agrees =
            ap (λ l. with_book past (record { names = (book_after past).names; axioms = l })) (
            ap₂ (λ l s. l ++ record { states = r; in_force = s } ∷ []) same (sym last) ∙
            sym (map_by_number_push _ fs r));
        late = late;
      }

  -- one name's mark changes
  told_seeded : (n : ℕ) → n < length (book_after past).names → Tells (seeded n ∷ past) (with_book past (record { names = reseed (book_after past).names n true; axioms = (book_after past).axioms }))
  told_seeded n h = record {
    agrees = ap (λ l. with_book past (record { names = l; axioms = (book_after past).axioms })) (sym (designated_switched _ _ (names_made past) n true (begun (is_seeded past) n)));
    late = λ m i. (begun (is_seeded past) n).elsewhere m (λ q. omega (arith, q, h, i, names_count)) ∙ late m i;
  }

  told_unseeded : (n : ℕ) → n < length (book_after past).names → Tells (unseeded n ∷ past) (with_book past (record { names = reseed (book_after past).names n false; axioms = (book_after past).axioms }))
  told_unseeded n h = record {
    agrees = ap (λ l. with_book past (record { names = l; axioms = (book_after past).axioms })) (sym (designated_switched _ _ (names_made past) n false (ended (is_seeded past) n)));
    late = λ m i. (ended (is_seeded past) n).elsewhere m (λ q. omega (arith, q, h, i, names_count)) ∙ late m i;
  }

  -- one axiom's mark changes
  told_restored : (k : ℕ) → Tells (restored k ∷ past) (with_book past (record { names = (book_after past).names; axioms = reforce (book_after past).axioms k true }))
  told_restored k = record {
    agrees = ap (λ l. with_book past (record { names = (book_after past).names; axioms = l })) (sym (forced_switched _ _ (axioms_filed past) k true (begun (is_still_in_force past) k)));
    late = late;
  }

  told_aside : (k : ℕ) → Tells (laid_aside k ∷ past) (with_book past (record { names = (book_after past).names; axioms = reforce (book_after past).axioms k false }))
  told_aside k = record {
    agrees = ap (λ l. with_book past (record { names = (book_after past).names; axioms = l })) (sym (forced_switched _ _ (axioms_filed past) k false (ended (is_still_in_force past) k)));
    late = late;
  }

  -- ---- the calls

  -- an accepted call is told by its event, a refused one by none
  names_there : (code : ℕ) (label : List ℕ) → Tells (after_naming past code label) (with_book past (naming_call (book_after past) code label).state)
  names_there code label = go (naming_way (book_after past) code label)
    where
      Says : Option Kind → Turn Contents (Result NameId NameFault) → Type 0
      Says o turn = Tells (if_accepted past turn.answer (λ id. if_known past o (λ kind. named id.0 kind label ∷ past))) (with_book past turn.state)

      go : Naming (book_after past) code label → Says (kind_of code) (naming_call (book_after past) code label)
      go (made kind can done) = subst₂ Says (sym can.kind_is) (sym done) (told_named _ kind label)
      go (not_made f done) = subst (Says (kind_of code)) (sym done) told_nothing

  files_there : (code : ℕ) (body : List ℕ) → Tells (after_filing past code body) (with_book past (filing_call (book_after past) code body).state)
  files_there code body = go (filing_way (book_after past) code body)
    where
      Says : Option AxiomKind → Turn Contents (Result AxiomId FileFault) → Type 0
      Says o turn = Tells (if_accepted past turn.answer (λ id. if_known past o (λ kind. if_read past (read_axiom body (book_after past).names kind) (λ r. filed id.0 r ∷ past)))) (with_book past turn.state)

      go : Filing (book_after past) code body → Says (axiom_kind_of code) (filing_call (book_after past) code body)
      go (made kind r is short can done) =
          subst₂ Says (sym is) (sym done)
          (subst (λ out. Tells (if_read past out (λ r. filed (length (book_after past).axioms) r ∷ past)) (with_book past (with_axiom (book_after past) r))) (sym can.read) (told_filed _ r refl))
      go (not_made f done) = subst (Says (axiom_kind_of code)) (sym done) told_nothing

  -- seeding and unseeding, laying aside and restoring: the event e, told where the call is accepted
  seeds_there : (e : Event) (n : ℕ) (on : Bool) → (n < length (book_after past).names → Tells (e ∷ past) (with_book past (record { names = reseed (book_after past).names n on; axioms = (book_after past).axioms }))) → Tells (after_seeding past n on e) (with_book past (seeding_call (book_after past) n on).state)
  seeds_there e n on told = go (seeding_way (book_after past) n on)
    where
      Says : Turn Contents (Result (Unit {0}) NoSuchName) → Type 0
      Says turn = Tells (if_accepted past turn.answer (λ x. e ∷ past)) (with_book past turn.state)

      go : Seeding (book_after past) n on → Says (seeding_call (book_after past) n on)
      go (made h done) = subst Says (sym done) (told h)
      go (not_made f done) = subst Says (sym done) told_nothing

  forces_there : (e : Event) (k : ℕ) (on : Bool) → Tells (e ∷ past) (with_book past (record { names = (book_after past).names; axioms = reforce (book_after past).axioms k on })) → Tells (after_forcing past k on e) (with_book past (forcing_call (book_after past) k on).state)
  forces_there e k on told = go (forcing_way (book_after past) k on)
    where
      Says : Turn Contents (Result (Unit {0}) NoSuchAxiom) → Type 0
      Says turn = Tells (if_accepted past turn.answer (λ x. e ∷ past)) (with_book past turn.state)

      go : Forcing (book_after past) k on → Says (forcing_call (book_after past) k on)
      go (made done) = subst Says (sym done) told
      go (not_made f done) = subst Says (sym done) told_nothing

-- ---- any standing that the events tell

module _ {past : List Event} {s : Standing} (t : Tells past s) where
  -- what is told of the standing that follows from the events is told of the one that agrees with it
  elsewhere : (later : List Event) (next : Contents → Contents) → Tells later (with_book past (next (book_after past))) → Tells later (record { status = s.status; book = next s.book })
  elsewhere later next told = subst (λ (x : Standing). Tells later (record { status = x.status; book = next x.book })) (sym t.agrees) told

  pub naming_told : (code : ℕ) (label : List ℕ) → Tells (after_naming past code label) (record { status = s.status; book = (naming_call s.book code label).state })
  naming_told code label = elsewhere _ (λ b. (naming_call b code label).state) (names_there past t.late code label)

  pub filing_told : (code : ℕ) (body : List ℕ) → Tells (after_filing past code body) (record { status = s.status; book = (filing_call s.book code body).state })
  filing_told code body = elsewhere _ (λ b. (filing_call b code body).state) (files_there past t.late code body)

  pub seeding_told : (n : ℕ) → Tells (after_seeding past n true (seeded n)) (record { status = s.status; book = (seeding_call s.book n true).state })
  seeding_told n = elsewhere _ (λ b. (seeding_call b n true).state) (seeds_there past t.late (seeded n) n true (told_seeded past t.late n))

  pub unseeding_told : (n : ℕ) → Tells (after_seeding past n false (unseeded n)) (record { status = s.status; book = (seeding_call s.book n false).state })
  unseeding_told n = elsewhere _ (λ b. (seeding_call b n false).state) (seeds_there past t.late (unseeded n) n false (told_unseeded past t.late n))

  pub restoring_told : (k : ℕ) → Tells (after_forcing past k true (restored k)) (record { status = s.status; book = (forcing_call s.book k true).state })
  restoring_told k = elsewhere _ (λ b. (forcing_call b k true).state) (forces_there past t.late (restored k) k true (told_restored past t.late k))

  pub laying_told : (k : ℕ) → Tells (after_forcing past k false (laid_aside k)) (record { status = s.status; book = (forcing_call s.book k false).state })
  laying_told k = elsewhere _ (λ b. (forcing_call b k false).state) (forces_there past t.late (laid_aside k) k false (told_aside past t.late k))
