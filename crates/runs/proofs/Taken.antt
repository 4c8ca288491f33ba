-- Loading: each record that was taken did what its call does.
use Rattle.std.proofs.Common.{◌≡◌, ℕ, zero, suc, ◌+◌, ◌≤◌, Bool, true, false, cond, eqb, List, [], ◌∷◌, length, take, drop, get_or, Some, None, Ok, Err, Option, Result, sym, refl, ap, ◌∙◌, subst, arith}
use Rattle.std.proofs.lemmas.Bool.{cond-true, cond-false, le-ltb}
use Rattle.refusals.specs.Turns.{Turn, accepted_turn, refused_turn}
use Rattle.terms.specs.declared.«axiom».AxiomKind.{AxiomKind}
use Rattle.terms.specs.declared.«axiom».AxiomKind.TheVariants.{Inclusion, Equivalence, RoleInclusion, Transitive, Functional, ConceptAssertion, RoleAssertion}
use Rattle.terms.specs.Codes.{axiom_kind_of, kind_number}
use Rattle.terms.specs.Numbers.{number_of, number_at}
use Rattle.codec.specs.Bodies.{longest_body}
use Rattle.book.specs.Contents.{Contents}
use Rattle.book.specs.Calls.{blank, naming_call, seeding_call}
use Rattle.records.specs.declared.fault.RecordFault.{RecordFault}
use Rattle.records.specs.declared.fault.RecordFault.TheVariants.{CutShort}
use Rattle.records.specs.declared.kind.RecordKind.{RecordKind}
use Rattle.records.specs.declared.kind.RecordKind.TheVariants as Kind'
use Rattle.records.specs.Files.{Entry, record_length, first_record, after_entry, entries_from, entries_of}
use Rattle.records.specs.Kinds.{name_kind, seed_kind, record_number}
use Rattle.records.specs.Loading.{Loaded, record_turn, after_turn, after_record, loads, loading}
use Rattle.records.specs.Stops.{not_blank, at_record}
use Rattle.records.specs.Taking.{IsNaming, IsFiling, IsSeeding, IsAskedCall, IsTaken}
use Rattle.records.proofs.Asked.{taken_from}
use Rattle.records.proofs.Near.{record_near}
use Rattle.part.proofs.Answered.{filed_as}
use Rattle.part.proofs.Ordered.{kind_apart}
use Rattle.runs.specs.Steps.{Standing, draft}
use Rattle.runs.specs.History.{Event, seeded, taken_count, after_naming, after_filing, after_seeding, after_record_event, after_records, after_loading}
use Rattle.runs.proofs.Telling.{Tells, naming_told, filing_told, seeding_told}

-- a draft with these contents is told by the events
abbrev TellsDraft : List Event → Contents → Type 0
TellsDraft past b = Tells past (record { status = draft; book = b })

-- ---- one record

module _ {past : List Event} {b c : Contents} (e : Entry) (t : TellsDraft past b) where
  -- what a call leaves is what its acceptance says
  left : {A F : Type 0} (later : List Event) (turn : Turn Contents (Result A F)) (x : A) → turn ≡ accepted_turn c x → TellsDraft later turn.state → TellsDraft later c
  left later turn x is told = subst (TellsDraft later) (ap (λ u. u.state) is) told

  name_told : IsNaming b e.body c → TellsDraft (after_naming past (get_or e.body 0 0) (drop 1 e.body)) c
  name_told n = subst (λ l. TellsDraft (after_naming past (get_or l 0 0) (drop 1 l)) c) (sym n.is_body) (left _ (naming_call b n.kind n.label) n.id n.accepted (naming_told t n.kind n.label))

  seed_told : IsSeeding b e.body c → TellsDraft (after_seeding past (number_at e.body 0) true (seeded (number_at e.body 0))) c
  seed_told s = subst (λ l. TellsDraft (after_seeding past (number_at l 0) true (seeded (number_at l 0))) c) (sym s.is_body) (left _ (seeding_call b (number_of s.low s.high) true) tt s.accepted (seeding_told t (number_of s.low s.high)))

  axiom_told : (k : AxiomKind) → e.kind ≡ kind_number k → length e.body ≤ longest_body → IsFiling b e.body c k → TellsDraft (after_filing past e.kind e.body) c
  axiom_told k is short f =
      let known : axiom_kind_of e.kind ≡ Some k = ap axiom_kind_of is ∙ kind_again k in
      let state = ap (λ u. u.state) (filed_as b e.kind e.body k known (le-ltb longest_body (length e.body) short)) ∙ ap (λ u. u.state) f.accepted in
      subst (TellsDraft (after_filing past e.kind e.body)) state (filing_told t e.kind e.body)
    where
      kind_again : (j : AxiomKind) → axiom_kind_of (kind_number j) ≡ Some j
      kind_again Inclusion = refl
      kind_again Equivalence = refl
      kind_again RoleInclusion = refl
      kind_again Transitive = refl
      kind_again Functional = refl
      kind_again ConceptAssertion = refl
      kind_again RoleAssertion = refl

  -- the events of a record, by its kind
  record_told : IsTaken b e c → TellsDraft (after_record_event past e) c
  record_told is = go is.kind (sym is.known) is.call
    where
      go : (k : RecordKind) → e.kind ≡ record_number k → IsAskedCall b e.body c k → TellsDraft (after_record_event past e) c
      go Kind'.Name at call = subst (λ l. TellsDraft l c) (sym (cond-true _ _ _ (ap (λ n. eqb n name_kind) at))) (name_told call)
      go Kind'.Seed at call = subst (λ l. TellsDraft l c) (sym (cond-false _ _ _ (ap (λ n. eqb n name_kind) at) ∙ cond-true _ _ _ (ap (λ n. eqb n seed_kind) at))) (seed_told call)
      go (Kind'.Axiom k) at call =
          subst (λ l. TellsDraft l c)
          (sym (cond-false _ _ _ (ap (λ n. eqb n name_kind) at ∙ (kind_apart k).0) ∙ cond-false _ _ _ (ap (λ n. eqb n seed_kind) at ∙ (kind_apart k).1)))
          (axiom_told k at is.short call)

-- ---- a file

-- so many of these records were taken, and they tell what the loading leaves
record Comes (entries : List Entry) (past : List Event) (taken : ℕ) (turn : Loaded) : Type 0 where
  more : ℕ
  count : taken_count turn.answer ≡ taken + more
  tells : TellsDraft (after_records past (take more entries)) turn.state

-- what loading any bytes comes to, whatever was taken before
abbrev AllCome : ℕ → Type 0
AllCome most = (bytes : List ℕ) (b : Contents) (at taken : ℕ) (past : List Event) → TellsDraft past b → Comes (entries_from most bytes) past taken (loads most bytes b at taken)

module _ (most : ℕ) (later_come : AllCome most) (bytes : List ℕ) (b : Contents) (at taken : ℕ) (past : List Event) (t : TellsDraft past b) where
  -- none was taken
  none_comes : (entries : List Entry) (fault : RecordFault) (c : Contents) → c ≡ b → Comes entries past taken (refused_turn c (at_record at fault taken))
  none_comes entries fault c same = record { more = 0; count = omega arith; tells = subst (TellsDraft past) (sym same) t }

  -- the first was taken, or is refused
  turn_comes : (e : Entry) (r : Result (Unit {0}) RecordFault) → (record_turn b e).answer ≡ r → Comes (e ∷ entries_from most (drop (record_length e) bytes)) past taken (after_turn (λ c. loads most (drop (record_length e) bytes) c (at + record_length e)) at taken (record_turn b e).state r)
  turn_comes e (Err fault) is = none_comes _ fault _ ((record_near at b e).same fault is)
  turn_comes e (Ok u) is =
      let m = (record_turn b e).state in
      let accepted : record_turn b e ≡ accepted_turn m tt = ap (λ a. record { state = m; answer = a }) is in
      let c = later_come (drop (record_length e) bytes) m (at + record_length e) (taken + 1) (after_record_event past e) (record_told e t (taken_from b m e accepted)) in
      record { more = suc c.more; count = omega (arith, c.count); tells = c.tells }

  -- or it is cut short
  record_comes : (o : Option Entry) → Comes (after_entry (entries_from most) bytes o) past taken (after_record (loads most) bytes b at taken o)
  record_comes None = none_comes _ CutShort _ refl
  record_comes (Some e) = turn_comes e (record_turn b e).answer refl

loads_come : (most : ℕ) → AllCome most
loads_come zero bytes b at taken past t = record { more = 0; count = omega arith; tells = t }
loads_come (suc most) [] b at taken past t = record { more = 0; count = omega arith; tells = t }
loads_come (suc most) (x ∷ l) b at taken past t = record_comes most (loads_come most) (x ∷ l) b at taken past t (first_record (x ∷ l))

-- the whole loading; a book with something in it takes no record
pub loading_told : {past : List Event} {b : Contents} → TellsDraft past b → (bytes : List ℕ) → TellsDraft (after_loading past bytes) (loading b bytes).state
unfolding loading
loading_told {past} {b} t bytes =
    subst (λ (x : Standing). TellsDraft (after_records past (take (taken_count (loading x.book bytes).answer) (entries_of bytes))) (loading b bytes).state) t.agrees (go (blank b))
  where
    Says : Loaded → Type 0
    Says turn = TellsDraft (after_records past (take (taken_count turn.answer) (entries_of bytes))) turn.state

    go : (empty : Bool) → Says (cond empty (loads (length bytes) bytes b 0 0) (refused_turn b not_blank))
    go true =
        let c = loads_come (length bytes) bytes b 0 0 past t in
        let all : taken_count (loads (length bytes) bytes b 0 0).answer ≡ c.more = omega (arith, c.count) in
        subst (λ n. TellsDraft (after_records past (take n (entries_of bytes))) (loads (length bytes) bytes b 0 0).state) (sym all) c.tells
    go false = t
