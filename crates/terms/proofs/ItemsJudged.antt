-- The items of a body are read exactly if no refusal fits one of them; else the one that decides is told.
use Rattle.std.proofs.Common.{◌≡◌, ◌≢◌, ⊎_elim, ℕ, zero, suc, ◌+◌, ◌<◌, ◌≤◌, Bool, true, false, cond, eqb, leb, List, length, get_or, Some, None, Option, slice_get, option_and_then, sym, refl, ap, ◌∙◌, subst, arith}
use Rattle.std.proofs.lemmas.Bool.{leb-true, leb-false, lt-ltb, le-ltb, eqb-true, eqb-false, cases_lt, false≢true, cond-true, cond-false}
use Rattle.std.proofs.lemmas.Option.{slice_get-get_or, slice_get_past}
use Rattle.refusals.specs.declared.reason.Reason.{Reason}
use Rattle.refusals.specs.declared.reason.Reason.TheVariants as Reason'
use Rattle.refusals.specs.declared.refusal.Refusal.{Refusal}
use Rattle.refusals.specs.Refusals.{reason_number}
use Rattle.refusals.specs.Choice.{Decides}
use Rattle.vocabulary.specs.declared.kind.Kind.{Kind}
use Rattle.vocabulary.specs.declared.kind.Kind.TheVariants as Kind'
use Rattle.vocabulary.specs.declared.name.NameId.{NameId}
use Rattle.vocabulary.specs.Kinds.{same_kind}
use Rattle.vocabulary.specs.Entities.{Entity, kind_at}
use Rattle.refusals.proofs.Somewhere.{any_none}
use Rattle.terms.specs.declared.«axiom».AxiomKind.{AxiomKind}
use Rattle.terms.specs.declared.«axiom».AxiomKind.TheVariants.{Inclusion, Equivalence, RoleInclusion, Transitive, Functional, ConceptAssertion, RoleAssertion}
use Rattle.terms.specs.declared.code.Code.{Code}
use Rattle.terms.specs.declared.code.Code.TheVariants.{Nothing, Everything, Concept, Just, Not, And, Exists, AtLeast}
use Rattle.terms.specs.declared.code.Direction.{Direction}
use Rattle.terms.specs.declared.code.Direction.TheVariants.{Forward, Inverse}
use Rattle.terms.specs.declared.fault.ItemFault.{ItemFault}
use Rattle.terms.specs.declared.fault.ItemFault.TheVariants as Fault'
use Rattle.terms.specs.Limits.{most_levels}
use Rattle.terms.specs.Numbers.{number_of, number_at}
use Rattle.terms.specs.Codes.{code_of, direction_of}
use Rattle.terms.specs.Forms.{Form, Rule}
use Rattle.terms.specs.Reading.{Outcome, got, bad, next, value_or_fault, is_of_kind, read_byte, read_number, read_direction, read_count, read_name, read_role, read_rest, read_term, read_whole, read_axiom}
use Rattle.terms.specs.Refusals.{item_refusal}
use Rattle.terms.specs.Layout.{Item, code, count, direction, number, width, Layout, empty_layout, item_layout, role_layout, parts_layout, coded_layout, term_layout, whole_layout, layout}
use Rattle.terms.specs.Fitting.{ItemFits}
use Rattle.terms.proofs.Laying.{Wrong, Fits, one, one_fits, one_decides, Lies, lies_ends, lies_breaks, lies_item, lies_followed, Agrees, agrees_behind, agrees_next}

-- a choice by numbers that gives nothing
passed_over : {X : Type 0} (b n : ℕ) (x : X) (rest : Option X) → cond (eqb b n) (Some x) rest ≡ None → (b ≢ n) × (rest ≡ None)
passed_over b n x rest = go (eqb b n) refl
  where
    go : (t : Bool) → eqb b n ≡ t → cond t (Some x) rest ≡ None → (b ≢ n) × (rest ≡ None)
    go true e h = absurd (let z : ◌≡◌ {A = ℕ} 0 1 = cc in omega arith)
    go false e h = (eqb-false b n e, h)

-- and one that gives something
reached : {X : Type 0} (b n : ℕ) (x : X) (rest : Option X) (y : X) (most : ℕ) → n ≤ most → (rest ≡ Some y → b ≤ most) → cond (eqb b n) (Some x) rest ≡ Some y → b ≤ most
reached b n x rest y most l later = go (eqb b n) refl
  where
    go : (t : Bool) → eqb b n ≡ t → cond t (Some x) rest ≡ Some y → b ≤ most
    go true e h = let s = eqb-true b n e in omega arith
    go false e h = later h

nothing_reached : {X : Type 0} (b : ℕ) (y : X) (most : ℕ) → None ≡ Some y → b ≤ most
nothing_reached b y most h = absurd (let z : ◌≡◌ {A = ℕ} 0 1 = cc in omega arith)

code_known : (b : ℕ) (c : Code) → code_of b ≡ Some c → b ≤ 7
code_known b c =
    let more = λ (n : ℕ) (x : Code) (rest : Option Code) (l : n ≤ 7) (later : rest ≡ Some c → b ≤ 7). reached b n x rest c 7 l later in
    more 0 Nothing _ (omega arith)
    (more 1 Everything _ (omega arith)
    (more 2 Concept _ (omega arith)
    (more 3 Just _ (omega arith)
    (more 4 Not _ (omega arith)
    (more 5 And _ (omega arith)
    (more 6 Exists _ (omega arith)
    (more 7 AtLeast _ (omega arith) (nothing_reached b c 7))))))))

code_unknown : (b : ℕ) → code_of b ≡ None → 7 < b
code_unknown b h =
    let p0 = passed_over b 0 Nothing _ h in
    let p1 = passed_over b 1 Everything _ p0.1 in
    let p2 = passed_over b 2 Concept _ p1.1 in
    let p3 = passed_over b 3 Just _ p2.1 in
    let p4 = passed_over b 4 Not _ p3.1 in
    let p5 = passed_over b 5 And _ p4.1 in
    let p6 = passed_over b 6 Exists _ p5.1 in
    let p7 = passed_over b 7 AtLeast _ p6.1 in
    omega (arith, p0.0, p1.0, p2.0, p3.0, p4.0, p5.0, p6.0, p7.0)

direction_known : (b : ℕ) (d : Direction) → direction_of b ≡ Some d → b ≤ 1
direction_known b d =
    reached b 0 Forward _ d 1 (omega arith) (reached b 1 Inverse _ d 1 (omega arith) (nothing_reached b d 1))

direction_unknown : (b : ℕ) → direction_of b ≡ None → 1 < b
direction_unknown b h =
    let p0 = passed_over b 0 Forward _ h in
    let p1 = passed_over b 1 Inverse _ p0.1 in
    omega (arith, p0.0, p1.0)

-- a name of the kind wanted
kind_same : (j k : Kind) → same_kind j k ≡ true → j ≡ k
kind_same Kind'.Concept Kind'.Concept h = refl
kind_same Kind'.Role Kind'.Role h = refl
kind_same Kind'.Individual Kind'.Individual h = refl
kind_same Kind'.Concept Kind'.Role h = absurd (false≢true h)
kind_same Kind'.Concept Kind'.Individual h = absurd (false≢true h)
kind_same Kind'.Role Kind'.Concept h = absurd (false≢true h)
kind_same Kind'.Role Kind'.Individual h = absurd (false≢true h)
kind_same Kind'.Individual Kind'.Concept h = absurd (false≢true h)
kind_same Kind'.Individual Kind'.Role h = absurd (false≢true h)

same_again : (k : Kind) → same_kind k k ≡ true
same_again Kind'.Concept = refl
same_again Kind'.Role = refl
same_again Kind'.Individual = refl

kind_right : (o : Option Kind) (k : Kind) → is_of_kind o k ≡ true → o ≡ Some k
kind_right None k h = absurd (false≢true h)
kind_right (Some j) k h = ap Some (kind_same j k h)

kind_wrong : (o : Option Kind) (k : Kind) → is_of_kind o k ≡ false → o ≢ Some k
kind_wrong o k h e = false≢true (sym h ∙ ap (λ p. is_of_kind p k) e ∙ same_again k)

module _ (names : List Entity) (body : List ℕ) where
  abbrev IsWrong : Reason → Item → ℕ → Type 0
  IsWrong = Wrong names body

  abbrev Agree : {X : Type 0} → Outcome X → Layout → Type 0
  Agree = Agrees names body

  -- what may be wrong with each item
  each_code : (P : ℕ → Type 0) (around at : ℕ) → (most_levels ≤ around → P 10) → (length body < at + 1 → P 11) → ((at < length body) × (7 < get_or body at 0) → P 12) → (q : Reason) → IsWrong q (code around) at → P (reason_number q)
  each_code P around at a b c Reason'.TooDeep w = a w
  each_code P around at a b c Reason'.ItemCutShort w = b w
  each_code P around at a b c Reason'.UnknownCode w = c w
  each_code P around at a b c _ w = absurd w

  each_direction : (P : ℕ → Type 0) (at : ℕ) → (length body < at + 1 → P 11) → ((at < length body) × (1 < get_or body at 0) → P 13) → (q : Reason) → IsWrong q direction at → P (reason_number q)
  each_direction P at a b Reason'.ItemCutShort w = a w
  each_direction P at a b Reason'.UnknownDirection w = b w
  each_direction P at a b _ w = absurd w

  each_name : (P : ℕ → Type 0) (k : Kind) (at : ℕ) → (length body < at + 2 → P 11) → ((at + 2 ≤ length body) × (kind_at names (number_at body at) ≢ Some k) → P 14) → (q : Reason) → IsWrong q (number k) at → P (reason_number q)
  each_name P k at a b Reason'.ItemCutShort w = a w
  each_name P k at a b Reason'.WrongName w = b w
  each_name P k at a b _ w = absurd w

  each_count : (P : ℕ → Type 0) (at : ℕ) → (length body < at + 2 → P 11) → ((at + 2 ≤ length body) × (number_at body at ≡ 0) → P 15) → (q : Reason) → IsWrong q count at → P (reason_number q)
  each_count P at a b Reason'.ItemCutShort w = a w
  each_count P at a b Reason'.ZeroCount w = b w
  each_count P at a b _ w = absurd w

  -- an item that is right, and one that is wrong
  agrees_right : {X : Type 0} (v : X) (x : Item) (at : ℕ) → ((q : Reason) → ¬ IsWrong q x at) → Agree (got v (at + width x)) (item_layout x at)
  unfolding Agrees
  agrees_right v x at right = (refl, λ s f. right s.reason (one_fits names body x at s f).1)

  agrees_wrong : (X : Type 0) (fault : ItemFault) (x : Item) (at : ℕ) (end : Option ℕ) → Decides (Fits names body (one names body x at)) (item_refusal fault) → Agree {X = X} (bad fault) (record { items = one names body x at; end = end })
  unfolding Agrees
  agrees_wrong X fault x at end h = h

  agrees_last : {X Y : Type 0} (o : Outcome X) (f : X → Y) (l : Layout) → Agree o l → Agree (next o (λ v end. got (f v) end)) l
  unfolding Agrees
  agrees_last (got v end) f l h = h
  agrees_last (bad fault) f l h = h

  agrees_nothing : {X : Type 0} (v : X) (at : ℕ) → Agree (got v at) (empty_layout at)
  unfolding Agrees
  agrees_nothing v at = (refl, λ s f. any_none _ f)

  -- one byte
  byte_there : (start at : ℕ) → at < length body → read_byte body start at ≡ got (get_or body at 0) (at + 1)
  byte_there start at l = cond-true _ _ _ (lt-ltb at (length body) l)

  byte_gone : (start at : ℕ) → length body ≤ at → read_byte body start at ≡ bad (Fault'.CutShort start)
  byte_gone start at l = cond-false _ _ _ (le-ltb at (length body) l)

  -- two bytes
  number_there : (at : ℕ) → at + 2 ≤ length body → read_number body at ≡ got (number_at body at) (at + 2)
  number_there at l =
      ap (λ o. next o (λ low mid. next (read_byte body at mid) (λ high end. got (number_of low high) end))) (byte_there at at (omega arith))
      ∙ ap (λ o. next o (λ high end. got (number_of (get_or body at 0) high) end)) (byte_there at (at + 1) (omega arith))
      ∙ ap (got (number_at body at)) (omega arith)

  number_gone : (at : ℕ) → length body < at + 2 → read_number body at ≡ bad (Fault'.CutShort at)
  number_gone at l =
      ⊎_elim
      (λ here.
      ap (λ o. next o (λ low mid. next (read_byte body at mid) (λ high end. got (number_of low high) end))) (byte_there at at here)
      ∙ ap (λ o. next o (λ high end. got (number_of (get_or body at 0) high) end)) (byte_gone at (at + 1) (omega arith)))
      (λ gone. ap (λ o. next o (λ low mid. next (read_byte body at mid) (λ high end. got (number_of low high) end))) (byte_gone at at gone))
      (cases_lt at (length body))

  direction_agrees : (at : ℕ) → Agree (read_direction body at) (item_layout direction at)
  direction_agrees at =
      ⊎_elim
      (λ here. rw (byte_there at at here) (known here (direction_of (get_or body at 0)) refl))
      (λ gone. rw (byte_gone at at gone) (agrees_wrong _ (Fault'.CutShort at) direction at _ (one_decides names body Reason'.ItemCutShort direction at (omega arith) (each_direction (λ n. 11 ≤ n) at (λ w. omega arith) (λ w. omega arith)))))
      (cases_lt at (length body))
    where
      known : at < length body → (o : Option Direction) → direction_of (get_or body at 0) ≡ o → Agree (value_or_fault o (Fault'.UnknownDirection at) (at + 1)) (item_layout direction at)
      known here (Some d) e =
          let small = direction_known (get_or body at 0) d e in
          agrees_right d direction at (each_direction (λ n. ⊥) at (λ w. omega arith) (λ w. let great = w.1 in omega arith))
      known here None e =
          agrees_wrong _ (Fault'.UnknownDirection at) direction at _ (one_decides names body Reason'.UnknownDirection direction at (here, direction_unknown (get_or body at 0) e) (each_direction (λ n. 13 ≤ n) at (λ w. absurd (omega arith)) (λ w. omega arith)))

  count_agrees : (at : ℕ) → Agree (read_count body at) (item_layout count at)
  count_agrees at =
      ⊎_elim
      (λ gone. rw (number_gone at gone) (agrees_wrong _ (Fault'.CutShort at) count at _ (one_decides names body Reason'.ItemCutShort count at gone (each_count (λ n. 11 ≤ n) at (λ w. omega arith) (λ w. omega arith)))))
      (λ here. rw (number_there at here) (known here (leb 1 (number_at body at)) refl))
      (cases_lt (length body) (at + 2))
    where
      known : at + 2 ≤ length body → (t : Bool) → leb 1 (number_at body at) ≡ t → Agree (value_or_fault (cond t (Some (number_at body at)) None) (Fault'.ZeroCount at) (at + 2)) (item_layout count at)
      known here true e =
          let some = leb-true 1 (number_at body at) e in
          agrees_right (number_at body at) count at (each_count (λ n. ⊥) at (λ w. omega arith) (λ w. let none = w.1 in omega arith))
      known here false e =
          let none = leb-false 1 (number_at body at) e in
          agrees_wrong _ (Fault'.ZeroCount at) count at _ (one_decides names body Reason'.ZeroCount count at (here, omega arith) (each_count (λ n. 15 ≤ n) at (λ w. absurd (omega arith)) (λ w. omega arith)))

  abbrev numbered : ℕ → NameId
  numbered n = record { 0 = n }

  name_agrees : (k : Kind) (at : ℕ) → Agree (read_name body names k at) (item_layout (number k) at)
  name_agrees k at =
      ⊎_elim
      (λ gone. rw (number_gone at gone) (agrees_wrong _ (Fault'.CutShort at) (number k) at _ (one_decides names body Reason'.ItemCutShort (number k) at gone (each_name (λ n. 11 ≤ n) k at (λ w. omega arith) (λ w. omega arith)))))
      (λ here. rw (number_there at here) (known here (is_of_kind (kind_at names (number_at body at)) k) refl))
      (cases_lt (length body) (at + 2))
    where
      known : at + 2 ≤ length body → (t : Bool) → is_of_kind (kind_at names (number_at body at)) k ≡ t → Agree (cond t (got (numbered (number_at body at)) (at + 2)) (bad (Fault'.WrongName at))) (item_layout (number k) at)
      known here true e =
          agrees_right _ (number k) at (each_name (λ n. ⊥) k at (λ w. omega arith) (λ w. w.1 (kind_right _ k e)))
      known here false e =
          agrees_wrong _ (Fault'.WrongName at) (number k) at _ (one_decides names body Reason'.WrongName (number k) at (here, kind_wrong _ k e) (each_name (λ n. 14 ≤ n) k at (λ w. absurd (omega arith)) (λ w. omega arith)))

  role_agrees : (at : ℕ) → Agree (read_role body names at) (role_layout at)
  role_agrees at =
      agrees_next names body at _ _ (item_layout direction at) _ (direction_agrees at) (lies_item names body direction at) (λ mid l. lies_item names body (number Kind'.Role) mid) (λ d mid l.
      agrees_last _ _ _ (name_agrees Kind'.Role mid))

  role_lies : (at : ℕ) → Lies names body at (role_layout at)
  role_lies at = lies_followed names body at _ _ (lies_item names body direction at) (λ mid l. lies_item names body (number Kind'.Role) mid)

  -- what follows a code
  module _ (lay : ℕ → Layout) (lay-lies : (at : ℕ) → Lies names body at (lay at)) where
    parts_lie : (c : Code) (at : ℕ) → Lies names body at (parts_layout lay c at)
    parts_lie Nothing at = lies_ends names body at
    parts_lie Everything at = lies_ends names body at
    parts_lie Concept at = lies_item names body (number Kind'.Concept) at
    parts_lie Just at = lies_item names body (number Kind'.Individual) at
    parts_lie Not at = lay-lies at
    parts_lie And at = lies_followed names body at _ _ (lay-lies at) (λ mid l. lay-lies mid)
    parts_lie Exists at = lies_followed names body at _ _ (role_lies at) (λ mid l. lay-lies mid)
    parts_lie AtLeast at =
        lies_followed names body at _ _ (lies_item names body count at) (λ mid l.
        lies_followed names body mid _ _ (role_lies mid) (λ far m. lay-lies far))

    parts_agree : (inner : ℕ → Outcome Form) → ((at : ℕ) → Agree (inner at) (lay at)) → (c : Code) (at : ℕ) → Agree (read_rest body names inner c at) (parts_layout lay c at)
    parts_agree inner h Nothing at = agrees_nothing _ at
    parts_agree inner h Everything at = agrees_nothing _ at
    parts_agree inner h Concept at = agrees_last _ _ _ (name_agrees Kind'.Concept at)
    parts_agree inner h Just at = agrees_last _ _ _ (name_agrees Kind'.Individual at)
    parts_agree inner h Not at = agrees_last _ _ _ (h at)
    parts_agree inner h And at =
        agrees_next names body at _ _ _ _ (h at) (lay-lies at) (λ mid l. lay-lies mid) (λ f mid l.
        agrees_last _ _ _ (h mid))
    parts_agree inner h Exists at =
        agrees_next names body at _ _ _ _ (role_agrees at) (role_lies at) (λ mid l. lay-lies mid) (λ r mid l.
        agrees_last _ _ _ (h mid))
    parts_agree inner h AtLeast at =
        agrees_next names body at _ _ _ _ (count_agrees at) (lies_item names body count at) (λ mid l. lies_followed names body mid _ _ (role_lies mid) (λ far m. lay-lies far)) (λ n mid l.
        agrees_next names body mid _ _ _ _ (role_agrees mid) (role_lies mid) (λ far m. lay-lies far) (λ r far m.
        agrees_last _ _ _ (h far)))

  -- a term
  term_lies : (levels around at : ℕ) → Lies names body at (term_layout body levels around at)
  term_lies zero around at = lies_breaks names body (code around) at
  term_lies (suc levels) around at = go (term_lies levels (suc around)) (option_and_then code_of (slice_get body at))
    where
      go : ((mid : ℕ) → Lies names body mid (term_layout body levels (suc around) mid)) → (o : Option Code) → Lies names body at (coded_layout (term_layout body levels (suc around)) around o at)
      go inner None = lies_breaks names body (code around) at
      go inner (Some c) =
          lies_followed names body at _ _ (lies_item names body (code around) at) (λ mid l.
          parts_lie (term_layout body levels (suc around)) inner c mid)

  term_agrees : (levels around at : ℕ) → levels + around ≡ most_levels → Agree (read_term body names levels at) (term_layout body levels around at)
  term_agrees zero around at deep =
      agrees_wrong _ (Fault'.TooDeep at) (code around) at _ (one_decides names body Reason'.TooDeep (code around) at (omega arith) (each_code (λ n. 10 ≤ n) around at (λ w. omega arith) (λ w. omega arith) (λ w. omega arith)))
  term_agrees (suc levels) around at deep =
      ⊎_elim
      (λ here. rw (byte_there at at here, slice_get-get_or body at 0 here) (known (term_agrees levels (suc around)) here (code_of (get_or body at 0)) refl))
      (λ gone. rw (byte_gone at at gone, slice_get_past body at gone) (agrees_wrong _ (Fault'.CutShort at) (code around) at _ (one_decides names body Reason'.ItemCutShort (code around) at (omega arith) (each_code (λ n. 11 ≤ n) around at (λ w. absurd (omega arith)) (λ w. omega arith) (λ w. omega arith)))))
      (cases_lt at (length body))
    where
      known : ((mid : ℕ) → levels + suc around ≡ most_levels → Agree (read_term body names levels mid) (term_layout body levels (suc around) mid)) → at < length body → (o : Option Code) → code_of (get_or body at 0) ≡ o → Agree (next (value_or_fault o (Fault'.UnknownCode at) (at + 1)) (λ c mid. read_rest body names (read_term body names levels) c mid)) (coded_layout (term_layout body levels (suc around)) around o at)
      known inner here None e =
          agrees_wrong _ (Fault'.UnknownCode at) (code around) at _ (one_decides names body Reason'.UnknownCode (code around) at (here, code_unknown (get_or body at 0) e) (each_code (λ n. 12 ≤ n) around at (λ w. absurd (omega arith)) (λ w. absurd (omega arith)) (λ w. omega arith)))
      known inner here (Some c) e =
          let small = code_known (get_or body at 0) c e in
          let right = each_code (λ n. ⊥) around at (λ w. omega arith) (λ w. omega arith) (λ w. let great = w.1 in omega arith) in
          let deeper : levels + suc around ≡ most_levels = omega arith in
          agrees_behind names body _ (one names body (code around) at) (parts_layout (term_layout body levels (suc around)) c (at + 1)) (λ q f. right q.reason (one_fits names body (code around) at q f).1)
          (parts_agree (term_layout body levels (suc around)) (term_lies levels (suc around)) (read_term body names levels) (λ mid. inner mid deeper) c (at + 1))

  whole_lies : (at : ℕ) → Lies names body at (whole_layout body at)
  unfolding whole_layout
  whole_lies at = term_lies most_levels 0 at

  whole_agrees : (at : ℕ) → Agree (read_whole body names at) (whole_layout body at)
  unfolding whole_layout read_whole
  whole_agrees at = term_agrees most_levels 0 at refl

  -- the items of an axiom
  axiom_agrees : (k : AxiomKind) → Agree (read_axiom body names k) (layout body k)
  axiom_agrees Inclusion =
      agrees_next names body 0 _ _ _ _ (whole_agrees 0) (whole_lies 0) (λ mid l. whole_lies mid) (λ f mid l.
      agrees_last _ _ _ (whole_agrees mid))
  axiom_agrees Equivalence =
      agrees_next names body 0 _ _ _ _ (whole_agrees 0) (whole_lies 0) (λ mid l. whole_lies mid) (λ f mid l.
      agrees_last _ _ _ (whole_agrees mid))
  axiom_agrees RoleInclusion =
      agrees_next names body 0 _ _ _ _ (role_agrees 0) (role_lies 0) (λ mid l. role_lies mid) (λ r mid l.
      agrees_last _ _ _ (role_agrees mid))
  axiom_agrees Transitive = agrees_last _ _ _ (name_agrees Kind'.Role 0)
  axiom_agrees Functional = agrees_last _ _ _ (role_agrees 0)
  axiom_agrees ConceptAssertion =
      agrees_next names body 0 _ _ _ _ (name_agrees Kind'.Individual 0) (lies_item names body (number Kind'.Individual) 0) (λ mid l. whole_lies mid) (λ a mid l.
      agrees_last _ _ _ (whole_agrees mid))
  axiom_agrees RoleAssertion =
      agrees_next names body 0 _ _ _ _ (name_agrees Kind'.Role 0) (lies_item names body (number Kind'.Role) 0) (λ mid l. lies_followed names body mid _ _ (lies_item names body (number Kind'.Individual) mid) (λ far m. lies_item names body (number Kind'.Individual) far)) (λ r mid l.
      agrees_next names body mid _ _ _ _ (name_agrees Kind'.Individual mid) (lies_item names body (number Kind'.Individual) mid) (λ far m. lies_item names body (number Kind'.Individual) far) (λ a far m.
      agrees_last _ _ _ (name_agrees Kind'.Individual far)))

  -- an axiom that is read: no refusal of an item fits, and the layout ends where the reading does
  pub items_right : (k : AxiomKind) (r : Rule) (end : ℕ) → read_axiom body names k ≡ got r end → ((s : Refusal) → ¬ ItemFits names body k s) × ((layout body k).end ≡ Some end)
  unfolding Agrees
  items_right k r end e = let h = subst (λ o. Agree o (layout body k)) e (axiom_agrees k) in (h.1, h.0)

  -- an axiom that is not: the refusal of the fault is the one that decides
  pub item_decides : (k : AxiomKind) (fault : ItemFault) → read_axiom body names k ≡ bad fault → Decides (ItemFits names body k) (item_refusal fault)
  unfolding Agrees
  item_decides k fault e = subst (λ o. Agree o (layout body k)) e (axiom_agrees k)
