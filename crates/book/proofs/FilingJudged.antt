-- Filing is refused exactly if some refusal fits, and then by the one that decides.
use Rattle.std.proofs.Common.{◌≡◌, ◌≢◌, ◌⊎◌, inl, inr, ⊎_elim, ℕ, ◌+◌, ◌<◌, ◌≤◌, Bool, true, false, cond, eqb, ltb, leb, ◌&&◌, List, length, Some, None, Option, Ok, Err, Result, sym, refl, ap, ◌∙◌, subst, arith, ltb-true, ltb-false, leb-true, leb-false}
use Rattle.std.proofs.lemmas.Bool.{and_parts, eqb-false, cases_lt}
use Rattle.refusals.specs.declared.reason.Reason.{Reason}
use Rattle.refusals.specs.declared.reason.Reason.TheVariants as Reason'
use Rattle.refusals.specs.declared.refusal.Refusal.{Refusal}
use Rattle.refusals.specs.Turns.{Turn, accepted_turn, refused_turn}
use Rattle.refusals.specs.Refusals.{reason_number, refusal_at}
use Rattle.refusals.specs.Choice.{is_item, Decides, Judged, refusal_of}
use Rattle.refusals.proofs.Choosing.{decides, before_by_number, same_refusal}
use Rattle.terms.specs.declared.«axiom».AxiomKind.{AxiomKind}
use Rattle.terms.specs.declared.«axiom».AxiomKind.TheVariants.{Inclusion, Equivalence, RoleInclusion, Transitive, Functional, ConceptAssertion, RoleAssertion}
use Rattle.terms.specs.declared.fault.ItemFault.{ItemFault}
use Rattle.terms.specs.Codes.{axiom_kind_of, kind_number}
use Rattle.terms.specs.Forms.{Rule}
use Rattle.terms.specs.Reading.{Outcome, got, bad, read_axiom}
use Rattle.terms.specs.Refusals.{item_refusal}
use Rattle.terms.specs.Layout.{layout}
use Rattle.terms.specs.Fitting.{ItemFits}
use Rattle.terms.proofs.Numbers.{chosen, none_chosen}
use Rattle.terms.proofs.Laying.{fits_item}
use Rattle.terms.proofs.ItemsJudged.{items_right, item_decides}
use Rattle.codec.specs.Bodies.{longest_body}
use Rattle.book.specs.declared.book.AxiomId.{AxiomId}
use Rattle.book.specs.declared.fault.AxiomFault.{AxiomFault}
use Rattle.book.specs.declared.fault.AxiomFault.TheVariants.{LeftOver, AxiomsFull, BytesFull}
use Rattle.book.specs.declared.fault.FileFault.{FileFault}
use Rattle.book.specs.declared.fault.FileFault.TheVariants.{BodyTooLong, Axiom}
use Rattle.book.specs.Contents.{Contents, bodies_length}
use Rattle.book.specs.Calls.{with_axiom, with_fault, items_call, axiom_call, kind_call, filing_call}
use Rattle.book.specs.Fitting.{BookIsWrong, AxiomFits, FileIsWrong, FilingFits}
use Rattle.book.specs.Limits.{most_axioms, most_bytes}
use Rattle.book.specs.Refusals.{axiom_refusal, file_refusal}

-- a refusal of no item decides if it fits, and every other one that fits has a larger number
decides_first : (Fits : Refusal → Type 0) (r : Refusal) → is_item r ≡ false → Fits r → ((s : Refusal) → Fits s → (reason_number r.reason < reason_number s.reason) ⊎ (s ≡ r)) → Decides Fits r
decides_first Fits r book f later =
    decides Fits r f (λ s g. ⊎_elim (λ less. inl (before_by_number r s (rw book refl) less)) inr (later s g))

-- two lists of what fits that are the same
judged_alike : (P Q : Refusal → Type 0) → ((s : Refusal) → P s → Q s) → ((s : Refusal) → Q s → P s) → (o : Option Refusal) → Judged P o → Judged Q o
judged_alike P Q to back None h = λ s q. h s (back s q)
judged_alike P Q to back (Some r) h = record { fits = to r h.fits; first = λ s q other. h.first s (back s q) other }

item_numbers : (s : Refusal) → is_item s ≡ true → (10 ≤ reason_number s.reason) × (reason_number s.reason ≤ 15)
item_numbers s e =
    let p = and_parts (leb 10 (reason_number s.reason)) (leb (reason_number s.reason) 15) e in
    (leb-true 10 (reason_number s.reason) p.0, leb-true (reason_number s.reason) 15 p.1)

module _ (b : Contents) (kind : AxiomKind) (body : List ℕ) where
  abbrev Wrong : Reason → ℕ → Type 0
  Wrong = BookIsWrong b kind body

  abbrev Fits : Refusal → Type 0
  Fits = AxiomFits b kind body

  abbrev Told : Result AxiomId AxiomFault → Type 0
  Told r = Judged Fits (refusal_of axiom_refusal r)

  -- whatever is wrong with the book, it is one of the three, with its number
  each_wrong : (P : ℕ → ℕ → Type 0) → ((at : ℕ) → Wrong Reason'.LeftOver at → P 16 at) → ((at : ℕ) → Wrong Reason'.AxiomsFull at → P 17 at) → ((at : ℕ) → Wrong Reason'.BytesFull at → P 18 at) → (q : Reason) (at : ℕ) → Wrong q at → P (reason_number q) at
  each_wrong P x y z Reason'.LeftOver at w = x at w
  each_wrong P x y z Reason'.AxiomsFull at w = y at w
  each_wrong P x y z Reason'.BytesFull at w = z at w
  each_wrong P x y z _ at w = absurd w

  wrong_number : (q : Reason) (at : ℕ) → Wrong q at → 16 ≤ reason_number q
  wrong_number = each_wrong (λ n at. 16 ≤ n) (λ at w. omega arith) (λ at w. omega arith) (λ at w. omega arith)

  fits_number : (s : Refusal) → Fits s → 10 ≤ reason_number s.reason
  fits_number s (inl f) = (item_numbers s (fits_item b.names body _ s f)).0
  fits_number s (inr w) = let l = wrong_number s.reason s.place w in omega arith

  -- a faulty item decides
  item_judged : (fault : ItemFault) → Decides (ItemFits b.names body kind) (item_refusal fault) → Decides Fits (item_refusal fault)
  item_judged fault d =
      record {
        fits = inl d.fits;
        first = λ s f other. ⊎_elim (λ g. d.first s g other) (λ w.
            let few = (item_numbers (item_refusal fault) (fits_item b.names body _ (item_refusal fault) d.fits)).1 in
            let many = wrong_number s.reason s.place w in
            before_by_number (item_refusal fault) s (apart (is_item (item_refusal fault)) (is_item s) _ (no_item s many)) (omega arith)) f;
      }
    where
      no_item : (s : Refusal) → 16 ≤ reason_number s.reason → is_item s ≡ false
      no_item s l = go (is_item s) refl
        where
          go : (t : Bool) → is_item s ≡ t → t ≡ false
          go true e = absurd (let p = (item_numbers s e).1 in omega arith)
          go false e = refl

      apart : (x y z : Bool) → y ≡ false → (x && (y && z)) ≡ false
      apart true y z e = rw e refl
      apart false y z e = refl

  -- where the items are right
  module _ (end : ℕ) (right : (s : Refusal) → ¬ ItemFits b.names body kind s) (ends : (layout body kind).end ≡ Some end) where
    -- a wrong of the book decides if it is at its place, and any other has a larger number
    book_decides : (q : Reason) (at : ℕ) → is_item (refusal_at q at) ≡ false → Wrong q at → ((p : Reason) (place : ℕ) → Wrong p place → (reason_number q < reason_number p) ⊎ ((reason_number p ≡ reason_number q) × (place ≡ at))) → Decides Fits (refusal_at q at)
    book_decides q at book w later =
        decides_first Fits (refusal_at q at) book (inr w) (λ s f.
        ⊎_elim (λ g. absurd (right s g)) (λ v.
        ⊎_elim inl (λ e. inr (same_refusal s (refusal_at q at) e.0 e.1)) (later s.reason s.place v)) f)

    same_end : (at : ℕ) → Wrong Reason'.LeftOver at → at ≡ end
    same_end at w = let e : Some end ≡ Some at = sym ends ∙ w.0 in cc

    abbrev Later : ℕ → ℕ → ℕ → ℕ → Type 0
    Later n at m place = (n < m) ⊎ ((m ≡ n) × (place ≡ at))

    abbrev turn : Rule → Bool → Bool → Bool → Turn Contents (Result AxiomId AxiomFault)
    turn r s t u = cond s (refused_turn b (LeftOver end)) (cond t (refused_turn b AxiomsFull) (cond u (refused_turn b BytesFull) (accepted_turn (with_axiom b r) (record { 0 = length b.axioms }))))

    not_over : ltb end (length body) ≡ false → (at : ℕ) → ¬ Wrong Reason'.LeftOver at
    not_over e at w = let l = ltb-false end (length body) e in let p = same_end at w in let m = w.1 in omega arith

    not_full : leb most_axioms (length b.axioms) ≡ false → (at : ℕ) → ¬ Wrong Reason'.AxiomsFull at
    not_full e at w = let l = leb-false most_axioms (length b.axioms) e in let m = w.1 in omega arith

    not_many : ltb most_bytes (bodies_length b.axioms + length body) ≡ false → (at : ℕ) → ¬ Wrong Reason'.BytesFull at
    not_many e at w = let l = ltb-false most_bytes (bodies_length b.axioms + length body) e in let m = w.1 in omega arith

    got_judged : (r : Rule) → Told (items_call b (length body) (got r end)).answer
    got_judged r = go (ltb end (length body)) (leb most_axioms (length b.axioms)) (ltb most_bytes (bodies_length b.axioms + length body)) refl refl refl
      where
        go : (s t u : Bool) → ltb end (length body) ≡ s → leb most_axioms (length b.axioms) ≡ t → ltb most_bytes (bodies_length b.axioms + length body) ≡ u → Told (turn r s t u).answer
        go true t u e f g =
            book_decides Reason'.LeftOver end refl (ends, ltb-true end (length body) e)
            (each_wrong (Later 16 end) (λ at w. inr (refl, same_end at w)) (λ at w. inl (omega arith)) (λ at w. inl (omega arith)))
        go false true u e f g =
            book_decides Reason'.AxiomsFull 0 refl (refl, leb-true most_axioms (length b.axioms) f)
            (each_wrong (Later 17 0) (λ at w. absurd (not_over e at w)) (λ at w. inr (refl, w.0)) (λ at w. inl (omega arith)))
        go false false true e f g =
            book_decides Reason'.BytesFull 0 refl (refl, ltb-true most_bytes (bodies_length b.axioms + length body) g)
            (each_wrong (Later 18 0) (λ at w. absurd (not_over e at w)) (λ at w. absurd (not_full f at w)) (λ at w. inr (refl, w.0)))
        go false false false e f g = λ s h. ⊎_elim (right s) (each_wrong (λ n at. ⊥) (not_over e) (not_full f) (not_many g) s.reason s.place) h

  -- filing the body of an axiom of a kind
  pub axiom_call_judged : Told (axiom_call b kind body).answer
  unfolding axiom_call
  axiom_call_judged = go (read_axiom body b.names kind) refl
    where
      go : (o : Outcome Rule) → read_axiom body b.names kind ≡ o → Told (items_call b (length body) o).answer
      go (bad fault) e = item_judged fault (item_decides b.names body kind fault e)
      go (got r end) e = let h = items_right b.names body kind r end e in got_judged end h.0 h.1 r

-- the number of a kind, both ways
pub number_back : (k : AxiomKind) → axiom_kind_of (kind_number k) ≡ Some k
number_back Inclusion = refl
number_back Equivalence = refl
number_back RoleInclusion = refl
number_back Transitive = refl
number_back Functional = refl
number_back ConceptAssertion = refl
number_back RoleAssertion = refl

pub number_bounds : (k : AxiomKind) → (16 ≤ kind_number k) × (kind_number k ≤ 22)
number_bounds Inclusion = (omega arith, omega arith)
number_bounds Equivalence = (omega arith, omega arith)
number_bounds RoleInclusion = (omega arith, omega arith)
number_bounds Transitive = (omega arith, omega arith)
number_bounds Functional = (omega arith, omega arith)
number_bounds ConceptAssertion = (omega arith, omega arith)
number_bounds RoleAssertion = (omega arith, omega arith)

pub number_of_kind : (n : ℕ) (k : AxiomKind) → axiom_kind_of n ≡ Some k → n ≡ kind_number k
number_of_kind n =
    let more = chosen kind_number n in
    more 16 Inclusion _ refl
    (more 17 Equivalence _ refl
    (more 18 RoleInclusion _ refl
    (more 19 Transitive _ refl
    (more 20 Functional _ refl
    (more 21 ConceptAssertion _ refl
    (more 22 RoleAssertion _ refl
    (none_chosen kind_number n)))))))

-- a choice by numbers that gives nothing
passed_over : {X : Type 0} (b n : ℕ) (x : X) (rest : Option X) → cond (eqb b n) (Some x) rest ≡ None → (b ≢ n) × (rest ≡ None)
passed_over b n x rest = go (eqb b n) refl
  where
    go : (t : Bool) → eqb b n ≡ t → cond t (Some x) rest ≡ None → (b ≢ n) × (rest ≡ None)
    go true e h = absurd (let z : ◌≡◌ {A = ℕ} 0 1 = cc in omega arith)
    go false e h = (eqb-false b n e, h)

-- a number of no kind
pub kind_unknown : (n : ℕ) → axiom_kind_of n ≡ None → (n < 16) ⊎ (22 < n)
kind_unknown n h =
    let p0 = passed_over n 16 Inclusion _ h in
    let p1 = passed_over n 17 Equivalence _ p0.1 in
    let p2 = passed_over n 18 RoleInclusion _ p1.1 in
    let p3 = passed_over n 19 Transitive _ p2.1 in
    let p4 = passed_over n 20 Functional _ p3.1 in
    let p5 = passed_over n 21 ConceptAssertion _ p4.1 in
    let p6 = passed_over n 22 RoleAssertion _ p5.1 in
    ⊎_elim inl (λ many. inr (omega (arith, many, p0.0, p1.0, p2.0, p3.0, p4.0, p5.0, p6.0))) (cases_lt n 16)

module _ (b : Contents) (kind : ℕ) (body : List ℕ) where
  abbrev FileWrong : Reason → ℕ → Type 0
  FileWrong = FileIsWrong kind body

  abbrev FileFits : Refusal → Type 0
  FileFits = FilingFits b kind body

  abbrev FileTold : Result AxiomId FileFault → Type 0
  FileTold r = Judged FileFits (refusal_of file_refusal r)

  -- whatever is wrong with what is filed, it is one of the two, with its number
  file_wrong : (P : ℕ → ℕ → Type 0) → ((at : ℕ) → FileWrong Reason'.UnknownKind at → P 3 at) → ((at : ℕ) → FileWrong Reason'.BodyTooLong at → P 4 at) → (q : Reason) (at : ℕ) → FileWrong q at → P (reason_number q) at
  file_wrong P x y Reason'.UnknownKind at w = x at w
  file_wrong P x y Reason'.BodyTooLong at w = y at w
  file_wrong P x y _ at w = absurd w

  -- a wrong of what is filed decides if it is at the place 0, and any other has a larger number
  file_decides : (q : Reason) → is_item (refusal_at q 0) ≡ false → reason_number q < 10 → FileWrong q 0 → ((p : Reason) (place : ℕ) → FileWrong p place → (reason_number q < reason_number p) ⊎ ((reason_number p ≡ reason_number q) × (place ≡ 0))) → Decides FileFits (refusal_at q 0)
  file_decides q file few w later =
      decides_first FileFits (refusal_at q 0) file (inl w) (λ s f.
      ⊎_elim (λ v. ⊎_elim inl (λ e. inr (same_refusal s (refusal_at q 0) e.0 e.1)) (later s.reason s.place v)) (λ v.
      let many = fits_number b v.0 body s v.2 in inl (omega arith)) f)

  known : (k : AxiomKind) → axiom_kind_of kind ≡ Some k → (at : ℕ) → ¬ FileWrong Reason'.UnknownKind at
  known k e at w =
      let n = number_of_kind kind k e in
      let l = number_bounds k in
      ⊎_elim (λ less. omega (arith, l.0)) (λ more. omega (arith, l.1)) w.1

  same_kind : (k j : AxiomKind) → axiom_kind_of kind ≡ Some k → kind_number j ≡ kind → j ≡ k
  same_kind k j e n = let z : Some j ≡ Some k = sym (number_back j) ∙ ap axiom_kind_of n ∙ e in cc

  -- a kind that there is, and a body that is not too long
  body_judged : (k : AxiomKind) → axiom_kind_of kind ≡ Some k → ltb longest_body (length body) ≡ false → FileTold (with_fault Axiom (axiom_call b k body).answer)
  body_judged k e short = go (axiom_call b k body).answer (axiom_call_judged b k body)
    where
      to : (s : Refusal) → AxiomFits b k body s → FileFits s
      to s f = inr (k, sym (number_of_kind kind k e), f)

      back : (s : Refusal) → FileFits s → AxiomFits b k body s
      back s (inl w) =
          file_wrong (λ n at. AxiomFits b k body s)
          (λ at v. absurd (known k e at v))
          (λ at v. absurd (let l = ltb-false longest_body (length body) short in let m = v.1 in omega arith))
          s.reason s.place w
      back s (inr (j, n, f)) = subst (λ i. AxiomFits b i body s) (same_kind k j e n) f

      go : (r : Result AxiomId AxiomFault) → Judged (AxiomFits b k body) (refusal_of axiom_refusal r) → FileTold (with_fault Axiom r)
      go (Ok x) = judged_alike (AxiomFits b k body) FileFits to back None
      go (Err f) = judged_alike (AxiomFits b k body) FileFits to back (Some (axiom_refusal f))

  abbrev sized : AxiomKind → Bool → Turn Contents (Result AxiomId FileFault)
  sized k long = cond long (refused_turn b BodyTooLong) (record { state = (axiom_call b k body).state; answer = with_fault Axiom (axiom_call b k body).answer })

  -- filing by a record kind
  pub filing_call_judged : FileTold (filing_call b kind body).answer
  filing_call_judged = by_kind (axiom_kind_of kind) refl
    where
      by_length : (k : AxiomKind) (long : Bool) → axiom_kind_of kind ≡ Some k → ltb longest_body (length body) ≡ long → FileTold (sized k long).answer
      by_length k true e l =
          file_decides Reason'.BodyTooLong refl (omega arith) (refl, ltb-true longest_body (length body) l)
          (file_wrong (λ n place. (4 < n) ⊎ ((n ≡ 4) × (place ≡ 0))) (λ at w. absurd (known k e at w)) (λ at w. inr (refl, w.0)))
      by_length k false e l = body_judged k e l

      by_kind : (o : Option AxiomKind) → axiom_kind_of kind ≡ o → FileTold (kind_call b o body).answer
      by_kind None e =
          file_decides Reason'.UnknownKind refl (omega arith) (refl, kind_unknown kind e)
          (file_wrong (λ n place. (3 < n) ⊎ ((n ≡ 3) × (place ≡ 0))) (λ at w. inr (refl, w.0)) (λ at w. inl (omega arith)))
      by_kind (Some k) e = by_length k (ltb longest_body (length body)) e refl
