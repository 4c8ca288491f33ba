-- What every book keeps, over the parts that it is made of, and how each call keeps it.
use Rattle.std.proofs.Common.{◌≡◌, ℕ, zero, suc, ◌+◌, ◌<◌, ◌≤◌, Bool, true, false, cond, ◌&&◌, leb, List, [], ◌∷◌, ◌++◌, map, length, get_or, set, Ok, Err, Result, sym, refl, ap, ◌∙◌, subst, append_assoc, append-nil, arith}
use mathlib.Core.Logic.{∥∥₁_elim}
use Rattle.std.specs.List.{AllByRecursion, list_all}
use Rattle.std.proofs.ByRecursion.{All-get_or, All-set, All-push, All-weaker as all_by_recursion_weaker}
use Rattle.std.proofs.lemmas.List.{map_push, take_all}
use Rattle.std.proofs.lemmas.List.Elements.{All-weaker}
use Rattle.std.proofs.lemmas.List.Folds.{list_all-append}
use Rattle.std.proofs.lemmas.List.Sums.{sum_by_push, sum_by-cons, AllPass-from_list_all, list_all-from_AllPass}
use Rattle.std.proofs.lemmas.Bool.{and_parts, and_from, le-leb}
use Rattle.vocabulary.specs.declared.fault.NameFault.{NameFault}
use Rattle.vocabulary.specs.declared.fault.NameFault.TheVariants.{LabelTaken, TableFull}
use Rattle.vocabulary.specs.declared.kind.Kind.{Kind}
use Rattle.vocabulary.specs.declared.name.NameId.{NameId}
use Rattle.vocabulary.specs.Entities.{Entity, reseed, kind_or_fault, label_or_fault, is_taken}
use Rattle.refusals.specs.Turns.{accepted_turn, refused_turn}
use Rattle.vocabulary.specs.Naming.{naming, naming_turn, new_name}
use Rattle.vocabulary.proofs.Kept.{reseed_kinds}
use Rattle.terms.specs.declared.«axiom».AxiomKind.{AxiomKind}
use Rattle.terms.specs.declared.term.Term.{Term}
use Rattle.terms.specs.Forms.{rule}
use Rattle.terms.specs.Reading.{got, read_axiom}
use Rattle.terms.specs.WellFormed.{well_formed}
use Rattle.terms.specs.Writing.{body_bytes}
use Rattle.terms.proofs.Growth.{well_grows, well_same}
use Rattle.terms.proofs.Sets.{rules_set}
use Rattle.codec.specs.declared.parsed.Parsed.{Parsed}
use Rattle.codec.specs.Parsing.{Accepts}
use Rattle.book.specs.declared.book.Filed.{Filed}
use Rattle.book.specs.Contents.{Filing, filing, body_length, bodies_length, sound, Firm, reforce}

-- the facts that a book states of its parts
pub record Whole (names : List Entity) (ts : List Term) (axioms : List Filed) (bytes : ℕ) : Type 0 where
  pub tally : bytes ≡ bodies_length (map (filing ts) axioms)
  pub limit : bytes ≤ 32768
  pub sparse : length ts ≤ bytes
  pub right : list_all (sound names) (map (filing ts) axioms) ≡ true
  pub firm : ∥ AllByRecursion (Firm ts) axioms ∥₁

-- ---- names change, the axioms stay

-- what each passes, each passes under a weaker test
all_weaker : {X : Type 0} (p q : X → Bool) → ((x : X) → p x ≡ true → q x ≡ true) → (xs : List X) → list_all p xs ≡ true → list_all q xs ≡ true
all_weaker p q h xs e = list_all-from_AllPass q xs (All-weaker (λ x. p x ≡ true) (λ x. q x ≡ true) h xs (AllPass-from_list_all p xs e))

-- names are added
pub right_grows : (names more : List Entity) (fs : List Filing) → list_all (sound names) fs ≡ true → list_all (sound (names ++ more)) fs ≡ true
right_grows names more = all_weaker (sound names) (sound (names ++ more)) (λ f e.
    let s = and_parts (well_formed names f.states) (leb (body_length f) 512) e in
    and_from (well_formed (names ++ more) f.states) (leb (body_length f) 512) (well_grows names more f.states s.0) s.1)

-- a name is seeded or unseeded
pub right_reseed : (names : List Entity) (n : ℕ) (on : Bool) (fs : List Filing) → list_all (sound names) fs ≡ true → list_all (sound (reseed names n on)) fs ≡ true
right_reseed names n on = all_weaker (sound names) (sound (reseed names n on)) (λ f e.
    rw (well_same (reseed names n on) names (reseed_kinds names n on) f.states) e)

-- ---- the table grows, the axioms stay

firm_on : (ts more : List Term) (f : Filed) → Firm ts f → Firm (ts ++ more) f
firm_on ts more f h later = ap (λ l. rule l f.«axiom») (append_assoc ts more later) ∙ h (more ++ later) ∙ sym (h more)

all_on : (ts more : List Term) (fs : List Filed) → AllByRecursion (Firm ts) fs → AllByRecursion (Firm (ts ++ more)) fs
all_on ts more = all_by_recursion_weaker (Firm ts) (Firm (ts ++ more)) (firm_on ts more)

heads : {A B : Type 0} → ∥ A × B ∥₁ → ∥ A ∥₁
heads t = ∥∥₁_elim t squash₁ (λ p. ∣ p.0 ∣₁)

tails : {A B : Type 0} → ∥ A × B ∥₁ → ∥ B ∥₁
tails t = ∥∥₁_elim t squash₁ (λ p. ∣ p.1 ∣₁)

-- what the axioms state is the same in a longer table
pub filings_on : (ts more : List Term) (fs : List Filed) → ∥ AllByRecursion (Firm ts) fs ∥₁ → map (filing (ts ++ more)) fs ≡ map (filing ts) fs
filings_on ts more [] t = refl
filings_on ts more (f ∷ fs) t =
    let same : rule (ts ++ more) f.«axiom» ≡ rule ts f.«axiom» = ∥∥₁_elim (heads t) (rules_set _ _) (λ h. h more) in
    λ i. record { states = same i; in_force = f.in_force } ∷ filings_on ts more fs (tails t) i

-- ---- an axiom is laid aside or restored

pub filings_reforce : (ts : List Term) (fs : List Filed) (k : ℕ) (f g : Filed) (on : Bool) → k < length fs → f ≡ get_or fs k f → filing ts g ≡ record { states = rule ts f.«axiom»; in_force = on } → map (filing ts) (set fs k g) ≡ reforce (map (filing ts) fs) k on
filings_reforce ts [] k f g on h e s = absurd (omega arith)
filings_reforce ts (x ∷ fs) zero f g on h e s = ap (λ d. d ∷ map (filing ts) fs) (s ∙ ap (λ (y : Filed). record { states = rule ts y.«axiom»; in_force = on }) e)
filings_reforce ts (x ∷ fs) (suc k) f g on h e s = ap (λ l. filing ts x ∷ l) (filings_reforce ts fs k f g on (omega arith) e s)

pub reforce_total : (fs : List Filing) (k : ℕ) (on : Bool) → bodies_length (reforce fs k on) ≡ bodies_length fs
reforce_total [] k on = refl
reforce_total (f ∷ fs) zero on = refl
reforce_total (f ∷ fs) (suc k) on = sum_by-cons body_length f (reforce fs k on) ∙ ap (λ n. body_length f + n) (reforce_total fs k on) ∙ sym (sum_by-cons body_length f fs)

pub reforce_right : (names : List Entity) (fs : List Filing) (k : ℕ) (on : Bool) → list_all (sound names) (reforce fs k on) ≡ list_all (sound names) fs
reforce_right names [] k on = refl
reforce_right names (f ∷ fs) zero on = refl
reforce_right names (f ∷ fs) (suc k) on = ap (λ b. sound names f && b) (reforce_right names fs k on)

pub reforced : {names : List Entity} {ts : List Term} {fs : List Filed} {bytes : ℕ} (k : ℕ) (f g : Filed) (on : Bool) → k < length fs → f ≡ get_or fs k f → g ≡ record { «axiom» = f.«axiom»; in_force = on } → Whole names ts fs bytes → Whole names ts (set fs k g) bytes
reforced {names} {ts} {fs} {bytes} k f g on h e s w =
    let same = filings_reforce ts fs k f g on h e (ap (filing ts) s) in
    record {
      tally = w.tally ∙ sym (ap bodies_length same ∙ reforce_total (map (filing ts) fs) k on);
      limit = w.limit;
      sparse = w.sparse;
      right = ap (list_all (sound names)) same ∙ reforce_right names (map (filing ts) fs) k on ∙ w.right;
      firm = ∥∥₁_elim w.firm squash₁ (λ a. ∣ All-set (Firm ts) fs k g (subst (Firm ts) (sym s) (subst (Firm ts) (sym e) (All-get_or (Firm ts) fs k f h a))) a ∣₁);
    }

-- ---- an axiom is filed

module _ {names : List Entity} {old new : List Term} {kind : AxiomKind} {body : List ℕ} {p : Parsed} where
  -- what is read is what the table then says, however it goes on
  pub read_is : Accepts old names kind body p new → got (rule new p.«axiom») p.end ≡ read_axiom body names kind
  read_is h = h.reads new (record { more = []; grown = sym (append-nil new) })

  stands : Accepts old names kind body p new → (on : Bool) → Firm new (record { «axiom» = p.«axiom»; in_force = on })
  stands h on more =
      let e : got (rule (new ++ more) p.«axiom») p.end ≡ got (rule new p.«axiom») p.end = h.reads (new ++ more) (record { more = more; grown = refl }) ∙ sym (read_is h) in
      cc

  -- the whole body was read, so it is the axiom's body
  body_is : Accepts old names kind body p new → length body ≤ p.end → body_bytes (rule new p.«axiom») ≡ body
  body_is h full = h.kept ∙ take_all p.end body full

  pub filings_add : {fs : List Filed} {bytes : ℕ} → Accepts old names kind body p new → Whole names old fs bytes → map (filing new) (fs ++ record { «axiom» = p.«axiom»; in_force = true } ∷ []) ≡ map (filing old) fs ++ record { states = rule new p.«axiom»; in_force = true } ∷ []
  filings_add {fs} {bytes} h w =
      let b = h.begins in
      map_push (filing new) fs (record { «axiom» = p.«axiom»; in_force = true }) ∙
      ap (λ l. l ++ record { states = rule new p.«axiom»; in_force = true } ∷ []) (ap (λ t. map (filing t) fs) b.grown ∙ filings_on old b.more fs w.firm)

  pub filed : {fs : List Filed} {bytes : ℕ} → Accepts old names kind body p new → Whole names old fs bytes → length body ≤ p.end → length body ≤ 512 → bytes + length body ≤ 32768 → Whole names new (fs ++ record { «axiom» = p.«axiom»; in_force = true } ∷ []) (bytes + length body)
  filed {fs} {bytes} h w full short fits =
      let same = filings_add h w in
      let is = body_is h full in
      let last : Filing = record { states = rule new p.«axiom»; in_force = true } in
      record {
        tally = ap (λ n. n + length body) w.tally ∙ ap (λ n. bodies_length (map (filing old) fs) + n) (sym (ap length is)) ∙ sym (ap bodies_length same ∙ sum_by_push body_length (map (filing old) fs) last);
        limit = fits;
        sparse = omega (arith, h.few, w.sparse);
        right = ap (list_all (sound names)) same ∙ list_all-append (sound names) (map (filing old) fs) (last ∷ []) ∙ and_from _ _ w.right (and_from _ _ (and_from _ _ h.fits (le-leb (body_length last) 512 (omega (arith, ap length is)))) refl);
        firm = ∥∥₁_elim w.firm squash₁ (λ a. ∣ All-push (Firm new) fs _ (subst (λ t. AllByRecursion (Firm t) fs) (sym h.begins.grown) (all_on old h.begins.more fs a)) (stands h true) ∣₁);
      }

pub whole_reseed : {names later : List Entity} {ts : List Term} {fs : List Filed} {bytes : ℕ} (n : ℕ) (on : Bool) → later ≡ reseed names n on → Whole names ts fs bytes → Whole later ts fs bytes
whole_reseed {names} {later} {ts} {fs} {bytes} n on e w = record {
  tally = w.tally;
  limit = w.limit;
  sparse = w.sparse;
  right = ap (λ ns. list_all (sound ns) (map (filing ts) fs)) e ∙ right_reseed names n on (map (filing ts) fs) w.right;
  firm = w.firm;
}

-- naming adds a name, or none
grown_by_naming : (es : List Entity) (k : ℕ) (l : List ℕ) → (more : List Entity) × ((naming es k l).state ≡ es ++ more)
unfolding naming
grown_by_naming es k l = by_kind (kind_or_fault k) (label_or_fault l)
  where
    none : es ≡ es ++ []
    none = sym (append-nil es)

    by_held : (kind : Kind) (label : List ℕ) (a b : Bool) → (more : List Entity) × ((cond a (refused_turn {A = NameId} es LabelTaken) (cond b (refused_turn es TableFull) (accepted_turn (es ++ new_name kind label ∷ []) (record { 0 = length es })))).state ≡ es ++ more)
    by_held kind label true b = ([], none)
    by_held kind label false true = ([], none)
    by_held kind label false false = (new_name kind label ∷ [], refl)

    by_kind : (o : Result Kind NameFault) (r : Result (List ℕ) NameFault) → (more : List Entity) × ((naming_turn es o r).state ≡ es ++ more)
    by_kind (Err f) r = ([], none)
    by_kind (Ok kind) (Err f) = ([], none)
    by_kind (Ok kind) (Ok label) = by_held kind label (is_taken kind label es) (leb 1024 (length es))

pub whole_naming : {names later : List Entity} {ts : List Term} {fs : List Filed} {bytes : ℕ} (k : ℕ) (l : List ℕ) → later ≡ (naming names k l).state → Whole names ts fs bytes → Whole later ts fs bytes
whole_naming {names} {later} {ts} {fs} {bytes} k l e w =
    let g = grown_by_naming names k l in
    record {
      tally = w.tally;
      limit = w.limit;
      sparse = w.sparse;
      right = ap (λ ns. list_all (sound ns) (map (filing ts) fs)) (e ∙ g.1) ∙ right_grows names g.0 (map (filing ts) fs) w.right;
      firm = w.firm;
    }
