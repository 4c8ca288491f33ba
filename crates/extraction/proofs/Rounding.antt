-- One round of a stage, as it is done.
use Rattle.std.proofs.Common.{◌≡◌, ℕ, zero, suc, ◌+◌, ◌≤◌, Bool, true, false, not, ◌&&◌, ◌||◌, ltb, List, replicate, sym, refl, ap, ◌∙◌, subst, ap₂, ⊎_elim, add-one, arith}
use mathlib.Core.Path.{fun_ext}
use Rattle.std.proofs.Math.Bool.{or_assoc, or-true, and-or_distrib_right}
use Rattle.std.proofs.lemmas.Bool.{both_ways, cases_Bool, lt-ltb, and_parts, and_right}
use Rattle.terms.specs.Forms.{Rule}
use Rattle.book.specs.declared.book.Book.{Book}
use Rattle.book.specs.Calls.{contents}
use Rattle.book.specs.Contents.{Contents}
use Rattle.locality.specs.Meaning.{some_below}
use Rattle.locality.specs.Mentions.{in_rule}
use Rattle.locality.specs.Flags.{set_of, listed_in}
use Rattle.locality.specs.Worlds.{Names}
use Rattle.extraction.specs.declared.tables.Tables.{Tables}
use Rattle.extraction.specs.Extracts.{kept_in, closed_in, handed_in, new_marks, Holding, Inside, RoundDone}
use Rattle.extraction.specs.lemmas.Midway.{Midway}
use Rattle.extraction.specs.Rounds.{no_axiom, round_marks, after_round, marks_more, stage_finish}
use Rattle.extraction.specs.Sets.{Marks, axiom_count, rule_at, names_of, signature, closed_signature}
use Rattle.extraction.specs.Signatures.{with_signature}
use Rattle.extraction.specs.Visits.{chosen_below, MarkedTo}
use Rattle.extraction.specs.lemmas.Below.{none_at}
use Rattle.extraction.proofs.Filling.{blank_none, axioms_number}
use Rattle.extraction.specs.lemmas.Steady.{round_marks-parts, midway_start, midway_more, midway_last, midway_bound}

-- the test of an axiom as it is made is the one that a round is defined by
pub picked_is : (b : Contents) (local : Rule → Names → Bool) (t : Tables) (i : ℕ) (h m : Bool) (r : Rule) (answer : Bool) → h ≡ handed_in t i → m ≡ kept_in t i → r ≡ rule_at b i → answer ≡ (h && (not m && not (local r (closed_in t)))) → answer ≡ new_marks b local t i
picked_is b local t i h m r answer in-hand marked rule e =
    e ∙ ap₂ ◌&&◌ in-hand (ap₂ ◌&&◌ (ap not marked) (ap (λ x. not (local x (closed_in t))) rule))

or_swap : (a b p s : Bool) → ((a || b) || (p || s)) ≡ ((a || p) || (b || s))
or_swap true b p s = refl
or_swap false true p s = sym (or-true p)
or_swap false false p s = refl

-- the names of two sets together are those of the one and those of the other
some_either : (n : ℕ) (p q r : ℕ → Bool) → some_below n (λ k. (p k || q k) && r k) ≡ (some_below n (λ k. p k && r k) || some_below n (λ k. q k && r k))
some_either zero p q r = refl
some_either (suc n) p q r =
    ap₂ ◌||◌ (and-or_distrib_right (p n) (q n) (r n)) (some_either n p q r) ∙ or_swap (p n && r n) (q n && r n) _ _

-- a round that went through all axioms
pub round_done : (b : Contents) (local : Rule → Names → Bool) (before after : Tables) (i : ℕ) (any : Bool) → Inside b (handed_in before) → i ≡ axiom_count b → after.handed ≡ before.handed → MarkedTo b i (new_marks b local before) (kept_in before) (closed_in before) after.kept after.closed any → RoundDone b local before after any
round_done b local before after i any inside all same so = record {
  handed = same;
  axioms = fun_ext (λ k. so.axioms k ∙ ap (λ t. kept_in before k || t) (whole k));
  names = so.names.names ∙ ap (λ j. λ n. closed_in before n || some_below j (λ k. new_marks b local before k && in_rule (rule_at b k) n)) all;
  marks = so.some ∙ ap (λ j. some_below j (new_marks b local before)) all;
}
  where
    whole : (k : ℕ) → chosen_below i (new_marks b local before) k ≡ new_marks b local before k
    whole k = ⊎_elim
        (λ e. ap (λ t. t && new_marks b local before k) (lt-ltb k i (rw all (inside k (and_parts (handed_in before k) _ e).0))))
        (λ e. and_right (ltb k i) (new_marks b local before k) e ∙ sym e)
        (cases_Bool (new_marks b local before k))

-- the list is the signature with the names of the marked axioms
abbrev pub Consistent : Contents → Tables → Type 0
Consistent b t = closed_in t ≡ closed_signature b (kept_in t)

-- one round of a stage was made
pub record RoundMade (b : Contents) (local : Rule → Names → Bool) (before after : Tables) (r : Bool) : Type 0 where
  pub handed : after.handed ≡ before.handed
  pub holds : Holding b (after_round b local (handed_in before) (kept_in before)) after
  pub marks : r ≡ marks_more b local (handed_in before) (kept_in before)

-- so it is where the list is that of the marked axioms, whatever the signature
pub round_made : (b : Contents) (signed : Names) (local : Rule → Names → Bool) (before after : Tables) (any : Bool) → Consistent (with_signature b signed) before → RoundDone b local before after any → RoundMade (with_signature b signed) local before after any
round_made b signed local before after any list done =
    record {
      handed = done.handed;
      holds = record {
        axioms = done.axioms ∙ ap (λ p. λ k. kept_in before k || p k) same;
        names = done.names ∙ fun_ext (λ n.
            ap₂ ◌||◌ (ap (λ f. f n) list) (ap (λ p. names_of b p n) same)
            ∙ or_assoc (signature (with_signature b signed) n) _ _
            ∙ ap (λ t. signature (with_signature b signed) n || t) (sym (some_either (axiom_count b) (kept_in before) chosen (λ k. in_rule (rule_at b k) n))));
      };
      marks = done.marks ∙ ap (some_below (axiom_count b)) same;
    }
  where
    chosen : Marks
    chosen = round_marks (with_signature b signed) local (handed_in before) (kept_in before)

    same : new_marks b local before ≡ chosen
    same = ap (λ l. λ k. handed_in before k && (not (kept_in before k) && not (local (rule_at b k) l))) list

-- nothing is marked yet
blank_is : set_of (replicate 1024 false) ≡ no_axiom
blank_is = fun_ext (λ k. blank_none 1024 k)

some_never : (n : ℕ) (q : ℕ → Bool) → some_below n (λ k. false && q k) ≡ false
some_never zero q = refl
some_never (suc n) q = some_never n q

or_none : (a b : Bool) → b ≡ false → a ≡ (a || b)
or_none true b e = refl
or_none false b e = sym e

-- a stage before its first round
pub stage_begins : (b : Contents) (local : Rule → Names → Bool) (handed : Marks) → Midway b local handed (set_of (replicate 1024 false)) 0
stage_begins b local handed = subst (λ s. Midway b local handed s 0) (sym blank_is) (midway_start b local handed)

pub list_begins : (b : Contents) (xs : List Bool) → listed_in xs ≡ signature b → listed_in xs ≡ closed_signature b (set_of (replicate 1024 false))
list_begins b xs e =
    e ∙ fun_ext (λ n. or_none (signature b n) _ (some_never (axiom_count b) (λ k. in_rule (rule_at b k) n))) ∙ ap (closed_signature b) (sym blank_is)

module _ (b : Contents) (local : Rule → Names → Bool) (before after : Tables) (handed : List Bool) (any : Bool) (done : ℕ) (same : before.handed ≡ handed) (round : RoundMade b local before after any) (midway : Midway b local (set_of handed) (set_of before.kept) done) where
  -- the list that a round leaves is that of what it leaves marked
  consistent : Consistent b after
  consistent = round.holds.names ∙ ap (closed_signature b) (sym round.holds.axioms)

  here : Midway b local (set_of before.handed) (set_of before.kept) done
  here = subst (λ h. Midway b local (set_of h) (set_of before.kept) done) (sym same) midway

  -- after a round that marked an axiom
  pub round_more : any ≡ true → (after.handed ≡ handed) × Consistent b after × Midway b local (set_of handed) (set_of after.kept) (done + 1)
  round_more e = (
    round.handed ∙ same,
    consistent,
    rw add-one (subst (λ h. Midway b local (set_of h) (set_of after.kept) (suc done)) same
        (subst (λ s. Midway b local (set_of before.handed) s (suc done)) (sym round.holds.axioms) (midway_more b local (set_of before.handed) (set_of before.kept) done here (sym round.marks ∙ e)))),
  )

  -- after one that marked none
  pub round_last : Inside b (handed_in before) → any ≡ false → Holding b (stage_finish b local (set_of handed)).marked after × (done + 1 ≡ (stage_finish b local (set_of handed)).rounds)
  round_last inside e =
      let finish = midway_last b local (set_of before.handed) (set_of before.kept) done here (sym round.marks ∙ e) in (
        subst (λ h. Holding b (stage_finish b local (set_of h)).marked after) same
            (subst (λ s. Holding b s after) (fun_ext unmoved ∙ sym finish.0) round.holds),
        rw add-one (sym (subst (λ h. (stage_finish b local (set_of h)).rounds ≡ suc done) same finish.1)),
      )
    where
      none_fresh : (k : ℕ) → round_marks b local (set_of before.handed) (set_of before.kept) k ≡ false
      none_fresh k = ⊎_elim
          (λ f. absurd (both_ways _ (none_at (axiom_count b) (round_marks b local (set_of before.handed) (set_of before.kept)) (sym round.marks ∙ e) k (inside k (round_marks-parts b local (set_of before.handed) (set_of before.kept) k f).0)) f))
          (λ f. f)
          (cases_Bool (round_marks b local (set_of before.handed) (set_of before.kept) k))

      unmoved : (k : ℕ) → after_round b local (set_of before.handed) (set_of before.kept) k ≡ set_of before.kept k
      unmoved k = sym (or_none (set_of before.kept k) (round_marks b local (set_of before.handed) (set_of before.kept) k) (none_fresh k))

-- a stage has done at most as many rounds that marked an axiom as a book may have axioms
pub few_rounds : (b : Book) (signed : Names) (local : Rule → Names → Bool) (handed s : Marks) (done : ℕ) → Midway (with_signature (contents b) signed) local handed s done → done ≤ 1024
few_rounds b signed local handed s done midway =
    omega (arith, midway_bound (with_signature (contents b) signed) local handed s done midway, axioms_number b, b.few)
