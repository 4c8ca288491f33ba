-- The meaning of keeping all axioms in force, and that of a stage and of a pile, from the meaning of the extractor below.
use Rattle.std.specs.Prelude.{◌≡◌, ℕ, ◌+◌, ◌<◌, Bool, true, List, [], ◌∷◌, map, refl}
use Rattle.std.proofs.Common.{◌∙◌, ⊎_elim, arith}
use Rattle.std.proofs.Math.Nat.{min-le_right}
use Rattle.std.proofs.lemmas.Bool.{cases_Bool, cond-true, and_from, or_right}
use Rattle.vocabulary.specs.declared.name.NameId.{NameId}
use Rattle.terms.specs.Forms.{Rule}
use Rattle.book.specs.Contents.{Contents}
use Rattle.book.specs.Proper.{Sound}
use Rattle.locality.specs.lemmas.Sound.{reset_has}
use Rattle.locality.specs.Laws.{TestLaws, TestMeaning}
use Rattle.locality.specs.Mentions.{in_rule}
use Rattle.locality.specs.Worlds.{World, Names, Default, reset}
use Rattle.extraction.specs.Extractions.{Extraction, whole, staged, piled}
use Rattle.extraction.specs.Extractors.{Agree, AllHold, Meaning, Closed}
use Rattle.extraction.specs.Rounds.{round_limit, stage_finish}
use Rattle.extraction.specs.Sets.{Marks, axiom_count, rule_at, is_in_force, closed_signature}
use Rattle.extraction.specs.lemmas.Below.{some_from}
use Rattle.extraction.specs.lemmas.Coincide.{coincide}
use Rattle.extraction.specs.lemmas.Least.{closed_grows, stage_closed}
use Rattle.extraction.specs.lemmas.Limits.{stage_laws}
use Rattle.extraction.specs.lemmas.Names.{rule_counts_fit, in_force_below}

-- a world that is reset agrees with what it was on the listed names
reset_agrees : (default : Default) (listed : Names) (w : World) → Agree listed w (reset default listed w)
reset_agrees default listed w = record {
  elements = refl;
  individuals = λ a. refl;
  concepts = λ n x h l. cond-true (listed n) _ _ h;
  roles = λ n x y h l m. cond-true (listed n) _ _ h;
}

-- a world agrees with one that agrees with it on more names
agree_through : (listed wider : Names) (u w v : World) → ((n : NameId) → listed n ≡ true → wider n ≡ true) → Agree listed u w → Agree wider w v → Agree listed u v
agree_through listed wider u w v part first second =
    let e = first.elements in
    record {
      elements = second.elements ∙ e;
      individuals = λ a. second.individuals a ∙ first.individuals a;
      concepts = λ n x h l. second.concepts n x (part n h) (omega arith) ∙ first.concepts n x h l;
      roles = λ n x y h l m. second.roles n x y (part n h) (omega arith) (omega arith) ∙ first.roles n x y h l m;
    }

-- the names of an axiom of a set are in its closed signature
names_closed : (b : Contents) (s : Marks) (k : ℕ) → k < axiom_count b → s k ≡ true → (n : NameId) → in_rule (rule_at b k) n ≡ true → closed_signature b s n ≡ true
names_closed b s k l h n e = or_right _ _ (some_from (axiom_count b) _ k l (and_from _ _ h e))

-- where the axioms of a closed set hold, all that were handed up hold once the world is reset
reset_holds : (b : Contents) (local : Rule → Names → Bool) (default : Default) → TestLaws local default → Sound b → (handed : Marks) → ((k : ℕ) → handed k ≡ true → is_in_force b k ≡ true) → (s : Marks) → Closed b local handed s → (w : World) → AllHold b s w → AllHold b handed (reset default (closed_signature b s) w)
reset_holds b local default laws right handed part s closed w holds k up =
    let listed = closed_signature b s in
    ⊎_elim
    (λ e. coincide listed w (reset default listed w) (reset_agrees default listed w) (rule_at b k) (names_closed b s k (in_force_below b k (part k up)) e) (holds k e))
    (λ e. laws.holds (rule_at b k) listed (reset default listed w) (reset_has default listed w) (rule_counts_fit b right k) (closed.others k up e))
    (cases_Bool (s k))

-- the meaning of keeping all axioms in force
pub whole_meaning : (b : Contents) → Meaning b (whole b)
whole_meaning b = record {
  part = λ k h. h;
  untouched = λ w.
      record { elements = refl; individuals = λ a. refl; concepts = λ n x h l. refl; roles = λ n x y h l m. refl };
  repaired = λ w holds. holds;
  limited = omega arith;
  levels = tt;
}

module _ (b : Contents) (right : Sound b) where
  -- the meaning of a stage
  pub staged_meaning : (local : Rule → Names → Bool) (default : Default) → TestLaws local default → (below : Extraction) → Meaning b below → Meaning b (staged b local default below)
  staged_meaning local default laws below means =
      let marked = (stage_finish b local below.kept).marked in
      let listed = closed_signature b marked in
      let closed = stage_closed b local below.kept means.part in
      record {
        part = λ k h. means.part k (closed.part k h);
        untouched = λ w.
            agree_through listed (closed_signature b below.kept) w (reset default listed w) _ (closed_grows b marked below.kept closed.part) (reset_agrees default listed w) (means.untouched (reset default listed w));
        repaired = λ w holds.
            means.repaired (reset default listed w) (reset_holds b local default laws right below.kept means.part marked closed w holds);
        limited = min-le_right (below.rounds + (stage_finish b local below.kept).rounds) round_limit;
        levels = (stage_laws b local default laws right below.kept means.part below.rounds, means.levels);
      }

  -- the meaning of a pile
  pub piled_meaning : {T : Type 0} (meaning : T → TestMeaning) → ((t : T) → TestLaws (meaning t).local (meaning t).default) → (below : Extraction) → Meaning b below → (tests : List T) → Meaning b (piled b (map meaning tests) below)
  piled_meaning meaning laws below means [] = means
  piled_meaning meaning laws below means (t ∷ tests) =
      staged_meaning (meaning t).local (meaning t).default (laws t) (piled b (map meaning tests) below) (piled_meaning meaning laws below means tests)
