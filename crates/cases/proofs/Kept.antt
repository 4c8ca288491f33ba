-- The worked cases, one by one and together.
use Rattle.std.proofs.Common.{◌≡◌, ℕ, suc, ◌≤◌, true, false, not, ◌&&◌, ◌||◌, List, [], ◌∷◌, length, refl, ap, ◌∙◌, arith}
use Rattle.book.specs.Contents.{Contents}
use Rattle.locality.specs.declared.test.Test.{Test}
use Rattle.locality.specs.declared.test.Test.TheVariants.{Bottom, Top}
use Rattle.locality.specs.SingleTerms.{SingleTerms}
use Rattle.locality.specs.Tables.{local_by}
use Rattle.extraction.specs.Rounds.{Finish, stage_finish, add_rounds}
use Rattle.extraction.specs.Sets.{Marks, axiom_count, is_in_force, names_drawn_in, list_size}
use Rattle.cases.specs.Example.{among, relay, distance, bay, has, example}
use Rattle.cases.specs.WorkedCases.{stages, Keeps, WorkedCases}
use Rattle.cases.proofs.Chains.{final, follows, stage_is, in_force_past, among_past}
use Rattle.cases.proofs.Bodies.{files, refuses, files_deep, refuses_deep}

-- what stages mark and count
abbrev ends : List Test → Contents → Finish
ends tests b = record { marked = (stages tests b).kept; rounds = (stages tests b).rounds }

-- one stage more, where it is known what those below hand up
over : (d : Test) (below : List Test) (b : Contents) (handed : Marks) (before : ℕ) → ends below b ≡ record { marked = handed; rounds = before } → ((k : ℕ) → axiom_count b ≤ k → handed k ≡ false) → (rounds : List (List ℕ)) → length rounds ≤ axiom_count b → follows b (local_by d) handed [] rounds ≡ true → ends (d ∷ below) b ≡ record { marked = among (final [] rounds); rounds = add_rounds before (suc (length rounds)) }
over d below b handed before e past rounds h f =
    ap (λ (s : Finish). record { marked = (stage_finish b (local_by d) s.marked).marked; rounds = add_rounds s.rounds (stage_finish b (local_by d) s.marked).rounds }) e ∙
    ap (λ (s : Finish). record { marked = s.marked; rounds = add_rounds before s.rounds }) (stage_is b (local_by d) handed past rounds h f)

-- a stage alone
alone : (d : Test) (b : Contents) (rounds : List (List ℕ)) → length rounds ≤ axiom_count b → follows b (local_by d) (is_in_force b) [] rounds ≡ true → ends (d ∷ []) b ≡ record { marked = among (final [] rounds); rounds = add_rounds 0 (suc (length rounds)) }
alone d b = over d [] b (is_in_force b) 0 refl (in_force_past b)

-- what the stages come to, told as the cases tell it
keeps : (tests : List Test) (b : Contents) (kept : List ℕ) (rounds drawn : ℕ) → ends tests b ≡ record { marked = among kept; rounds = rounds } → list_size b (names_drawn_in b (among kept)) ≡ drawn → Keeps tests b kept rounds drawn
keeps tests b kept rounds drawn e d = record {
  marks = λ k. ap (λ (s : Finish). s.marked k) e;
  takes = ap (λ (s : Finish). s.rounds) e;
  draws = ap (λ (s : Finish). list_size b (names_drawn_in b s.marked)) e ∙ d;
}

-- what the tests say of single terms is read off their tables
single : SingleTerms Bottom Top
single = record {
  two_outside = λ r listed h. ap (λ t. (true && not t) || false) h;
  two_listed = λ r listed h. (ap (λ t. (true && not t) || false) h, refl);
  two_top = λ r listed. refl;
  individual = λ a listed. ((refl, refl), (refl, refl));
}

-- what bottom keeps where "has" is seeded, which top is then handed
has_kept : ends (Bottom ∷ []) (example (3 ∷ 5 ∷ []) has) ≡ record { marked = among (2 ∷ 4 ∷ 6 ∷ []); rounds = 4 }
has_kept = alone Bottom (example (3 ∷ 5 ∷ []) has) ((4 ∷ []) ∷ (2 ∷ 4 ∷ []) ∷ (2 ∷ 4 ∷ 6 ∷ []) ∷ []) (omega arith) refl

-- each case by the sets that are marked after its rounds
pub all_cases : WorkedCases Bottom Top
all_cases = record {
  bay_bottom = keeps _ _ [] 1 0 (alone Bottom (example (5 ∷ []) bay) [] (omega arith) refl) refl;
  relay_bottom = keeps _ _ (2 ∷ 3 ∷ 6 ∷ []) 3 2 (alone Bottom (example (5 ∷ []) relay) ((2 ∷ []) ∷ (2 ∷ 3 ∷ 6 ∷ []) ∷ []) (omega arith) refl) refl;
  relay_whole =
      keeps _ _ (0 ∷ 1 ∷ 2 ∷ 3 ∷ 4 ∷ 5 ∷ 6 ∷ []) 4 6
      (alone Bottom (example [] relay) ((2 ∷ 5 ∷ []) ∷ (0 ∷ 1 ∷ 2 ∷ 3 ∷ 5 ∷ 6 ∷ []) ∷ (0 ∷ 1 ∷ 2 ∷ 3 ∷ 4 ∷ 5 ∷ 6 ∷ []) ∷ []) (omega arith) refl) refl;
  distance_top =
      keeps _ _ (0 ∷ 1 ∷ 2 ∷ 3 ∷ 4 ∷ 6 ∷ []) 4 5
      (alone Top (example (5 ∷ []) distance) ((1 ∷ 3 ∷ []) ∷ (0 ∷ 1 ∷ 2 ∷ 3 ∷ 4 ∷ []) ∷ (0 ∷ 1 ∷ 2 ∷ 3 ∷ 4 ∷ 6 ∷ []) ∷ []) (omega arith) refl) refl;
  has_bottom = keeps _ _ (2 ∷ 4 ∷ 6 ∷ []) 4 3 has_kept refl;
  has_both =
      keeps _ _ [] 5 0
      (over Top (Bottom ∷ []) (example (3 ∷ 5 ∷ []) has) (among (2 ∷ 4 ∷ 6 ∷ [])) 4 has_kept (among_past 7 (2 ∷ 4 ∷ 6 ∷ []) refl) [] (omega arith) refl) refl;
  single_terms = single;
  individuals = (refl, refl, refl);
  filed = files;
  wrong_name = refuses;
  deep = files_deep;
  too_deep = refuses_deep;
}
