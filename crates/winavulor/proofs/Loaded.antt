-- A cut of a book that was loaded from bytes.
use Rattle.std.proofs.Common.{◌≡◌, ℕ, true, List, [], ◌∷◌, ◌++◌, map, Some, None, Ok, Err, Option, Result, ap, ◌∙◌, subst, refl, arith}
use Rattle.std.proofs.lemmas.Bool.{and_from}
use Rattle.refusals.specs.Turns.{Gives}
use Rattle.locality.specs.declared.test.Test.{Test}
use Rattle.vocabulary.specs.Entities.{Entity}
use Rattle.book.specs.Calls.{empty}
use Rattle.book.specs.Contents.{Contents}
use Rattle.records.specs.Loading.{loading}
use Rattle.extraction.specs.Marking.{marking}
use Rattle.records.specs.Files.{all_bytes}
use Rattle.part.specs.Parts.{part_bytes}
use Rattle.runs.specs.declared.call.Edit.{Edit}
use Rattle.runs.specs.Promise.{AreOfBytes, Promise}
use Rattle.runs.specs.Resting.{marking_if_frozen}
use Rattle.runs.specs.Steps.{Change, Standing, Step, change, change_of, draft, edit_steps, edits_then_freeze, freeze, frozen, state_after, state_from, seed}
use Rattle.scripts.specs.Replies.{pile_of}
use Rattle.runs.proofs.Promising.{promised}
use Rattle.locality.specs.Tables.{test_meaning}
use Rattle.locality.specs.lemmas.Keeps.{keeps_laws}
use Rattle.extraction.specs.Extractions.{whole}
use Rattle.extraction.specs.lemmas.Repaired.{piled_meaning, whole_meaning}
use Rattle.winavulor.specs.Cuts.{IsCutFrom, Product, cut_calls, no_marks}
use Rattle.winavulor.specs.Words.{name_of_word, seeded_ahead, seedings}

-- edits as calls, by what they are
steps_of : (es : List Edit) → edit_steps es ≡ map change (map change_of es)
steps_of [] = refl
steps_of (e ∷ es) = ap (λ cs. change (change_of e) ∷ cs) (steps_of es)

-- a draft that holds what loading leaves, and edits and freezing on it, stand as after the calls of the cut
pub leads : (b : Contents) (bytes : List ℕ) (es : List Edit) → b ≡ (loading empty bytes).state → state_from (record { status = draft; book = b }) (edits_then_freeze es) ≡ state_after (cut_calls bytes (map change_of es))
leads b bytes es e =
    ap (λ x. state_from (record { status = draft; book = x }) (edits_then_freeze es)) e
    ∙ ap (λ cs. state_from (record { status = draft; book = (loading empty bytes).state }) (cs ++ freeze ∷ [])) (steps_of es)

-- what marking and writing gave of the book that was frozen is what they give of the one that the calls lead to
module _ (bytes : List ℕ) (records : ℕ) (words : List (List ℕ)) (tests : List Test) (b c : Contents) (es : List Edit) (p : Product) where
  pub cut_out : b ≡ (loading empty bytes).state → (loading empty bytes).answer ≡ Ok records → seedings b.names words ≡ Ok (map change_of es) → record { status = frozen; book = c } ≡ state_from (record { status = draft; book = b }) (edits_then_freeze es) → Promise (cut_calls bytes (map change_of es)) (pile_of tests) → Gives p.marks (Ok p.marking) (marking c (pile_of tests c) no_marks) → p.part ≡ part_bytes c (pile_of tests c).kept → IsCutFrom bytes records words tests p
  cut_out e taken seeds froze promise marks part =
      let stands : ◌≡◌ {A = Standing} (record { status = frozen; book = c }) (state_after (cut_calls bytes (map change_of es))) = froze ∙ leads b bytes es e in
      record {
        edits = map change_of es;
        taken = taken;
        seeds = subst (λ x. seedings x.names words ≡ Ok (map change_of es)) e seeds;
        promise = promise;
        marked = subst (λ s. Gives p.marks (Some (Ok p.marking)) (marking_if_frozen (pile_of tests) s no_marks)) stands (record { state = marks.state; answer = ap Some marks.answer });
        written = subst (λ (s : Standing). p.part ≡ part_bytes s.book (pile_of tests s.book).kept) stands part;
      }

-- the edits of a cut seed names, so its calls are of bytes if the file is
seeds_of : (names : List Entity) (words : List (List ℕ)) (edits : List Change) → seedings names words ≡ Ok edits → AreOfBytes (map change edits ++ freeze ∷ [])
seeds_of names [] edits e = let none : [] ≡ edits = cc in subst (λ l. AreOfBytes (map change l ++ freeze ∷ [])) none refl
seeds_of names (w ∷ ws) edits e = named (name_of_word names w) (seedings names ws) refl (seeds_of names ws) e
  where
    named : (n : Option ℕ) (r : Result (List Change) (List ℕ)) → seedings names ws ≡ r → ((rest : List Change) → seedings names ws ≡ Ok rest → AreOfBytes (map change rest ++ freeze ∷ [])) → seeded_ahead w n r ≡ Ok edits → AreOfBytes (map change edits ++ freeze ∷ [])
    named None r is later so = absurd (let z : ◌≡◌ {A = ℕ} 0 1 = cc in omega arith)
    named (Some n) (Err v) is later so = absurd (let z : ◌≡◌ {A = ℕ} 0 1 = cc in omega arith)
    named (Some n) (Ok rest) is later so =
        let same : seed n ∷ rest ≡ edits = cc in
        subst (λ l. AreOfBytes (map change l ++ freeze ∷ [])) same (later rest is)

pub calls_of_bytes : (bytes : List ℕ) (names : List Entity) (words : List (List ℕ)) (edits : List Change) → all_bytes bytes ≡ true → seedings names words ≡ Ok edits → AreOfBytes (cut_calls bytes edits)
calls_of_bytes bytes names words edits all e = and_from (all_bytes bytes) _ all (seeds_of names words edits e)

-- the promise of any calls of bytes, and of a pile of any tests
pub pile_promised : (tests : List Test) (cs : List Step) → AreOfBytes cs → Promise cs (pile_of tests)
pile_promised tests = promised (pile_of tests) (λ b right. piled_meaning b right test_meaning keeps_laws (whole b) (whole_meaning b) tests)
