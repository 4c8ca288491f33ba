-- A list of calls, one behind the other.
use Rattle.std.proofs.Common.{◌≡◌, ℕ, ◌+◌, ◌<◌, List, [], ◌∷◌, ◌++◌, length, get_or, take, sym, refl, ap, ◌∙◌}
use Rattle.std.proofs.lemmas.List.{map_push, take_more}
use Rattle.book.specs.Contents.{Contents}
use Rattle.runs.specs.declared.call.Edit.{Edit}
use Rattle.runs.specs.Steps.{Step, Standing, change, freeze, draft, frozen, change_of, edit_steps, edits_then_freeze, edit_turn, call_turn, state_from}

-- what two lists make of a book, one behind the other
pub state_from-append : (s : Standing) (cs more : List Step) → state_from s (cs ++ more) ≡ state_from (state_from s cs) more
state_from-append s [] more = refl
state_from-append s (c ∷ cs) more = state_from-append (call_turn s c).state cs more

module _ (s : Standing) (es : List Edit) (b : Contents) where
  -- one edit more
  pub one_edit_more : (i : ℕ) (e : Edit) → i < length es → e ≡ get_or es i e → (next : Contents) → next ≡ (edit_turn b (change_of e)).state → record { status = draft; book = b } ≡ state_from s (edit_steps (take i es)) → record { status = draft; book = next } ≡ state_from s (edit_steps (take (i + 1) es))
  one_edit_more i e inside is next made so =
      let step = λ (x : Edit). change (change_of x) in
      let more = take_more es i e inside ∙ ap (λ x. take i es ++ x ∷ []) (sym is) in
      ap (λ c. record { status = draft; book = c }) made ∙
      ap (λ (t : Standing). (call_turn t (step e)).state) so ∙
      sym (ap (λ l. state_from s (edit_steps l)) more ∙ ap (state_from s) (map_push step (take i es) e) ∙ state_from-append s (edit_steps (take i es)) (step e ∷ []))

  -- freezing behind all
  pub frozen_then : (i : ℕ) → take i es ≡ es → record { status = draft; book = b } ≡ state_from s (edit_steps (take i es)) → record { status = frozen; book = b } ≡ state_from s (edits_then_freeze es)
  frozen_then i all so =
      ap (λ (t : Standing). (call_turn t freeze).state) (so ∙ ap (λ l. state_from s (edit_steps l)) all) ∙ sym (state_from-append s (edit_steps es) (freeze ∷ []))
