use Rattle.std.proofs.Common.{◌≡◌, List, ◌++◌, ◌∷◌, [], map, refl, ap, sym, ◌∙◌, rules}
use Rattle.std.proofs.iter.Yields.{fronts}
use Rattle.std.proofs.lemmas.Fn.{fold_over}
use Rattle.std.proofs.lemmas.Iterator.{YieldsList-from_slice}
use Rattle.std.proofs.lemmas.List.{map_push}
use Rattle.runs.specs.declared.call.Call.{Call}
use Rattle.runs.specs.declared.state.State.{State}
use Rattle.runs.specs.Steps.{Standing, step_of, standing, call_turn, state_from}
use Rattle.runs.proofs.Lists.{state_from-append}
use Rattle.runs.proofs.state.State.perform_all.Goals as goal

-- one call more
state_from_more : (start now : Standing) (cs : List Call) (x : Call) → now ≡ (call_turn (state_from start (map step_of cs)) (step_of x)).state → now ≡ state_from start (map step_of (cs ++ x ∷ []))
state_from_more start now cs x e =
    e ∙ sym (ap (state_from start) (map_push step_of cs x) ∙ state_from-append start (map step_of cs) (step_of x ∷ []))

pub returns : goal.returns
returns c =
    let start = standing c.args.self in
    fold_over fronts (λ y. y.now) _ (λ (cs : List Call) (s : State). standing s ≡ state_from start (map step_of cs)) _
    (λ cs s x t q so called.
    let moved : standing t ≡ (call_turn (standing s) (step_of x.now)).state = search rules in
    (state_from_more start _ cs x.now (moved ∙ ap (λ n. (call_turn n (step_of x.now)).state) so), refl))
    _ c.args.calls.now c.args.self c.fold.result (YieldsList-from_slice c.args.calls.now c.iter.ensures.rest).runs refl c.fold.ensures.ran
