-- A script, one line after the other.
use Rattle.std.proofs.Common.{◌≡◌, ℕ, ◌+◌, List, [], ◌∷◌, ◌++◌, Some, None, Ok, Err, Option, Result, append-nil, ap, refl, sym, subst, ◌∙◌, arith}
use Rattle.std.proofs.lemmas.List.{append_assoc}
use Rattle.std.specs.Result.{IfOk}
use Rattle.runs.specs.declared.state.State.{State}
use Rattle.runs.specs.Promise.{AreOfBytes}
use Rattle.runs.specs.Steps.{Step, Standing, call_turn, standing, start, state_after, state_from}
use Rattle.scripts.specs.declared.halt.Halt.{Halt}
use Rattle.scripts.specs.declared.halt.Halt.TheVariants.{NoCall, Memory}
use Rattle.scripts.specs.declared.halt.LineFault.{LineFault}
use Rattle.scripts.specs.declared.halt.ScriptFault.{ScriptFault}
use Rattle.scripts.specs.Lines.{Asked, perform, mark, write, line_request}
use Rattle.scripts.specs.Scripts.{LinesPromise, LineDone, LinesDone, LinesHalt, LinePromise, Reaches, ScriptOutcome, after_line, answer_line, calls_of, followed_by, line_outcome, lines_outcome}
use Rattle.scripts.proofs.OfBytes.{with_line}

-- one call more at the end
one_more : (s : Standing) (cs : List Step) (call : Step) → state_from s (cs ++ call ∷ []) ≡ (call_turn (state_from s cs) call).state
one_more s [] call = refl
one_more s (c ∷ cs) call = one_more (call_turn s c).state cs call

-- the book after a line is the one that its calls lead to, behind those before them
by_calls : (cs : List Step) (r : Option Asked) → after_line (state_after cs) r ≡ state_after (cs ++ calls_of r)
by_calls cs None = ap state_after (sym (append-nil cs))
by_calls cs (Some (perform call)) = sym (one_more start cs call)
by_calls cs (Some (mark pile axioms names)) = ap state_after (sym (append-nil cs))
by_calls cs (Some (write pile axioms names part)) = ap state_after (sym (append-nil cs))

-- no line
pub none_left : (cs : List Step) (number : ℕ) (ls : List (List ℕ)) (old : List ℕ) → ls ≡ [] → Reaches cs number ls old old None
none_left cs number ls old is = subst (λ x. Reaches cs number x old old None) (sym is) (record { stops = refl; grows = sym (append-nil old); promise = tt })

-- a line, before others
module _ (cs : List Step) (number : ℕ) (l : List ℕ) (rest : List (List ℕ)) where
  abbrev then_rest : (ls : List (List ℕ)) → Result (Option Asked) LineFault → ScriptOutcome
  then_rest ls q = followed_by number (line_outcome (state_after cs) q) (λ t. lines_outcome t (number + 1) ls)

  -- it asks for r
  module _ (r : Option Asked) (asks : line_request l ≡ Ok r) (up : LinePromise cs r) (old mid new : List ℕ) (grows : mid ≡ old ++ answer_line (state_after cs) r) where
    reach_on : (ls : List (List ℕ)) (stop : Option (ℕ × LineFault)) → Reaches (cs ++ calls_of r) (number + 1) ls mid new stop → Reaches cs number (l ∷ ls) old new stop
    reach_on ls stop so =
        let after : Standing → ScriptOutcome = λ t. lines_outcome t (number + 1) ls in
        let later : List ℕ = (after (state_after (cs ++ calls_of r))).text in
        record {
          stops = ap (λ q. (then_rest ls q).stop) asks ∙ (ap (λ t. (after t).stop) (by_calls cs r) ∙ so.stops);
          grows = so.grows ∙ (ap (λ m. m ++ later) grows ∙ (append_assoc old (answer_line (state_after cs) r) later ∙ ap (λ x. old ++ x) (sym (ap (λ q. (then_rest ls q).text) asks ∙ ap (λ t. answer_line (state_after cs) r ++ (after t).text) (by_calls cs r)))));
          promise = subst (λ q. IfOk q (λ x. LinePromise cs x × LinesPromise (cs ++ calls_of x) ls)) (sym asks) (up, so.promise);
        }

    halt_on : (line : ℕ) (h : Halt) → LinesHalt (cs ++ calls_of r) (number + 1) rest mid new line h → LinesHalt cs number (l ∷ rest) old new line h
    halt_on line (NoCall f) so = reach_on rest (Some (line, f)) so
    halt_on line Memory so = record {
      before = l ∷ so.before;
      rest = so.rest;
      parts = ap (λ x. l ∷ x) so.parts;
      place = omega (arith, so.place);
      performed = reach_on so.before None so.performed;
    }

    done_on : {A : Type 0} (result : Result A ScriptFault) → LinesDone (cs ++ calls_of r) (number + 1) rest mid new result → LinesDone cs number (l ∷ rest) old new result
    done_on (Ok x) so = reach_on rest None so
    done_on (Err f) so = halt_on f.line f.halt so

  -- it is performed, so what the rest leads to is what is left of the script
  abbrev pub GoesOn : Type 0 → State → List ℕ → List ℕ → Type 0
  GoesOn A t old mid =
      (more : List Step) × (standing t ≡ state_after more) × AreOfBytes more × ((result : Result A ScriptFault) (new : List ℕ) → LinesDone more (number + 1) rest mid new result → LinesDone cs number (l ∷ rest) old new result)

  goes : (A : Type 0) (t : State) (old mid : List ℕ) → AreOfBytes cs → (q : Result (Option Asked) LineFault) → line_request l ≡ q → LineDone old mid (Ok t) (line_outcome (state_after cs) q) → IfOk q (LinePromise cs) → GoesOn A t old mid
  goes A t old mid bytes (Ok r) asks so up =
      let here : after_line (state_after cs) r ≡ standing t = cc in
      (cs ++ calls_of r, sym here ∙ by_calls cs r, with_line cs l r bytes asks, λ result new later. done_on r asks up old mid new so.1 result later)
  goes A t old mid bytes (Err f) asks so up = absurd (let z : ◌≡◌ {A = ℕ} 0 1 = cc in omega arith)

  pub line_goes : (A : Type 0) (t : State) (old mid : List ℕ) → AreOfBytes cs → (s : Standing) → s ≡ state_after cs → LineDone old mid (Ok t) (line_outcome s (line_request l)) → IfOk (line_request l) (LinePromise cs) → GoesOn A t old mid
  line_goes A t old mid bytes s here so up = goes A t old mid bytes (line_request l) refl (subst (λ x. LineDone old mid (Ok t) (line_outcome x (line_request l))) here so) up

  -- it ends the script
  ends : (h : Halt) (old new : List ℕ) (q : Result (Option Asked) LineFault) → line_request l ≡ q → LineDone old new (Err h) (line_outcome (state_after cs) q) → LinesHalt cs number (l ∷ rest) old new number h
  ends (NoCall f) old new (Ok r) asks so = absurd (let z : ◌≡◌ {A = ℕ} 0 1 = cc in omega arith)
  ends (NoCall f) old new (Err g) asks so =
      let same : g ≡ f = cc in
      record {
        stops = ap (λ q. (then_rest rest q).stop) asks ∙ ap (λ x. Some (number, x)) same;
        grows = so.1 ∙ ap (λ x. old ++ x) (sym (ap (λ q. (then_rest rest q).text) asks));
        promise = subst (λ q. IfOk q (λ x. LinePromise cs x × LinesPromise (cs ++ calls_of x) rest)) (sym asks) tt;
      }
  ends Memory old new q asks so = record {
    before = [];
    rest = l ∷ rest;
    parts = refl;
    place = omega arith;
    performed = record { stops = refl; grows = so ∙ sym (append-nil old); promise = tt };
  }

  pub line_ends : (h : Halt) (old new : List ℕ) (s : Standing) → s ≡ state_after cs → LineDone old new (Err h) (line_outcome s (line_request l)) → LinesHalt cs number (l ∷ rest) old new number h
  line_ends h old new s here so = ends h old new (line_request l) refl (subst (λ x. LineDone old new (Err h) (line_outcome x (line_request l))) here so)
