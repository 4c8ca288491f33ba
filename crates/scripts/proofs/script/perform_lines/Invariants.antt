use Rattle.std.proofs.Common.{◌≡◌, ℕ, ◌+◌, List, Result, string_bytes}
use Rattle.std.proofs.lemmas.Iterator.{YieldsList}
use Rattle.std.specs.Iterator.Adapters.{enumerate_count, enumerate_source}
use Rattle.std.specs.Str.Iter.{split_steps}
use Rattle.std.specs.Str.Pattern.{FindsChar}
use Rattle.runs.specs.Promise.{AreOfBytes}
use Rattle.runs.specs.Steps.{Step, state_after, standing}
use Rattle.scripts.specs.declared.halt.ScriptFault.{ScriptFault}
use Rattle.scripts.specs.Scripts.{LinesDone, ScriptDone}
use Rattle.scripts.proofs.script.perform_lines.Given as goal

-- calls of bytes have led here, and what the lines that are left lead to is what the script leads to
abbrev pub invariant-loop-before : goal.invariant-loop-before
invariant-loop-before l =
    (cs : List Step)
    × (left : List (List ℕ))
    × (standing l.state ≡ state_after cs)
    × AreOfBytes cs
    × YieldsList (split_steps FindsChar (λ a b. b ≡ a)) (λ x. x.now) (enumerate_source l.before-iterator) left
    × ((r : Result (Unit {0}) ScriptFault) (new : List ℕ) → LinesDone cs (enumerate_count l.before-iterator + 1) left (string_bytes l.answers) new r → ScriptDone l.fn.script (string_bytes l.fn.answers) new r)
