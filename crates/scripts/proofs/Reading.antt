-- A word by what it stands for, once there is one.
use Rattle.std.proofs.Common.{◌≡◌, List, [], ◌∷◌, ℕ, Ok, Err, Result, ap, arith, ◌∙◌}
use Rattle.scripts.specs.declared.halt.Halt.{Halt}
use Rattle.scripts.specs.declared.halt.Halt.TheVariants.{NoCall, Memory}
use Rattle.scripts.specs.declared.halt.LineFault.{LineFault}
use Rattle.scripts.specs.declared.words.Words.{Words}
use Rattle.scripts.specs.Lines.{taken, settled, word}
use Rattle.scripts.specs.Readings.{AnswersInRoom, ReadsInRoom, fault_in, left}

settled_word : {A : Type 0} (value : List ℕ → Result A LineFault) (ws rest : List (List ℕ)) (w : List ℕ) → word Ok ws ≡ taken w rest → word value ws ≡ settled (value w) rest
settled_word value [] rest w e = absurd (let z : ◌≡◌ {A = ℕ} 0 1 = cc in omega arith)
settled_word value (v ∷ vs) rest w e = cc

module _ {A B : Type 0} (of : A → B) (value : List ℕ → Result B LineFault) (words : Words) (ws : List (List ℕ)) (w : List ℕ) (first : word Ok ws ≡ taken w (left words)) where
  -- reading the word is reading its value
  pub read_word : (r : Result A Halt) → AnswersInRoom fault_in of r (value w) → ReadsInRoom of r words (word value ws)
  read_word (Ok x) e = settled_word value ws (left words) w first ∙ ap (λ o. settled o (left words)) e
  read_word (Err (NoCall f)) e = settled_word value ws (left words) w first ∙ ap (λ o. settled o (left words)) e
  read_word (Err Memory) e = e
