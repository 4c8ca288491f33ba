-- What a call does: the state that it leaves, and its answer.
use Rattle.std.specs.Prelude.{◌≡◌, Ok, Err, Result}

-- a state, as a book or the buffers of a call, and an answer
pub record Turn (S R : Type 0) : Type 0 where
  pub state : S
  pub answer : R

abbrev pub accepted_turn : {S A F : Type 0} → S → A → Turn S (Result A F)
accepted_turn s a = record { state = s; answer = Ok a }

-- a refused call changes nothing
abbrev pub refused_turn : {S A F : Type 0} → S → F → Turn S (Result A F)
refused_turn s f = record { state = s; answer = Err f }

-- the state is what the turn leaves, and r is its answer
pub record Gives {S R : Type 0} (s : S) (r : R) (turn : Turn S R) : Type 0 where
  pub state : s ≡ turn.state
  pub answer : r ≡ turn.answer
