-- What one step of a reader does: it goes on through the body, and gives what the format says.
use Rattle.std.specs.Prelude.{◌≡◌, ℕ, ◌≤◌, List, Ok, Err, Result}
use Rattle.vocabulary.specs.Entities.{Entity}
use Rattle.vocabulary.specs.Naming.{entities}
use Rattle.terms.specs.declared.fault.ItemFault.{ItemFault}
use Rattle.terms.specs.Reading.{Outcome, got, bad}
use Rattle.codec.specs.declared.reader.BodyReader.{BodyReader}

abbrev pub bytes : BodyReader → List ℕ
bytes b = b.body.now

abbrev pub entities_of : BodyReader → List Entity
entities_of b = entities b.names.now

-- an answer, and the place where the reader then stands, as the format has them
abbrev pub outcome : {X Y : Type 0} → (X → Y) → Result X ItemFault → ℕ → Outcome Y
outcome value (Ok x) at = got (value x) at
outcome value (Err e) at = bad e

-- the reader keeps its body and its names, goes forward only, and answers what `read` says
pub record Does {X Y : Type 0} (value : X → Y) (before : BodyReader) (r : Result X ItemFault) (after : BodyReader) (read : Outcome Y) : Type 0 where
  pub body : bytes after ≡ bytes before
  pub names : entities_of after ≡ entities_of before
  pub onward : before.at ≤ after.at
  pub reads : outcome value r after.at ≡ read
