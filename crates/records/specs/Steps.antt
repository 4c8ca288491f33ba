-- What a step of loading leaves.
use Rattle.std.specs.Prelude.{◌≡◌, ℕ, ◌+◌, ◌≤◌, List, length, drop, IfOk, IfErr, Result}
use Rattle.book.specs.declared.draft.Draft.{Draft}
use Rattle.book.specs.Contents.{Contents}
use Rattle.book.specs.Calls.{contents}
use Rattle.records.specs.declared.fault.RecordFault.{RecordFault}
use Rattle.records.specs.declared.reader.RecordReader.{RecordReader}
use Rattle.records.specs.Faults.{place_in}
use Rattle.records.specs.Files.{head_length, first_record}
use Rattle.records.specs.Loading.{Loaded, after_record, after_turn}

-- the bytes from where a reader stands
abbrev pub rest_of : RecordReader → List ℕ
rest_of r = drop r.at r.file.now

-- one record was taken, or the loading ends there: then the place of the fault lies in the file, or right behind it.
-- Whatever loading does with the later bytes, it comes to what it does from where the reader stands now.
pub record Stepped (before : Draft) (from : RecordReader) (r : Result (Unit {0}) RecordFault) (later : Draft) (to : RecordReader) : Type 0 where
  pub file : to.file.now ≡ from.file.now
  pub farther : IfOk r (λ x. from.at + head_length ≤ to.at)
  pub near : IfErr r (λ fault. place_in from.at fault ≤ length from.file.now)
  pub goes : (loads : List ℕ → Contents → ℕ → ℕ → Loaded) (taken : ℕ) →
      after_record loads (rest_of from) (contents before) from.at taken (first_record (rest_of from)) ≡
      after_turn (λ c. loads (rest_of to) c to.at) from.at taken (contents later) r
