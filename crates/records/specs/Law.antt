-- The law of loading. An accepted file is its records one behind the other, each of them taken as its naming, filing or
-- seeding. A refused one is that up to the record where the loading stopped, and that record is refused; or the book was
-- not blank, and nothing is changed.
use Rattle.std.specs.Prelude.{◌≡◌, ℕ, ◌<◌, true, false, List, ◌++◌, length, Ok, Err, Result}
use Rattle.refusals.specs.Choice.{Decides, Judged, refusal_of}
use Rattle.book.specs.Contents.{Contents}
use Rattle.book.specs.Calls.{blank}
use Rattle.records.specs.declared.fault.RecordFault.{RecordFault}
use Rattle.records.specs.Faults.{record_refusal}
use Rattle.records.specs.Files.{Entry, file_bytes}
use Rattle.records.specs.Fitting.{RecordFits, LoadFits}
use Rattle.records.specs.Stops.{Stop, not_blank, at_record, load_refusal}
use Rattle.records.specs.Taking.{AreTaken}

-- from the contents b a file is loaded, which leaves the contents c
module _ (b : Contents) (file : List ℕ) (c : Contents) where
  -- all of it was taken, n records
  pub record IsAllTaken (n : ℕ) : Type 0 where
    pub entries : List Entry
    pub whole : file ≡ file_bytes entries
    pub count : n ≡ length entries
    pub taken : AreTaken b entries c

  -- so many records were taken; behind them, at this offset, a record begins that is refused for this fault
  pub record IsTakenUpTo (at : ℕ) (fault : RecordFault) (n : ℕ) : Type 0 where
    pub entries : List Entry
    pub rest : List ℕ
    pub splits : file ≡ file_bytes entries ++ rest
    pub left : 0 < length rest
    pub count : n ≡ length entries
    pub taken : AreTaken b entries c
    pub offset : at ≡ length (file_bytes entries)
    pub refused : Decides (RecordFits c rest at) (record_refusal at fault)

  abbrev pub IsLoadedAs : Result ℕ Stop → Type 0
  IsLoadedAs (Ok n) = (blank b ≡ true) × IsAllTaken n
  IsLoadedAs (Err (at_record at fault n)) = (blank b ≡ true) × IsTakenUpTo at fault n
  IsLoadedAs (Err not_blank) = (blank b ≡ false) × (c ≡ b)

-- and it is refused exactly if some refusal fits, and then by the one that decides
pub record IsLoading (b : Contents) (file : List ℕ) (r : Result ℕ Stop) (c : Contents) : Type 0 where
  pub loaded : IsLoadedAs b file c r
  pub judged : Judged (LoadFits b file) (refusal_of load_refusal r)
