-- What a reader of records yields.
use Rattle.std.specs.Prelude.{◌≡◌, ◌+◌, drop, Some, None, Ok, Err, Result}
use Rattle.records.specs.declared.fault.RecordFault.{RecordFault}
use Rattle.records.specs.declared.fault.RecordFault.TheVariants.{CutShort}
use Rattle.records.specs.declared.reader.Record.{Record}
use Rattle.records.specs.declared.reader.RecordReader.{RecordReader}
use Rattle.records.specs.Files.{Entry, record_length, first_record}

abbrev pub entry_of : Record → Entry
entry_of r = record { kind = r.kind; body = r.body.now }

-- the record that was read is the one that begins the rest of the file, and the reader stands behind it; or there is none,
-- and it stands where it stood
abbrev pub Reads : RecordReader → Result Record RecordFault → RecordReader → Type 0
Reads before (Ok r) later =
    (first_record (drop before.at before.file.now) ≡ Some (entry_of r)) × (later.at ≡ before.at + record_length (entry_of r))
Reads before (Err fault) later =
    (first_record (drop before.at before.file.now) ≡ None) × (fault ≡ CutShort) × (later.at ≡ before.at)

pub record Yields (before : RecordReader) (r : Result Record RecordFault) (later : RecordReader) : Type 0 where
  pub file : later.file.now ≡ before.file.now
  pub reads : Reads before r later
