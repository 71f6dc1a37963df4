-- What it says of the bytes that they weren't read.
use Rattle.std.specs.Prelude.{ℕ, List}
use Rattle.conn_record.specs.declared.read.RecordRefused.{RecordRefused}
use Rattle.conn_record.specs.declared.read.RecordRefused.TheVariants.{Bad, NoMemory}
use Rattle.conn_record.specs.Records.{IsNoRecording, IsWholeUpTo}

abbrev pub IsRefusal : List ℕ → RecordRefused → Type 0
IsRefusal bytes (Bad whole) = IsNoRecording bytes × IsWholeUpTo bytes whole
IsRefusal bytes NoMemory = Unit {0}
