-- The counts of the system's readers and writers.
use Rattle.std.specs.Prelude.{ℕ}
use Rattle.kj_io.specs.declared.standard.StdSource.{StdSource}
use Rattle.kj_io.specs.declared.standard.StdSink.{StdSink}

-- how many reads failed
abbrev pub source_faults : {R : Type 0} → StdSource R → ℕ
source_faults s = s.faults

-- how many writes failed
abbrev pub sink_faults : {W : Type 0} → StdSink W → ℕ
sink_faults s = s.faults
