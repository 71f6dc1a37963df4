-- What a sink in memory tells.
use Rattle.std.specs.Prelude.{ℕ, List}
use Rattle.kj_io.specs.declared.mem.MemSink.{MemSink}

-- the octets taken
abbrev pub sink_taken : MemSink → List ℕ
sink_taken s = s.octets

-- how many writes failed
abbrev pub sink_faults : MemSink → ℕ
sink_faults s = s.faults
