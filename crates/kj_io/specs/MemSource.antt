-- What a source in memory tells.
use Rattle.std.specs.Prelude.{ℕ, List, drop}
use Rattle.kj_io.specs.declared.mem.MemSource.{MemSource}

-- the octets not yet given
abbrev pub source_left : MemSource → List ℕ
source_left s = drop s.at s.octets

-- how many reads failed
abbrev pub source_faults : MemSource → ℕ
source_faults s = s.faults
