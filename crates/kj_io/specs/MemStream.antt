-- What a stream in memory tells.
use Rattle.std.specs.Prelude.{ℕ, take, drop}
use Rattle.kj_io.specs.declared.mem_stream.MemStream.{MemStream}
use Rattle.kj_io.specs.Streams.{StreamOctets}

-- the octets given, left and written
abbrev pub stream_octets : MemStream → StreamOctets
stream_octets s = record { given = take s.at s.octets; left = drop s.at s.octets; written = s.written }

-- how many calls failed
abbrev pub stream_faults : MemStream → ℕ
stream_faults s = s.faults

-- how many calls paused
abbrev pub stream_pauses : MemStream → ℕ
stream_pauses s = s.pauses
