use Rattle.std.proofs.Common.{◌≡◌, take, map}
use Rattle.httparse.specs.Spans.{header_bytes}
use Rattle.http_heads.specs.Section.{name_and_value}
use Rattle.http_heads.proofs.section.fill_fields.Given as goal

abbrev pub invariant-loop-i : goal.invariant-loop-i
invariant-loop-i l = map name_and_value l.fields ≡ map (header_bytes l.bytes) (take l.i l.spans)
