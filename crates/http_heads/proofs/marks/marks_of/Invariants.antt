use Rattle.std.proofs.Common.{take}
use Rattle.http_heads.specs.Marks.{IsMarked}
use Rattle.http_heads.proofs.marks.marks_of.Given as goal

abbrev pub invariant-loop-field : goal.invariant-loop-field
invariant-loop-field l = IsMarked (take l.field-index l.fields) l.marks
