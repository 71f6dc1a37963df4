use Rattle.std.proofs.Common.{◌∙◌, ap}
use Rattle.http_heads.specs.Marks.{mark}
use Rattle.http_heads.proofs.MarkLemmas.{marked_more}
use Rattle.http_heads.proofs.marks.marks_of.Goals as goal

pub loop-field-preserved : goal.loop-field-preserved
loop-field-preserved c =
    marked_more c.args.fields.now c.loop-field.field-index c.field-item.result c.loop-field.marks c.mark-marks.result c.loop-field-test.true (c.mark-marks.ensures ∙ ap (mark c.loop-field.marks) c.field-item.is) c.loop-field.invariant
