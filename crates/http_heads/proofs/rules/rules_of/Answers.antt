use Rattle.std.proofs.Common.{List, subst, ◌∙◌}
use Rattle.http_heads.specs.declared.field.Field.{Field}
use Rattle.http_heads.specs.Marks.{IsMarked}
use Rattle.http_heads.proofs.MarkLemmas.{framing_marked}
use Rattle.http_heads.proofs.rules.rules_of.Goals as goal

pub returns-clause-framing : goal.returns-clause-framing
returns-clause-framing c =
    c.framing_by_marks.ensures ∙ framing_marked c.args.head.now c.marks_of-marks.result (subst (λ (fs : List Field). IsMarked fs c.marks_of-marks.result) c.as_slice-fields.ensures c.marks_of-marks.ensures)
