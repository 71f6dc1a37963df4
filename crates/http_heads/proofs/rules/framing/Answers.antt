use Rattle.std.proofs.Common.{List, subst, ◌∙◌}
use Rattle.http_heads.specs.declared.field.Field.{Field}
use Rattle.http_heads.specs.Marks.{IsMarked}
use Rattle.http_heads.proofs.MarkLemmas.{framing_marked}
use Rattle.http_heads.proofs.rules.framing.Goals as goal

pub returns : goal.returns
returns c = c.framing_by_marks.ensures ∙ framing_marked c.args.head.now c.marks_of.result (subst (λ (fs : List Field). IsMarked fs c.marks_of.result) c.as_slice.ensures c.marks_of.ensures)
