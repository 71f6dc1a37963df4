use Rattle.http_heads.proofs.MarkLemmas.{persists_marked}
use Rattle.http_heads.proofs.rules.persists_by_marks.Goals as goal

pub returns-else-marks : goal.returns-else-marks
returns-else-marks c = persists_marked c.args.minor c.args.fields.now c.args.marks c.requires c.if-marks.false
