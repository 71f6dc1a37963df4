use Rattle.std.proofs.Common.{◌∙◌}
use Rattle.http_heads.proofs.FrontLemmas.{fields_from_pairs}
use Rattle.http_heads.proofs.HeadLemmas.{head_by_parts}
use Rattle.http_heads.proofs.read.fill_parts.Goals as goal

pub returns : goal.returns
returns c = λ tree at.
    head_by_parts _ tree (c.in_ok-refill.ensures ∙ c.of.ensures ∙ at.method) (c.in_ok-refill-2.ensures ∙ c.of-2.ensures ∙ at.path) at.version
    (fields_from_pairs _ _ (c.in_ok-fill_fields.ensures ∙ at.fields))
