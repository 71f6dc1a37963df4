use Rattle.std.proofs.Common.{◌∙◌, ap}
use Rattle.std.specs.Prelude.{codes}
use Rattle.http_heads.specs.Values.{list_of}
use Rattle.http_heads.specs.Framing.{framing_by}
use Rattle.http_heads.proofs.ValueLemmas.{length_is_fold}
use Rattle.http_heads.proofs.rules.content_length.Goals as goal

pub returns : goal.returns
returns c = c.framing_by.ensures ∙ ap framing_by c.sizes_of.ensures ∙ length_is_fold (list_of (codes "content-length") c.args.fields.now)
