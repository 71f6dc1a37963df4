use Rattle.std.proofs.Common.{◌∙◌, ap}
use Rattle.http_heads.specs.declared.rules.Sizes.TheVariants.{Absent}
use Rattle.http_heads.specs.Framing.{add_length}
use Rattle.http_heads.proofs.ValueLemmas.{fold_seen}
use Rattle.http_heads.proofs.rules.sizes_of.Goals as goal

pub loop-element-preserved : goal.loop-element-preserved
loop-element-preserved c = c.add_length-sizes.ensures ∙ ap (λ s. add_length s c.in-Some.element.now) c.loop-element.invariant ∙ fold_seen Absent c.loop-element.yielded c.in-Some.element
