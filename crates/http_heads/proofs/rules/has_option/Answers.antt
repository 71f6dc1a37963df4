use Rattle.std.proofs.Common.{◌∙◌, ◌||◌}
use Rattle.http_heads.specs.Values.{is_same}
use Rattle.http_heads.proofs.ValueLemmas.{list_any_seen}
use Rattle.http_heads.proofs.rules.has_option.Goals as goal

pub loop-element-preserved : goal.loop-element-preserved
loop-element-preserved c =
    (λ i. c.loop-element.invariant i || c.is_same-found.ensures i)
    ∙ list_any_seen (λ e. is_same e c.args.option.now) c.loop-element.yielded c.in-Some.element
