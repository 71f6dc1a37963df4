use Rattle.std.proofs.Common.{ap, sym, ◌∙◌, ◌++◌, ◌∷◌, []}
use Rattle.executor_core.proofs.Lines.{take_next}
use Rattle.executor_core.proofs.entries.copy_all.Goals as goal

pub loop-place-preserved : goal.loop-place-preserved
loop-place-preserved c = let e = c.push_reserved.ensures in let i = c.loop-place.invariant in (
  e.items ∙ ap (λ l. l ++ c.at.result ∷ []) i.0 ∙ sym (take_next c.args.log.now.entries c.loop-place.place c.at.result c.at.ensures),
  e.capacity ∙ i.1,
)
