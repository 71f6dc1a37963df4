use Rattle.std.proofs.Common.{◌∙◌, sym, ap, refl, Option, None, Some, ℕ, ◌≡◌}
use Rattle.kj_model.specs.World.{Awaited}
use Rattle.kj_model.specs.Fire.{awaited_renamed}
use Rattle.promise_nodes.specs.Kept.{awaited_root}
use Rattle.promise_names.specs.Held.{root_renamed}
use Rattle.promise_firing.proofs.chain.rename_awaited.Goals as goal

root_is : (old new : ℕ) (a : Option Awaited) → awaited_root (awaited_renamed old new a) ≡ root_renamed old new (awaited_root a)
root_is old new None = refl
root_is old new (Some a) = refl

pub returns-clause-stands : goal.returns-clause-stands
returns-clause-stands g c w stands =
    let old = c.args.old.number.0 in
    let new = c.args.new.number.0 in
    c.set_awaited.ensures.stands w (awaited_renamed old new w.awaited) stands
    (root_is old new w.awaited ∙ ap (root_renamed old new) (c.awaited-awaited.ensures w stands) ∙ sym c.renamed_awaited.ensures)
