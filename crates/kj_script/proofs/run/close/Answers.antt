-- The closing ends the log.
use Rattle.kj_model.specs.World.{State}
use Rattle.loop_core.specs.Loops.{StandsAt}
use Rattle.kj_script.proofs.Logs.{closing_printed, on_ok}
use Rattle.kj_script.proofs.run.close.Goals as goal

pub returns : goal.returns
returns g c =
    let Old : State → Type 0 = StandsAt g.N.Nodes.rule (g.N.Nodes.stands c.args.over.nodes) (g.M.Names.stands c.args.over.names) in
    on_ok c.drain_into.result _ _ c.drain_into.ensures (λ prints bodies l shows. closing_printed bodies Old _ _ _ _ _ _ l c.close.ensures.closes prints shows)
