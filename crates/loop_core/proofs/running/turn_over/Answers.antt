use Rattle.loop_core.proofs.Turning.{turn_called, turn_memory}
use Rattle.loop_core.proofs.running.turn_over.Goals as goal

pub returns-clause-turns : goal.returns-clause-turns
returns-clause-turns g c =
    turn_called g.N.Nodes.rule (g.N.Nodes.stands c.args.over.now.nodes) (g.M.Names.stands c.args.over.now.names) (g.N.Nodes.stands c.turn.new.over.nodes) (g.M.Names.stands c.turn.new.over.names)
    c.turn.result _ _ _ _ (record { acts = c.turn.ensures.turns; memory = c.turn.ensures.memory })

pub returns-clause-memory : goal.returns-clause-memory
returns-clause-memory g c =
    turn_memory g.N.Nodes.rule (g.N.Nodes.stands c.args.over.now.nodes) (g.M.Names.stands c.args.over.now.names) (g.N.Nodes.stands c.turn.new.over.nodes) (g.M.Names.stands c.turn.new.over.names)
    c.turn.result _ _ _ _ (record { acts = c.turn.ensures.turns; memory = c.turn.ensures.memory })
