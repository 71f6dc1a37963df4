use Rattle.promise_commands.specs.Commands.{command_of}
use Rattle.promise_commands.specs.Refusals.{refusal_of}
use Rattle.loop_core.proofs.Turning.{command_called}
use Rattle.loop_core.proofs.applying.apply_on.Goals as goal

pub returns-clause-applied : goal.returns-clause-applied
returns-clause-applied g c =
    command_called g.N.Nodes.rule (g.N.Nodes.stands c.args.ground.now.nodes) (g.M.Names.stands c.args.ground.now.names) (g.N.Nodes.stands c.apply.new.self.nodes) (g.M.Names.stands c.apply.new.self.names)
    (command_of c.args.command.now) (refusal_of c.apply.result) _ _ _ _ c.apply.ensures.lacks c.apply.ensures.applied
