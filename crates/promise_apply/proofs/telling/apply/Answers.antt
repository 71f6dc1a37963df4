use Rattle.std.proofs.Common.{sym, subst}
use Rattle.promise_commands.specs.Commands.{command_of}
use Rattle.promise_commands.specs.Refusals.{refusal_of}
use Rattle.promise_commands.specs.declared.command.Command.{Command as CommandCase}
use Rattle.promise_apply.specs.Building.{Both}
use Rattle.promise_apply.specs.Applying.{DoesCommand}
use Rattle.promise_apply.proofs.Told.{silent_does}
use Rattle.promise_apply.proofs.telling.apply.Goals as goal

pub returns-in-Clear-clause-applied : goal.returns-in-Clear-clause-applied
returns-in-Clear-clause-applied g c =
    subst (λ (x : CommandCase). DoesCommand (Both (g.N.Nodes.stands c.args.nodes.now) (g.M.Names.stands c.args.names.now)) (Both (g.N.Nodes.stands c.apply_clear.new.nodes) (g.M.Names.stands c.apply_clear.new.names)) g.N.Nodes.rule (refusal_of c.apply_clear.result) (command_of x) (g.S.Steps.told c.args.steps.now) (g.S.Steps.told c.apply_clear.new.steps)) (sym c.in-Clear.is) c.apply_clear.ensures.applied

pub returns-in-Drop-clause-applied : goal.returns-in-Drop-clause-applied
returns-in-Drop-clause-applied g c =
    subst (λ (x : CommandCase). DoesCommand (Both (g.N.Nodes.stands c.args.nodes.now) (g.M.Names.stands c.args.names.now)) (Both (g.N.Nodes.stands c.apply_drop.new.nodes) (g.M.Names.stands c.apply_drop.new.names)) g.N.Nodes.rule (refusal_of c.apply_drop.result) (command_of x) (g.S.Steps.told c.args.steps.now) (g.S.Steps.told c.apply_drop.new.steps)) (sym c.in-Drop.is) c.apply_drop.ensures.applied

pub returns-in_default-clause-applied : goal.returns-in_default-clause-applied
returns-in_default-clause-applied g c =
    silent_does (Both (g.N.Nodes.stands c.args.nodes.now) (g.M.Names.stands c.args.names.now)) (Both (g.N.Nodes.stands c.apply_silent.new.nodes) (g.M.Names.stands c.apply_silent.new.names)) g.N.Nodes.rule
    (refusal_of c.apply_silent.result) (command_of c.args.command.now) _ c.apply_silent.ensures.applied
