-- What a command did is what the definitions do.
use Rattle.std.proofs.Common.{Option, None, Some, false, subst}
use Rattle.kj_model.specs.Apply.{Refused, apply}
use Rattle.kj_model.specs.Log.{scripted}
use Rattle.kj_model.specs.World.{State, Setting}
use Rattle.promise_commands.specs.Commands.{command_of}
use Rattle.promise_commands.specs.Refusals.{refused_of}
use Rattle.promise_commands.specs.declared.command.Command.{Command}
use Rattle.promise_steps.specs.Kept.{told_by}
use Rattle.promise_walks.specs.Values.{setting_of}
use Rattle.loop_core.specs.Calls.{CallIs}
use Rattle.loop_core.specs.Loops.{StandsAt}
use Rattle.kj_script.proofs.Logs.{call_printed, command_done, command_refused, on_ok}
use Rattle.kj_script.proofs.lines.do_command.Goals as goal

pub returns-in-Ok : goal.returns-in-Ok
returns-in-Ok g c bodies l shows =
    let Old : State → Type 0 = StandsAt g.N.Nodes.rule (g.N.Nodes.stands c.args.over.now.nodes) (g.M.Names.stands c.args.over.now.names) in
    let New : State → Type 0 = StandsAt g.N.Nodes.rule (g.N.Nodes.stands c.apply-applied.new.self.nodes) (g.M.Names.stands c.apply-applied.new.self.names) in
    let r : State × Option Refused = apply (setting_of g.N.Nodes.rule (scripted bodies)) false (command_of c.args.command) l.state in
    let call = c.in-Ok.ensures.applied in
    command_done bodies New _ _ l r c.args.number (λ s stands. g.met.M.Names.none_listed c.apply-applied.new.self.names s.world stands.stands.1)
    (call_printed bodies Old New g.N.Nodes.rule (λ (setting : Setting) (s : State). apply setting false (command_of c.args.command) s) None _ _ _ _ _ l call c.in_ok-drain_into.ensures shows)

pub returns-in-Err : goal.returns-in-Err
returns-in-Err g c =
    let Old : State → Type 0 = StandsAt g.N.Nodes.rule (g.N.Nodes.stands c.args.over.now.nodes) (g.M.Names.stands c.args.over.now.names) in
    let New : State → Type 0 = StandsAt g.N.Nodes.rule (g.N.Nodes.stands c.apply-applied.new.self.nodes) (g.M.Names.stands c.apply-applied.new.self.names) in
    let why : Refused = refused_of c.in-Err.refused in
    let call = c.in-Err.ensures.applied in
    on_ok c.print_refused.result _ _ c.print_refused.ensures (λ grown bodies l shows.
    let r : State × Option Refused = apply (setting_of g.N.Nodes.rule (scripted bodies)) false (command_of c.args.command) l.state in
    command_refused bodies New _ _ _ l r c.args.number why (λ s stands. g.met.M.Names.none_listed c.apply-applied.new.self.names s.world stands.stands.1) grown
    (call_printed bodies Old New g.N.Nodes.rule (λ (setting : Setting) (s : State). apply setting false (command_of c.args.command) s) (Some why) _ _ _ _ _ l call c.in_ok-drain_into.ensures shows))
