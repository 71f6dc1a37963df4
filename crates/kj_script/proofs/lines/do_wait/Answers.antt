-- What a wait did is what the definitions do.
use Rattle.kj_model.specs.Calls.{Waited, wait}
use Rattle.kj_model.specs.Log.{scripted}
use Rattle.kj_model.specs.World.{State, Setting}
use Rattle.promise_commands.specs.Waits.{waited_of}
use Rattle.promise_walks.specs.Values.{setting_of}
use Rattle.loop_core.specs.Loops.{StandsAt}
use Rattle.kj_script.proofs.Logs.{call_printed, on_ok, waited_printed}
use Rattle.kj_script.proofs.lines.do_wait.Goals as goal

pub returns : goal.returns
returns g c =
    let Old : State → Type 0 = StandsAt g.N.Nodes.rule (g.N.Nodes.stands c.args.over.now.nodes) (g.M.Names.stands c.args.over.now.names) in
    let New : State → Type 0 = StandsAt g.N.Nodes.rule (g.N.Nodes.stands c.wait-waited.new.self.nodes) (g.M.Names.stands c.wait-waited.new.self.names) in
    let waited : Waited = waited_of c.wait-waited.result in
    on_ok c.print_waited.result _ _ c.print_waited.ensures (λ grown bodies l shows.
    let r : State × Waited = wait (setting_of g.N.Nodes.rule (scripted bodies)) c.args.name.0 c.args.turns l.state in
    waited_printed bodies New _ _ _ l r c.args.number c.args.name.0 waited (λ s stands. g.met.M.Names.none_listed c.wait-waited.new.self.names s.world stands.stands.1) grown
    (call_printed bodies Old New g.N.Nodes.rule (λ (setting : Setting) (s : State). wait setting c.args.name.0 c.args.turns s) waited _ _ _ _ _ l c.wait-waited.ensures.waits c.in_ok-drain_into.ensures shows))
