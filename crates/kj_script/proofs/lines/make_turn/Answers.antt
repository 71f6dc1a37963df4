-- What a turn did is what the definitions do.
use Rattle.kj_model.specs.Calls.{turn}
use Rattle.kj_model.specs.Log.{scripted}
use Rattle.kj_model.specs.World.{State}
use Rattle.promise_turns.specs.Turns.{turned_of}
use Rattle.promise_walks.specs.Values.{setting_of}
use Rattle.loop_core.specs.Loops.{StandsAt}
use Rattle.kj_script.proofs.Logs.{call_printed, turn_shown}
use Rattle.kj_script.proofs.lines.make_turn.Goals as goal

pub returns-clause-turned : goal.returns-clause-turned
returns-clause-turned g c bodies l shows =
    let Old : State → Type 0 = StandsAt g.N.Nodes.rule (g.N.Nodes.stands c.args.over.now.nodes) (g.M.Names.stands c.args.over.now.names) in
    let New : State → Type 0 = StandsAt g.N.Nodes.rule (g.N.Nodes.stands c.turn-turned.new.self.nodes) (g.M.Names.stands c.turn-turned.new.self.names) in
    (call_printed bodies Old New g.N.Nodes.rule turn (turned_of c.turn-turned.result) _ _ _ _ _ l c.turn-turned.ensures.turns c.in_ok-drain_into.ensures shows).reply_is

pub returns-clause-shows : goal.returns-clause-shows
returns-clause-shows g c bodies l shows =
    let Old : State → Type 0 = StandsAt g.N.Nodes.rule (g.N.Nodes.stands c.args.over.now.nodes) (g.M.Names.stands c.args.over.now.names) in
    let New : State → Type 0 = StandsAt g.N.Nodes.rule (g.N.Nodes.stands c.turn-turned.new.self.nodes) (g.M.Names.stands c.turn-turned.new.self.names) in
    turn_shown bodies New _ _ l (turn (setting_of g.N.Nodes.rule (scripted bodies)) l.state).0 (turned_of c.turn-turned.result) (λ s stands. g.met.M.Names.none_listed c.turn-turned.new.self.names s.world stands.stands.1)
    (call_printed bodies Old New g.N.Nodes.rule turn (turned_of c.turn-turned.result) _ _ _ _ _ l c.turn-turned.ensures.turns c.in_ok-drain_into.ensures shows).shows
