-- The line of a turn.
use Rattle.std.proofs.Common.{◌∙◌, [], ap, inl, inr, subst}
use Rattle.kj_model.specs.Calls.{turn}
use Rattle.kj_model.specs.Log.{scripted, turned_line}
use Rattle.kj_model.specs.World.{State}
use Rattle.promise_steps.specs.Kept.{told_by}
use Rattle.promise_turns.specs.Turns.{turned_of}
use Rattle.promise_turns.specs.declared.turned.Turned.{Turned as TurnedCase}
use Rattle.promise_walks.specs.Values.{setting_of}
use Rattle.loop_core.specs.Loops.{StandsAt}
use Rattle.kj_script.specs.Running.{Shows}
use Rattle.kj_script.proofs.Logs.{idle_told, not_idle, on_ok, turn_told}
use Rattle.kj_script.proofs.lines.do_turn.Goals as goal

pub returns-in-Idle : goal.returns-in-Idle
returns-in-Idle g c =
    let New : State → Type 0 = StandsAt g.N.Nodes.rule (g.N.Nodes.stands c.make_turn.new.over.nodes) (g.M.Names.stands c.make_turn.new.over.names) in
    on_ok c.print_idle.result _ _ c.print_idle.ensures (λ grown bodies l shows.
    let r = turn (setting_of g.N.Nodes.rule (scripted bodies)) l.state in
    let e = c.in_ok-make_turn.ensures in
    idle_told bodies New _ _ _ l r.0 r.1 (e.turned bodies l shows ∙ ap turned_of c.in-Idle.is) grown
    (subst (λ (t : TurnedCase). Shows bodies New (told_by c.make_turn.new.steps) c.make_turn.new.text (turned_line [] r.0 (turned_of t) l)) c.in-Idle.is (e.shows bodies l shows)))

pub returns-in-Fired : goal.returns-in-Fired
returns-in-Fired g c bodies l shows =
    let r = turn (setting_of g.N.Nodes.rule (scripted bodies)) l.state in
    let e = c.in_ok-make_turn.ensures in
    turn_told bodies _ _ _ l r.0 r.1 c.in_ok-make_turn.field-0 (e.turned bodies l shows) (not_idle c.in_ok-make_turn.field-0 (inl c.in-Fired.is)) (e.shows bodies l shows)

pub returns-in-NoMemory : goal.returns-in-NoMemory
returns-in-NoMemory g c bodies l shows =
    let r = turn (setting_of g.N.Nodes.rule (scripted bodies)) l.state in
    let e = c.in_ok-make_turn.ensures in
    turn_told bodies _ _ _ l r.0 r.1 c.in_ok-make_turn.field-0 (e.turned bodies l shows) (not_idle c.in_ok-make_turn.field-0 (inr (inl c.in-NoMemory.is))) (e.shows bodies l shows)

pub returns-in-Stopped : goal.returns-in-Stopped
returns-in-Stopped g c bodies l shows =
    let r = turn (setting_of g.N.Nodes.rule (scripted bodies)) l.state in
    let e = c.in_ok-make_turn.ensures in
    turn_told bodies _ _ _ l r.0 r.1 c.in_ok-make_turn.field-0 (e.turned bodies l shows) (not_idle c.in_ok-make_turn.field-0 (inr (inr c.in-Stopped.is))) (e.shows bodies l shows)
