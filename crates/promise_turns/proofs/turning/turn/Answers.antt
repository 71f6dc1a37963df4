-- A loop that has stopped makes no turn.
use Rattle.std.proofs.Common.{sym, subst}
use Rattle.kj_model.specs.World.{World, State, Setting}
use Rattle.kj_model.specs.Calls.{turn}
use Rattle.promise_walks.specs.Walks.{Both}
use Rattle.promise_walks.specs.Values.{setting_of}
use Rattle.kj_base.specs.Counts.{HasLacked}
use Rattle.promise_turns.specs.declared.turned.Turned.{Turned}
use Rattle.promise_turns.specs.declared.turned.Turned.TheVariants.{Stopped}
use Rattle.promise_turns.specs.Acting.{Acts}
use Rattle.promise_turns.specs.Turns.{MayTurn, RunsOn, lacked_memory, turned_as, turned_in}
use Rattle.promise_turns.proofs.Acted.{acts_less, acts_silent}
use Rattle.promise_turns.proofs.Taken.{stopped_is}
use Rattle.promise_turns.proofs.turning.turn.Goals as goal

pub returns-then-has_ended-clause-turns : goal.returns-then-has_ended-clause-turns
returns-then-has_ended-clause-turns g c =
    let A : World → Type 0 = Both (g.N.Nodes.stands c.args.over.now.nodes) (g.M.Names.stands c.args.over.now.names) in
    acts_silent A A g.N.Nodes.rule MayTurn turn (turned_as Stopped) (λ w. w) _ _
    (λ setting s stands from. (stands, sym (stopped_is setting s (sym (c.if-has_ended.ensures.stopped s.world stands.1 from.1.left_over)))))

pub returns-clause-turns : goal.returns-clause-turns
returns-clause-turns g c =
    let A : World → Type 0 = Both (g.N.Nodes.stands c.args.over.now.nodes) (g.M.Names.stands c.args.over.now.names) in
    let B : World → Type 0 = Both (g.N.Nodes.stands c.take_turn.new.over.nodes) (g.M.Names.stands c.take_turn.new.over.names) in
    subst (λ (t : Turned). Acts A B g.N.Nodes.rule MayTurn turn (turned_as t) (g.S.Steps.told c.args.steps.now) (g.S.Steps.told c.take_turn.new.steps) (g.S.Steps.lacks c.args.steps.now) (g.S.Steps.lacks c.take_turn.new.steps)) (sym c.turned_by.ensures)
    (acts_less A B g.N.Nodes.rule RunsOn MayTurn turn (turned_as (turned_in c.take_turn.result)) _ _ _ _
    (λ setting s stands from. (from, sym (c.if-has_ended.ensures.stopped s.world stands.1 from.1.left_over)))
    c.take_turn.ensures.turns)

pub returns-clause-memory : goal.returns-clause-memory
returns-clause-memory g c = λ answer s stands from.
    subst (λ (t : Turned). HasLacked (lacked_memory t) (g.S.Steps.lacks c.args.steps.now) (g.S.Steps.lacks c.take_turn.new.steps)) (sym c.turned_by.ensures)
    (c.take_turn.ensures.memory answer s stands (from, sym (c.if-has_ended.ensures.stopped s.world stands.1 from.1.left_over)))
