use Rattle.std.proofs.Common.{sym, subst, refl, ℕ, Option, None, Some}
use Rattle.kj_model.specs.World.{World}
use Rattle.kj_model.specs.Changes.{silent}
use Rattle.kj_model.specs.Calls.{turn}
use Rattle.promise_walks.specs.Walks.{Both}
use Rattle.promise_walks.specs.Values.{setting_of}
use Rattle.promise_firing.specs.Events.{event_taken}
use Rattle.promise_turns.specs.declared.turned.TakenTurn.TheVariants.{Idle}
use Rattle.promise_turns.specs.Events.{FromTaken}
use Rattle.promise_turns.specs.Turns.{IsTaken, RunsOn, turned_as, turned_at, turned_in}
use Rattle.promise_turns.proofs.Acted.{acts_before, acts_silent}
use Rattle.promise_turns.proofs.Taken.{idle_is, taken_is}
use Rattle.promise_turns.proofs.turning.take_turn.Goals as goal

pub returns-in-Some-clause-turns : goal.returns-in-Some-clause-turns
returns-in-Some-clause-turns g c =
    let n = c.in-Some.event.number.0 in
    let e = c.in-Some.ensures in
    let A : World → Type 0 = Both (g.N.Nodes.stands c.args.over.now.nodes) (g.M.Names.stands c.args.over.now.names) in
    let B : World → Type 0 = Both (g.N.Nodes.stands c.take.new.over.nodes) (g.M.Names.stands c.take.new.over.names) in
    let C : World → Type 0 = Both (g.N.Nodes.stands c.turn_at.new.over.nodes) (g.M.Names.stands c.turn_at.new.over.names) in
    acts_before A B C g.N.Nodes.rule RunsOn (FromTaken n) (turned_at n) turn (turned_as (turned_in c.turn_at.result)) (event_taken (Some n)) _ _ _ _ c.turn_at.ensures.turns
    (λ w stands. (e.nodes w stands.0, subst (λ names. g.M.Names.stands names (event_taken (Some n) w)) (sym e.names) (g.met.M.Names.nodes_free c.args.over.now.names w (event_taken (Some n) w) refl stands.1)))
    (λ setting s stands from. taken_is n setting s from.0 (λ name node. g.met.M.Names.no_requests c.args.over.now.names s.world name node stands.1) from.1 (sym (e.head s.world stands.0)))

pub returns-in-None-clause-turns : goal.returns-in-None-clause-turns
returns-in-None-clause-turns g c =
    let e = c.in-None.ensures in
    let A : World → Type 0 = Both (g.N.Nodes.stands c.args.over.now.nodes) (g.M.Names.stands c.args.over.now.names) in
    let B : World → Type 0 = Both (g.N.Nodes.stands c.take.new.over.nodes) (g.M.Names.stands c.take.new.over.names) in
    acts_silent A B g.N.Nodes.rule RunsOn turn (turned_as (turned_in Idle)) (event_taken None) _ _
    (λ setting s stands from. (
      (e.nodes s.world stands.0, subst (λ names. g.M.Names.stands names (event_taken None s.world)) (sym e.names) (g.met.M.Names.nodes_free c.args.over.now.names s.world (event_taken None s.world) refl stands.1)),
      sym (idle_is setting s from.1 (sym (e.head s.world stands.0))),
    ))

pub returns-in-Some-clause-memory : goal.returns-in-Some-clause-memory
returns-in-Some-clause-memory g c = λ answer s stands from.
    let n = c.in-Some.event.number.0 in
    let e = c.in-Some.ensures in
    let runs = from.1 in
    let w = event_taken (Some n) s.world in
    let taken = taken_is n (setting_of g.N.Nodes.rule answer) s from.0 (λ name node. g.met.M.Names.no_requests c.args.over.now.names s.world name node stands.1) runs (sym (e.head s.world stands.0)) in
    c.turn_at.ensures.memory answer (silent (event_taken (Some n)) s)
    (e.nodes s.world stands.0, subst (λ names. g.M.Names.stands names w) (sym e.names) (g.met.M.Names.nodes_free c.args.over.now.names s.world w refl stands.1)) taken.0 runs

pub returns-in-Some-clause-event : goal.returns-in-Some-clause-event
returns-in-Some-clause-event g c = λ w stands. subst (λ (o : Option ℕ). IsTaken c.turn_at.result o) (c.in-Some.ensures.head w stands) c.turn_at.ensures.event
