use Rattle.std.proofs.Common.{◌≡◌, ◌∙◌, ap, sym, subst, ℕ, Option, None, Some}
use Rattle.kj_base.specs.Commands.{step_of}
use Rattle.kj_model.specs.World.{World, State, Setting}
use Rattle.kj_model.specs.Value.{chosen}
use Rattle.kj_model.specs.Fire.{error_run, task_ended, task_gone}
use Rattle.promise_walks.specs.Walks.{Both}
use Rattle.promise_turns.specs.Acting.{Anywhere}
use Rattle.promise_turns.proofs.Acted.{acts_once, acts_same}
use Rattle.promise_turns.proofs.Tasks.{ended_is}
use Rattle.promise_turns.proofs.ending.end.Goals as goal

pub returns-in-Some-clause-acts : goal.returns-in-Some-clause-acts
returns-in-Some-clause-acts g c =
    let n = c.args.task.number.0 in
    let o = c.args.outcome in
    let error = step_of c.args.error in
    let step = c.in-Some.step.0 in
    let is : Some step ≡ chosen None error o = c.in-Some.ensures in
    let A : World → Type 0 = Both (g.N.Nodes.stands c.args.over.now.nodes) (g.M.Names.stands c.args.over.now.names) in
    let B : World → Type 0 = Both (g.N.Nodes.stands c.run_error.new.over.nodes) (g.M.Names.stands c.run_error.new.over.names) in
    acts_same A B g.N.Nodes.rule Anywhere (λ setting s. error_run setting n o (Some step) s) (λ setting s. task_ended setting n o error s) (λ s. s) _ _ _ _
    (λ setting s. ap (λ (x : Option ℕ). error_run setting n o x s) is ∙ sym (ended_is setting n o error s))
    c.run_error.ensures.acts

pub returns-in-None-clause-acts : goal.returns-in-None-clause-acts
returns-in-None-clause-acts g c =
    let n = c.args.task.number.0 in
    let o = c.args.outcome in
    let error = step_of c.args.error in
    let is : None ≡ chosen None error o = c.in-None.ensures in
    let d = c.drop.ensures.does in
    let A : World → Type 0 = Both (g.N.Nodes.stands c.args.over.now.nodes) (g.M.Names.stands c.args.over.now.names) in
    let B : World → Type 0 = Both (g.N.Nodes.stands c.drop.new.over.nodes) (g.M.Names.stands c.drop.new.over.names) in
    acts_once A B (λ w. Unit {0}) g.N.Nodes.rule Anywhere (λ setting s. task_ended setting n o error s) (task_gone n) d.items _ _ _ _
    d.told c.drop.ensures.lacks (λ s stands. d.moves s stands.0)
    (λ setting s stands from. tt)
    (λ setting s stands from. ap (λ (x : Option ℕ). error_run setting n o x s) is ∙ sym (ended_is setting n o error s))
