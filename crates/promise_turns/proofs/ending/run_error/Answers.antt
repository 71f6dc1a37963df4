use Rattle.std.proofs.Common.{None, Some, false, subst}
use Rattle.kj_model.specs.World.{World}
use Rattle.kj_model.specs.Value.{run_step}
use Rattle.kj_model.specs.Fire.{error_run, task_gone}
use Rattle.promise_walks.specs.Walks.{Both}
use Rattle.promise_walks.specs.Values.{Goes, Lacks, gave, given_of}
use Rattle.promise_turns.specs.Acting.{Anywhere}
use Rattle.promise_turns.proofs.Acted.{acts_then, acts_lacking}
use Rattle.promise_turns.proofs.Tasks.{step_stops, stepped_is}
use Rattle.promise_turns.proofs.ending.run_error.Goals as goal

pub returns-in-Ok-clause-acts : goal.returns-in-Ok-clause-acts
returns-in-Ok-clause-acts g c =
    let n = c.args.task.number.0 in
    let step = c.args.step.0 in
    let o = c.args.outcome in
    let x = given_of c.in-Ok.field-0 in
    let e = c.in-Ok.ensures in
    let d = c.drop.ensures.does in
    let A : World → Type 0 = Both (g.N.Nodes.stands c.args.over.now.nodes) (g.M.Names.stands c.args.over.now.names) in
    let B : World → Type 0 = Both (g.N.Nodes.stands c.step.new.self.nodes) (g.M.Names.stands c.step.new.self.names) in
    let C : World → Type 0 = Both (g.N.Nodes.stands c.drop.new.over.nodes) (g.M.Names.stands c.drop.new.over.names) in
    let same = subst (λ k. Goes (Both (g.N.Nodes.stands k.nodes) (g.M.Names.stands k.names)) B g.N.Nodes.rule (λ setting s. run_step setting false n step o s) (gave x) e.gives.items) c.over.view_is e.gives.same in
    acts_then A B C (λ w. Unit {0}) g.N.Nodes.rule Anywhere (λ setting s. run_step setting false n step o s) x (λ setting s. error_run setting n o (Some step) s) (λ setting. task_gone n) e.gives.items d.items _ _ _ _ _ _
    e.gives.told d.told e.lacks c.drop.ensures.lacks same (λ setting s stands. d.moves s stands.0)
    (λ setting s from given. tt)
    (λ setting s stands from given. stepped_is setting n step o (Some x) s given)

pub returns-in-Err-clause-acts : goal.returns-in-Err-clause-acts
returns-in-Err-clause-acts g c =
    let n = c.args.task.number.0 in
    let step = c.args.step.0 in
    let o = c.args.outcome in
    let e = c.in-Err.ensures in
    let A : World → Type 0 = Both (g.N.Nodes.stands c.args.over.now.nodes) (g.M.Names.stands c.args.over.now.names) in
    let B : World → Type 0 = Both (g.N.Nodes.stands c.step.new.self.nodes) (g.M.Names.stands c.step.new.self.names) in
    let same = subst (λ k. Lacks (Both (g.N.Nodes.stands k.nodes) (g.M.Names.stands k.names)) B g.N.Nodes.rule (λ setting s. run_step setting false n step o s) e.gives.items) c.over.view_is e.gives.same in
    acts_lacking A B g.N.Nodes.rule Anywhere (λ setting s. run_step setting false n step o s) (λ setting s. error_run setting n o (Some step) s) e.gives.items _ _ _ _ e.gives.told e.lacks same
    (λ setting s none. step_stops setting n step o s none)
    (λ setting s stands from given. stepped_is setting n step o None s given)
