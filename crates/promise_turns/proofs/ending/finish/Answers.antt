use Rattle.std.proofs.Common.{Some}
use Rattle.kj_base.specs.Commands.{step_of}
use Rattle.kj_model.specs.World.{World}
use Rattle.kj_model.specs.Fire.{task_ended, task_valued}
use Rattle.promise_walks.specs.Walks.{Both}
use Rattle.promise_walks.specs.Values.{setting_of}
use Rattle.promise_firing.specs.Outliving.{Outlives}
use Rattle.promise_turns.specs.Acting.{Anywhere}
use Rattle.promise_turns.proofs.Acted.{acts_on}
use Rattle.promise_turns.proofs.ending.finish.Goals as goal

pub returns-clause-acts : goal.returns-clause-acts
returns-clause-acts g c =
    let n = c.args.task.number.0 in
    let t = c.args.tree.number.0 in
    let o = c.args.outcome in
    let error = step_of c.leave-error.result in
    let d = c.leave-error.ensures.leaves in
    let A : World → Type 0 = λ w. Both (g.N.Nodes.stands c.args.over.now.nodes) (g.M.Names.stands c.args.over.now.names) w × Outlives n t w in
    let B : World → Type 0 = Both (g.N.Nodes.stands c.leave-error.new.over.nodes) (g.M.Names.stands c.leave-error.new.over.names) in
    let C : World → Type 0 = Both (g.N.Nodes.stands c.end.new.over.nodes) (g.M.Names.stands c.end.new.over.names) in
    acts_on A B C g.N.Nodes.rule Anywhere (λ setting s. task_valued setting n t (Some o) s) (λ setting s. task_ended setting n o error s) d.items _ _ _ _ _ _
    d.told c.leave-error.ensures.lacks
    (λ answer s stands from agrees. d.moves (setting_of g.N.Nodes.rule answer) o s stands)
    c.end.ensures.acts
