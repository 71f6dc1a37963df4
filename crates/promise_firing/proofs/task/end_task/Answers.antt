use Rattle.std.proofs.Common.{None, Option, Some, ap, ℕ}
use Rattle.kj_base.specs.Commands.{step_of}
use Rattle.kj_model.specs.World.{World}
use Rattle.kj_model.specs.Nodes.{Task}
use Rattle.kj_model.specs.Changes.{put, silent}
use Rattle.kj_model.specs.Value.{freed}
use Rattle.kj_model.specs.Fire.{set_left, task_ended, task_valued}
use Rattle.promise_walks.specs.Walks.{Both}
use Rattle.promise_firing.specs.Outliving.{Outlives}
use Rattle.promise_walks.proofs.Changing.{moves_silent}
use Rattle.promise_firing.proofs.task.end_task.Goals as goal

pub returns-clause-leaves : goal.returns-clause-leaves
returns-clause-leaves g c =
    let n = c.args.task.number.0 in
    let t = c.args.tree.number.0 in
    let error = step_of c.leave_set.result in
    let A : World → Type 0 = Both (g.N.Nodes.stands c.args.nodes.now) (g.M.Names.stands c.args.names.now) in
    let P : World → Type 0 = λ w. A w × Outlives n t w in
    let B : World → Type 0 = Both (g.N.Nodes.stands c.free_part.new.nodes) (g.M.Names.stands c.free_part.new.names) in
    let C : World → Type 0 = Both (g.N.Nodes.stands c.leave_set.new.nodes) (g.M.Names.stands c.leave_set.new.names) in
    let change : World → World = λ w. set_left n (put n (Task None) w) in
    let free = c.free_part.ensures.does in
    record {
      items = free.items;
      told = free.told;
      moves = λ setting o.
          moves_silent P B C (freed t) (task_valued setting n t (Some o)) (task_ended setting n o error) change free.items (λ s p. free.moves s p.0)
          (λ s p mid.
          let live = p.1 s.past in (
            c.leave_set.ensures.stands (freed t s).world mid live,
            ap (λ (e : Option ℕ). task_ended setting n o e (silent change (freed t s))) (c.leave_set.ensures.error (freed t s).world mid live),
          ));
    }
