use Rattle.std.proofs.Common.{◌≡◌, [], sym}
use Rattle.kj_model.specs.World.{World, held_at}
use Rattle.kj_model.specs.Effects.{now_empty}
use Rattle.promise_nodes.specs.Shown.{link_number}
use Rattle.promise_names.specs.Held.{regrouped}
use Rattle.promise_walks.proofs.Composed.{does_from}
use Rattle.promise_walks.proofs.Changing.{does_more, does_silent}
use Rattle.promise_apply.specs.Building.{Both}
use Rattle.promise_apply.specs.Sets.{IsCleared, set_cleared, tasks_freed}
use Rattle.promise_apply.proofs.Cleared.{is_set, nothing_clears, nothing_listed, tasks_clear, tasks_stay}
use Rattle.promise_apply.proofs.clearing.clear_tasks.Goals as goal

pub free_tasks-requires-clause-set : goal.free_tasks-requires-clause-set
free_tasks-requires-clause-set g c w both = is_set c.args.tasks (held_at c.args.group.0 w.names) (c.requires.tasks w both.1)

pub returns-then-tasks-eq0-clause-does : goal.returns-then-tasks-eq0-clause-does
returns-then-tasks-eq0-clause-does g c =
    let group = c.args.group.0 in
    let A : World → Type 0 = Both (g.N.Nodes.stands c.args.nodes.now) (g.M.Names.stands c.args.names.now) in
    let none : c.args.tasks.count ≡ 0 = c.if-tasks-eq0.true in
    does_from A (IsCleared A group) (λ s. s) (set_cleared group) (λ s. s) _ _
    (λ s stands. sym (nothing_clears group c.args.tasks s (c.requires.tasks s.world stands.1) none))
    (does_more A (IsCleared A group) (λ s. s) _ (λ w stands. (stands, nothing_listed group c.args.tasks w (c.requires.tasks w stands.1) none)))

pub returns-clause-does : goal.returns-clause-does
returns-clause-does g c =
    let group = c.args.group.0 in
    let t = c.args.tasks in
    let A : World → Type 0 = Both (g.N.Nodes.stands c.args.nodes.now) (g.M.Names.stands c.args.names.now) in
    let B : World → Type 0 = Both (g.N.Nodes.stands c.free_tasks.new.nodes) (g.M.Names.stands c.free_tasks.new.names) in
    let C : World → Type 0 = IsCleared (Both (g.N.Nodes.stands c.end_tasks.new.nodes) (g.M.Names.stands c.end_tasks.new.names)) group in
    let change : World → World = λ w. now_empty group (regrouped group [] (link_number t.empty) w) in
    does_silent A B C (tasks_freed group) (set_cleared group) (λ s. s) change _ _ c.free_tasks.ensures.does
    (λ s old then. let tasks = c.requires.tasks s.world old.1 in (
      c.end_tasks.ensures.stands (tasks_freed group s).world then (tasks_stay group t s tasks),
      tasks_clear group t s (g.met.M.Names.rising c.args.names.now s.world old.1) tasks c.if-tasks-eq0.false,
    ))
