use Rattle.std.proofs.Common.{◌≡◌, ◌∙◌, ◌≤◌, ◌-◌, ◌+◌, sym, ap, subst, ℕ, Option, Some, refl, arith}
use Rattle.kj_model.specs.World.{World, State, Held, held_at}
use Rattle.kj_model.specs.Free.{usual}
use Rattle.kj_model.specs.Value.{freed}
use Rattle.promise_nodes.specs.Members.{lists_in, newest_member}
use Rattle.promise_nodes.specs.Shown.{link_number}
use Rattle.promise_names.specs.Held.{IsSet}
use Rattle.promise_walks.specs.Living.{live_below}
use Rattle.promise_walks.proofs.Composed.{does_then, falls_then, rises_then}
use Rattle.promise_walks.proofs.Changing.{does_on, does_more, does_ends}
use Rattle.promise_walks.proofs.Newest.{few_first, newest_lives, no_newest, fewer_live}
use Rattle.promise_apply.specs.Building.{Both}
use Rattle.promise_apply.specs.Sets.{tasks_freed}
use Rattle.promise_apply.proofs.Cleared.{no_task_goes, task_goes, task_stays}
use Rattle.promise_apply.proofs.clearing.free_tasks.Goals as goal

pub freeing-init : goal.freeing-init
freeing-init g c =
    let A : World → Type 0 = Both (g.N.Nodes.stands c.args.nodes.now) (g.M.Names.stands c.args.names.now) in
    let group = c.args.group.0 in
    let next = g.N.Nodes.next c.args.nodes.now in
    record {
      does = does_more A (λ w. A w × (IsSet (held_at group w.names) × (live_below next w ≤ c.next-left.result))) (tasks_freed group) (g.S.Steps.told c.args.steps.now)
          (λ w stands. (stands, (c.requires.set w stands, let few = few_first next w in let left = c.next-left.ensures in omega (arith, few, left))));
      lacks = refl;
      taken = λ n h. h;
      plain = λ n h. h;
      next = refl;
      slots = refl;
      roots = λ name. refl;
      count = refl;
      limit = refl;
      over = refl;
      frames_room = c.requires.frames_room;
      search_room = c.requires.search_room;
      frames_more = omega arith;
      search_more = omega arith;
    }

pub freeing-preserved : goal.freeing-preserved
freeing-preserved g c =
    let before = c.freeing.invariant in
    let done = c.free_part.ensures in
    let group = c.args.group.0 in
    let task = c.in-Some.task.number.0 in
    let next = g.N.Nodes.next c.freeing.nodes in
    let then = g.N.Nodes.next c.free_part.new.nodes in
    let A : World → Type 0 = Both (g.N.Nodes.stands c.args.nodes.now) (g.M.Names.stands c.args.names.now) in
    let B : World → Type 0 = Both (g.N.Nodes.stands c.freeing.nodes) (g.M.Names.stands c.freeing.names) in
    let C : World → Type 0 = Both (g.N.Nodes.stands c.free_part.new.nodes) (g.M.Names.stands c.free_part.new.names) in
    let P : World → Type 0 = λ w. B w × (IsSet (held_at group w.names) × (live_below next w ≤ c.freeing.left)) in
    let Q : World → Type 0 = λ w. C w × (IsSet (held_at group w.names) × (live_below then w ≤ c.freeing.left - 1)) in
    let newest : (w : World) → B w → newest_member w (lists_in w group) ≡ Some task = λ w stands. sym (c.newest_member.ensures w stands.0) ∙ ap link_number c.in-Some.is in
    let falls : (s : State) → P s.world → live_below then (freed task s).world ≤ c.freeing.left - 1 = λ s p.
    let lives = newest_lives task s.world (lists_in s.world group) (newest s.world p.0) in
    let fewer = fewer_live (usual s.world) next task s (g.met.N.Nodes.members_built c.freeing.nodes s.world group task p.0.0 lives.1) lives.0 in
    let same : live_below then (freed task s).world ≡ live_below next (freed task s).world = ap (λ (k : ℕ). live_below k (freed task s).world) done.next in
    let few = p.1.1 in
    omega (arith, fewer, same, few) in
    let step = does_on P B C Q (freed task) (tasks_freed group) (tasks_freed group) _ _ (λ w p. p.0) done.does (λ s p. task_goes group task s p.1.0 (newest s.world p.0))
    (λ s p stands. (stands, (subst (λ (o : Option Held). IsSet o) (sym (task_stays group task s p.1.0)) p.1.0, falls s p))) in
    let same_slots : g.N.Nodes.slots c.free_part.new.nodes + 1 ≡ g.N.Nodes.slots c.freeing.nodes + 1 = ap (λ (j : ℕ). j + 1) done.slots in
    record {
      does = does_then A P Q (tasks_freed group) (tasks_freed group) (tasks_freed group) _ _ _ before.does step;
      lacks = done.lacks ∙ before.lacks;
      taken = falls_then _ _ _ before.taken done.taken;
      plain = rises_then _ _ _ before.plain done.plain;
      next = done.next ∙ before.next;
      slots = done.slots ∙ before.slots;
      roots = λ name. done.roots name ∙ before.roots name;
      count = done.count ∙ before.count;
      limit = done.limit ∙ before.limit;
      over = done.over ∙ before.over;
      frames_room = omega (arith, done.stack_room, before.frames_room, same_slots);
      search_room = omega (arith, done.room, before.search_room, same_slots);
      frames_more = omega (arith, done.stack_room, before.frames_more);
      search_more = omega (arith, done.room, before.search_more);
    }

pub returns-in_default-clause-does : goal.returns-in_default-clause-does
returns-in_default-clause-does g c =
    let group = c.args.group.0 in
    let A : World → Type 0 = Both (g.N.Nodes.stands c.args.nodes.now) (g.M.Names.stands c.args.names.now) in
    let B : World → Type 0 = Both (g.N.Nodes.stands c.freeing.nodes) (g.M.Names.stands c.freeing.names) in
    let P : World → Type 0 = λ w. B w × (IsSet (held_at group w.names) × (live_below (g.N.Nodes.next c.freeing.nodes) w ≤ c.freeing.left)) in
    does_ends A P B (tasks_freed group) (tasks_freed group) _ _ (λ w p. p.0) (λ s p. no_task_goes group s (sym (c.newest_member.ensures s.world p.0.0) ∙ ap link_number c.in_default.is)) c.freeing.invariant.does

pub returns-clause-does : goal.returns-clause-does
returns-clause-does g c =
    let group = c.args.group.0 in
    let A : World → Type 0 = Both (g.N.Nodes.stands c.args.nodes.now) (g.M.Names.stands c.args.names.now) in
    let B : World → Type 0 = Both (g.N.Nodes.stands c.freeing.nodes) (g.M.Names.stands c.freeing.names) in
    let next = g.N.Nodes.next c.freeing.nodes in
    let P : World → Type 0 = λ w. B w × (IsSet (held_at group w.names) × (live_below next w ≤ c.freeing.left)) in
    let zero_left : c.freeing.left ≡ 0 = omega (arith, c.freeing-test.false) in
    does_ends A P B (tasks_freed group) (tasks_freed group) _ _ (λ w p. p.0)
    (λ s p. no_task_goes group s (no_newest next s.world (lists_in s.world group) (λ t h. g.met.N.Nodes.members_built c.freeing.nodes s.world group t p.0.0 h) (subst (λ (k : ℕ). live_below next s.world ≤ k) zero_left p.1.1))) c.freeing.invariant.does
