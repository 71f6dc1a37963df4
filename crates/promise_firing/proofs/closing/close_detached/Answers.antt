use Rattle.std.proofs.Common.{[], ◌≡◌, ◌∙◌, ◌≤◌, ◌-◌, sym, ap, subst, ℕ, Some, refl, arith}
use Rattle.kj_model.specs.World.{World, State}
use Rattle.kj_model.specs.Free.{Holding}
use Rattle.kj_model.specs.Calls.{detached_closed}
use Rattle.promise_nodes.specs.Kept.{newest_task}
use Rattle.promise_nodes.specs.Shown.{link_number}
use Rattle.promise_walks.specs.Walks.{Both}
use Rattle.promise_walks.proofs.Composed.{does_then}
use Rattle.promise_walks.specs.Living.{live_below}
use Rattle.promise_firing.specs.Closed.{free_one}
use Rattle.promise_walks.proofs.Changing.{does_on, does_more, does_ends}
use Rattle.promise_walks.proofs.Newest.{few_first, newest_lives, no_newest, fewer_live}
use Rattle.promise_firing.proofs.Emptied.{newest_goes, none_goes}
use Rattle.promise_firing.proofs.Kept.{keeps_same, keeps_then}
use Rattle.promise_firing.proofs.closing.close_detached.Goals as goal

pub closing-init : goal.closing-init
closing-init g c =
    let A : World → Type 0 = Both (g.N.Nodes.stands c.args.nodes.now) (g.M.Names.stands c.args.names.now) in
    let next = g.N.Nodes.next c.args.nodes.now in
    record {
      does = does_more A (λ w. A w × (live_below next w ≤ c.next-left.result)) detached_closed (g.S.Steps.told c.args.steps.now)
          (λ w stands. (stands, let few = few_first next w in let left = c.next-left.ensures in omega (arith, few, left)));
      lacks = refl;
      kept = keeps_same _ c.requires.sound;
      over = refl;
    }

pub closing-preserved : goal.closing-preserved
closing-preserved g c =
    let before = c.closing.invariant in
    let done = c.close_tree.ensures in
    let task = c.in-Some.task.number.0 in
    let next = g.N.Nodes.next c.closing.nodes in
    let then = g.N.Nodes.next c.close_tree.new.nodes in
    let A : World → Type 0 = Both (g.N.Nodes.stands c.args.nodes.now) (g.M.Names.stands c.args.names.now) in
    let B : World → Type 0 = Both (g.N.Nodes.stands c.closing.nodes) (g.M.Names.stands c.closing.names) in
    let C : World → Type 0 = Both (g.N.Nodes.stands c.close_tree.new.nodes) (g.M.Names.stands c.close_tree.new.names) in
    let P : World → Type 0 = λ w. B w × (live_below next w ≤ c.closing.left) in
    let Q : World → Type 0 = λ w. C w × (live_below then w ≤ c.closing.left - 1) in
    let newest : (w : World) → B w → newest_task w ≡ Some task = λ w stands. sym (c.newest_task.ensures w stands.0) ∙ ap link_number c.in-Some.is in
    let falls : (s : State) → P s.world → live_below then (free_one task s).world ≤ c.closing.left - 1 = λ s p.
    let lives = newest_lives task s.world s.world.detached (newest s.world p.0) in
    let fewer = fewer_live (Holding []) next task s (g.met.N.Nodes.tasks_built c.closing.nodes s.world task p.0.0 lives.1) lives.0 in
    let same : live_below then (free_one task s).world ≡ live_below next (free_one task s).world = ap (λ (k : ℕ). live_below k (free_one task s).world) done.kept.next_is in
    let few = p.1 in
    omega (arith, fewer, same, few) in
    let step = does_on P B C Q (free_one task) detached_closed detached_closed _ _ (λ w p. p.0) done.does (λ s p. newest_goes task s (newest s.world p.0)) (λ s p stands. (stands, falls s p)) in
    record {
      does = does_then A P Q detached_closed detached_closed detached_closed _ _ _ before.does step;
      lacks = done.lacks ∙ before.lacks;
      kept = keeps_then _ _ _ before.kept done.kept;
      over = done.over ∙ before.over;
    }

pub returns-in_default-clause-does : goal.returns-in_default-clause-does
returns-in_default-clause-does g c =
    let A : World → Type 0 = Both (g.N.Nodes.stands c.args.nodes.now) (g.M.Names.stands c.args.names.now) in
    let B : World → Type 0 = Both (g.N.Nodes.stands c.closing.nodes) (g.M.Names.stands c.closing.names) in
    let P : World → Type 0 = λ w. B w × (live_below (g.N.Nodes.next c.closing.nodes) w ≤ c.closing.left) in
    does_ends A P B detached_closed detached_closed _ _ (λ w p. p.0) (λ s p. none_goes s (sym (c.newest_task.ensures s.world p.0.0) ∙ ap link_number c.in_default.is)) c.closing.invariant.does

pub returns-clause-does : goal.returns-clause-does
returns-clause-does g c =
    let A : World → Type 0 = Both (g.N.Nodes.stands c.args.nodes.now) (g.M.Names.stands c.args.names.now) in
    let B : World → Type 0 = Both (g.N.Nodes.stands c.closing.nodes) (g.M.Names.stands c.closing.names) in
    let next = g.N.Nodes.next c.closing.nodes in
    let P : World → Type 0 = λ w. B w × (live_below next w ≤ c.closing.left) in
    let zero_left : c.closing.left ≡ 0 = omega (arith, c.closing-test.false) in
    does_ends A P B detached_closed detached_closed _ _ (λ w p. p.0)
    (λ s p. none_goes s (no_newest next s.world s.world.detached (λ t h. g.met.N.Nodes.tasks_built c.closing.nodes s.world t p.0.0 h) (subst (λ (k : ℕ). live_below next s.world ≤ k) zero_left p.1))) c.closing.invariant.does
