use Rattle.std.proofs.Common.{[], ◌≡◌, ◌∙◌, ◌≤◌, ◌-◌, sym, ap, subst, ℕ, Option, Some, refl, arith}
use Rattle.kj_model.specs.World.{World, State, Held, held_at}
use Rattle.kj_model.specs.Free.{Holding}
use Rattle.promise_nodes.specs.Members.{lists_in, newest_member}
use Rattle.promise_nodes.specs.Shown.{link_number}
use Rattle.promise_names.specs.Held.{IsSet}
use Rattle.promise_walks.specs.Walks.{Both}
use Rattle.promise_walks.proofs.Composed.{does_then}
use Rattle.promise_walks.specs.Living.{live_below}
use Rattle.promise_firing.specs.Closed.{free_one, set_closed}
use Rattle.promise_walks.proofs.Changing.{does_on, does_more, does_ends}
use Rattle.promise_walks.proofs.Newest.{few_first, newest_lives, no_newest, fewer_live}
use Rattle.promise_firing.proofs.Kept.{keeps_same, keeps_then}
use Rattle.promise_firing.proofs.Sets.{no_task_goes, set_stays, task_goes}
use Rattle.promise_firing.proofs.closing_sets.close_set.Goals as goal

pub closing-init : goal.closing-init
closing-init g c =
    let A : World → Type 0 = Both (g.N.Nodes.stands c.args.nodes.now) (g.M.Names.stands c.args.names.now) in
    let name = c.args.name.0 in
    let next = g.N.Nodes.next c.args.nodes.now in
    record {
      does = does_more A (λ w. A w × (IsSet (held_at name w.names) × (live_below next w ≤ c.next-left.result))) (set_closed name) (g.S.Steps.told c.args.steps.now)
          (λ w stands. (stands, (c.requires.set w stands, let few = few_first next w in let left = c.next-left.ensures in omega (arith, few, left))));
      lacks = refl;
      kept = keeps_same _ c.requires.sound;
      over = refl;
    }

pub closing-preserved : goal.closing-preserved
closing-preserved g c =
    let before = c.closing.invariant in
    let done = c.close_tree.ensures in
    let name = c.args.name.0 in
    let task = c.in-Some.task.number.0 in
    let next = g.N.Nodes.next c.closing.nodes in
    let then = g.N.Nodes.next c.close_tree.new.nodes in
    let A : World → Type 0 = Both (g.N.Nodes.stands c.args.nodes.now) (g.M.Names.stands c.args.names.now) in
    let B : World → Type 0 = Both (g.N.Nodes.stands c.closing.nodes) (g.M.Names.stands c.closing.names) in
    let C : World → Type 0 = Both (g.N.Nodes.stands c.close_tree.new.nodes) (g.M.Names.stands c.close_tree.new.names) in
    let P : World → Type 0 = λ w. B w × (IsSet (held_at name w.names) × (live_below next w ≤ c.closing.left)) in
    let Q : World → Type 0 = λ w. C w × (IsSet (held_at name w.names) × (live_below then w ≤ c.closing.left - 1)) in
    let newest : (w : World) → B w → newest_member w (lists_in w name) ≡ Some task = λ w stands. sym (c.newest_member.ensures w stands.0) ∙ ap link_number c.in-Some.is in
    let falls : (s : State) → P s.world → live_below then (free_one task s).world ≤ c.closing.left - 1 = λ s p.
    let lives = newest_lives task s.world (lists_in s.world name) (newest s.world p.0) in
    let fewer = fewer_live (Holding []) next task s (g.met.N.Nodes.members_built c.closing.nodes s.world name task p.0.0 lives.1) lives.0 in
    let same : live_below then (free_one task s).world ≡ live_below next (free_one task s).world = ap (λ (k : ℕ). live_below k (free_one task s).world) done.kept.next_is in
    let few = p.1.1 in
    omega (arith, fewer, same, few) in
    let step = does_on P B C Q (free_one task) (set_closed name) (set_closed name) _ _ (λ w p. p.0) done.does (λ s p. task_goes name task s p.1.0 (newest s.world p.0))
    (λ s p stands. (stands, (subst (λ (o : Option Held). IsSet o) (sym (set_stays name task s p.1.0)) p.1.0, falls s p))) in
    record {
      does = does_then A P Q (set_closed name) (set_closed name) (set_closed name) _ _ _ before.does step;
      lacks = done.lacks ∙ before.lacks;
      kept = keeps_then _ _ _ before.kept done.kept;
      over = done.over ∙ before.over;
    }

pub returns-in_default-clause-does : goal.returns-in_default-clause-does
returns-in_default-clause-does g c =
    let name = c.args.name.0 in
    let A : World → Type 0 = Both (g.N.Nodes.stands c.args.nodes.now) (g.M.Names.stands c.args.names.now) in
    let B : World → Type 0 = Both (g.N.Nodes.stands c.closing.nodes) (g.M.Names.stands c.closing.names) in
    let P : World → Type 0 = λ w. B w × (IsSet (held_at name w.names) × (live_below (g.N.Nodes.next c.closing.nodes) w ≤ c.closing.left)) in
    does_ends A P B (set_closed name) (set_closed name) _ _ (λ w p. p.0) (λ s p. no_task_goes name s p.1.0 (sym (c.newest_member.ensures s.world p.0.0) ∙ ap link_number c.in_default.is)) c.closing.invariant.does

pub returns-clause-does : goal.returns-clause-does
returns-clause-does g c =
    let name = c.args.name.0 in
    let A : World → Type 0 = Both (g.N.Nodes.stands c.args.nodes.now) (g.M.Names.stands c.args.names.now) in
    let B : World → Type 0 = Both (g.N.Nodes.stands c.closing.nodes) (g.M.Names.stands c.closing.names) in
    let next = g.N.Nodes.next c.closing.nodes in
    let P : World → Type 0 = λ w. B w × (IsSet (held_at name w.names) × (live_below next w ≤ c.closing.left)) in
    let zero_left : c.closing.left ≡ 0 = omega (arith, c.closing-test.false) in
    does_ends A P B (set_closed name) (set_closed name) _ _ (λ w p. p.0)
    (λ s p. no_task_goes name s p.1.0 (no_newest next s.world (lists_in s.world name) (λ t h. g.met.N.Nodes.members_built c.closing.nodes s.world name t p.0.0 h) (subst (λ (k : ℕ). live_below next s.world ≤ k) zero_left p.1.1))) c.closing.invariant.does
