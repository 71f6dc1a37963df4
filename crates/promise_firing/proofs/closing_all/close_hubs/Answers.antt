use Rattle.std.proofs.Common.{◌≡◌, ◌∙◌, ◌≤◌, ◌-◌, sym, ap, subst, ℕ, Some, refl, arith}
use Rattle.kj_base.specs.Queue.{first_of}
use Rattle.kj_model.specs.World.{World, State}
use Rattle.kj_model.specs.Free.{Every}
use Rattle.kj_model.specs.Calls.{hubs_of, hubs_closed}
use Rattle.promise_nodes.specs.Shown.{link_number}
use Rattle.promise_walks.specs.Walks.{Both}
use Rattle.promise_walks.proofs.Composed.{does_then}
use Rattle.promise_walks.specs.Living.{live_below}
use Rattle.promise_firing.specs.Closed.{free_hub}
use Rattle.promise_walks.proofs.Changing.{does_onward, does_more, does_ends}
use Rattle.promise_walks.proofs.Newest.{few_first, fewer_live}
use Rattle.promise_firing.proofs.Hubs.{oldest_lives, oldest_goes, no_hub_goes, no_oldest}
use Rattle.promise_firing.proofs.Kept.{keeps_same, keeps_then}
use Rattle.promise_firing.proofs.closing_all.close_hubs.Goals as goal

pub closing-init : goal.closing-init
closing-init g c =
    let A : World → Type 0 = Both (g.N.Nodes.stands c.args.nodes.now) (g.M.Names.stands c.args.names.now) in
    let next = g.N.Nodes.next c.args.nodes.now in
    record {
      does = does_more A (λ w. A w × (live_below next w ≤ c.next-left.result)) hubs_closed (g.S.Steps.told c.args.steps.now)
          (λ w stands. (stands, let few = few_first next w in let left = c.next-left.ensures in omega (arith, few, left)));
      lacks = refl;
      kept = keeps_same _ c.requires.sound;
      over = refl;
    }

pub closing-preserved : goal.closing-preserved
closing-preserved g c =
    let before = c.closing.invariant in
    let done = c.close_hub.ensures in
    let hub = c.in-Some.hub.number.0 in
    let next = g.N.Nodes.next c.closing.nodes in
    let then = g.N.Nodes.next c.close_hub.new.nodes in
    let A : World → Type 0 = Both (g.N.Nodes.stands c.args.nodes.now) (g.M.Names.stands c.args.names.now) in
    let B : World → Type 0 = Both (g.N.Nodes.stands c.closing.nodes) (g.M.Names.stands c.closing.names) in
    let C : World → Type 0 = Both (g.N.Nodes.stands c.close_hub.new.nodes) (g.M.Names.stands c.close_hub.new.names) in
    let P : World → Type 0 = λ w. B w × (live_below next w ≤ c.closing.left) in
    let Q : World → Type 0 = λ w. C w × (live_below then w ≤ c.closing.left - 1) in
    let oldest : (w : World) → B w → first_of (hubs_of w.nodes) ≡ Some hub = λ w stands. sym (c.oldest_hub.ensures w stands.0) ∙ ap link_number c.in-Some.is in
    let falls : (s : State) → P s.world → live_below then (free_hub hub s).world ≤ c.closing.left - 1 = λ s p.
    let lives = oldest_lives hub s.world (oldest s.world p.0) in
    let fewer = fewer_live Every next hub s (g.met.N.Nodes.hubs_built c.closing.nodes s.world hub p.0.0 lives.1) lives.0 in
    let same : live_below then (free_hub hub s).world ≡ live_below next (free_hub hub s).world = ap (λ (k : ℕ). live_below k (free_hub hub s).world) done.kept.next_is in
    let few = p.1 in
    omega (arith, fewer, same, few) in
    let step = does_onward P B C Q (free_hub hub) hubs_closed hubs_closed _ _ (λ w p. p.0) done.does
    (λ s p stands. (
      oldest_goes hub s (g.met.N.Nodes.once c.closing.nodes s.world p.0.0) (g.met.N.Nodes.once c.close_hub.new.nodes (free_hub hub s).world stands.0) (oldest s.world p.0),
      (stands, falls s p),
    )) in
    record {
      does = does_then A P Q hubs_closed hubs_closed hubs_closed _ _ _ before.does step;
      lacks = done.lacks ∙ before.lacks;
      kept = keeps_then _ _ _ before.kept done.kept;
      over = done.over ∙ before.over;
    }

pub returns-in_default-clause-does : goal.returns-in_default-clause-does
returns-in_default-clause-does g c =
    let A : World → Type 0 = Both (g.N.Nodes.stands c.args.nodes.now) (g.M.Names.stands c.args.names.now) in
    let B : World → Type 0 = Both (g.N.Nodes.stands c.closing.nodes) (g.M.Names.stands c.closing.names) in
    let P : World → Type 0 = λ w. B w × (live_below (g.N.Nodes.next c.closing.nodes) w ≤ c.closing.left) in
    does_ends A P B hubs_closed hubs_closed _ _ (λ w p. p.0) (λ s p. no_hub_goes s (sym (c.oldest_hub.ensures s.world p.0.0) ∙ ap link_number c.in_default.is)) c.closing.invariant.does

pub returns-clause-does : goal.returns-clause-does
returns-clause-does g c =
    let A : World → Type 0 = Both (g.N.Nodes.stands c.args.nodes.now) (g.M.Names.stands c.args.names.now) in
    let B : World → Type 0 = Both (g.N.Nodes.stands c.closing.nodes) (g.M.Names.stands c.closing.names) in
    let next = g.N.Nodes.next c.closing.nodes in
    let P : World → Type 0 = λ w. B w × (live_below next w ≤ c.closing.left) in
    let zero_left : c.closing.left ≡ 0 = omega (arith, c.closing-test.false) in
    does_ends A P B hubs_closed hubs_closed _ _ (λ w p. p.0)
    (λ s p. no_hub_goes s (no_oldest next s.world (λ h i. g.met.N.Nodes.hubs_built c.closing.nodes s.world h p.0.0 i) (subst (λ (k : ℕ). live_below next s.world ≤ k) zero_left p.1))) c.closing.invariant.does
