use Rattle.std.proofs.Common.{◌≡◌, ◌∙◌, ap, ℕ, List, subst, arith, refl}
use Rattle.kj_base.specs.Queue.{DepthFirst}
use Rattle.kj_model.specs.Nodes.{Entry, form_at}
use Rattle.kj_model.specs.Fire.{branches_of}
use Rattle.kj_model.specs.Listening.{announced}
use Rattle.promise_nodes.specs.Shown.{link_number}
use Rattle.promise_firing.specs.Left.{AreLeft}
use Rattle.promise_firing.proofs.Announced.{all_left, next_left, announced_left, left_none, left_zero, announced_nodes}
use Rattle.promise_firing.proofs.branches.announce_branches.Goals as goal

pub announcing-init : goal.announcing-init
announcing-init g c = record {
  left = λ w stands live. all_left (g.N.Nodes.stands c.args.nodes.now) c.args.hub.number.0 w _ _ stands (c.first_branch-at.ensures w stands) (let few = g.met.N.Nodes.few_branches c.args.nodes.now w c.args.hub.number.0 stands in let slots = c.slots-left.ensures in omega (arith, few, slots));
  taken = λ n h. h;
  plain = λ n h. h;
  next = refl;
  slots = refl;
}

pub announcing-preserved : goal.announcing-preserved
announcing-preserved g c =
    let before = c.announcing.invariant in
    let done = c.announce.ensures in
    let hub = c.args.hub.number.0 in
    let branch = c.in-Some.branch.number.0 in
    let Now = g.N.Nodes.stands c.announcing.nodes in
    let Then = g.N.Nodes.stands c.announce.new.nodes in
    record {
      left = λ w stands live.
          let n = next_left Now hub w _ branch _ (ap link_number c.in-Some.is) live (before.left w stands live) in
          let v = announced DepthFirst branch n.now in
          let st = done.stands n.now n.stands n.lives in
          let branches = ap (λ (nodes : List Entry). branches_of (form_at hub nodes)) (announced_nodes DepthFirst branch n.now ∙ n.nodes) ∙ n.branches in
          announced_left Now Then hub w _ branch _ n st (c.next_branch-at.ensures v hub n.front n.back st branches);
      taken = λ n h. before.taken n (done.taken n h);
      plain = λ n h. done.plain n (before.plain n h);
      next = done.next ∙ before.next;
      slots = done.slots ∙ before.slots;
    }

pub returns-in_default-clause-stands : goal.returns-in_default-clause-stands
returns-in_default-clause-stands g c w stands live = left_none (g.N.Nodes.stands c.announcing.nodes) c.args.hub.number.0 w _ _ (ap link_number c.in_default.is) (c.announcing.invariant.left w stands live)

pub returns-clause-stands : goal.returns-clause-stands
returns-clause-stands g c w stands live =
    let none : c.announcing.left ≡ 0 = omega (arith, c.announcing-test.false) in
    left_zero (g.N.Nodes.stands c.announcing.nodes) c.args.hub.number.0 w _ (subst (λ (j : ℕ). AreLeft (g.N.Nodes.stands c.announcing.nodes) c.args.hub.number.0 w (link_number c.announcing.at) j) none (c.announcing.invariant.left w stands live))
