use Rattle.std.proofs.Common.{ap, sym, ◌∙◌, arith}
use Rattle.promise_nodes.specs.Shown.{link_number}
use Rattle.promise_walks.specs.Falls.{is_off}
use Rattle.promise_walks.proofs.Seen.{all_seen, next_seen, seen_off, seen_on, none_seen, zero_seen}
use Rattle.promise_walks.proofs.falling.are_off.Goals as goal

pub looking-init : goal.looking-init
looking-init g c = record {
  seen = λ w way gone stands marks. all_seen (is_off way gone) c.args.hub.number.0 w.nodes _ _ (c.first_branch-at.ensures w stands) (let few = g.met.N.Nodes.few_branches c.args.nodes.now w c.args.hub.number.0 stands in let slots = c.slots-left.ensures in omega (arith, few, slots));
}

pub looking-preserved : goal.looking-preserved
looking-preserved g c = record {
  seen = λ w way gone stands marks.
      let out = is_off way gone in
      let hub = c.args.hub.number.0 in
      let branch = c.in-Some.branch.number.0 in
      let n = next_seen out hub w.nodes _ branch _ (ap link_number c.in-Some.is) (c.looking.invariant.seen w way gone stands marks) in
      seen_off out hub w.nodes _ branch _ n (sym (c.is_off.ensures w way gone stands marks) ∙ c.if-not-is_off.false) (c.next_branch-at.ensures w hub n.front n.back stands n.branches);
}

pub returns-in_default : goal.returns-in_default
returns-in_default g c w way gone stands marks = none_seen (is_off way gone) c.args.hub.number.0 w.nodes _ _ (ap link_number c.in_default.is) (c.looking.invariant.seen w way gone stands marks)

pub returns-then-not-is_off : goal.returns-then-not-is_off
returns-then-not-is_off g c w way gone stands marks =
    let out = is_off way gone in
    let hub = c.args.hub.number.0 in
    let branch = c.in-Some.branch.number.0 in
    let n = next_seen out hub w.nodes _ branch _ (ap link_number c.in-Some.is) (c.looking.invariant.seen w way gone stands marks) in
    seen_on out hub w.nodes branch _ n (sym (c.is_off.ensures w way gone stands marks) ∙ c.if-not-is_off.true)

pub returns : goal.returns
returns g c w way gone stands marks = zero_seen (is_off way gone) c.args.hub.number.0 w.nodes _ _ (omega (arith, c.looking-test.false)) (c.looking.invariant.seen w way gone stands marks)
