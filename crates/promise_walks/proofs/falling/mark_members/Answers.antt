use Rattle.std.proofs.Common.{◌≡◌, ◌∙◌, ◌+◌, ◌-◌, ◌++◌, ℕ, [], Some, ap, refl, subst, arith}
use Rattle.kj_model.specs.Free.{Holding}
use Rattle.kj_model.specs.Falling.{falling}
use Rattle.promise_nodes.specs.Members.{lists_in}
use Rattle.promise_nodes.specs.Shown.{link_number}
use Rattle.promise_walks.specs.Falls.{AreMarks, HaveFallen}
use Rattle.promise_walks.proofs.Members.{few_below, fallen_all, fallen_first, fallen_last, fallen_next, newer, next_lives, older, parted}
use Rattle.promise_walks.proofs.falling.mark_members.Goals as goal

pub falling-init : goal.falling-init
falling-init g c = record {
  falls = λ w stands unmarked.
      let list = c.args.list.0 in
      let nodes = c.args.nodes.now in
      let most = few_below (lists_in w list) (g.N.Nodes.next nodes) (g.met.N.Nodes.members_once nodes w list stands) (λ n i. g.met.N.Nodes.members_built nodes w list n stands i) in
      fallen_first w (g.N.Nodes.slots nodes + 1) (lists_in w list) (g.N.Nodes.marks nodes) _ _ (λ n. unmarked n) (c.newest_member-at.ensures w stands) (let left = c.next-left.ensures in omega (arith, most, left));
  stands = λ w stands. stands;
  stays = record { taken = λ n. refl; listed = λ n. refl; plain = λ n. refl; room = λ rows. refl; next = refl; slots = refl };
  slots = refl;
  room = c.requires.room;
  more = omega arith;
}

pub falling-preserved : goal.falling-preserved
falling-preserved g c = let done = c.mark_tree.ensures in let loop = c.falling.invariant in record {
  falls = λ w stands unmarked.
      let list = c.args.list.0 in
      let d = g.N.Nodes.slots c.args.nodes.now + 1 in
      let members = lists_in w list in
      let n = c.in-Some.member.number.0 in
      let old = g.N.Nodes.marks c.falling.nodes in
      let new = g.N.Nodes.marks c.mark_tree.new.nodes in
      let most = c.falling.left in
      let o = link_number c.falling.at in
      let is : o ≡ Some n = ap link_number c.in-Some.is in
      let h : HaveFallen w d old members o most = loop.falls w stands unmarked in
      let here = loop.stands w stands in
      let marks = subst (λ (slots : ℕ). AreMarks new [] (h.gone ++ falling (Holding []) w (slots + 1) [] h.gone n)) loop.slots (done.falls w h.gone here h.marks_are) in
      let one : most - 1 + 1 ≡ most = omega (arith, c.falling-test.true) in
      fallen_next w d members old o n most is h new (link_number c.older_member-at.result) (most - 1) marks
      (c.older_member-at.ensures w list (older w d members old o n most is h) (newer w d members old o n most is h) (done.stands w here) (next_lives w d members old o n most is h) (parted w d members old o n most is h))
      one;
  stands = λ w stands. done.stands w (loop.stands w stands);
  stays = record {
    taken = λ n. done.stays.taken n ∙ loop.stays.taken n;
    listed = λ n. done.stays.listed n ∙ loop.stays.listed n;
    plain = λ n. done.stays.plain n ∙ loop.stays.plain n;
    room = λ rows. done.stays.room rows ∙ loop.stays.room rows;
    next = done.stays.next ∙ loop.stays.next;
    slots = done.stays.slots ∙ loop.stays.slots;
  };
  slots = done.stays.slots ∙ loop.slots;
  room = omega (arith, done.room, loop.room);
  more = omega (arith, done.room, loop.more);
}

pub returns-in_default-clause-falls : goal.returns-in_default-clause-falls
returns-in_default-clause-falls g c w stands unmarked = fallen_last w (g.N.Nodes.slots c.args.nodes.now + 1) (lists_in w c.args.list.0) _ _ _ (ap link_number c.in_default.is) (c.falling.invariant.falls w stands unmarked)

pub returns-clause-falls : goal.returns-clause-falls
returns-clause-falls g c w stands unmarked = fallen_all w (g.N.Nodes.slots c.args.nodes.now + 1) (lists_in w c.args.list.0) _ _ _ (omega (arith, c.falling-test.false)) (c.falling.invariant.falls w stands unmarked)
