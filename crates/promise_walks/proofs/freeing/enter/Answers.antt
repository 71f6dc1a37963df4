use Rattle.std.proofs.Common.{◌∙◌, sym, ap}
use Rattle.std.proofs.lemmas.List.{append-nil}
use Rattle.kj_model.specs.Changes.{silent}
use Rattle.kj_model.specs.Free.{is_guarded, without_branch}
use Rattle.promise_walks.specs.Walks.{Both, guard_of}
use Rattle.promise_walks.specs.Stacks.{falls_count}
use Rattle.promise_walks.proofs.Entered.{entered, entered_branch, branch_seen}
use Rattle.promise_nodes.proofs.Same.{without_branch_names}
use Rattle.promise_walks.proofs.Unlisted.{unlisted_unless}
use Rattle.promise_walks.proofs.freeing.enter.Goals as goal

pub returns-in-Some-clause-enters : goal.returns-in-Some-clause-enters
returns-in-Some-clause-enters g c k s stands =
    let n = c.args.node.number.0 in
    let hub = c.in-Some.hub in
    let guard = guard_of c.args.guard in
    let w = without_branch n hub.number.0 s.world in
    let sees = c.requires.shape s.world stands.0 in
    let branch = branch_seen _ c.args.shape hub sees c.in-Some.is in
    let after : Both (g.N.Nodes.stands c.leave_hub-is_last.new.self) (g.M.Names.stands c.args._names.now) w = (c.leave_hub-is_last.ensures.stands s.world stands.0 branch, g.met.M.Names.nodes_free c.args._names.now s.world w (without_branch_names n hub.number.0 s.world) stands.1) in
    record {
      state = silent (without_branch n hub.number.0) s;
      stands = after;
      past_is = sym (append-nil s.past);
      ends = sym (entered_branch guard k c.args.node hub c.count_falling-count.result c.args.shape s sees c.in-Some.is
          (c.count_falling-count.ensures.count w after.0
          ∙ ap (λ b. falls_count b (is_guarded guard hub.number.0 w)) (c.leave_hub-is_last.ensures.last s.world stands.0 branch)));
    }

pub returns-in-None-clause-enters : goal.returns-in-None-clause-enters
returns-in-None-clause-enters g c k s stands = record {
  state = s;
  stands = stands;
  past_is = sym (append-nil s.past);
  ends = sym (entered (guard_of c.args.guard) k c.args.node c.args.shape s (c.requires.shape s.world stands.0) c.in-None.is);
}

pub returns-in-None-clause-unlisted : goal.returns-in-None-clause-unlisted
returns-in-None-clause-unlisted g c = unlisted_unless (g.N.Nodes.is_listed c.args.nodes.now c.args.node.number.0) c.args.shape.hub c.requires.listed c.in-None.is
