use Rattle.std.proofs.Common.{sym, ap, ℕ, ◌+◌}
use Rattle.kj_model.specs.Free.{Every, free_to}
use Rattle.promise_walks.proofs.Composed.{does_from}
use Rattle.promise_firing.specs.Closed.{free_hub}
use Rattle.promise_firing.proofs.Kept.{keeps_rest}
use Rattle.promise_firing.proofs.closing_all.close_hub.Goals as goal

pub returns-clause-does : goal.returns-clause-does
returns-clause-does g c =
    let n = c.args.hub.number.0 in
    does_from _ _ (free_to Every (g.N.Nodes.slots c.args.nodes.now + 1) n) (free_hub n) (λ s. s) _ _
    (λ s stands. ap (λ (k : ℕ). free_to Every (k + 1) n s) (sym (g.met.N.Nodes.slots_are c.args.nodes.now s.world stands.0)))
    c.free_tree.ensures.does

pub returns-clause-kept : goal.returns-clause-kept
returns-clause-kept g c =
    let one = c.free_tree.ensures in
    keeps_rest _ _ c.requires.sound (record {
      taken = one.taken;
      plain = one.plain;
      next_is = one.next;
      slots_are = one.slots;
      roots = one.roots;
      count = one.count;
      limit_is = one.limit;
      frames = one.stack_room;
      search = one.room;
    })
