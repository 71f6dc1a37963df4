use Rattle.std.proofs.Common.{◌+◌, arith}
use Rattle.std.proofs.lemmas.List.{nil_from_length}
use Rattle.promise_walks.proofs.Fallen.{led_first, led_last}
use Rattle.promise_walks.proofs.falling.mark_tree.Goals as goal

pub looking-init : goal.looking-init
looking-init g c =
    let done = c.look_at.ensures in
    record {
      leads = λ w gone stands marks. led_first w (g.N.Nodes.slots c.args.nodes.now + 1) _ _ _ _ gone c.args.root.number.0 c.clear.ensures.items marks (λ more marked there. done.leads w more stands marked there);
      stands = done.stands;
      stays = done.stays;
      slots = done.stays.slots;
      bound = done.bound;
      room = omega (arith, done.room, c.requires.room, c.clear.ensures.capacity);
      more = omega (arith, done.room, c.clear.ensures.capacity);
    }

pub returns-clause-falls : goal.returns-clause-falls
returns-clause-falls g c w gone stands marks = led_last w _ _ _ _ (nil_from_length c.looking.frames.items (omega (arith, c.in_default.ensures.cases.0))) (c.looking.invariant.leads w gone stands marks)
