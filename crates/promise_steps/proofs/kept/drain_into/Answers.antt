-- What was told is printed.
use Rattle.std.proofs.Common.{◌≡◌, map, true, ap}
use Rattle.promise_steps.specs.Items.{item_of}
use Rattle.promise_steps.specs.Order.{left_of}
use Rattle.promise_steps.specs.Kept.{begun_of, bodies_in, items_of}
use Rattle.promise_steps.proofs.Keeping.{drained}
use Rattle.promise_steps.proofs.kept.drain_into.Goals as goal

pub returns-clause-prints : goal.returns-clause-prints
returns-clause-prints c =
    let kept = c.args.kept.now in
    let bodies = bodies_in kept in
    let whole : kept.whole ≡ true = c.if-not-kept.false in
    drained kept.whole (begun_of kept) (left_of bodies kept.order.items) (left_of bodies c.of.result.value.items) (items_of kept) (map (item_of bodies) c.clear.new.self.items)
    c.args.text.now c.print_all.new.text whole (ap (λ v. left_of bodies v.items) c.of.ensures) (ap (map (item_of bodies)) c.clear.ensures.items)
    (c.requires.agrees whole) (c.requires.is_left whole) (c.in_ok-print_all.ensures bodies)
