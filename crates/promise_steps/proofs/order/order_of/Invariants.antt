-- The bodies so far, none of them taken.
use Rattle.std.proofs.Common.{◌≡◌, map, take}
use Rattle.std.specs.List.{AllByRecursion}
use Rattle.promise_commands.specs.Script.{body_at}
use Rattle.promise_steps.specs.declared.order.Entry.{Entry}
use Rattle.promise_steps.proofs.Sorting.{IsLeftHere}
use Rattle.promise_steps.proofs.order.order_of.Given as goal

abbrev pub invariant-loop-which : goal.invariant-loop-which
invariant-loop-which l = (map (λ (e : Entry). body_at l.script.bodies e.which) l.order.items ≡ take l.which l.script.bodies) × AllByRecursion IsLeftHere l.order.items
