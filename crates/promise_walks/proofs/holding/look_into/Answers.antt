use Rattle.std.proofs.Common.{arith, subst, sym, length, ◌<◌, List, ap, ◌∙◌, ◌-◌, ◌+◌}
use Rattle.std.proofs.lemmas.Bool.Decides.{nat_tests}
use Rattle.promise_walks.specs.declared.shape.Parts.{Parts}
use Rattle.promise_walks.specs.Stacks.{seek, weigh_parts, cost}
use Rattle.promise_walks.proofs.Sought.{looked, looked_weight, held_here}
use Rattle.promise_walks.proofs.holding.look_into.Goals as goal

pub returns-clause-seeks : goal.returns-clause-seeks
returns-clause-seeks g c h w stands =
    let d = g.N.Nodes.slots c.args.nodes.now + 1 in
    let n = c.args.node.number.0 in
    let xs = c.args.search.now.items in
    let within : length xs < d = grind (arith, nat_tests, c.if-is_deep.false, c.is_deep.ensures, c.slots.ensures, c.len.ensures) in
    ap (λ (l : List Parts). seek w.nodes n d l) c.put_last.ensures.items
    ∙ looked w.nodes n d xs c.args.at.number.0 c.in-Some.shape within (grind (arith, nat_tests, c.if-at-node.false)) (c.in-Some.ensures.shape w stands)

pub returns-clause-weight : goal.returns-clause-weight
returns-clause-weight g c =
    let d = g.N.Nodes.slots c.args.nodes.now + 1 in
    let xs = c.args.search.now.items in
    let within : length xs < d = grind (arith, nat_tests, c.if-is_deep.false, c.is_deep.ensures, c.slots.ensures, c.len.ensures) in
    let w = looked_weight d xs c.in-Some.shape.parts within (omega arith) in
    subst (λ (l : List Parts). weigh_parts d l < weigh_parts d xs + cost (d - length xs)) (sym c.put_last.ensures.items) w

pub returns-then-at-node-clause-found : goal.returns-then-at-node-clause-found
returns-then-at-node-clause-found g c h w =
    let d = g.N.Nodes.slots c.args.nodes.now + 1 in
    let xs = c.args.search.now.items in
    let within : length xs < d = grind (arith, nat_tests, c.if-is_deep.false, c.is_deep.ensures, c.slots.ensures, c.len.ensures) in
    held_here w.nodes d xs c.args.node.number.0 c.args.at.number.0 within c.if-at-node.true
