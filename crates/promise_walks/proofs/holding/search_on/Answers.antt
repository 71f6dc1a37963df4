use Rattle.std.proofs.Common.{arith, sym, length, ◌≡◌, List, ap, ◌∙◌, ◌||◌, ◌-◌, ◌+◌, [], ◌++◌, ◌∷◌, ℕ}
use Rattle.std.proofs.lemmas.List.{length-append}
use Rattle.kj_model.specs.Nodes.{holds}
use Rattle.promise_walks.specs.declared.shape.Parts.{Parts}
use Rattle.promise_walks.specs.Stacks.{seek, weigh_parts, cost}
use Rattle.promise_walks.proofs.Sought.{sought_none, sought_next, sought_here, parts_fall, parts_gone}
use Rattle.promise_walks.proofs.holding.search_on.Goals as goal

pub returns-then-parts-eq0-clause-seeks : goal.returns-then-parts-eq0-clause-seeks
returns-then-parts-eq0-clause-seeks g c h w stands =
    sought_none w.nodes c.args.node.number.0 (g.N.Nodes.slots c.args.nodes.now + 1) c.args.search.now.items c.args.parts (omega (arith, c.requires.bound)) c.if-parts-eq0.true

pub returns-then-parts-eq0-clause-weight : goal.returns-then-parts-eq0-clause-weight
returns-then-parts-eq0-clause-weight g c = parts_gone (g.N.Nodes.slots c.args.nodes.now + 1) c.args.search.now.items c.args.parts (omega (arith, c.requires.bound))

pub returns-clause-found : goal.returns-clause-found
returns-clause-found g c h w stands =
    let d = g.N.Nodes.slots c.args.nodes.now + 1 in
    let n = c.args.node.number.0 in
    let xs = c.args.search.now.items in
    let y = c.rest.result in
    let len : d - length c.put_last.new.items.items ≡ d - length xs - 1 = omega (arith, ap length c.put_last.ensures.items, length-append xs (y ∷ [])) in
    sought_here w.nodes n d xs c.args.parts y (omega (arith, c.requires.bound)) c.rest.ensures.count c.rest.ensures.next
    (ap (λ (j : ℕ). holds j w.nodes n c.args.parts.next.number.0) (sym len) ∙ c.look_into.ensures.found h w)

pub returns-clause-seeks : goal.returns-clause-seeks
returns-clause-seeks g c h w stands =
    let d = g.N.Nodes.slots c.args.nodes.now + 1 in
    let n = c.args.node.number.0 in
    let m = c.args.parts.next.number.0 in
    let xs = c.args.search.now.items in
    let y = c.rest.result in
    let len : d - length c.put_last.new.items.items ≡ d - length xs - 1 = omega (arith, ap length c.put_last.ensures.items, length-append xs (y ∷ [])) in
    c.look_into.ensures.seeks h w stands
    ∙ ap (λ (l : List Parts). seek w.nodes n d l || holds (d - length c.put_last.new.items.items) w.nodes n m) c.put_last.ensures.items
    ∙ ap (λ (j : ℕ). seek w.nodes n d (xs ++ y ∷ []) || holds j w.nodes n m) len
    ∙ sought_next w.nodes n d xs c.args.parts y (omega (arith, c.requires.bound)) c.rest.ensures.count c.rest.ensures.next

pub returns-clause-weight : goal.returns-clause-weight
returns-clause-weight g c =
    let d = g.N.Nodes.slots c.args.nodes.now + 1 in
    let xs = c.args.search.now.items in
    let y = c.rest.result in
    let len : d - length c.put_last.new.items.items ≡ d - length xs - 1 = omega (arith, ap length c.put_last.ensures.items, length-append xs (y ∷ [])) in
    let e = parts_fall d xs c.args.parts y (omega (arith, c.requires.bound)) c.rest.ensures.count in
    let p = ap (weigh_parts d) c.put_last.ensures.items in
    omega (arith, c.look_into.ensures.weight, e, p, ap cost len)
