use Rattle.std.proofs.Common.{arith, ap, sym, ◌∙◌, ◌<◌, length, Some}
use Rattle.std.proofs.lemmas.List.{get_or_default}
use Rattle.std.proofs.lemmas.Bool.Decides.{nat_tests}
use Rattle.promise_graph.specs.declared.index.Entry.{Entry}
use Rattle.promise_graph.proofs.Numbered.{all_lower, another, slot_here}
use Rattle.promise_graph.proofs.index.find_in.Goals as goal

pub returns-then-place-len : goal.returns-then-place-len
returns-then-place-len c = sym (all_lower c.args.n _ _ c.count_below-place.ensures.below (grind (arith, nat_tests, c.if-place-len.true, c.len.ensures)))

pub returns-then-index-n : goal.returns-then-index-n
returns-then-index-n c =
    let es = c.args.index.now.items in
    let place = c.count_below-place.result in
    let within : place < length es = grind (arith, nat_tests, c.if-place-len.false, c.len.ensures) in
    sym (another c.args.n es place c.requires c.count_below-place.ensures.below within
    (λ d same. c.if-index-n.true (ap (λ (e : Entry). e.number) (c.index.ensures ∙ get_or_default es place _ d within) ∙ same)))

pub returns : goal.returns
returns c =
    let es = c.args.index.now.items in
    let place = c.count_below-place.result in
    let within : place < length es = grind (arith, nat_tests, c.if-place-len.false, c.len.ensures) in
    let d : Entry = c.index-2.result.now in
    ap (λ (e : Entry). Some e.slot) (c.index-2.ensures ∙ get_or_default es place _ d within)
    ∙ sym (slot_here c.args.n es c.requires place d within (ap (λ (e : Entry). e.number) (sym (c.index.ensures ∙ get_or_default es place _ d within)) ∙ c.if-index-n.false))
