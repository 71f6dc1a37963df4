use Rattle.std.proofs.Common.{◌∙◌, length, arith}
use Rattle.std.proofs.lemmas.List.FromFn.{length-map-range_with_len}
use Rattle.linked_lists.specs.Lists.{list_of}
use Rattle.linked_lists.proofs.Rings.{seen}
use Rattle.linked_lists.proofs.Changed.{new_rings, new_lists}
use Rattle.linked_lists.proofs.LinkedLists.new.Goals as goal

pub invariant_of-result : goal.invariant_of-result
invariant_of-result c =
    let e = c.in_ok-all_alone.ensures in
    record { rings = new_rings c.in_ok-all_alone.field-0.items e.next e.previous; size = omega (arith, e.size, c.requires) }

pub returns-clause-alone : goal.returns-clause-alone
returns-clause-alone c = λ head.
    let e = c.in_ok-all_alone.ensures in
    seen c.in_ok-all_alone.field-0.items head ∙ new_lists c.in_ok-all_alone.field-0.items e.next e.previous head

pub returns-clause-size : goal.returns-clause-size
returns-clause-size c =
    let links = c.in_ok-all_alone.field-0.items in
    length-map-range_with_len (list_of links) 0 (length links) ∙ c.in_ok-all_alone.ensures.size
