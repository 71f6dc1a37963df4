use Rattle.std.proofs.Common.{◌∙◌, ◌<◌, length, arith, sym, ap}
use Rattle.linked_lists.specs.Lists.{without, list_of, next_of, previous_of}
use Rattle.linked_lists.proofs.Reading.{size_is, members_are, next_read, previous_read, next_below, previous_below}
use Rattle.linked_lists.proofs.Rings.{seen}
use Rattle.linked_lists.proofs.Changed.{IsJoined, without_rings, alone_list, without_list}
use Rattle.linked_lists.proofs.LinkedLists.remove.Goals as goal

pub index-link-requires : goal.index-link-requires
index-link-requires c = omega (arith, c.self.inside.links.ok.0, size_is c.self.inside c.args.self.now c.self.view_is)

number_in : (c : goal.After-join-arg-1) → c.args.number < length c.self.inside.links.items
number_in c = omega (arith, size_is c.self.inside c.args.self.now c.self.view_is)

pub join-requires-clause-left : goal.join-requires-clause-left
join-requires-clause-left c =
    let links = c.self.inside.links.items in
    omega (arith, previous_read links c.args.number c.index-link.result.now (number_in c) c.index-link.ensures, previous_below (next_of links) (previous_of links) (length links) c.args.number (list_of links c.args.number) (c.self.invariant.rings c.args.number) (number_in c))

pub join-requires-clause-right : goal.join-requires-clause-right
join-requires-clause-right c =
    let links = c.self.inside.links.items in
    omega (arith, next_read links c.args.number c.index-link.result.now (number_in c) c.index-link.ensures, next_below (next_of links) (previous_of links) (length links) c.args.number (list_of links c.args.number) (c.self.invariant.rings c.args.number) (number_in c))

pub join-requires-2-clause-left : goal.join-requires-2-clause-left
join-requires-2-clause-left c = omega (arith, size_is c.self.inside c.args.self.now c.self.view_is)

pub join-requires-2-clause-right : goal.join-requires-2-clause-right
join-requires-2-clause-right c = omega (arith, size_is c.self.inside c.args.self.now c.self.view_is)

first : (c : goal.After-join-2) → IsJoined c.self.inside.links.items c.join.new.links.items (previous_of c.self.inside.links.items c.args.number) (next_of c.self.inside.links.items c.args.number)
first c =
    let links = c.self.inside.links.items in
    let within : c.args.number < length links = omega (arith, size_is c.self.inside c.args.self.now c.self.view_is) in
    rw (previous_read links c.args.number c.index-link.result.now within c.index-link.ensures, next_read links c.args.number c.index-link.result.now within c.index-link.ensures)
    (record { next = c.join.ensures.next; previous = c.join.ensures.previous; size = c.join.ensures.size })

second : (c : goal.After-join-2) → IsJoined c.join.new.links.items c.join-2.new.links.items c.args.number c.args.number
second c = record { next = c.join-2.ensures.next; previous = c.join-2.ensures.previous; size = c.join-2.ensures.size }

pub invariant_of-self : goal.invariant_of-self
invariant_of-self c = record {
  rings = without_rings c.self.inside.links.items c.join.new.links.items c.join-2.new.links.items c.args.number (first c) (second c) c.self.invariant.rings;
  size = omega (arith, c.self.invariant.size);
}

pub returns-clause-alone : goal.returns-clause-alone
returns-clause-alone c =
    seen c.join-2.new.links.items c.args.number ∙ alone_list c.self.inside.links.items c.join.new.links.items c.join-2.new.links.items c.args.number (first c) (second c) c.self.invariant.rings

pub returns-clause-others : goal.returns-clause-others
returns-clause-others c = λ head d.
    seen c.join-2.new.links.items head
    ∙ without_list c.self.inside.links.items c.join.new.links.items c.join-2.new.links.items c.args.number (first c) (second c) c.self.invariant.rings head d
    ∙ ap (without c.args.number) (sym (members_are c.self.inside c.args.self.now head c.self.view_is))
