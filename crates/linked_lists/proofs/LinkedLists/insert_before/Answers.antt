use Rattle.std.proofs.Common.{◌≡◌, ◌∙◌, ◌<◌, [], ◌∷◌, length, arith, sym, ap}
use Rattle.linked_lists.specs.Lists.{is_in, with_before, list_of, next_of, previous_of}
use Rattle.linked_lists.proofs.Reading.{size_is, members_are, previous_read, previous_below}
use Rattle.linked_lists.proofs.Rings.{seen}
use Rattle.linked_lists.proofs.Changed.{IsJoined, with_rings, with_list, other_list}
use Rattle.linked_lists.proofs.LinkedLists.insert_before.Goals as goal

pub index-requires : goal.index-requires
index-requires c = omega (arith, c.self.inside.links.ok.0, size_is c.self.inside c.args.self.now c.self.view_is)

place_in : (c : goal.After-join-arg-1) → c.args.place < length c.self.inside.links.items
place_in c = omega (arith, size_is c.self.inside c.args.self.now c.self.view_is)

pub join-requires-clause-left : goal.join-requires-clause-left
join-requires-clause-left c =
    let links = c.self.inside.links.items in
    omega (arith, previous_read links c.args.place c.index.result.now (place_in c) c.index.ensures, previous_below (next_of links) (previous_of links) (length links) c.args.place (list_of links c.args.place) (c.self.invariant.rings c.args.place) (place_in c))

pub join-requires-clause-right : goal.join-requires-clause-right
join-requires-clause-right c = omega (arith, size_is c.self.inside c.args.self.now c.self.view_is)

pub join-requires-2-clause-left : goal.join-requires-2-clause-left
join-requires-2-clause-left c = omega (arith, size_is c.self.inside c.args.self.now c.self.view_is)

pub join-requires-2-clause-right : goal.join-requires-2-clause-right
join-requires-2-clause-right c = omega (arith, size_is c.self.inside c.args.self.now c.self.view_is)

empty : (c : goal.After-join-2) → list_of c.self.inside.links.items c.args.number ≡ []
empty c = sym (members_are c.self.inside c.args.self.now c.args.number c.self.view_is) ∙ c.requires.alone

first : (c : goal.After-join-2) → IsJoined c.self.inside.links.items c.join.new.links.items (previous_of c.self.inside.links.items c.args.place) c.args.number
first c =
    let is = previous_read c.self.inside.links.items c.args.place c.index.result.now (omega (arith, size_is c.self.inside c.args.self.now c.self.view_is)) c.index.ensures in
    rw is (record { next = c.join.ensures.next; previous = c.join.ensures.previous; size = c.join.ensures.size })

second : (c : goal.After-join-2) → IsJoined c.join.new.links.items c.join-2.new.links.items c.args.number c.args.place
second c = record { next = c.join-2.ensures.next; previous = c.join-2.ensures.previous; size = c.join-2.ensures.size }

pub invariant_of-self : goal.invariant_of-self
invariant_of-self c = record {
  rings =
      with_rings c.self.inside.links.items c.join.new.links.items c.join-2.new.links.items c.args.place c.args.number (first c) (second c) c.self.invariant.rings (empty c) c.requires.other
      (omega (arith, size_is c.self.inside c.args.self.now c.self.view_is)) (omega (arith, size_is c.self.inside c.args.self.now c.self.view_is));
  size = omega (arith, c.self.invariant.size);
}

pub returns-clause-list : goal.returns-clause-list
returns-clause-list c = λ head i.
    let are = members_are c.self.inside c.args.self.now head c.self.view_is in
    seen c.join-2.new.links.items head
    ∙ with_list c.self.inside.links.items c.join.new.links.items c.join-2.new.links.items c.args.place c.args.number (first c) (second c) c.self.invariant.rings (empty c) c.requires.other
    (omega (arith, size_is c.self.inside c.args.self.now c.self.view_is)) (omega (arith, size_is c.self.inside c.args.self.now c.self.view_is))
    head (ap (λ xs. is_in c.args.place (head ∷ xs)) (sym are) ∙ i)
    ∙ ap (with_before c.args.place c.args.number) (sym are)

pub returns-clause-others : goal.returns-clause-others
returns-clause-others c = λ head d o.
    let are = members_are c.self.inside c.args.self.now head c.self.view_is in
    seen c.join-2.new.links.items head
    ∙ other_list c.self.inside.links.items c.join.new.links.items c.join-2.new.links.items c.args.place c.args.number (first c) (second c) c.self.invariant.rings (empty c) c.requires.other
    (omega (arith, size_is c.self.inside c.args.self.now c.self.view_is)) (omega (arith, size_is c.self.inside c.args.self.now c.self.view_is))
    head d (ap (λ xs. is_in c.args.place (head ∷ xs)) (sym are) ∙ o)
    ∙ sym are
