use Rattle.std.proofs.Common.{◌≡◌, ◌∙◌, ◌<◌, [], ◌∷◌, length, arith, sym, ap, true, false, subst}
use Rattle.linked_lists.specs.Lists.{members, is_in, with_before, with_behind, list_of, next_of, previous_of, IsPath}
use Rattle.linked_lists.proofs.Paths.{goes_back}
use Rattle.linked_lists.proofs.Reading.{size_is, members_are, next_read, next_below, next_in, next_out, behind_is}
use Rattle.linked_lists.proofs.LinkedLists.insert_after.Goals as goal

pub index-requires : goal.index-requires
index-requires c = omega (arith, c.self.inside.links.ok.0, size_is c.self.inside c.args.self.now c.self.view_is)

next_is : (c : goal.After-insert_before-arg-1) → next_of c.self.inside.links.items c.args.place ≡ c.index.result.now.next
next_is c =
    let within : c.args.place < length c.self.inside.links.items = omega (arith, size_is c.self.inside c.args.self.now c.self.view_is) in
    next_read c.self.inside.links.items c.args.place c.index.result.now within c.index.ensures

returns_back : (c : goal.After-insert_before-arg-1) → previous_of c.self.inside.links.items (next_of c.self.inside.links.items c.args.place) ≡ c.args.place
returns_back c =
    let links = c.self.inside.links.items in
    goes_back (next_of links) (previous_of links) c.args.place c.args.place (list_of links c.args.place) (c.self.invariant.rings c.args.place).path

pub insert_before-requires-clause-place : goal.insert_before-requires-clause-place
insert_before-requires-clause-place c =
    let links = c.self.inside.links.items in
    let size = size_is c.self.inside c.args.self.now c.self.view_is in
    let within : c.args.place < length links = omega arith in
    omega (arith, next_is c, next_below (next_of links) (previous_of links) (length links) c.args.place (list_of links c.args.place) (c.self.invariant.rings c.args.place) within)

path_alone : (c : goal.After-insert_before-arg-1) → IsPath (next_of c.self.inside.links.items) (previous_of c.self.inside.links.items) c.args.number [] c.args.number
path_alone c =
    let links = c.self.inside.links.items in
    subst (λ xs. IsPath (next_of links) (previous_of links) c.args.number xs c.args.number) (sym (members_are c.self.inside c.args.self.now c.args.number c.self.view_is) ∙ c.requires.alone) (c.self.invariant.rings c.args.number).path

pub insert_before-requires-clause-other : goal.insert_before-requires-clause-other
insert_before-requires-clause-other c = λ e.
    c.requires.other (sym (returns_back c) ∙ ap (previous_of c.self.inside.links.items) (next_is c ∙ e) ∙ (path_alone c).1)

next_after : (c : goal.After-insert_before) → next_of c.self.inside.links.items c.args.place ≡ c.index.result.now.next
next_after c =
    let within : c.args.place < length c.self.inside.links.items = omega (arith, size_is c.self.inside c.args.self.now c.self.view_is) in
    next_read c.self.inside.links.items c.args.place c.index.result.now within c.index.ensures

back_after : (c : goal.After-insert_before) → previous_of c.self.inside.links.items (next_of c.self.inside.links.items c.args.place) ≡ c.args.place
back_after c =
    let links = c.self.inside.links.items in
    goes_back (next_of links) (previous_of links) c.args.place c.args.place (list_of links c.args.place) (c.self.invariant.rings c.args.place).path

pub returns-clause-list : goal.returns-clause-list
returns-clause-list c = λ head i.
    let links = c.self.inside.links.items in
    let are = members_are c.self.inside c.args.self.now head c.self.view_is in
    let here : is_in c.args.place (head ∷ list_of links head) ≡ true = ap (λ xs. is_in c.args.place (head ∷ xs)) (sym are) ∙ i in
    let ring = c.self.invariant.rings head in
    let behind : is_in c.index.result.now.next (head ∷ members c.args.self.now head) ≡ true =
    ap (λ xs. is_in c.index.result.now.next (head ∷ xs)) are
    ∙ subst (λ y. is_in y (head ∷ list_of links head) ≡ true) (next_after c) (next_in (next_of links) (previous_of links) (length links) head c.args.place (list_of links head) ring here) in
    c.insert_before.ensures.list head behind
    ∙ ap (λ xs. with_before c.index.result.now.next c.args.number xs) are
    ∙ ap (λ y. with_before y c.args.number (list_of links head)) (sym (next_after c))
    ∙ behind_is (next_of links) (previous_of links) (length links) c.args.number head c.args.place (list_of links head) ring (back_after c) here
    ∙ ap (λ xs. with_behind head c.args.place c.args.number xs) (sym are)

pub returns-clause-others : goal.returns-clause-others
returns-clause-others c = λ head d o.
    let links = c.self.inside.links.items in
    let are = members_are c.self.inside c.args.self.now head c.self.view_is in
    let there : is_in c.args.place (head ∷ list_of links head) ≡ false = ap (λ xs. is_in c.args.place (head ∷ xs)) (sym are) ∙ o in
    c.insert_before.ensures.others head d
    (ap (λ xs. is_in c.index.result.now.next (head ∷ xs)) are
    ∙ subst (λ y. is_in y (head ∷ list_of links head) ≡ false) (next_after c)
    (next_out (next_of links) (previous_of links) (length links) head c.args.place (list_of links head) (c.self.invariant.rings head) (back_after c) there))
