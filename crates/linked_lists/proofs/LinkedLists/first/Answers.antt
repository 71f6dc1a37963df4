use Rattle.std.proofs.Common.{true, subst, ◌≡◌, ◌∙◌, ◌<◌, length, arith, sym, ap, Some}
use Rattle.linked_lists.specs.Lists.{is_in, list_of, next_of, previous_of}
use Rattle.linked_lists.proofs.Reading.{size_is, members_are, next_read, first_none, first_some, first_among, next_below}
use Rattle.linked_lists.proofs.LinkedLists.first.Goals as goal

pub index-requires : goal.index-requires
index-requires c = omega (arith, c.self.inside.links.ok.0, size_is c.self.inside c.args.self.now c.self.view_is)

pub returns-then-next-head-clause-first : goal.returns-then-next-head-clause-first
returns-then-next-head-clause-first c =
    let links = c.self.inside.links.items in
    let within : c.args.head < length links = omega (arith, size_is c.self.inside c.args.self.now c.self.view_is) in
    rw (members_are c.self.inside c.args.self.now c.args.head c.self.view_is)
    (sym (first_none (next_of links) (previous_of links) (length links) c.args.head (list_of links c.args.head) (c.self.invariant.rings c.args.head)
    (next_read links c.args.head c.index.result.now within c.index.ensures ∙ c.if-next-head.true)))

pub returns-else-next-head-clause-first : goal.returns-else-next-head-clause-first
returns-else-next-head-clause-first c =
    let links = c.self.inside.links.items in
    let within : c.args.head < length links = omega (arith, size_is c.self.inside c.args.self.now c.self.view_is) in
    let is = next_read links c.args.head c.index.result.now within c.index.ensures in
    rw (members_are c.self.inside c.args.self.now c.args.head c.self.view_is)
    (ap Some (sym is) ∙ sym (first_some (next_of links) (previous_of links) (length links) c.args.head (list_of links c.args.head) (c.self.invariant.rings c.args.head)
    (λ e. c.if-next-head.false (sym is ∙ e))))

pub returns-else-next-head-clause-member : goal.returns-else-next-head-clause-member
returns-else-next-head-clause-member c =
    let links = c.self.inside.links.items in
    let within : c.args.head < length links = omega (arith, size_is c.self.inside c.args.self.now c.self.view_is) in
    let is = next_read links c.args.head c.index.result.now within c.index.ensures in
    rw (members_are c.self.inside c.args.self.now c.args.head c.self.view_is)
    (subst (λ y. is_in y (list_of links c.args.head) ≡ true) is
    (first_among (next_of links) (previous_of links) (length links) c.args.head (list_of links c.args.head) (c.self.invariant.rings c.args.head) (λ e. c.if-next-head.false (sym is ∙ e))))

pub returns-else-next-head-clause-below : goal.returns-else-next-head-clause-below
returns-else-next-head-clause-below c =
    let links = c.self.inside.links.items in
    let size = size_is c.self.inside c.args.self.now c.self.view_is in
    let within : c.args.head < length links = omega arith in
    omega (arith, next_read links c.args.head c.index.result.now within c.index.ensures, next_below (next_of links) (previous_of links) (length links) c.args.head (list_of links c.args.head) (c.self.invariant.rings c.args.head) within)
