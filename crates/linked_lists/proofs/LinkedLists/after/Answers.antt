use Rattle.std.specs.Prelude.{nat_eq}
use Rattle.std.proofs.lemmas.Map.Keys.{IsDistinct-tail}
use Rattle.std.proofs.Common.{true, subst, ◌≡◌, ◌∙◌, length, arith, sym, ap, Some}
use Rattle.linked_lists.specs.Lists.{is_in, list_of, next_of, previous_of}
use Rattle.linked_lists.proofs.Reading.{size_is, members_are, next_below, below_in, next_read, after_none, after_some, after_among}
use Rattle.linked_lists.proofs.LinkedLists.after.Goals as goal

pub index-requires : goal.index-requires
index-requires c =
    let links = c.self.inside.links.items in
    let m = rw (members_are c.self.inside c.args.self.now c.args.head c.self.view_is) at c.requires in
    omega (arith, c.self.inside.links.ok.0, below_in (next_of links) (previous_of links) (length links) c.args.member (list_of links c.args.head) (c.self.invariant.rings c.args.head).below m)

pub returns-then-next-head-clause-after : goal.returns-then-next-head-clause-after
returns-then-next-head-clause-after c =
    let links = c.self.inside.links.items in
    let are = members_are c.self.inside c.args.self.now c.args.head c.self.view_is in
    let m = rw are at c.requires in
    let within = below_in (next_of links) (previous_of links) (length links) c.args.member (list_of links c.args.head) (c.self.invariant.rings c.args.head).below m in
    rw are (sym (after_none (next_of links) (previous_of links) (length links) c.args.head c.args.member (list_of links c.args.head) (c.self.invariant.rings c.args.head) m
    (next_read links c.args.member c.index.result.now within c.index.ensures ∙ c.if-next-head.true)))

pub returns-else-next-head-clause-after : goal.returns-else-next-head-clause-after
returns-else-next-head-clause-after c =
    let links = c.self.inside.links.items in
    let are = members_are c.self.inside c.args.self.now c.args.head c.self.view_is in
    let m = rw are at c.requires in
    let within = below_in (next_of links) (previous_of links) (length links) c.args.member (list_of links c.args.head) (c.self.invariant.rings c.args.head).below m in
    let is = next_read links c.args.member c.index.result.now within c.index.ensures in
    rw are (ap Some (sym is) ∙ sym (after_some (next_of links) (previous_of links) (length links) c.args.head c.args.member (list_of links c.args.head) (c.self.invariant.rings c.args.head) m
    (λ e. c.if-next-head.false (sym is ∙ e))))

pub returns-else-next-head-clause-member : goal.returns-else-next-head-clause-member
returns-else-next-head-clause-member c =
    let links = c.self.inside.links.items in
    let are = members_are c.self.inside c.args.self.now c.args.head c.self.view_is in
    let m = rw are at c.requires in
    let within = below_in (next_of links) (previous_of links) (length links) c.args.member (list_of links c.args.head) (c.self.invariant.rings c.args.head).below m in
    let is = next_read links c.args.member c.index.result.now within c.index.ensures in
    rw are (subst (λ y. is_in y (list_of links c.args.head) ≡ true) is
    (after_among (next_of links) (previous_of links) (length links) c.args.head c.args.member (list_of links c.args.head) (c.self.invariant.rings c.args.head) m (λ e. c.if-next-head.false (sym is ∙ e))))

pub returns-else-next-head-clause-below : goal.returns-else-next-head-clause-below
returns-else-next-head-clause-below c =
    let links = c.self.inside.links.items in
    let m = rw (members_are c.self.inside c.args.self.now c.args.head c.self.view_is) at c.requires in
    let within = below_in (next_of links) (previous_of links) (length links) c.args.member (list_of links c.args.head) (c.self.invariant.rings c.args.head).below m in
    omega (
      arith,
      next_read links c.args.member c.index.result.now within c.index.ensures,
      next_below (next_of links) (previous_of links) (length links) c.args.member (list_of links c.args.member) (c.self.invariant.rings c.args.member) within,
      size_is c.self.inside c.args.self.now c.self.view_is,
    )

pub returns-then-next-head-clause-apart : goal.returns-then-next-head-clause-apart
returns-then-next-head-clause-apart c =
    let links = c.self.inside.links.items in
    rw (members_are c.self.inside c.args.self.now c.args.head c.self.view_is) (IsDistinct-tail nat_eq c.args.head (list_of links c.args.head) (c.self.invariant.rings c.args.head).apart)

pub returns-else-next-head-clause-apart : goal.returns-else-next-head-clause-apart
returns-else-next-head-clause-apart c =
    let links = c.self.inside.links.items in
    rw (members_are c.self.inside c.args.self.now c.args.head c.self.view_is) (IsDistinct-tail nat_eq c.args.head (list_of links c.args.head) (c.self.invariant.rings c.args.head).apart)
