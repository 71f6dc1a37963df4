use Rattle.std.proofs.Common.{◌≡◌, ◌∙◌, ◌<◌, ℕ, suc, Option, true, IfSome, sym, subst}
use Rattle.linked_lists.specs.Lists.{members, is_in}
use Rattle.promise_graph.specs.Memberships.{list_at, is_list}
use Rattle.promise_graph.proofs.Searching.{find_here, find_past, step_place, step_found, places_left, places_fall}
use Rattle.promise_graph.proofs.memberships.first_from.Goals as goal

pub returns-then-is_in_list : goal.returns-then-is_in_list
returns-then-is_in_list c k h =
    let xs = members c.args.x.now.links c.args.place in
    let f = c.searching.invariant.found k h in
    sym (find_here (λ s. is_list c.args.list.0 (list_at c.args.x.now s)) xs f.0 c.in-Some.slot (sym f.1 ∙ c.in-Some.is) (sym c.is_in_list.ensures ∙ c.if-is_in_list.true)) ∙ f.2

pub searching-smaller : goal.searching-smaller
searching-smaller c =
    let xs = members c.args.x.now.links c.args.place in
    let inside = subst (λ (o : Option ℕ). IfSome o (λ s. is_in s xs ≡ true)) c.in-Some.is c.searching.invariant.inside in
    subst (λ (o : Option ℕ). places_left xs c.after-at.result < places_left xs o) (sym c.in-Some.is) (places_fall xs c.in-Some.slot c.after-at.result inside c.after-at.ensures.apart c.after-at.ensures.after)

pub searching-preserved : goal.searching-preserved
searching-preserved c =
    let xs = members c.args.x.now.links c.args.place in
    record {
      inside = c.after-at.ensures.member;
      found = λ k h.
          let f = c.searching.invariant.found k h in
          let at = sym f.1 ∙ c.in-Some.is in (
            suc f.0,
            step_place xs f.0 c.in-Some.slot c.after-at.result c.after-at.ensures.apart at c.after-at.ensures.after,
            step_found (λ s. is_list c.args.list.0 (list_at c.args.x.now s)) xs f.0 c.in-Some.slot at (sym c.is_in_list.ensures ∙ c.if-is_in_list.false) ∙ f.2,
          );
    }

pub returns : goal.returns
returns c k h =
    let xs = members c.args.x.now.links c.args.place in
    let f = c.searching.invariant.found k h in
    sym (find_past (λ s. is_list c.args.list.0 (list_at c.args.x.now s)) xs f.0 (sym f.1 ∙ c.in_default.is)) ∙ f.2
