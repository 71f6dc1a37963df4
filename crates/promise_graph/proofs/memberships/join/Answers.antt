use Rattle.std.proofs.Common.{ℕ, Some, subst, length, sym}
use Rattle.std.specs.Vec.{with_item}
use Rattle.std.proofs.lemmas.List.{get_or-set_same, get_or-set_other, length-set}
use Rattle.std.specs.Prelude.{None, ◌<◌}
use Rattle.linked_lists.specs.Lists.{PutsBehind, KeepsOtherLists}
use Rattle.promise_graph.proofs.Buckets.{joined_kept, has_joined}
use Rattle.promise_graph.proofs.memberships.join.Goals as goal

pub returns-then-is_alone-clause-kept : goal.returns-then-is_alone-clause-kept
returns-then-is_alone-clause-kept c =
    let x = c.args.x.now in
    let s = c.args.slot.0 in
    let within : s < length x.lists.items = subst (λ (n : ℕ). s < n) (sym c.requires.kept.all_lists) c.requires.within in
    joined_kept x (record { links = c.insert_after.new.self; lists = with_item x.lists s (Some c.args.list) }) c.args.slots s c.args.list c.requires.kept c.requires.within (c.is_alone.ensures.unlisted c.if-is_alone.true)
    (subst (λ (b : ℕ). PutsBehind x.links c.insert_after.new.self b s) c.bucket-place.ensures c.insert_after.ensures.list)
    (subst (λ (b : ℕ). KeepsOtherLists x.links c.insert_after.new.self b s) c.bucket-place.ensures c.insert_after.ensures.others)
    c.insert_after.ensures.size
    (length-set x.lists.items s (Some c.args.list))
    (get_or-set_same x.lists.items s (Some c.args.list) None within)
    (λ t d. get_or-set_other x.lists.items s t (Some c.args.list) None d)

pub returns-then-is_alone-clause-joined : goal.returns-then-is_alone-clause-joined
returns-then-is_alone-clause-joined c =
    let x = c.args.x.now in
    let s = c.args.slot.0 in
    let within : s < length x.lists.items = subst (λ (n : ℕ). s < n) (sym c.requires.kept.all_lists) c.requires.within in
    has_joined x (record { links = c.insert_after.new.self; lists = with_item x.lists s (Some c.args.list) }) c.args.slots s c.args.list c.requires.kept c.requires.within (c.is_alone.ensures.unlisted c.if-is_alone.true)
    (subst (λ (b : ℕ). PutsBehind x.links c.insert_after.new.self b s) c.bucket-place.ensures c.insert_after.ensures.list)
    (subst (λ (b : ℕ). KeepsOtherLists x.links c.insert_after.new.self b s) c.bucket-place.ensures c.insert_after.ensures.others)
    c.insert_after.ensures.size
    (length-set x.lists.items s (Some c.args.list))
    (get_or-set_same x.lists.items s (Some c.args.list) None within)
    (λ t d. get_or-set_other x.lists.items s t (Some c.args.list) None d)
