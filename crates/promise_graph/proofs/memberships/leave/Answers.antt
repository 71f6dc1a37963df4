use Rattle.std.proofs.Common.{ℕ, subst, length, sym}
use Rattle.std.specs.Vec.{with_item}
use Rattle.std.proofs.lemmas.List.{get_or-set_same, get_or-set_other, length-set}
use Rattle.std.specs.Prelude.{None, ◌<◌}
use Rattle.promise_graph.proofs.Buckets.{left_kept, has_left}
use Rattle.promise_graph.proofs.memberships.leave.Goals as goal

pub returns-clause-kept : goal.returns-clause-kept
returns-clause-kept c =
    let x = c.args.x.now in
    let s = c.args.slot.0 in
    let within : s < length x.lists.items = subst (λ (n : ℕ). s < n) (sym c.requires.kept.all_lists) c.requires.within in
    left_kept x (record { links = c.remove.new.self; lists = with_item x.lists s None }) c.args.slots s c.requires.kept c.requires.within c.remove.ensures.alone c.remove.ensures.others c.remove.ensures.size
    (length-set x.lists.items s None)
    (get_or-set_same x.lists.items s None None within)
    (λ t d. get_or-set_other x.lists.items s t None None d)

pub returns-clause-left : goal.returns-clause-left
returns-clause-left c =
    let x = c.args.x.now in
    let s = c.args.slot.0 in
    let within : s < length x.lists.items = subst (λ (n : ℕ). s < n) (sym c.requires.kept.all_lists) c.requires.within in
    has_left x (record { links = c.remove.new.self; lists = with_item x.lists s None }) c.args.slots s c.requires.kept c.requires.within c.remove.ensures.alone c.remove.ensures.others c.remove.ensures.size
    (length-set x.lists.items s None)
    (get_or-set_same x.lists.items s None None within)
    (λ t d. get_or-set_other x.lists.items s t None None d)
