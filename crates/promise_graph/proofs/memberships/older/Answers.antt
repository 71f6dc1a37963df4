use Rattle.std.proofs.Common.{◌∙◌, ◌+◌, ap, ℕ}
use Rattle.std.specs.Prelude.{filter}
use Rattle.linked_lists.specs.Lists.{members, place_of}
use Rattle.promise_graph.specs.Memberships.{list_at, is_list}
use Rattle.promise_graph.proofs.Buckets.{not_listed}
use Rattle.promise_graph.proofs.Searching.{found_behind}
use Rattle.promise_graph.proofs.memberships.older.Goals as goal

pub returns : goal.returns
returns c front back h =
    let x = c.args.x.now in
    let p = λ (s : ℕ). is_list c.args.list.0 (list_at x s) in
    let xs = members x.links c.bucket-place.result in
    c.first_from.ensures (place_of c.args.slot.0 xs + 1) c.after.ensures.after
    ∙ found_behind p c.args.slot.0 back xs front c.after.ensures.apart (ap (is_list c.args.list.0) c.requires.member ∙ not_listed c.args.list) (ap (λ (b : ℕ). filter p (members x.links b)) c.bucket-place.ensures ∙ h)
