use Rattle.std.proofs.Common.{◌∙◌, ap, ℕ}
use Rattle.std.specs.Prelude.{filter}
use Rattle.kj_base.specs.Queue.{first_of}
use Rattle.linked_lists.specs.Lists.{members}
use Rattle.promise_graph.specs.Memberships.{list_at, is_list}
use Rattle.promise_graph.proofs.Searching.{find_first}
use Rattle.promise_graph.proofs.memberships.newest.Goals as goal

pub returns : goal.returns
returns c =
    let x = c.args.x.now in
    let p = λ (s : ℕ). is_list c.args.list.0 (list_at x s) in
    c.first_from.ensures 0 c.first.ensures.first
    ∙ find_first p (members x.links c.bucket-place.result)
    ∙ ap (λ (b : ℕ). first_of (filter p (members x.links b))) c.bucket-place.ensures
