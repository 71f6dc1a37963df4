use Rattle.std.proofs.Common.{arith, ap, sym, ◌<◌, ◌∙◌, length, subst, List}
use Rattle.std.specs.Prelude.{slice_get}
use Rattle.std.proofs.lemmas.Option.{slice_get_within}
use Rattle.executor_core.specs.declared.request.Request.{Request}
use Rattle.executor_core.specs.Acts.{Desk, is_queued, queued_state, least}
use Rattle.executor_core.specs.Chains.{marks}
use Rattle.executor_core.proofs.Links.{of_mark, no_mark}
use Rattle.executor_core.proofs.Searches.{least_some, least_none}
use Rattle.executor_core.proofs.board.Board.first_queued.Goals as goal

pub overflow_cast-result : goal.overflow_cast-result
overflow_cast-result c = let b = c.self.inside in let s = c.in-Some.ensures.some (marks queued_state b.requests.items) b.limit c.self.invariant.2.waits in let low = s.1 in omega arith

pub returns-in-Some-clause-value : goal.returns-in-Some-clause-value
returns-in-Some-clause-value c = let b = c.self.inside in let rs : List Request = b.requests.items in let s = c.in-Some.ensures.some (marks queued_state rs) b.limit c.self.invariant.2.waits in let q = of_mark queued_state rs c.in-Some.at s.0 in
    sym (least_some is_queued rs c.in-Some.at q.0 q.1 q.2 (λ k x low at. no_mark queued_state rs k x (s.2 k low) at)) ∙ ap (λ (d : Desk). least is_queued d.requests) c.self.view_is

pub returns-in-Some-clause-waits : goal.returns-in-Some-clause-waits
returns-in-Some-clause-waits c = let b = c.self.inside in let rs : List Request = b.requests.items in let s = c.in-Some.ensures.some (marks queued_state rs) b.limit c.self.invariant.2.waits in let q = of_mark queued_state rs c.in-Some.at s.0 in
    (q.0, ap (λ (d : Desk). slice_get d.requests c.in-Some.at) (sym c.self.view_is) ∙ q.1, q.2)

pub returns-in-Some-clause-within : goal.returns-in-Some-clause-within
returns-in-Some-clause-within c = let b = c.self.inside in let rs : List Request = b.requests.items in let s = c.in-Some.ensures.some (marks queued_state rs) b.limit c.self.invariant.2.waits in let q = of_mark queued_state rs c.in-Some.at s.0 in
    subst (λ (d : Desk). c.in-Some.at < length d.requests) c.self.view_is (slice_get_within rs c.in-Some.at q.0 q.1)

pub returns-in-None-clause-value : goal.returns-in-None-clause-value
returns-in-None-clause-value c = let b = c.self.inside in let rs : List Request = b.requests.items in let none = c.in-None.ensures.none (marks queued_state rs) b.limit c.self.invariant.2.waits in
    sym (least_none is_queued rs (λ k x low at. no_mark queued_state rs k x (none k) at)) ∙ ap (λ (d : Desk). least is_queued d.requests) c.self.view_is
