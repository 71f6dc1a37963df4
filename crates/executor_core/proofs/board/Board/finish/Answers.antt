use Rattle.std.proofs.Common.{arith, ap, sym, refl, ◌≡◌, ◌≤◌, ◌∙◌, length, subst, List, Some, ℕ}
use Rattle.std.specs.Prelude.{slice_get}
use Rattle.std.proofs.lemmas.Option.{slice_get_within}
use Rattle.executor_core.specs.declared.request.Request.{Request}
use Rattle.executor_core.specs.declared.request.State.TheVariants.{Done as DoneState}
use Rattle.executor_core.specs.Acts.{Desk}
use Rattle.executor_core.specs.Asks.{Linked, askable_weight}
use Rattle.executor_core.proofs.Links.{length_state, set_linked, runs_not_waits}
use Rattle.executor_core.proofs.board.Board.finish.Goals as goal

pub set_state_at-requires : goal.set_state_at-requires
set_state_at-requires c = let b = c.self.inside in let i = c.self.invariant in let rs : List Request = b.requests.items in let r : ℕ = c.args.request in let h = c.requires in let at : slice_get rs r ≡ Some h.0 = ap (λ (d : Desk). slice_get d.requests r) c.self.view_is ∙ h.1 in slice_get_within rs r h.0 at

pub invariant_of-self : goal.invariant_of-self
invariant_of-self c = let b = c.self.inside in let i = c.self.invariant in let rs : List Request = b.requests.items in let r : ℕ = c.args.request in let h = c.requires in let at : slice_get rs r ≡ Some h.0 = ap (λ (d : Desk). slice_get d.requests r) c.self.view_is ∙ h.1 in let e = c.set_state_at.ensures in let long = ap length e.items ∙ length_state rs r h.0 (DoneState c.args.outcome) at in let fits = i.0 in let room = i.1 in let same = e.room in (
  omega arith,
  omega arith,
  subst (λ (x : List Request). Linked b.limit x b.waiting b.asked) (sym e.items) (set_linked rs r h.0 (DoneState c.args.outcome) at b.limit b.waiting b.asked i.2 (sym (runs_not_waits h.0.state h.2)) refl (let n : ℕ = askable_weight h.0.state in let z : 0 ≤ n = omega arith in z)),
)
