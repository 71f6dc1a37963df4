use Rattle.std.proofs.Common.{arith, ap, sym, refl, ◌≡◌, ◌∙◌, true, length, subst, List, Some, ℕ}
use Rattle.std.specs.Prelude.{slice_get}
use Rattle.std.proofs.lemmas.Option.{slice_get_within}
use Rattle.executor_core.specs.declared.request.Request.{Request}
use Rattle.executor_core.specs.declared.request.State.TheVariants.{Executing}
use Rattle.executor_core.specs.Acts.{Desk, queued_state}
use Rattle.executor_core.specs.Asks.{Linked}
use Rattle.executor_core.specs.Chains.{marks}
use Rattle.executor_core.proofs.Links.{here, length_state, leave_linked}
use Rattle.executor_core.proofs.board.Board.start.Goals as goal

pub remove-requires : goal.remove-requires
remove-requires c = let b = c.self.inside in let i = c.self.invariant in let rs : List Request = b.requests.items in let r : ℕ = c.args.request in let h = c.requires in let at : slice_get rs r ≡ Some h.0 = ap (λ (d : Desk). slice_get d.requests r) c.self.view_is ∙ h.1 in (marks queued_state rs, b.limit, i.2.waits, here rs r h.0 Executing at queued_state true h.2)

pub set_state_at-requires : goal.set_state_at-requires
set_state_at-requires c = let b = c.self.inside in let i = c.self.invariant in let rs : List Request = b.requests.items in let r : ℕ = c.args.request in let h = c.requires in let at : slice_get rs r ≡ Some h.0 = ap (λ (d : Desk). slice_get d.requests r) c.self.view_is ∙ h.1 in slice_get_within rs r h.0 at

pub invariant_of-self : goal.invariant_of-self
invariant_of-self c = let b = c.self.inside in let i = c.self.invariant in let rs : List Request = b.requests.items in let r : ℕ = c.args.request in let h = c.requires in let at : slice_get rs r ≡ Some h.0 = ap (λ (d : Desk). slice_get d.requests r) c.self.view_is ∙ h.1 in let e = c.set_state_at.ensures in let long = ap length e.items ∙ length_state rs r h.0 Executing at in let fits = i.0 in let room = i.1 in let same = e.room in (
  omega arith,
  omega arith,
  subst (λ (x : List Request). Linked b.limit x c.remove.new.self b.asked) (sym e.items) (leave_linked rs r h.0 Executing at b.limit b.waiting b.asked i.2 c.remove.new.self c.remove.ensures.chain c.remove.ensures.bound h.2 refl refl),
)
