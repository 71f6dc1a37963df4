use Rattle.std.proofs.Common.{arith, ap, sym, refl, ◌≡◌, ◌∙◌, length, subst, List, Some, ℕ}
use Rattle.std.specs.Prelude.{slice_get}
use Rattle.std.proofs.lemmas.Option.{slice_get_within}
use Rattle.executor_core.specs.declared.request.Request.{Request}
use Rattle.executor_core.specs.declared.request.State.TheVariants.{Canceling}
use Rattle.executor_core.specs.Acts.{Desk}
use Rattle.executor_core.specs.Asks.{Linked}
use Rattle.executor_core.proofs.Links.{length_state, asks_room, ask_linked}
use Rattle.executor_core.proofs.board.Board.ask.Goals as goal

pub push-requires : goal.push-requires
push-requires c = let b = c.self.inside in let i = c.self.invariant in let rs : List Request = b.requests.items in let r : ℕ = c.args.request in let h = c.requires in let at : slice_get rs r ≡ Some h.0 = ap (λ (d : Desk). slice_get d.requests r) c.self.view_is ∙ h.1 in asks_room rs r h.0 Canceling at b.limit b.waiting b.asked i.2 h.3 i.0

pub set_state_at-requires : goal.set_state_at-requires
set_state_at-requires c = let b = c.self.inside in let i = c.self.invariant in let rs : List Request = b.requests.items in let r : ℕ = c.args.request in let h = c.requires in let at : slice_get rs r ≡ Some h.0 = ap (λ (d : Desk). slice_get d.requests r) c.self.view_is ∙ h.1 in slice_get_within rs r h.0 at

pub invariant_of-self : goal.invariant_of-self
invariant_of-self c = let b = c.self.inside in let i = c.self.invariant in let rs : List Request = b.requests.items in let r : ℕ = c.args.request in let h = c.requires in let at : slice_get rs r ≡ Some h.0 = ap (λ (d : Desk). slice_get d.requests r) c.self.view_is ∙ h.1 in let p = c.push.ensures in let e = c.set_state_at.ensures in let long = ap length e.items ∙ length_state rs r h.0 Canceling at in let fits = i.0 in let room = i.1 in let same = e.room in (
  omega arith,
  omega arith,
  subst (λ (x : List Request). Linked b.limit x b.waiting c.push.new.self) (sym e.items) (ask_linked rs r h.0 Canceling at b.limit b.waiting b.asked i.2 c.push.new.self p.numbers p.ordered p.len p.room (sym h.2) h.3 refl),
)
