use Rattle.std.proofs.Common.{arith, ap, sym, ◌≡◌, ◌≤◌, ◌∙◌, Bool, le_refl, length, subst, List, Some}
use Rattle.std.specs.Prelude.{slice_get}
use Rattle.std.proofs.lemmas.Option.{slice_get_within}
use Rattle.executor_core.specs.declared.request.Request.{Request}
use Rattle.executor_core.specs.Acts.{Desk}
use Rattle.executor_core.specs.Asks.{Linked, askable_state}
use Rattle.executor_core.proofs.Links.{mark, set_linked, length_state}
use Rattle.executor_core.proofs.board.Board.set.Goals as goal

pub set_state_at-requires : goal.set_state_at-requires
set_state_at-requires c = slice_get_within c.self.inside.requests.items c.args.request c.requires.0 (ap (λ (d : Desk). slice_get d.requests c.args.request) c.self.view_is ∙ c.requires.1)

pub invariant_of-self : goal.invariant_of-self
invariant_of-self c = let b = c.self.inside in let i = c.self.invariant in let rs : List Request = b.requests.items in let h = c.requires in let e = c.set_state_at.ensures in
    let at : slice_get rs c.args.request ≡ Some h.0 = ap (λ (d : Desk). slice_get d.requests c.args.request) c.self.view_is ∙ h.1 in
    let long = ap length e.items ∙ length_state rs c.args.request h.0 c.args.state at in let fits = i.0 in let room = i.1 in let same = e.room in (
      omega arith,
      omega arith,
      subst (λ (x : List Request). Linked b.limit x b.waiting b.asked) (sym e.items) (set_linked rs c.args.request h.0 c.args.state at b.limit b.waiting b.asked i.2 h.2 h.4 (subst (λ (x : Bool). mark x ≤ mark (askable_state h.0.state)) (sym h.3) (le_refl (mark (askable_state h.0.state))))),
    )
