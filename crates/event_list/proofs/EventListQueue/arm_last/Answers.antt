use Rattle.std.proofs.Common.{arith, ◌∙◌, sym}
use Rattle.std.proofs.Common.{◌≡◌, ap}
use Rattle.event_list.specs.EventList.{Sized}
use Rattle.event_list.proofs.Kept.{kept_inserted, kept_room}
use Rattle.event_list.proofs.EventListQueue.arm_last.Goals as goal

pub insert_at-requires-clause-room : goal.insert_at-requires-clause-room
insert_at-requires-clause-room c =
    let s : c.self.inside.size ≡ c.args.self.now.size = ap (λ (v : Sized). v.size) c.self.view_is in
    omega (arith, kept_room c.self.inside c.args.event c.self.invariant (omega arith) (sym c.contains.ensures ∙ c.if-not-contains.true))

pub invariant_of-self : goal.invariant_of-self
invariant_of-self c =
    let s : c.self.inside.size ≡ c.args.self.now.size = ap (λ (v : Sized). v.size) c.self.view_is in
    let k = c.self.invariant.queue in
    kept_inserted c.self.inside _ c.self.inside.breadth c.args.event _ _ c.self.invariant (omega arith) (sym c.contains.ensures ∙ c.if-not-contains.true) c.insert_at.ensures.items c.insert_at.ensures.capacity (omega arith) (omega arith) (omega arith)
