use Rattle.std.proofs.Common.{arith, refl}
use Rattle.std.proofs.lemmas.Option.{slice_get_read}
use Rattle.std.proofs.Common.{ap, length}
use Rattle.event_list.specs.EventList.{Sized}
use Rattle.event_list.proofs.Kept.{kept_removed}
use Rattle.event_list.proofs.EventList.take_out.Goals as goal

pub invariant_of-self : goal.invariant_of-self
invariant_of-self c =
    let s = ap (λ (v : Sized). length v.events.list) c.self.view_is in
    kept_removed c.self.inside _ c.args.place _ _ c.self.invariant c.remove-event.ensures.items c.remove-event.ensures.capacity (omega arith) c.lowered-self-inside.ensures c.lowered-self-inside-2.ensures

pub returns-clause-event : goal.returns-clause-event
returns-clause-event c =
    let s = ap (λ (v : Sized). length v.events.list) c.self.view_is in
    rw (← c.self.view_is) (slice_get_read c.self.inside.events.items (length c.self.inside.events.items) c.args.place c.remove-event.result refl (omega arith) c.remove-event.ensures.value)
