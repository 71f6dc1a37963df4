use Rattle.std.proofs.Common.{◌≡◌, subst, refl}
use Rattle.executor_core.specs.Acts.{next_reply}
use Rattle.executor_core.proofs.Answered.{next_empty}
use Rattle.xthread.proofs.Effects.{answered, noted, room_kept, grown, arm_sound, same_sound, start_arm, start_payload, start_fresh, start_runs, stop_arm, stop_runs}
use Rattle.xthread.proofs.guarded.Guarded.next.Goals as goal

pub take_payload-payload-requires : goal.take_payload-payload-requires
take_payload-payload-requires g c = let k = start_payload c.self.invariant (answered next_reply c.in-Start.is c.next.ensures) in (k.0, k.1)

pub start-requires : goal.start-requires
start-requires g c = (start_arm c.self.invariant (answered next_reply c.in-Start.is c.next.ensures)).has_room

pub invariant_of-self : goal.invariant_of-self
invariant_of-self g c = let longer = noted c.start.ensures in
    (start_arm c.self.invariant (answered next_reply c.in-Start.is c.next.ensures)).whole _ _ _ _ longer (room_kept c.start.ensures) c.take_payload-payload.ensures.rest c.take_payload-payload.ensures.room

pub stop-requires : goal.stop-requires
stop-requires g c = (stop_arm c.self.invariant (answered next_reply c.in-Stop.is c.next.ensures)).has_room

pub invariant_of-self-in-Stop : goal.invariant_of-self-in-Stop
invariant_of-self-in-Stop g c = (stop_arm c.self.invariant (answered next_reply c.in-Stop.is c.next.ensures)).whole _ _ _ _ (noted c.stop.ensures) (room_kept c.stop.ensures) refl refl

pub returns-in-Start-clause-sound : goal.returns-in-Start-clause-sound
returns-in-Start-clause-sound g c = let longer = noted c.start.ensures in
    arm_sound (start_arm c.self.invariant (answered next_reply c.in-Start.is c.next.ensures)) longer

pub returns-in-Start-clause-told : goal.returns-in-Start-clause-told
returns-in-Start-clause-told g c = let did = answered next_reply c.in-Start.is c.next.ensures in let a = start_arm c.self.invariant did in let k = start_payload c.self.invariant did in
    let longer = noted c.start.ensures in
    let same : k.0 ≡ c.take_payload-payload.result = let x = k.1 in let y = c.take_payload-payload.ensures.payload in cc in record {
      gains = grown _ a.limit longer c.self.view_is;
      fit = subst (λ p. g.P.Sent.fits p c.in-Start.step.0 c.in-Start.words) same k.2;
      fresh = start_fresh c.self.invariant c.self.view_is did;
      runs = start_runs _ _ _ _ longer;
    }

pub returns-in-Stop-clause-sound : goal.returns-in-Stop-clause-sound
returns-in-Stop-clause-sound g c = arm_sound (stop_arm c.self.invariant (answered next_reply c.in-Stop.is c.next.ensures)) (noted c.stop.ensures)

pub returns-in-Stop-clause-told : goal.returns-in-Stop-clause-told
returns-in-Stop-clause-told g c = let did = answered next_reply c.in-Stop.is c.next.ensures in let longer = (noted c.stop.ensures) in
    record { gains = grown _ (stop_arm c.self.invariant did).limit longer c.self.view_is; runs = stop_runs c.self.invariant did longer }

pub returns-in-Empty-clause-sound : goal.returns-in-Empty-clause-sound
returns-in-Empty-clause-sound g c = same_sound c.self.invariant (next_empty _ _ (answered next_reply c.in-Empty.is c.next.ensures))
