use Rattle.std.proofs.Common.{◌≡◌, subst, refl}
use Rattle.std.proofs.lemmas.Option.{slice_get_within}
use Rattle.executor_core.specs.Acts.{cancel_reply}
use Rattle.executor_core.proofs.Answered.{cancel_late}
use Rattle.xthread.specs.Answers.{FitsRequest}
use Rattle.xthread.proofs.Grows.{whole_same}
use Rattle.xthread.proofs.Effects.{noted, room_kept, answered, grown, arm_sound, arm_board, same_sound, owns, withdraw_arm, withdraw_payload, ask_arm, asked_own}
use Rattle.xthread.proofs.guarded.Guarded.cancel.Goals as goal

pub cancel-requires : goal.cancel-requires
cancel-requires g c = let own = owns c.args.caller c.args.ticket.request c.self.invariant c.self.view_is c.requires in slice_get_within _ _ own.0 own.1

pub take_payload-payload-requires : goal.take_payload-payload-requires
take_payload-payload-requires g c = let k = withdraw_payload c.args.ticket.request c.self.invariant (owns c.args.caller c.args.ticket.request c.self.invariant c.self.view_is c.requires) (answered cancel_reply c.in-Withdrawn.is c.cancel.ensures) in (k.0, k.1)

pub withdraw-requires : goal.withdraw-requires
withdraw-requires g c = (withdraw_arm c.self.invariant (owns c.args.caller c.args.ticket.request c.self.invariant c.self.view_is c.requires) (answered cancel_reply c.in-Withdrawn.is c.cancel.ensures)).has_room

pub invariant_of-self : goal.invariant_of-self
invariant_of-self g c = (withdraw_arm c.self.invariant (owns c.args.caller c.args.ticket.request c.self.invariant c.self.view_is c.requires) (answered cancel_reply c.in-Withdrawn.is c.cancel.ensures)).whole _ _ _ _ (noted c.withdraw.ensures) (room_kept c.withdraw.ensures) c.take_payload-payload.ensures.rest c.take_payload-payload.ensures.room

pub ask-requires : goal.ask-requires
ask-requires g c = (ask_arm c.self.invariant (owns c.args.caller c.args.ticket.request c.self.invariant c.self.view_is c.requires) (answered cancel_reply c.in-Asked.is c.cancel.ensures)).has_room

pub invariant_of-self-in-Asked : goal.invariant_of-self-in-Asked
invariant_of-self-in-Asked g c = (ask_arm c.self.invariant (owns c.args.caller c.args.ticket.request c.self.invariant c.self.view_is c.requires) (answered cancel_reply c.in-Asked.is c.cancel.ensures)).whole _ _ _ _ (noted c.ask.ensures) (room_kept c.ask.ensures) refl refl

pub invariant_of-self-in-TooLate : goal.invariant_of-self-in-TooLate
invariant_of-self-in-TooLate g c = whole_same _ _ _ _ _ _ _ c.self.invariant (cancel_late _ _ _ _ (owns c.args.caller c.args.ticket.request c.self.invariant c.self.view_is c.requires) (answered cancel_reply c.in-TooLate.is c.cancel.ensures))

pub returns-in-Withdrawn-clause-sound : goal.returns-in-Withdrawn-clause-sound
returns-in-Withdrawn-clause-sound g c = arm_sound (withdraw_arm c.self.invariant (owns c.args.caller c.args.ticket.request c.self.invariant c.self.view_is c.requires) (answered cancel_reply c.in-Withdrawn.is c.cancel.ensures)) (noted c.withdraw.ensures)

pub returns-in-Withdrawn-clause-told : goal.returns-in-Withdrawn-clause-told
returns-in-Withdrawn-clause-told g c = let own = owns c.args.caller c.args.ticket.request c.self.invariant c.self.view_is c.requires in let did = (answered cancel_reply c.in-Withdrawn.is c.cancel.ensures) in let a = withdraw_arm c.self.invariant own did in let k = withdraw_payload c.args.ticket.request c.self.invariant own did in
    let same : k.0 ≡ c.take_payload-payload.result = let x = k.1 in let y = c.take_payload-payload.ensures.payload in cc in
    let fit = subst (λ p. FitsRequest g.P.Sent.fits c.cancel.new.self c.args.ticket.request p) same k.2 in record {
      gains = grown _ a.limit (noted c.withdraw.ensures) c.self.view_is;
      fit = subst (λ d. FitsRequest g.P.Sent.fits d c.args.ticket.request c.take_payload-payload.result) (arm_board a (noted c.withdraw.ensures)) fit;
    }

pub returns-in-Asked-clause-sound : goal.returns-in-Asked-clause-sound
returns-in-Asked-clause-sound g c = arm_sound (ask_arm c.self.invariant (owns c.args.caller c.args.ticket.request c.self.invariant c.self.view_is c.requires) (answered cancel_reply c.in-Asked.is c.cancel.ensures)) (noted c.ask.ensures)

pub returns-in-Asked-clause-told : goal.returns-in-Asked-clause-told
returns-in-Asked-clause-told g c = record {
  tells = grown _ (ask_arm c.self.invariant (owns c.args.caller c.args.ticket.request c.self.invariant c.self.view_is c.requires) (answered cancel_reply c.in-Asked.is c.cancel.ensures)).limit (noted c.ask.ensures) c.self.view_is;
  same = refl;
  holds = asked_own c.args.caller c.args.ticket.request c.self.view_is c.requires (noted c.ask.ensures);
}

pub returns-in-TooLate-clause-sound : goal.returns-in-TooLate-clause-sound
returns-in-TooLate-clause-sound g c = same_sound c.self.invariant (cancel_late _ _ _ _ (owns c.args.caller c.args.ticket.request c.self.invariant c.self.view_is c.requires) (answered cancel_reply c.in-TooLate.is c.cancel.ensures))
