use Rattle.std.proofs.Common.{refl, sym, subst}
use Rattle.std.proofs.lemmas.Option.{slice_get_within}
use Rattle.executor_core.specs.declared.call.Call.TheVariants as call
use Rattle.executor_core.specs.declared.call.Reply.TheVariants as reply
use Rattle.executor_core.specs.Acts.{collect_reply}
use Rattle.executor_core.specs.Histories.{entry}
use Rattle.executor_core.proofs.Answered.{collect_not_yet}
use Rattle.xthread.specs.Answers.{BackFits, BackTells}
use Rattle.xthread.proofs.Grows.{whole_same, back_tells}
use Rattle.xthread.proofs.Effects.{noted, room_kept, answered, grown, arm_sound, arm_board, same_sound, owns, collect_arm, collect_back, collect_place, back_fits}
use Rattle.xthread.proofs.guarded.Guarded.collect.Goals as goal

pub collect-requires : goal.collect-requires
collect-requires g c = let own = owns c.args.caller c.args.ticket.request c.self.invariant c.self.view_is c.requires in slice_get_within _ _ own.0 own.1

pub take_back-back-requires : goal.take_back-back-requires
take_back-back-requires g c = collect_place c.args.ticket.request c.self.invariant (owns c.args.caller c.args.ticket.request c.self.invariant c.self.view_is c.requires) (answered collect_reply c.in-Some.is c.collect.ensures)

pub collect-requires-in-Some : goal.collect-requires-in-Some
collect-requires-in-Some g c = (collect_arm c.self.invariant (owns c.args.caller c.args.ticket.request c.self.invariant c.self.view_is c.requires) (answered collect_reply c.in-Some.is c.collect.ensures)).has_room

pub invariant_of-self : goal.invariant_of-self
invariant_of-self g c = (collect_arm c.self.invariant (owns c.args.caller c.args.ticket.request c.self.invariant c.self.view_is c.requires) (answered collect_reply c.in-Some.is c.collect.ensures)).whole _ _ _ _ (noted c.collect-in-Some.ensures) (room_kept c.collect-in-Some.ensures) c.take_back-back.ensures.rest c.take_back-back.ensures.room

pub invariant_of-self-in-None : goal.invariant_of-self-in-None
invariant_of-self-in-None g c = whole_same _ _ _ _ _ _ _ c.self.invariant (collect_not_yet _ _ _ _ (owns c.args.caller c.args.ticket.request c.self.invariant c.self.view_is c.requires) (answered collect_reply c.in-None.is c.collect.ensures))

pub returns-in-Some-clause-sound : goal.returns-in-Some-clause-sound
returns-in-Some-clause-sound g c = arm_sound (collect_arm c.self.invariant (owns c.args.caller c.args.ticket.request c.self.invariant c.self.view_is c.requires) (answered collect_reply c.in-Some.is c.collect.ensures)) (noted c.collect-in-Some.ensures)

pub returns-in-Some-clause-told : goal.returns-in-Some-clause-told
returns-in-Some-clause-told g c = let own = owns c.args.caller c.args.ticket.request c.self.invariant c.self.view_is c.requires in let did = (answered collect_reply c.in-Some.is c.collect.ensures) in let a = collect_arm c.self.invariant own did in
    let longer = noted c.collect-in-Some.ensures in let back = c.take_back-back.result in let r = c.args.ticket.request in
    let fit = back_fits g.P.Sent.fits c.collect.new.self c.self.inside.places.items r back (collect_back c.args.ticket.request c.self.invariant own did) c.take_back-back.ensures.back in record {
      gains = grown _ a.limit longer c.self.view_is;
      fit = subst (λ d. BackFits g.P.Sent.fits d r back) (arm_board a longer) fit;
      came = subst (λ l. BackTells l r back) (sym longer) (back_tells _ (entry c.args.caller (call.Collect r) (reply.Ended c.in-Some.outcome)) _ r back refl c.self.invariant.came c.take_back-back.ensures.back);
    }

pub returns-in-None-clause-sound : goal.returns-in-None-clause-sound
returns-in-None-clause-sound g c = same_sound c.self.invariant (collect_not_yet _ _ _ _ (owns c.args.caller c.args.ticket.request c.self.invariant c.self.view_is c.requires) (answered collect_reply c.in-None.is c.collect.ensures))
