use Rattle.std.proofs.Common.{arith, ap, ◌∙◌, ◌≡◌, List}
use Rattle.std.specs.Prelude.{ℕ, Err}
use Rattle.kj_base.specs.declared.numbers.StepId.{StepId}
use Rattle.executor_core.specs.declared.answers.NotTaken.{NotTaken}
use Rattle.executor_core.specs.declared.answers.NotTaken.TheVariants as refusal
use Rattle.executor_core.specs.Acts.{Desk, submitted, submit_reply}
use Rattle.executor_core.proofs.Answered.{submit_closed, submit_full}
use Rattle.xthread.proofs.Grows.{whole_same}
use Rattle.xthread.proofs.Effects.{answered, noted, room_kept, grown, arm_sound, same_sound, submit_arm, submit_fresh, submit_own}
use Rattle.xthread.proofs.guarded.Guarded.submit.Goals as goal

refusal_same : (d : Desk) (k : ℕ) (step : StepId) (words : List ℕ) (d' : Desk) (e : NotTaken) → (d', submit_reply (Err e)) ≡ submitted d k step words → d' ≡ d
refusal_same d k step words d' refusal.Closed e = submit_closed d k step words d' e
refusal_same d k step words d' refusal.Full e = submit_full d k step words d' e

pub submit-requires-in-Ok : goal.submit-requires-in-Ok
submit-requires-in-Ok g c = let did = answered submit_reply c.in-Ok.is c.submit.ensures ∙ ap (submitted c.self.inside.board c.args.caller c.args.step) c.copy.ensures in
    (submit_arm c.args.caller c.args.step c.args.words c.args.payload c.in-Ok.request c.self.invariant c.requires did).0.has_room

pub push_reserved-requires : goal.push_reserved-requires
push_reserved-requires g c = let did = answered submit_reply c.in-Ok.is c.submit.ensures ∙ ap (submitted c.self.inside.board c.args.caller c.args.step) c.copy.ensures in
    let h = (submit_arm c.args.caller c.args.step c.args.words c.args.payload c.in-Ok.request c.self.invariant c.requires did).1 in let ok = c.self.inside.places.ok.0 in omega arith

pub invariant_of-self : goal.invariant_of-self
invariant_of-self g c = let did = answered submit_reply c.in-Ok.is c.submit.ensures ∙ ap (submitted c.self.inside.board c.args.caller c.args.step) c.copy.ensures in
    (submit_arm c.args.caller c.args.step c.args.words c.args.payload c.in-Ok.request c.self.invariant c.requires did).0.whole _ _ _ _ (noted c.submit-in-Ok.ensures) (room_kept c.submit-in-Ok.ensures) c.push_reserved.ensures.items c.push_reserved.ensures.capacity

pub invariant_of-self-in-Err : goal.invariant_of-self-in-Err
invariant_of-self-in-Err g c = whole_same _ _ _ _ _ _ _ c.self.invariant (refusal_same c.self.inside.board c.args.caller c.args.step c.copy.result c.submit.new.self c.in-Err.refused (answered submit_reply c.in-Err.is c.submit.ensures))

pub returns-in-Ok-clause-sound : goal.returns-in-Ok-clause-sound
returns-in-Ok-clause-sound g c = let did = answered submit_reply c.in-Ok.is c.submit.ensures ∙ ap (submitted c.self.inside.board c.args.caller c.args.step) c.copy.ensures in
    arm_sound (submit_arm c.args.caller c.args.step c.args.words c.args.payload c.in-Ok.request c.self.invariant c.requires did).0 (noted c.submit-in-Ok.ensures)

pub returns-in-Ok-clause-grown : goal.returns-in-Ok-clause-grown
returns-in-Ok-clause-grown g c = let did = answered submit_reply c.in-Ok.is c.submit.ensures ∙ ap (submitted c.self.inside.board c.args.caller c.args.step) c.copy.ensures in
    grown _ (submit_arm c.args.caller c.args.step c.args.words c.args.payload c.in-Ok.request c.self.invariant c.requires did).0.limit (noted c.submit-in-Ok.ensures) c.self.view_is

pub returns-in-Ok-clause-own : goal.returns-in-Ok-clause-own
returns-in-Ok-clause-own g c = submit_own _ c.args.caller c.args.step c.args.words c.in-Ok.request (noted c.submit-in-Ok.ensures)

pub returns-in-Ok-clause-fresh : goal.returns-in-Ok-clause-fresh
returns-in-Ok-clause-fresh g c = submit_fresh c.args.caller c.args.step c.copy.result c.in-Ok.request c.self.invariant c.self.view_is (answered submit_reply c.in-Ok.is c.submit.ensures)

pub returns-in-Err-clause-sound : goal.returns-in-Err-clause-sound
returns-in-Err-clause-sound g c = same_sound c.self.invariant (refusal_same c.self.inside.board c.args.caller c.args.step c.copy.result c.submit.new.self c.in-Err.refused (answered submit_reply c.in-Err.is c.submit.ensures))
