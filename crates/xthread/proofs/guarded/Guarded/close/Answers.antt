use Rattle.std.proofs.Common.{ap, sym, ◌∙◌, ◌≡◌, refl, true, false, Bool}
use Rattle.executor_core.proofs.Answered.{close_closed}
use Rattle.xthread.proofs.Effects.{noted, room_kept, arm_sound, arm_board, same_sound, none_runs, close_arm}
use Rattle.xthread.proofs.guarded.Guarded.close.Goals as goal

truth : (b : Bool) → (b ≡ false → ⊥) → b ≡ true
truth true h = refl
truth false h = absurd (h refl)

pub close-requires : goal.close-requires
close-requires g c = none_runs c.self.invariant c.self.view_is c.requires

pub returns-then-not-close-clause-sound : goal.returns-then-not-close-clause-sound
returns-then-not-close-clause-sound g c = let shut = truth c.self.inside.board.closed (λ z. let t = c.close.ensures.«open».1 z in let f = c.if-not-close.true in cc) in
    same_sound c.self.invariant (close_closed c.self.inside.board c.close.new.self shut c.close.ensures.board)

pub close-requires-2 : goal.close-requires-2
close-requires-2 g c = (close_arm c.self.invariant (none_runs c.self.invariant c.self.view_is c.requires) (c.close.ensures.«open».0 c.if-not-close.false) c.close.ensures.board).0.has_room

pub invariant_of-self-2 : goal.invariant_of-self-2
invariant_of-self-2 g c = (close_arm c.self.invariant (none_runs c.self.invariant c.self.view_is c.requires) (c.close.ensures.«open».0 c.if-not-close.false) c.close.ensures.board).0.whole _ _ _ _ (noted c.close-2.ensures) (room_kept c.close-2.ensures) refl refl

pub returns-clause-sound : goal.returns-clause-sound
returns-clause-sound g c = arm_sound (close_arm c.self.invariant (none_runs c.self.invariant c.self.view_is c.requires) (c.close.ensures.«open».0 c.if-not-close.false) c.close.ensures.board).0 (noted c.close-2.ensures)

pub returns-clause-closed : goal.returns-clause-closed
returns-clause-closed g c = let k = close_arm c.self.invariant (none_runs c.self.invariant c.self.view_is c.requires) (c.close.ensures.«open».0 c.if-not-close.false) c.close.ensures.board in
    ap (λ d. d.closed) (sym (arm_board k.0 (noted c.close-2.ensures))) ∙ k.1
