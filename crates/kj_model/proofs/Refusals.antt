-- Refusals, and turns without an event.
use Rattle.std.proofs.Common.{◌≡◌, ℕ, [], ◌∷◌, Bool, true, false, Option, None, Some, refl, ap, arith, length, ◌&&◌}
use Rattle.kj_base.specs.Commands.{Command}
use Rattle.kj_base.specs.Queue.{Events, IsQueue}
use Rattle.kj_model.specs.World.{State, Setting}
use Rattle.kj_model.specs.Uses.{uses_of, first_failing, is_outside, is_unknown, is_wrong, is_taken}
use Rattle.kj_model.specs.Apply.{Refused, Unknown, Taken, Full, Busy, Inside, WrongKind, Stopped, refusal, refused_full, refused_busy, refused_taken, refused_wrong, refused_unknown, refused_inside, refused_stopped, apply, applied, is_busy, is_full, name_of_first}
use Rattle.kj_model.specs.Causes.{cause_if, cause_of, causes, first_cause}
use Rattle.kj_model.specs.Calls.{Idle, turn, turn_unless}

full_first : (b : Bool) → refused_full b ≡ first_cause (cause_if b Full ∷ [])
full_first true = refl
full_first false = refl

busy_first : (b : Bool) (setting : Setting) (c : Command) (s : State) → refused_busy b setting c s ≡ first_cause (cause_if b (Busy (name_of_first (uses_of c))) ∷ cause_if (is_full setting c s.world) Full ∷ [])
busy_first true setting c s = refl
busy_first false setting c s = full_first (is_full setting c s.world)

taken_first : (o : Option ℕ) (setting : Setting) (c : Command) (s : State) → refused_taken o setting c s ≡ first_cause (cause_of Taken o ∷ cause_if (is_busy c s) (Busy (name_of_first (uses_of c))) ∷ cause_if (is_full setting c s.world) Full ∷ [])
taken_first (Some name) setting c s = refl
taken_first None setting c s = busy_first (is_busy c s) setting c s

wrong_first : (o : Option ℕ) (setting : Setting) (c : Command) (s : State) → refused_wrong o setting c s ≡ first_cause (cause_of WrongKind o ∷ cause_of Taken (first_failing (is_taken s.world) [] (uses_of c)) ∷ cause_if (is_busy c s) (Busy (name_of_first (uses_of c))) ∷ cause_if (is_full setting c s.world) Full ∷ [])
wrong_first (Some name) setting c s = refl
wrong_first None setting c s = taken_first (first_failing (is_taken s.world) [] (uses_of c)) setting c s

unknown_first : (o : Option ℕ) (setting : Setting) (c : Command) (s : State) → refused_unknown o setting c s ≡ first_cause (cause_of Unknown o ∷ cause_of WrongKind (first_failing (is_wrong s.world) [] (uses_of c)) ∷ cause_of Taken (first_failing (is_taken s.world) [] (uses_of c)) ∷ cause_if (is_busy c s) (Busy (name_of_first (uses_of c))) ∷ cause_if (is_full setting c s.world) Full ∷ [])
unknown_first (Some name) setting c s = refl
unknown_first None setting c s = wrong_first (first_failing (is_wrong s.world) [] (uses_of c)) setting c s

inside_first : (b : Bool) (setting : Setting) (c : Command) (s : State) → refused_inside b setting c s ≡ first_cause (cause_if b Inside ∷ cause_of Unknown (first_failing (is_unknown s.world) [] (uses_of c)) ∷ cause_of WrongKind (first_failing (is_wrong s.world) [] (uses_of c)) ∷ cause_of Taken (first_failing (is_taken s.world) [] (uses_of c)) ∷ cause_if (is_busy c s) (Busy (name_of_first (uses_of c))) ∷ cause_if (is_full setting c s.world) Full ∷ [])
inside_first true setting c s = refl
inside_first false setting c s = unknown_first (first_failing (is_unknown s.world) [] (uses_of c)) setting c s

stopped_first : (b : Bool) (setting : Setting) (inside : Bool) (c : Command) (s : State) → refused_stopped b setting inside c s ≡ first_cause (cause_if b Stopped ∷ cause_if (inside && is_outside c) Inside ∷ cause_of Unknown (first_failing (is_unknown s.world) [] (uses_of c)) ∷ cause_of WrongKind (first_failing (is_wrong s.world) [] (uses_of c)) ∷ cause_of Taken (first_failing (is_taken s.world) [] (uses_of c)) ∷ cause_if (is_busy c s) (Busy (name_of_first (uses_of c))) ∷ cause_if (is_full setting c s.world) Full ∷ [])
stopped_first true setting inside c s = refl
stopped_first false setting inside c s = inside_first (inside && is_outside c) setting c s

pub refusal_first : (setting : Setting) (inside : Bool) (c : Command) (s : State) → refusal setting inside c s ≡ first_cause (causes setting inside c s)
refusal_first setting inside c s = stopped_first s.world.stopped setting inside c s

same_after : (o : Option Refused) (refused : Refused) (c : Command) (s : State) → (applied o c s).1 ≡ Some refused → (applied o c s).0 ≡ s
same_after (Some other) refused c s h = refl
same_after None refused c s h = cc

pub refused_same : (setting : Setting) (inside : Bool) (c : Command) (s : State) (refused : Refused) → (apply setting inside c s).1 ≡ Some refused → (apply setting inside c s).0 ≡ s
refused_same setting inside c s refused h = same_after (refusal setting inside c s) refused c s h

answer_after : (o : Option Refused) (c : Command) (s : State) → (applied o c s).1 ≡ o
answer_after (Some refused) c s = refl
answer_after None c s = refl

pub answer_first : (setting : Setting) (inside : Bool) (c : Command) (s : State) → (apply setting inside c s).1 ≡ refusal setting inside c s
answer_first setting inside c s = answer_after (refusal setting inside c s) c s

depth_empty : (q : Events) → IsQueue q → q.list ≡ [] → q.depth ≡ 0
depth_empty q k e = let n : length q.list ≡ 0 = ap length e in let d = k.depth in let b = k.breadth in omega arith

unless_idle : (b : Bool) (setting : Setting) (s : State) → b ≡ false → IsQueue s.world.queue → s.world.queue.list ≡ [] → turn_unless b setting s ≡ (s, Idle)
unless_idle true setting s h k e = cc
unless_idle false setting s h k e = rw (depth_empty s.world.queue k e) (rw e refl)

pub idle_same : (setting : Setting) (s : State) → s.world.stopped ≡ false → IsQueue s.world.queue → s.world.queue.list ≡ [] → turn setting s ≡ (s, Idle)
idle_same setting s h k e = unless_idle s.world.stopped setting s h k e
