-- A turn answers that there was no memory only where a step found none; so does a run of turns.
use Rattle.std.proofs.Common.{◌≡◌, ◌∙◌, inl, inr, refl, sym, ap, ℕ, zero, suc, Bool, true, false, Option, None, Some}
use Rattle.std.proofs.lemmas.Bool.{false≢true}
use Rattle.kj_base.specs.Queue.{head_of}
use Rattle.kj_model.specs.World.{State, Setting}
use Rattle.kj_model.specs.Changes.{silent}
use Rattle.kj_model.specs.Fire.{fire}
use Rattle.kj_model.specs.Calls.{Turned, Fired, Idle, NoMemory, Stopped, rewound_world, taken_world, turned_by, turn_at, turn_unless, turn, more_turns, run}
use Rattle.kj_ownership.specs.Memory.{FindsMemory, LacksMemory}
use Rattle.kj_ownership.proofs.EventLacks.{Goes, goes_as, silent_goes, fire_goes, found}

-- a turn of a loop that runs
event_goes : (setting : Setting) (n : ℕ) (s : State) → Goes setting s.world.stopped (silent rewound_world (fire setting n (silent taken_world s)))
event_goes setting n s = let t = fire setting n (silent taken_world s) in silent_goes setting s.world.stopped rewound_world t (λ w. refl) (fire_goes setting n (silent taken_world s))

at_goes : (setting : Setting) (o : Option ℕ) (s : State) → Goes setting s.world.stopped (turn_at setting o s).0
at_goes setting None s = inl refl
at_goes setting (Some n) s = event_goes setting n s

unless_goes : (setting : Setting) (b : Bool) (s : State) → Goes setting s.world.stopped (turn_unless b setting s).0
unless_goes setting true s = inl refl
unless_goes setting false s = at_goes setting (head_of s.world.queue) (silent rewound_world s)

pub turn_goes : (setting : Setting) (s : State) → Goes setting s.world.stopped (turn setting s).0
turn_goes setting s = unless_goes setting s.world.stopped s

-- what it answers
not_idle : Idle ≡ NoMemory → ⊥
not_idle e = cc

not_stopped : Stopped ≡ NoMemory → ⊥
not_stopped e = cc

not_fired : Fired ≡ NoMemory → ⊥
not_fired e = cc

by_answer : (b : Bool) → turned_by b ≡ NoMemory → b ≡ true
by_answer true e = refl
by_answer false e = absurd (not_fired e)

at_tells : (setting : Setting) (o : Option ℕ) (s : State) → (turn_at setting o s).1 ≡ NoMemory → (turn_at setting o s).0.world.stopped ≡ true
at_tells setting None s e = absurd (not_idle e)
at_tells setting (Some n) s e = by_answer (turn_at setting (Some n) s).0.world.stopped e

unless_tells : (setting : Setting) (b : Bool) (s : State) → s.world.stopped ≡ b → (turn_unless b setting s).1 ≡ NoMemory → (s.world.stopped ≡ false) × ((turn_unless b setting s).0.world.stopped ≡ true)
unless_tells setting true s is e = absurd (not_stopped e)
unless_tells setting false s is e = (is, at_tells setting (head_of s.world.queue) (silent rewound_world s) e)

pub turn_tells : (setting : Setting) (s : State) → (turn setting s).1 ≡ NoMemory → (s.world.stopped ≡ false) × ((turn setting s).0.world.stopped ≡ true)
turn_tells setting s e = unless_tells setting s.world.stopped s refl e

at_told : (setting : Setting) (o : Option ℕ) (s : State) → s.world.stopped ≡ false → (turn_at setting o s).0.world.stopped ≡ true → (turn_at setting o s).1 ≡ NoMemory
at_told setting None s runs e = absurd (false≢true (sym runs ∙ e))
at_told setting (Some n) s runs e = ap turned_by e

unless_told : (setting : Setting) (b : Bool) (s : State) → s.world.stopped ≡ false → b ≡ false → (turn_unless b setting s).0.world.stopped ≡ true → (turn_unless b setting s).1 ≡ NoMemory
unless_told setting true s runs is e = absurd (false≢true (sym is))
unless_told setting false s runs is e = at_told setting (head_of s.world.queue) (silent rewound_world s) runs e

pub turn_told : (setting : Setting) (s : State) → s.world.stopped ≡ false → (turn setting s).0.world.stopped ≡ true → (turn setting s).1 ≡ NoMemory
turn_told setting s runs e = unless_told setting s.world.stopped s runs runs e

lacked_in : (setting : Setting) (t : State) → Goes setting false t → t.world.stopped ≡ true → LacksMemory setting t.past
lacked_in setting t (inl g) e = absurd (false≢true (sym g ∙ e))
lacked_in setting t (inr l) e = l.lacks

pub turn_lacks : (setting : Setting) (s : State) → (turn setting s).1 ≡ NoMemory → LacksMemory setting (turn setting s).0.past
turn_lacks setting s e =
    let told = turn_tells setting s e in
    let t = (turn setting s).0 in
    lacked_in setting t (goes_as setting s.world.stopped false t told.0 (turn_goes setting s)) told.1

-- where steps find memory the loop runs on
pub turn_runs_on : (setting : Setting) (s : State) → FindsMemory setting → (turn setting s).0.world.stopped ≡ s.world.stopped
turn_runs_on setting s finds = found setting s.world.stopped (turn setting s).0 finds (turn_goes setting s)

pub turn_found : (setting : Setting) (s : State) → FindsMemory setting → (turn setting s).1 ≡ NoMemory → ⊥
turn_found setting s finds e = let l = turn_lacks setting s e in finds (turn setting s).0.past l.0 l.1

-- runs of turns
more_lacks : (setting : Setting) (t : Turned) (rest : State → State × Turned) (s : State) → (t ≡ NoMemory → LacksMemory setting s.past) → ((rest s).1 ≡ NoMemory → LacksMemory setting (rest s).0.past) → (more_turns rest t s).1 ≡ NoMemory → LacksMemory setting (more_turns rest t s).0.past
more_lacks setting Fired rest s h g e = g e
more_lacks setting Idle rest s h g e = absurd (not_idle e)
more_lacks setting NoMemory rest s h g e = h refl
more_lacks setting Stopped rest s h g e = absurd (not_stopped e)

pub run_lacks : (setting : Setting) (n : ℕ) (s : State) → (run setting n s).1 ≡ NoMemory → LacksMemory setting (run setting n s).0.past
run_lacks setting zero s e = absurd (not_fired e)
run_lacks setting (suc n) s e = let r = turn setting s in more_lacks setting r.1 (run setting n) r.0 (turn_lacks setting s) (run_lacks setting n r.0) e

more_runs_on : (b : Bool) (t : Turned) (rest : State → State × Turned) (s : State) → s.world.stopped ≡ b → (rest s).0.world.stopped ≡ s.world.stopped → (more_turns rest t s).0.world.stopped ≡ b
more_runs_on b Fired rest s h g = g ∙ h
more_runs_on b Idle rest s h g = h
more_runs_on b NoMemory rest s h g = h
more_runs_on b Stopped rest s h g = h

pub run_runs_on : (setting : Setting) (n : ℕ) (s : State) → FindsMemory setting → (run setting n s).0.world.stopped ≡ s.world.stopped
run_runs_on setting zero s finds = refl
run_runs_on setting (suc n) s finds = let r = turn setting s in more_runs_on s.world.stopped r.1 (run setting n) r.0 (turn_runs_on setting s finds) (run_runs_on setting n r.0 finds)

pub run_found : (setting : Setting) (n : ℕ) (s : State) → FindsMemory setting → (run setting n s).1 ≡ NoMemory → ⊥
run_found setting n s finds e = let l = run_lacks setting n s e in finds (run setting n s).0.past l.0 l.1
