-- Each event, turn and run of turns.
use Rattle.std.proofs.Common.{zero, suc, ◌≡◌, inl, ℕ, [], ◌∷◌, Bool, true, false, Option, None, Some, arith, refl, sym, ap, ◌∙◌}
use Rattle.std.specs.Prelude.{is_some}
use Rattle.std.proofs.lemmas.Bool.{false≢true}
use Rattle.kj_base.specs.declared.outcomes.Outcome.{Outcome}
use Rattle.kj_base.specs.declared.outcomes.Outcome.TheVariants.{Value, Broken}
use Rattle.kj_base.specs.Queue.{DepthFirst, head_of}
use Rattle.kj_model.specs.Nodes.{Form, Chain, Eager, Wrap, Hub, Side, Task, Request, form_at, parts_found, is_in}
use Rattle.kj_model.specs.World.{World, State, Setting, RequestOf, depth_of}
use Rattle.kj_model.specs.Changes.{silent, put, named}
use Rattle.kj_model.specs.Listening.{announced}
use Rattle.kj_model.specs.Effects.{with_ended}
use Rattle.kj_model.specs.Value.{Given, value, value_link, freed, run_step}
use Rattle.kj_model.specs.Fire.{branches_announced, group_of, group_error, set_left, without_left_over, task_gone, task_stepped, error_run, task_ended, task_valued, request_valued, fire_form, with_firing, fire}
use Rattle.kj_model.specs.Calls.{Turned, Fired, Idle, NoMemory, Stopped, rewound_world, taken_world, turn_at, turn_unless, turn, more_turns, run}
use Rattle.kj_model.proofs.Members.{in_self}
use Rattle.kj_model.proofs.Once.{false_by}
use Rattle.kj_ownership.specs.Owners.{is_live, owns}
use Rattle.kj_ownership.specs.Standing.{Owned}
use Rattle.kj_ownership.specs.Shapes.{Shaped, OfEnded, suits}
use Rattle.kj_ownership.specs.Fits.{Fits}
use Rattle.kj_ownership.specs.Kept.{Rests}
use Rattle.kj_ownership.proofs.Shapes.{empty_suits}
use Rattle.kj_ownership.proofs.Evaluates.{CommandsKeep, value_keeps, Clears, tree_cleared, kept_form}
use Rattle.kj_ownership.proofs.Fires.{fired_frames}
use Rattle.kj_ownership.proofs.Applied.{commands_keep}
use Rattle.kj_ownership.proofs.TaskFires.{set_left_is}
use Rattle.kj_ownership.proofs.Turns.{firing_standing, fires_shaped, rewound_passes, taken_passes, turn_passes}
use Rattle.kj_paths.proofs.Laid.{Laid, laid_roots}
use Rattle.kj_paths.proofs.Moves.{announced_laid, named_laid, others_laid, bare_laid}
use Rattle.kj_paths.proofs.Effects.{lists_laid}
use Rattle.kj_paths.proofs.Values.{given_loose, none_loose, freed_laid, step_laid, value_laid, link_laid}
use Rattle.kj_paths.proofs.Replaced.{gone_laid}
use Rattle.kj_paths.proofs.Fires.{chain_laid, kept_from_laid, branches_laid, side_laid, dropped_less, set_left_laid}

-- a Task goes
task_gone_laid : (n : ℕ) (s : State) → Laid [] s.world → Laid [] (task_gone n s).world
task_gone_laid n s g =
    let w = s.world in
    gone_laid n [] (without_left_over n w) (others_laid [] [] w.awaited _ w.detached w (λ m. (let a = dropped_less m n w.left_over in omega (arith, a))) g)

stepped_laid : (n : ℕ) (o : Option Given) (s : State) → Laid (given_loose o) s.world → Laid [] (task_stepped n o s).world
stepped_laid n None s g = g
stepped_laid n (Some given) s g = task_gone_laid n s (none_loose (given_loose (Some given)) s.world g)

error_laid : (setting : Setting) (n : ℕ) (o : Outcome) (step : Option ℕ) (s : State) → Laid [] s.world → Laid [] (error_run setting n o step s).world
error_laid setting n o None s g = task_gone_laid n s g
error_laid setting n o (Some step) s g = let r = run_step setting false n step o s in stepped_laid n r.1 r.0 (step_laid setting false n step o s g)

ended_laid : (setting : Setting) (n : ℕ) (o : Outcome) (error : Option ℕ) (s : State) → Laid [] s.world → Laid [] (task_ended setting n o error s).world
ended_laid setting n (Value words) error s g = task_gone_laid n s g
ended_laid setting n (Broken exception) error s g = error_laid setting n (Broken exception) error s g

task_clears : (t : ℕ) → Clears (Task (Some t)) (Task None) t
task_clears t = record { parts = refl; none = refl; old_hub = refl; new_hub = refl; branch = λ h. refl; suits = empty_suits (Task (Some t)) (Task None) (record { tree = refl; link = refl; side = refl; task = refl; request = λ n. refl; ended = λ h. absurd (false≢true h) }) refl refl }

pub left_laid : (n t : ℕ) (s : State) → Owned s → Shaped s.world → s.world.firing ≡ Some n → form_at n s.world.nodes ≡ Some (Task (Some t)) → Laid [] s.world → Laid [] (set_left n (put n (Task None) (freed t s).world))
left_laid n t s st sh firing at g =
    let c = tree_cleared s n t [] (Task (Some t)) (Task None) st sh (inl (firing, ap is_some at)) at (task_clears t) in
    let s2 = silent (put n (Task None)) (freed t s) in
    let off : is_in n s.world.left_over ≡ false = false_by (is_in n s.world.left_over) (λ i. false≢true (ap (suits OfEnded) (sym at) ∙ sh.left_over n (ap is_some firing) i)) in
    let off2 : is_in n s2.world.left_over ≡ false = ap (is_in n) c.0.same.left_over ∙ off in
    let l = set_left_is n s2 c.0.owned c.0.shaped c.2 off2 in
    set_left_laid n s2 (ap is_some c.2) c.0.owned l (bare_laid n (Task None) [] (freed t s).world refl refl (freed_laid t [] s g))

valued_laid : (setting : Setting) (n t : ℕ) (o : Option Outcome) (s : State) → Owned s → Shaped s.world → s.world.firing ≡ Some n → form_at n s.world.nodes ≡ Some (Task (Some t)) → Laid [] s.world → Laid [] (task_valued setting n t o s).world
valued_laid setting n t None s st sh firing at g = g
valued_laid setting n t (Some o) s st sh firing at g =
    let s2 = silent (put n (Task None)) (freed t s) in
    ended_laid setting n o (group_error (group_of n s2.world.names)) (silent (set_left n) s2) (left_laid n t s st sh firing at g)

task_laid : (setting : Setting) (n t : ℕ) (s : State) → CommandsKeep setting → Owned s → Shaped s.world → s.world.firing ≡ Some n → form_at n s.world.nodes ≡ Some (Task (Some t)) → Laid [] s.world → Laid [] (task_valued setting n t (value setting t s).1 (value setting t s).0).world
task_laid setting n t s commands st sh firing at g =
    let live : is_live n s.world.nodes ≡ true = ap is_some at in
    let own : owns n t s.world.nodes ≡ true = ap (λ (x : Option Form). is_in t (parts_found x)) at ∙ in_self t [] in
    let r = value setting t s in
    let e = value_keeps setting (depth_of s.world) commands t s (n ∷ []) st sh (inl (firing, live)) (λ t_live. fired_frames s n t st firing live own t_live) in
    valued_laid setting n t r.1 r.0 e.owned e.shaped (e.same.firing ∙ firing) (kept_form s r.0 n [] (Task (Some t)) refl refl at e) (value_laid setting t s g)

-- a Request ends
request_laid : (n name t : ℕ) (o : Option Outcome) (s : State) → Laid [] s.world → Laid [] (request_valued n name t o s).world
request_laid n name t None s g = g
request_laid n name t (Some o) s g =
    let u = (freed t s).world in
    gone_laid n [] (named name (RequestOf None) (with_ended name o u)) (named_laid name (RequestOf None) [] (with_ended name o u) (lists_laid u.asks _ u.abandoned [] u (freed_laid t [] s g)))

-- each form
form_laid : (setting : Setting) (o : Option Form) (n : ℕ) (s : State) → Fits setting → Owned s → Shaped s.world → s.world.firing ≡ Some n → form_at n s.world.nodes ≡ o → Laid [] s.world → Laid [] (fire_form setting n o s).world
form_laid setting (Some (Chain link)) n s fits st sh firing at g = let r = value_link setting link s in chain_laid n link r.1 r.0 (link_laid setting link s g)
form_laid setting (Some (Eager content)) n s fits st sh firing at g = kept_from_laid setting (announced DepthFirst n) n content s (λ w h. announced_laid DepthFirst n [] w h) g
form_laid setting (Some (Wrap c content)) n s fits st sh firing at g = kept_from_laid setting (announced DepthFirst n) n content s (λ w h. announced_laid DepthFirst n [] w h) g
form_laid setting (Some (Hub content a bs)) n s fits st sh firing at g = kept_from_laid setting (branches_announced n) n content s (branches_laid n) g
form_laid setting (Some (Side stage)) n s fits st sh firing at g = side_laid setting n stage s st at g
form_laid setting (Some (Task (Some t))) n s fits st sh firing at g = task_laid setting n t s (commands_keep setting fits) st sh firing at g
form_laid setting (Some (Task None)) n s fits st sh firing at g = g
form_laid setting (Some (Request name (Some t))) n s fits st sh firing at g = let r = value setting t s in request_laid n name t r.1 r.0 (value_laid setting t s g)
form_laid setting (Some (Request name None)) n s fits st sh firing at g = g
form_laid setting None n s fits st sh firing at g = g
form_laid setting (Some _) n s fits st sh firing at g = g

-- which event fires, and the queue
pub firing_laid : (o : Option ℕ) (w : World) → Laid [] w → Laid [] (with_firing o w)
firing_laid o w g = laid_roots [] [] w (with_firing o w) refl refl refl refl (λ a. a) (λ a m. omega arith) g

pub rewound_laid : (w : World) → Laid [] w → Laid [] (rewound_world w)
rewound_laid w g = laid_roots [] [] w (rewound_world w) refl refl refl refl (λ a. a) (λ a m. omega arith) g

pub event_laid : (w : World) → Laid [] w → Laid [] (taken_world w)
event_laid w g = laid_roots [] [] w (taken_world w) refl refl refl refl (λ a. a) (λ a m. omega arith) g

fire_laid : (setting : Setting) (n : ℕ) (s : State) → Fits setting → Rests s → s.world.stopped ≡ false → Laid [] s.world → Laid [] (fire setting n s).world
fire_laid setting n s fits r runs g =
    let s1 = silent (with_firing (Some n)) s in
    let left = r.left_over runs in
    let t = fire_form setting n (form_at n s.world.nodes) s1 in
    firing_laid None t.world (form_laid setting (form_at n s.world.nodes) n s1 fits (firing_standing (Some n) s r.owned) (fires_shaped n s.world left r.shaped) refl refl (firing_laid (Some n) s.world g))

-- a turn
at_laid : (setting : Setting) (o : Option ℕ) (s : State) → Fits setting → Rests s → s.world.stopped ≡ false → Laid [] s.world → Laid [] (turn_at setting o s).0.world
at_laid setting None s fits r runs g = g
at_laid setting (Some n) s fits r runs g =
    let s1 = silent taken_world s in
    let s2 = fire setting n s1 in
    rewound_laid s2.world (fire_laid setting n s1 fits (taken_passes s r).rests runs (event_laid s.world g))

unless_laid : (setting : Setting) (b : Bool) (s : State) → Fits setting → Rests s → s.world.stopped ≡ b → Laid [] s.world → Laid [] (turn_unless b setting s).0.world
unless_laid setting true s fits r is g = g
unless_laid setting false s fits r is g = at_laid setting (head_of s.world.queue) (silent rewound_world s) fits (rewound_passes s r).rests is (rewound_laid s.world g)

pub turn_laid : (setting : Setting) (s : State) → Fits setting → Rests s → Laid [] s.world → Laid [] (turn setting s).0.world
turn_laid setting s fits r g = unless_laid setting s.world.stopped s fits r refl g

more_laid : (t : Turned) (rest : State → State × Turned) (s : State) → (Laid [] s.world → Laid [] (rest s).0.world) → Laid [] s.world → Laid [] (more_turns rest t s).0.world
more_laid Fired rest s h g = h g
more_laid Idle rest s h g = g
more_laid NoMemory rest s h g = g
more_laid Stopped rest s h g = g

pub run_laid : (setting : Setting) (n : ℕ) (s : State) → Fits setting → Rests s → Laid [] s.world → Laid [] (run setting n s).0.world
run_laid setting zero s fits r g = g
run_laid setting (suc n) s fits r g =
    let t = turn setting s in
    more_laid t.1 (run setting n) t.0 (λ h. run_laid setting n t.0 fits (turn_passes setting s fits r).rests h) (turn_laid setting s fits r g)
