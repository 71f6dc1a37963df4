-- All calls go the same over arenas whether or not the slots are counted too.
use Rattle.std.proofs.Common.{zero, suc, ◌≡◌, ℕ, ◌+◌, List, [], ◌∷◌, ◌++◌, Bool, true, false, Option, None, Some, refl, sym, ap, ◌∙◌, subst, inl, ◌==◌, length}
use Rattle.std.specs.Prelude.{is_some}
use Rattle.std.proofs.lemmas.Bool.{and_parts}
use Rattle.kj_base.specs.declared.outcomes.Outcome.{Outcome}
use Rattle.kj_base.specs.declared.outcomes.Outcome.TheVariants.{Value, Broken}
use Rattle.kj_base.specs.declared.numbers.Limits.{Limits}
use Rattle.kj_base.specs.Commands.{Command, Action}
use Rattle.kj_base.specs.Places.{counts, arenas_fit, table_fits}
use Rattle.kj_base.specs.Queue.{DepthFirst, head_of}
use Rattle.kj_base.specs.Record.{Item, Run}
use Rattle.kj_model.specs.Nodes.{Entry, Form, Content, Tree, Kept as KeptTree, Stage, Waits, Fired as FiredStage, Keeps, Gone, Then, Chain, Eager, Wrap, Hub, Side, Race, Join, Task, Request, form_at, owner_of, parts_found, is_in}
use Rattle.kj_model.specs.World.{World, State, Held, Promise, Awaited, held_at, depth_of, new_state}
use Rattle.kj_model.specs.Changes.{silent, put}
use Rattle.kj_model.specs.Listening.{announced, join_ready}
use Rattle.kj_model.specs.Apply.{Refused, apply}
use Rattle.kj_model.specs.Value.{rest_applied, all_applied, ended_if, with_item, some_given, answered, run_step, chosen, step_passed, freed, then_valued, outcome_given, then_of, side_valued, side_of, value_side, rest_valued, all_valued, join_valued, winner_valued, value_form, value_to, value, value_link}
use Rattle.kj_model.specs.Fire.{chain_ended, kept_then, kept_from, branches_announced, fast_announced, join_fired, side_fired_under, side_fired_by, side_fired, group_of, group_error, set_left, task_stepped, error_run, task_ended, task_valued, request_valued, fire_form, with_firing, fire}
use Rattle.kj_model.specs.Calls.{Turned, Fired, Idle, NoMemory, Stopped, rewound_world, taken_world, after_turn, turn_at, turn_unless, turn, more_turns, run, held_awaited, Waited, wait_valued, wait_value_at, wait_turned, wait_turn, wait_more, wait_held, wait_unless, Call, CallApply, CallTurn, CallRun, CallWait, CallTakeAsk, CallTakeEnded, CallTakeAbandoned, CallClose, close, Reply, Applied, TurnedBy, WaitedBy, answer_as, call, calls}
use Rattle.kj_model.proofs.Members.{in_self}
use Rattle.kj_ownership.specs.Owners.{is_live, owns}
use Rattle.kj_ownership.specs.Standing.{Owned}
use Rattle.kj_ownership.specs.Shapes.{Shaped}
use Rattle.kj_ownership.specs.Fits.{Fits}
use Rattle.kj_ownership.specs.Kept.{Rests, Kept}
use Rattle.kj_ownership.proofs.Evaluates.{value_keeps, kept_form}
use Rattle.kj_ownership.proofs.Fires.{fired_frames}
use Rattle.kj_ownership.proofs.Applied.{commands_keep}
use Rattle.kj_ownership.proofs.Turns.{firing_standing, fires_shaped, rewound_passes, taken_passes, turn_passes}
use Rattle.kj_ownership.proofs.Waits.{held_rests}
use Rattle.kj_ownership.proofs.Calls.{rests_of}
use Rattle.kj_takings.specs.Told.{NoneCloses, IsReached}
use Rattle.kj_takings.proofs.ToldLoops.{reached_kept}
use Rattle.kj_takings.proofs.ToldLaws.{new_is_reached, next_is_reached}
use Rattle.kj_paths.specs.Paths.{Paths}
use Rattle.kj_paths.specs.Rows.{counted_fit, over_store}
use Rattle.kj_paths.proofs.Laid.{Laid, new_laid}
use Rattle.kj_paths.proofs.Paths.{calls_paths, close_paths}
use Rattle.kj_paths.proofs.Moves.{bare_laid}
use Rattle.kj_paths.proofs.Commands.{apply_laid}
use Rattle.kj_paths.proofs.Values.{EachLaid, freed_laid, value_laid, value_to_laid, side_laid}
use Rattle.kj_paths.proofs.Turns.{left_laid, firing_laid, rewound_laid, event_laid, turn_laid}
use Rattle.kj_paths.proofs.Calls.{held_laid, call_laid}
use Rattle.kj_paths.proofs.Alike.{apply_alike}
use Rattle.kj_paths.proofs.Rows.{le_of}

-- commands
rest_same : (o : Option Refused) (f h : State → State × Bool) (t : State) → f t ≡ h t → rest_applied o f t ≡ rest_applied o h t
rest_same None f h t e = e
rest_same (Some refused) f h t e = refl

rest_valued_same : (o : Option Outcome) (f h : Outcome → State → State × Option Outcome) (t : State) → ((x : Outcome) → f x t ≡ h x t) → rest_valued o f t ≡ rest_valued o h t
rest_valued_same None f h t e = refl
rest_valued_same (Some x) f h t e = e x

-- the replies of a call and of those after it
abbrev and_then : State × Reply → State × List Reply → State × List Reply
and_then r rest = (rest.0, r.1 ∷ rest.1)

side_same : (f h : ℕ → State → State × Option Outcome) (side : ℕ) (o : Option Form) (s : State) → ((n : ℕ) (t : State) → Laid [] t.world → f n t ≡ h n t) → Laid [] s.world → side_of f side o s ≡ side_of h side o s
side_same f h side (Some (Side (FiredStage t))) s same g = ap (λ r. side_valued side t r.1 r.0) (same t s g)
side_same f h side (Some (Side (Waits t))) s same g = refl
side_same f h side (Some (Side (Keeps o))) s same g = refl
side_same f h side (Some (Side Gone)) s same g = refl
side_same f h side None s same g = refl
side_same f h side (Some _) s same g = refl

sides_same : (f h : ℕ → State → State × Option Outcome) (outcomes : List Outcome) (sides : List ℕ) (s : State) → ((n : ℕ) (t : State) → Laid [] t.world → f n t ≡ h n t) → EachLaid h → Laid [] s.world → all_valued f outcomes sides s ≡ all_valued h outcomes sides s
sides_same f h outcomes [] s same l g = refl
sides_same f h outcomes (side ∷ sides) s same l g =
    let r = value_side h side s in
    ap (λ q. rest_valued q.1 (λ o. all_valued f (outcomes ++ o ∷ []) sides) q.0) (side_same f h side (form_at side s.world.nodes) s same g)
    ∙ rest_valued_same r.1 (λ o. all_valued f (outcomes ++ o ∷ []) sides) (λ o. all_valued h (outcomes ++ o ∷ []) sides) r.0 (λ o. sides_same f h (outcomes ++ o ∷ []) sides r.0 same l (side_laid h side (form_at side s.world.nodes) s l g))

join_same : (fast : Bool) (f h : ℕ → State → State × Option Outcome) (sides : List ℕ) (s : State) → ((n : ℕ) (t : State) → Laid [] t.world → f n t ≡ h n t) → EachLaid h → Laid [] s.world → join_valued fast f sides s ≡ join_valued fast h sides s
join_same true f h sides s same l g = refl
join_same false f h sides s same l g = sides_same f h [] sides s same l g

race_same : (f h : ℕ → State → State × Option Outcome) (winner : Option ℕ) (s : State) → ((n : ℕ) (t : State) → Laid [] t.world → f n t ≡ h n t) → Laid [] s.world → winner_valued f winner s ≡ winner_valued h winner s
race_same f h None s same g = refl
race_same f h (Some side) s same g = side_same f h side (form_at side s.world.nodes) s same g

module _ (answer : List Item → ℕ → Option Action) where
  all_same : (cs : List Command) (s : State) → Laid [] s.world → all_applied (over_store arenas_fit answer) cs s ≡ all_applied (over_store counted_fit answer) cs s
  all_same [] s g = refl
  all_same (c ∷ cs) s g =
      let r = apply (over_store counted_fit answer) true c s in
      ap (λ q. rest_applied q.1 (all_applied (over_store arenas_fit answer) cs) q.0) (apply_alike answer true c s g)
      ∙ rest_same r.1 (all_applied (over_store arenas_fit answer) cs) (all_applied (over_store counted_fit answer) cs) r.0 (all_same cs r.0 (apply_laid (over_store counted_fit answer) true c s g))

  answered_same : (a : Option Action) (under : Bool) (n step : ℕ) (input : Outcome) (s : State) → Laid [] s.world → answered (over_store arenas_fit answer) a under n step input s ≡ answered (over_store counted_fit answer) a under n step input s
  answered_same None under n step input s g = refl
  answered_same (Some action) under n step input s g = ap (λ r. some_given (ended_if r.1 action.ending under input r.0)) (all_same action.commands (with_item (Run n step input action) s) g)

  step_same : (under : Bool) (n step : ℕ) (input : Outcome) (s : State) → Laid [] s.world → run_step (over_store arenas_fit answer) under n step input s ≡ run_step (over_store counted_fit answer) under n step input s
  step_same under n step input s g = answered_same (answer s.past step) under n step input s g

  passed_same : (under : Bool) (n : ℕ) (step : Option ℕ) (o : Outcome) (s : State) → Laid [] s.world → step_passed (over_store arenas_fit answer) under n step o s ≡ step_passed (over_store counted_fit answer) under n step o s
  passed_same under n None o s g = refl
  passed_same under n (Some step) o s g = step_same under n step o s g

  -- evaluation
  valued_same : (under : Bool) (n : ℕ) (v e : Option ℕ) (t : ℕ) (o : Option Outcome) (s : State) → Laid [] s.world → then_valued (over_store arenas_fit answer) under n v e t o s ≡ then_valued (over_store counted_fit answer) under n v e t o s
  valued_same under n v e t None s g = refl
  valued_same under n v e t (Some o) s g = let u = freed t s in passed_same under n (chosen v e o) o (silent (put n (Then v e None)) u) (bare_laid n (Then v e None) [] u.world refl refl (freed_laid t [] s g))

  then_same : (f h : ℕ → State → State × Option Outcome) (under : Bool) (n : ℕ) (o : Option Form) (s : State) → ((m : ℕ) (t : State) → Laid [] t.world → f m t ≡ h m t) → EachLaid h → Laid [] s.world → then_of (over_store arenas_fit answer) f under n o s ≡ then_of (over_store counted_fit answer) h under n o s
  then_same f h under n (Some (Then v e (Some t))) s same l g = let r = h t s in ap (λ q. then_valued (over_store arenas_fit answer) under n v e t q.1 q.0) (same t s g) ∙ valued_same under n v e t r.1 r.0 (l t s g)
  then_same f h under n (Some (Then v e None)) s same l g = refl
  then_same f h under n None s same l g = refl
  then_same f h under n (Some _) s same l g = refl

  form_same : (f h : ℕ → State → State × Option Outcome) (n : ℕ) (o : Option Form) (s : State) → ((m : ℕ) (t : State) → Laid [] t.world → f m t ≡ h m t) → EachLaid h → Laid [] s.world → value_form (over_store arenas_fit answer) f n o s ≡ value_form (over_store counted_fit answer) h n o s
  form_same f h n (Some (Then v e tree)) s same l g = ap outcome_given (then_same f h false n (Some (Then v e tree)) s same l g)
  form_same f h n (Some (Race left right winner)) s same l g = race_same f h winner s same g
  form_same f h n (Some (Join fast sides)) s same l g = join_same fast f h sides s same l g
  form_same f h n None s same l g = refl
  form_same f h n (Some _) s same l g = refl

  value_to_same : (k n : ℕ) (s : State) → Laid [] s.world → value_to (over_store arenas_fit answer) k n s ≡ value_to (over_store counted_fit answer) k n s
  unfolding value_to
  value_to_same zero n s g = refl
  value_to_same (suc k) n s g = form_same (value_to (over_store arenas_fit answer) k) (value_to (over_store counted_fit answer) k) n (form_at n s.world.nodes) s (λ m t h. value_to_same k m t h) (value_to_laid (over_store counted_fit answer) k) g

  value_same : (n : ℕ) (s : State) → Laid [] s.world → value (over_store arenas_fit answer) n s ≡ value (over_store counted_fit answer) n s
  value_same n s g = value_to_same (depth_of s.world) n s g

  link_same : (n : ℕ) (s : State) → Laid [] s.world → value_link (over_store arenas_fit answer) n s ≡ value_link (over_store counted_fit answer) n s
  link_same n s g = then_same (value (over_store arenas_fit answer)) (value (over_store counted_fit answer)) true n (form_at n s.world.nodes) s (λ m t h. value_same m t h) (λ m t h. value_laid (over_store counted_fit answer) m t h) g

  -- events
  kept_same : (after : World → World) (n : ℕ) (content : Content) (s : State) → Laid [] s.world → kept_from (over_store arenas_fit answer) after n content s ≡ kept_from (over_store counted_fit answer) after n content s
  kept_same after n (Tree t) s g = ap (λ r. kept_then after n t r.1 r.0) (value_same t s g)
  kept_same after n (KeptTree o) s g = refl

  join_fired_same : (fast : Bool) (join : ℕ) (sides : List ℕ) (side t : ℕ) (s : State) → Laid [] s.world → join_fired (over_store arenas_fit answer) fast join sides side t s ≡ join_fired (over_store counted_fit answer) fast join sides side t s
  join_fired_same true join sides side t s g = kept_same (fast_announced (join_ready true sides s.world.nodes) join sides) side (Tree t) s g
  join_fired_same false join sides side t s g = refl

  under_same : (owner : ℕ) (form : Form) (side t : ℕ) (s : State) → Laid [] s.world → side_fired_under (over_store arenas_fit answer) owner form side t s ≡ side_fired_under (over_store counted_fit answer) owner form side t s
  under_same owner (Join fast sides) side t s g = join_fired_same fast owner sides side t s g
  under_same owner (Race left right winner) side t s g = refl
  under_same owner _ side t s g = refl

  by_same : (o : Option Entry) (side t : ℕ) (s : State) → Laid [] s.world → side_fired_by (over_store arenas_fit answer) o side t s ≡ side_fired_by (over_store counted_fit answer) o side t s
  by_same None side t s g = refl
  by_same (Some owner) side t s g = under_same owner.number owner.form side t s g

  side_fired_same : (n : ℕ) (stage : Stage) (s : State) → Laid [] s.world → side_fired (over_store arenas_fit answer) n stage s ≡ side_fired (over_store counted_fit answer) n stage s
  side_fired_same n (Waits t) s g = by_same (owner_of n s.world.nodes) n t s g
  side_fired_same n (FiredStage t) s g = refl
  side_fired_same n (Keeps o) s g = refl
  side_fired_same n Gone s g = refl

  error_same : (n : ℕ) (o : Outcome) (step : Option ℕ) (s : State) → Laid [] s.world → error_run (over_store arenas_fit answer) n o step s ≡ error_run (over_store counted_fit answer) n o step s
  error_same n o None s g = refl
  error_same n o (Some step) s g = ap (λ r. task_stepped n r.1 r.0) (step_same false n step o s g)

  ended_same : (n : ℕ) (o : Outcome) (error : Option ℕ) (s : State) → Laid [] s.world → task_ended (over_store arenas_fit answer) n o error s ≡ task_ended (over_store counted_fit answer) n o error s
  ended_same n (Value words) error s g = refl
  ended_same n (Broken exception) error s g = error_same n (Broken exception) error s g

  task_same : (n t : ℕ) (o : Option Outcome) (s : State) → Owned s → Shaped s.world → s.world.firing ≡ Some n → form_at n s.world.nodes ≡ Some (Task (Some t)) → Laid [] s.world → task_valued (over_store arenas_fit answer) n t o s ≡ task_valued (over_store counted_fit answer) n t o s
  task_same n t None s st sh firing at g = refl
  task_same n t (Some o) s st sh firing at g =
      let s2 = silent (put n (Task None)) (freed t s) in
      ended_same n o (group_error (group_of n s2.world.names)) (silent (set_left n) s2) (left_laid n t s st sh firing at g)

  fire_form_same : Fits (over_store counted_fit answer) → (o : Option Form) (n : ℕ) (s : State) → Owned s → Shaped s.world → s.world.firing ≡ Some n → form_at n s.world.nodes ≡ o → Laid [] s.world → fire_form (over_store arenas_fit answer) n o s ≡ fire_form (over_store counted_fit answer) n o s
  fire_form_same fits (Some (Chain link)) n s st sh firing at g = ap (λ r. chain_ended n link r.1 r.0) (link_same link s g)
  fire_form_same fits (Some (Eager content)) n s st sh firing at g = kept_same (announced DepthFirst n) n content s g
  fire_form_same fits (Some (Wrap c content)) n s st sh firing at g = kept_same (announced DepthFirst n) n content s g
  fire_form_same fits (Some (Hub content a bs)) n s st sh firing at g = kept_same (branches_announced n) n content s g
  fire_form_same fits (Some (Side stage)) n s st sh firing at g = side_fired_same n stage s g
  fire_form_same fits (Some (Task (Some t))) n s st sh firing at g =
      let live : is_live n s.world.nodes ≡ true = ap is_some at in
      let own : owns n t s.world.nodes ≡ true = ap (λ (x : Option Form). is_in t (parts_found x)) at ∙ in_self t [] in
      let r = value (over_store counted_fit answer) t s in
      let e = value_keeps (over_store counted_fit answer) (depth_of s.world) (commands_keep (over_store counted_fit answer) fits) t s (n ∷ []) st sh (inl (firing, live)) (λ t_live. fired_frames s n t st firing live own t_live) in
      ap (λ q. task_valued (over_store arenas_fit answer) n t q.1 q.0) (value_same t s g)
      ∙ task_same n t r.1 r.0 e.owned e.shaped (e.same.firing ∙ firing) (kept_form s r.0 n [] (Task (Some t)) refl refl at e) (value_laid (over_store counted_fit answer) t s g)
  fire_form_same fits (Some (Task None)) n s st sh firing at g = refl
  fire_form_same fits (Some (Request name (Some t))) n s st sh firing at g = ap (λ r. request_valued n name t r.1 r.0) (value_same t s g)
  fire_form_same fits (Some (Request name None)) n s st sh firing at g = refl
  fire_form_same fits None n s st sh firing at g = refl
  fire_form_same fits (Some _) n s st sh firing at g = refl

  fire_same : Fits (over_store counted_fit answer) → (n : ℕ) (s : State) → Rests s → s.world.stopped ≡ false → Laid [] s.world → fire (over_store arenas_fit answer) n s ≡ fire (over_store counted_fit answer) n s
  fire_same fits n s r runs g = ap (silent (with_firing None)) (fire_form_same fits (form_at n s.world.nodes) n (silent (with_firing (Some n)) s) (firing_standing (Some n) s r.owned) (fires_shaped n s.world (r.left_over runs) r.shaped) refl refl (firing_laid (Some n) s.world g))

  -- turns
  at_same : Fits (over_store counted_fit answer) → (o : Option ℕ) (s : State) → Rests s → s.world.stopped ≡ false → Laid [] s.world → turn_at (over_store arenas_fit answer) o s ≡ turn_at (over_store counted_fit answer) o s
  at_same fits None s r runs g = refl
  at_same fits (Some n) s r runs g = ap (λ t. after_turn (silent rewound_world t)) (fire_same fits n (silent taken_world s) (taken_passes s r).rests runs (event_laid s.world g))

  unless_same : Fits (over_store counted_fit answer) → (b : Bool) (s : State) → Rests s → s.world.stopped ≡ b → Laid [] s.world → turn_unless b (over_store arenas_fit answer) s ≡ turn_unless b (over_store counted_fit answer) s
  unless_same fits true s r is g = refl
  unless_same fits false s r is g = at_same fits (head_of s.world.queue) (silent rewound_world s) (rewound_passes s r).rests is (rewound_laid s.world g)

  turn_same : Fits (over_store counted_fit answer) → (s : State) → Rests s → Laid [] s.world → turn (over_store arenas_fit answer) s ≡ turn (over_store counted_fit answer) s
  turn_same fits s r g = unless_same fits s.world.stopped s r refl g

  more_same : (f h : State → State × Turned) (t : Turned) (s : State) → f s ≡ h s → more_turns f t s ≡ more_turns h t s
  more_same f h Fired s e = e
  more_same f h Idle s e = refl
  more_same f h NoMemory s e = refl
  more_same f h Stopped s e = refl

  run_same : Fits (over_store counted_fit answer) → (n : ℕ) (s : State) → Rests s → Laid [] s.world → run (over_store arenas_fit answer) n s ≡ run (over_store counted_fit answer) n s
  run_same fits zero s r g = refl
  run_same fits (suc n) s r g =
      let t = turn (over_store counted_fit answer) s in
      ap (λ q. more_turns (run (over_store arenas_fit answer) n) q.1 q.0) (turn_same fits s r g)
      ∙ more_same (run (over_store arenas_fit answer) n) (run (over_store counted_fit answer) n) t.1 t.0 (run_same fits n t.0 (turn_passes (over_store counted_fit answer) s fits r).rests (turn_laid (over_store counted_fit answer) s fits r g))

  -- waits
  value_at_same : (a : Option Awaited) (s : State) → Laid [] s.world → wait_value_at (over_store arenas_fit answer) a s ≡ wait_value_at (over_store counted_fit answer) a s
  value_at_same None s g = refl
  value_at_same (Some a) s g = ap (λ r. wait_valued r.1 r.0) (value_same a.root s g)

  turned_same : (f h : State → State × Waited) (b : Bool) (t : Turned) (s : State) → f s ≡ h s → Laid [] s.world → wait_turned (over_store arenas_fit answer) f b t s ≡ wait_turned (over_store counted_fit answer) h b t s
  turned_same f h true Fired s e g = value_at_same s.world.awaited s g
  turned_same f h false Fired s e g = e
  turned_same f h true Idle s e g = refl
  turned_same f h false Idle s e g = refl
  turned_same f h true NoMemory s e g = refl
  turned_same f h false NoMemory s e g = refl
  turned_same f h true Stopped s e g = refl
  turned_same f h false Stopped s e g = refl

  head_same : Fits (over_store counted_fit answer) → (f h : State → State × Waited) (o : Option ℕ) (s : State) → Rests s → (f (turn (over_store counted_fit answer) s).0 ≡ h (turn (over_store counted_fit answer) s).0) → Laid [] s.world → wait_turn (over_store arenas_fit answer) f o s ≡ wait_turn (over_store counted_fit answer) h o s
  head_same fits f h None s r e g = refl
  head_same fits f h (Some n) s r e g =
      let t = turn (over_store counted_fit answer) s in
      ap (λ q. wait_turned (over_store arenas_fit answer) f (n == 0) q.1 q.0) (turn_same fits s r g)
      ∙ turned_same f h (n == 0) t.1 t.0 e (turn_laid (over_store counted_fit answer) s fits r g)

  wait_more_same : Fits (over_store counted_fit answer) → (n : ℕ) (s : State) → Rests s → Laid [] s.world → wait_more (over_store arenas_fit answer) n s ≡ wait_more (over_store counted_fit answer) n s
  wait_more_same fits zero s r g = refl
  wait_more_same fits (suc n) s r g = head_same fits (wait_more (over_store arenas_fit answer) n) (wait_more (over_store counted_fit answer) n) (head_of s.world.queue) s r (wait_more_same fits n (turn (over_store counted_fit answer) s).0 (turn_passes (over_store counted_fit answer) s fits r).rests (turn_laid (over_store counted_fit answer) s fits r g)) g

  wait_at_same : Fits (over_store counted_fit answer) → (name n : ℕ) (h : Option Held) (s : State) → held_at name s.world.names ≡ h → Kept s → Laid [] s.world → wait_held (over_store arenas_fit answer) name n h s ≡ wait_held (over_store counted_fit answer) name n h s
  wait_at_same fits name n (Some (Promise root)) s at k g = wait_more_same fits n (silent (held_awaited name root) s) (held_rests name root s at k.none_awaited (rests_of s k)) (held_laid name root s.world at g)
  wait_at_same fits name n None s at k g = refl
  wait_at_same fits name n (Some _) s at k g = refl

  wait_unless_same : Fits (over_store counted_fit answer) → (b : Bool) (name n : ℕ) (s : State) → Kept s → Laid [] s.world → wait_unless b (over_store arenas_fit answer) name n s ≡ wait_unless b (over_store counted_fit answer) name n s
  wait_unless_same fits true name n s k g = refl
  wait_unless_same fits false name n s k g = wait_at_same fits name n (held_at name s.world.names) s refl k g

  -- calls
  call_same : Fits (over_store counted_fit answer) → (c : Call) (s : State) → Kept s → Laid [] s.world → call (over_store arenas_fit answer) c s ≡ call (over_store counted_fit answer) c s
  call_same fits (CallApply command) s k g = ap (answer_as Applied) (apply_alike answer false command s g)
  call_same fits CallTurn s k g = ap (answer_as TurnedBy) (turn_same fits s (rests_of s k) g)
  call_same fits (CallRun turns) s k g = ap (answer_as TurnedBy) (run_same fits turns s (rests_of s k) g)
  call_same fits (CallWait name turns) s k g = ap (answer_as WaitedBy) (wait_unless_same fits s.world.stopped name turns s k g)
  call_same fits CallTakeAsk s k g = refl
  call_same fits CallTakeEnded s k g = refl
  call_same fits CallTakeAbandoned s k g = refl
  call_same fits CallClose s k g = refl

  pub calls_same : Fits (over_store counted_fit answer) → (cs : List Call) (s : State) → NoneCloses cs → IsReached (over_store counted_fit answer) s → Laid [] s.world → calls (over_store arenas_fit answer) cs s ≡ calls (over_store counted_fit answer) cs s
  calls_same fits [] s opens reached g = refl
  calls_same fits (c ∷ cs) s opens reached g =
      let r = call (over_store counted_fit answer) c s in
      let k = reached_kept (over_store counted_fit answer) s fits reached in
      ap (λ q. and_then q (calls (over_store arenas_fit answer) cs q.0)) (call_same fits c s k g)
      ∙ ap (and_then r) (calls_same fits cs r.0 opens.1 (next_is_reached (over_store counted_fit answer) c s opens.0 reached) (call_laid (over_store counted_fit answer) c s fits k g))

-- the slots are counted
pub counted_fits : (answer : List Item → ℕ → Option Action) → Fits (over_store counted_fit answer)
counted_fits answer slots spots rows h = le_of (length spots + counts rows) slots (and_parts (arenas_fit slots spots rows) (table_fits slots spots rows) h).1

-- from a new loop
pub new_same : (answer : List Item → ℕ → Option Action) (limits : Limits) (cs : List Call) → NoneCloses cs → calls (over_store arenas_fit answer) cs (new_state limits) ≡ calls (over_store counted_fit answer) cs (new_state limits)
new_same answer limits cs opens = calls_same answer (counted_fits answer) cs (new_state limits) opens (new_is_reached (over_store counted_fit answer) limits) (new_laid limits)

pub arenas_paths : (answer : List Item → ℕ → Option Action) (limits : Limits) (cs : List Call) → NoneCloses cs → Paths (calls (over_store arenas_fit answer) cs (new_state limits)).0.world
arenas_paths answer limits cs opens = subst (λ (q : State × List Reply). Paths q.0.world) (sym (new_same answer limits cs opens)) (calls_paths (over_store counted_fit answer) limits cs (counted_fits answer) opens)

pub arenas_close_paths : (answer : List Item → ℕ → Option Action) (limits : Limits) (cs : List Call) → NoneCloses cs → Paths (close (calls (over_store arenas_fit answer) cs (new_state limits)).0).world
arenas_close_paths answer limits cs opens = subst (λ (q : State × List Reply). Paths (close q.0).world) (sym (new_same answer limits cs opens)) (close_paths (over_store counted_fit answer) limits cs (counted_fits answer) opens)
