-- Each event, turn and run of turns leaves the lists so that they tell each once.
use Rattle.std.proofs.Common.{zero, suc, ◌≡◌, inl, ℕ, List, [], ◌∷◌, ◌++◌, Bool, true, false, Option, None, Some, refl, ap, ◌∙◌, ◌==◌}
use Rattle.std.specs.Prelude.{is_some}
use Rattle.std.proofs.lemmas.Bool.{false≢true}
use Rattle.kj_base.specs.declared.outcomes.Outcome.{Outcome}
use Rattle.kj_base.specs.declared.outcomes.Outcome.TheVariants.{Value, Broken}
use Rattle.kj_base.specs.Queue.{DepthFirst, head_of}
use Rattle.kj_model.specs.Nodes.{Entry, Form, Content, Tree, Kept, Stage, Waits, Fired as FiredStage, Keeps, Gone, Ready, Chain, Eager, Wrap, Hub, Side, Race, Join, Task, Request, form_at, owner_of, kept_form, dropped, parts_found, is_in}
use Rattle.kj_model.specs.World.{World, State, Setting, Named, Held, Promise, CellOf, AskCell, HubOf, Group, Canceler, RequestOf, held_at, depth_of}
use Rattle.kj_model.specs.Changes.{silent, put, named, gone_world}
use Rattle.kj_model.specs.Listening.{announced, listened, join_ready}
use Rattle.kj_model.specs.Effects.{with_ended}
use Rattle.kj_model.specs.Value.{Given, Gave, Took, value, value_link, freed, run_step}
use Rattle.kj_model.specs.Free.{usual}
use Rattle.kj_model.specs.Fire.{replaced, chain_ended, kept_at, keeps, kept_then, kept_from, each_announced, branches_of, branches_announced, other_side, tree_freed, race_won, announced_if, fast_announced, join_fired, side_fired_under, side_fired_by, side_fired, has_task, without_task, group_of, group_error, group_left, set_left, without_left_over, task_gone, task_stepped, error_run, task_ended, task_valued, request_valued, fire_form, with_firing, fire}
use Rattle.kj_model.specs.Calls.{Turned, Fired, Idle, NoMemory, Stopped, rewound_world, taken_world, turn_at, turn_unless, turn, more_turns, run}
use Rattle.kj_model.proofs.Members.{in_self}
use Rattle.kj_ownership.specs.Owners.{is_live, owns}
use Rattle.kj_ownership.specs.Standing.{Owned}
use Rattle.kj_ownership.specs.Shapes.{Shaped}
use Rattle.kj_ownership.specs.Fits.{Fits}
use Rattle.kj_ownership.specs.Kept.{Rests}
use Rattle.kj_ownership.proofs.Evaluates.{CommandsKeep, value_keeps, kept_form as kept_at_form}
use Rattle.kj_ownership.proofs.Fires.{fired_frames}
use Rattle.kj_ownership.proofs.Applied.{commands_keep}
use Rattle.kj_ownership.proofs.Tasks.{found_name}
use Rattle.kj_ownership.proofs.RequestFires.{request_at}
use Rattle.kj_ownership.proofs.Turns.{firing_standing, fires_shaped, rewound_passes, taken_passes, turn_passes}
use Rattle.kj_takings.proofs.ToldListed.{kind, Tales, Listed, Leaves, leaves_none, leaves_then, stays, announced_leaves, listened_leaves, put_leaves, gone_leaves, named_leaves, replaced_leaves}
use Rattle.kj_takings.proofs.ToldFrees.{free_leaves}
use Rattle.kj_takings.proofs.ToldChanges.{end_pends, end_listed}
use Rattle.kj_takings.proofs.ToldEffects.{now_empty_leaves, roots_leaves}
use Rattle.kj_takings.proofs.ToldValues.{step_listed, value_listed, link_listed}

freed_leaves : (t : ℕ) (s : State) → Leaves s.world (freed t s).world
freed_leaves t s = free_leaves (usual s.world) t s

-- a Chain
chain_leaves : (n link : ℕ) (o : Option Given) (s : State) → Leaves s.world (chain_ended n link o s).world
chain_leaves n link None s = leaves_none s.world
chain_leaves n link (Some (Gave o)) s =
    let u = (freed link s).world in
    let v = put n (Ready o) u in
    leaves_then s.world v (listened n v) (leaves_then s.world u v (freed_leaves link s) (put_leaves n (Ready o) u)) (listened_leaves n v)
chain_leaves n link (Some (Took root)) s =
    let u = (freed link s).world in
    let v = replaced n root u in
    let x = listened root v in
    leaves_then s.world x (gone_world n x) (leaves_then s.world v x (leaves_then s.world u v (freed_leaves link s) (replaced_leaves n root u)) (listened_leaves root v)) (gone_leaves n x)

-- a node that keeps an outcome
abbrev EachWorld : (World → World) → Type 0
EachWorld after = (w : World) → Leaves w (after w)

kept_leaves : (n : ℕ) (o : Outcome) (f : Option Form) (w : World) → Leaves w (kept_at n o f w)
kept_leaves n o None w = leaves_none w
kept_leaves n o (Some form) w = put_leaves n (kept_form o form) w

kept_then_leaves : (after : World → World) (n t : ℕ) (o : Option Outcome) (s : State) → EachWorld after → Leaves s.world (kept_then after n t o s).world
kept_then_leaves after n t None s h = leaves_none s.world
kept_then_leaves after n t (Some o) s h =
    let u = (freed t s).world in
    let v = keeps n o u in
    leaves_then s.world v (after v) (leaves_then s.world u v (freed_leaves t s) (kept_leaves n o (form_at n u.nodes) u)) (h v)

kept_from_listed : (told : Tales) (setting : Setting) (after : World → World) (n : ℕ) (content : Content) (s : State) → EachWorld after → Listed told s.world → Listed told (kept_from setting after n content s).world
kept_from_listed told setting after n (Tree t) s h g = let r = value setting t s in (kept_then_leaves after n t r.1 r.0 h).listed told (value_listed told setting t s g)
kept_from_listed told setting after n (Kept o) s h g = g

announced_each : (ns : List ℕ) → EachWorld (each_announced ns)
announced_each [] w = leaves_none w
announced_each (n ∷ ns) w = let v = announced DepthFirst n w in leaves_then w v (each_announced ns v) (announced_leaves DepthFirst n w) (announced_each ns v)

-- a Side
tree_leaves : (o : Option Form) (s : State) → Leaves s.world (tree_freed o s).world
tree_leaves (Some (Side (Waits t))) s = freed_leaves t s
tree_leaves (Some (Side (FiredStage t))) s = freed_leaves t s
tree_leaves (Some (Side (Keeps o))) s = leaves_none s.world
tree_leaves (Some (Side Gone)) s = leaves_none s.world
tree_leaves None s = leaves_none s.world
tree_leaves (Some _) s = leaves_none s.world

race_leaves : (race left right side other t : ℕ) (s : State) → Leaves s.world (race_won race left right side other t s).world
race_leaves race left right side other t s =
    let w = s.world in
    let v = put side (Side (FiredStage t)) w in
    let x = put race (Race left right (Some side)) v in
    let u = silent (λ y. put race (Race left right (Some side)) (put side (Side (FiredStage t)) y)) s in
    let f = (tree_freed (form_at other w.nodes) u).world in
    let z = put other (Side Gone) f in
    leaves_then w z (announced DepthFirst race z)
    (leaves_then w f z (leaves_then w x f (leaves_then w v x (put_leaves side (Side (FiredStage t)) w) (put_leaves race (Race left right (Some side)) v)) (tree_leaves (form_at other w.nodes) u)) (put_leaves other (Side Gone) f))
    (announced_leaves DepthFirst race z)

announced_if_leaves : (b : Bool) (n : ℕ) → EachWorld (announced_if b n)
announced_if_leaves true n w = announced_leaves DepthFirst n w
announced_if_leaves false n w = leaves_none w

fast_leaves : (b : Bool) (join : ℕ) (sides : List ℕ) → EachWorld (fast_announced b join sides)
fast_leaves true join sides w = leaves_none w
fast_leaves false join sides w = announced_if_leaves (join_ready true sides w.nodes) join w

join_listed : (told : Tales) (setting : Setting) (fast : Bool) (join : ℕ) (sides : List ℕ) (side t : ℕ) (s : State) → Listed told s.world → Listed told (join_fired setting fast join sides side t s).world
join_listed told setting true join sides side t s g = kept_from_listed told setting (fast_announced (join_ready true sides s.world.nodes) join sides) side (Tree t) s (fast_leaves (join_ready true sides s.world.nodes) join sides) g
join_listed told setting false join sides side t s g = let v = put side (Side (FiredStage t)) s.world in (announced_if_leaves (join_ready false sides v.nodes) join v).listed told ((put_leaves side (Side (FiredStage t)) s.world).listed told g)

under_listed : (told : Tales) (setting : Setting) (owner : ℕ) (form : Form) (side t : ℕ) (s : State) → Listed told s.world → Listed told (side_fired_under setting owner form side t s).world
under_listed told setting owner (Race left right None) side t s g = (race_leaves owner left right side (other_side (left == side) left right) t s).listed told g
under_listed told setting owner (Race left right (Some winner)) side t s g = g
under_listed told setting owner (Join fast sides) side t s g = join_listed told setting fast owner sides side t s g
under_listed told setting owner _ side t s g = g

by_listed : (told : Tales) (setting : Setting) (o : Option Entry) (side t : ℕ) (s : State) → Listed told s.world → Listed told (side_fired_by setting o side t s).world
by_listed told setting None side t s g = g
by_listed told setting (Some owner) side t s g = under_listed told setting owner.number owner.form side t s g

side_listed : (told : Tales) (setting : Setting) (n : ℕ) (stage : Stage) (s : State) → Listed told s.world → Listed told (side_fired setting n stage s).world
side_listed told setting n (Waits t) s g = by_listed told setting (owner_of n s.world.nodes) n t s g
side_listed told setting n (FiredStage t) s g = g
side_listed told setting n (Keeps o) s g = g
side_listed told setting n Gone s g = g

-- a Task
group_plain : (n : ℕ) (h : Held) → kind (Some h) ≡ None → kind (Some (without_task n h)) ≡ None
group_plain n (Group error tasks empty) e = refl
group_plain n (Promise r) e = e
group_plain n (CellOf r) e = e
group_plain n (AskCell r b) e = e
group_plain n (HubOf r) e = e
group_plain n (Canceler r) e = e
group_plain n (RequestOf r) e = e

task_plain : (n : ℕ) (h : Held) → has_task n h ≡ true → kind (Some h) ≡ None
task_plain n (Group error tasks empty) e = refl
task_plain n (Promise r) e = refl
task_plain n (CellOf r) e = refl
task_plain n (AskCell r b) e = absurd (false≢true e)
task_plain n (HubOf r) e = refl
task_plain n (Canceler r) e = refl
task_plain n (RequestOf r) e = absurd (false≢true e)

left_at : (told : Tales) (n : ℕ) (o : Option Named) (w : World) → group_of n w.names ≡ o → Listed told w → Listed told (group_left n o (record w { detached = dropped n w.detached; left_over = w.left_over ++ n ∷ [] }))
left_at told n None w e g = (roots_leaves w.awaited (w.left_over ++ n ∷ []) (dropped n w.detached) w).listed told g
left_at told n (Some x) w e g =
    let v = record w { detached = dropped n w.detached; left_over = w.left_over ++ n ∷ [] } in
    let a = (roots_leaves w.awaited (w.left_over ++ n ∷ []) (dropped n w.detached) w).listed told g in
    let f = found_name (λ (y : Named). has_task n y.held) x w.names g.apart e in
    let p = task_plain n x.held f.1 in
    (now_empty_leaves x.name (named x.name (without_task n x.held) v)).listed told ((named_leaves x.name (without_task n x.held) v (group_plain n x.held p) (ap kind f.0 ∙ p)).listed told a)

set_left_listed : (told : Tales) (n : ℕ) (w : World) → Listed told w → Listed told (set_left n w)
set_left_listed told n w g = left_at told n (group_of n w.names) w refl g

task_gone_listed : (told : Tales) (n : ℕ) (s : State) → Listed told s.world → Listed told (task_gone n s).world
task_gone_listed told n s g = let w = s.world in (gone_leaves n (without_left_over n w)).listed told ((roots_leaves w.awaited (dropped n w.left_over) w.detached w).listed told g)

stepped_listed : (told : Tales) (n : ℕ) (o : Option Given) (s : State) → Listed told s.world → Listed told (task_stepped n o s).world
stepped_listed told n None s g = g
stepped_listed told n (Some given) s g = task_gone_listed told n s g

error_listed : (told : Tales) (setting : Setting) (n : ℕ) (o : Outcome) (step : Option ℕ) (s : State) → Listed told s.world → Listed told (error_run setting n o step s).world
error_listed told setting n o None s g = task_gone_listed told n s g
error_listed told setting n o (Some step) s g = let r = run_step setting false n step o s in stepped_listed told n r.1 r.0 (step_listed told setting false n step o s g)

ended_listed : (told : Tales) (setting : Setting) (n : ℕ) (o : Outcome) (error : Option ℕ) (s : State) → Listed told s.world → Listed told (task_ended setting n o error s).world
ended_listed told setting n (Value words) error s g = task_gone_listed told n s g
ended_listed told setting n (Broken exception) error s g = error_listed told setting n (Broken exception) error s g

task_listed : (told : Tales) (setting : Setting) (n t : ℕ) (o : Option Outcome) (s : State) → Listed told s.world → Listed told (task_valued setting n t o s).world
task_listed told setting n t None s g = g
task_listed told setting n t (Some o) s g =
    let s2 = silent (put n (Task None)) (freed t s) in
    ended_listed told setting n o (group_error (group_of n s2.world.names)) (silent (set_left n) s2) (set_left_listed told n s2.world ((put_leaves n (Task None) (freed t s).world).listed told ((freed_leaves t s).listed told g)))

-- a Request ends
request_ends : (told : Tales) (n name t : ℕ) (o : Option Outcome) (s : State) → held_at name s.world.names ≡ Some (RequestOf (Some n)) → Listed told s.world → Listed told (request_valued n name t o s).world
request_ends told n name t None s at g = g
request_ends told n name t (Some o) s at g =
    let l = freed_leaves t s in
    let u = (freed t s).world in
    let v = with_ended name o (named name (RequestOf None) u) in
    (gone_leaves n v).listed told (end_listed told name o (named name (RequestOf None) u) (end_pends told name u (l.kinds name ∙ ap kind at) (l.listed told g)))

request_listed : (told : Tales) (setting : Setting) (n name t : ℕ) (s : State) → CommandsKeep setting → Owned s → Shaped s.world → s.world.firing ≡ Some n → form_at n s.world.nodes ≡ Some (Request name (Some t)) → Listed told s.world → Listed told (request_valued n name t (value setting t s).1 (value setting t s).0).world
request_listed told setting n name t s commands st sh firing at g =
    let live : is_live n s.world.nodes ≡ true = ap is_some at in
    let own : owns n t s.world.nodes ≡ true = ap (λ (x : Option Form). is_in t (parts_found x)) at ∙ in_self t [] in
    let r = value setting t s in
    let e = value_keeps setting (depth_of s.world) commands t s (n ∷ []) st sh (inl (firing, live)) (λ t_live. fired_frames s n t st firing live own t_live) in
    request_ends told n name t r.1 r.0 (request_at n name (Some t) r.0 e.owned e.shaped (ap is_some (e.same.firing ∙ firing)) (kept_at_form s r.0 n [] (Request name (Some t)) refl refl at e)) (value_listed told setting t s g)

-- each form
form_listed : (told : Tales) (setting : Setting) (o : Option Form) (n : ℕ) (s : State) → Fits setting → Owned s → Shaped s.world → s.world.firing ≡ Some n → form_at n s.world.nodes ≡ o → Listed told s.world → Listed told (fire_form setting n o s).world
form_listed told setting (Some (Chain link)) n s fits st sh firing at g = let r = value_link setting link s in (chain_leaves n link r.1 r.0).listed told (link_listed told setting link s g)
form_listed told setting (Some (Eager content)) n s fits st sh firing at g = kept_from_listed told setting (announced DepthFirst n) n content s (announced_leaves DepthFirst n) g
form_listed told setting (Some (Wrap c content)) n s fits st sh firing at g = kept_from_listed told setting (announced DepthFirst n) n content s (announced_leaves DepthFirst n) g
form_listed told setting (Some (Hub content a bs)) n s fits st sh firing at g = kept_from_listed told setting (branches_announced n) n content s (λ w. announced_each (branches_of (form_at n w.nodes)) w) g
form_listed told setting (Some (Side stage)) n s fits st sh firing at g = side_listed told setting n stage s g
form_listed told setting (Some (Task (Some t))) n s fits st sh firing at g = let r = value setting t s in task_listed told setting n t r.1 r.0 (value_listed told setting t s g)
form_listed told setting (Some (Task None)) n s fits st sh firing at g = g
form_listed told setting (Some (Request name (Some t))) n s fits st sh firing at g = request_listed told setting n name t s (commands_keep setting fits) st sh firing at g
form_listed told setting (Some (Request name None)) n s fits st sh firing at g = g
form_listed told setting None n s fits st sh firing at g = g
form_listed told setting (Some _) n s fits st sh firing at g = g

-- a turn
fire_listed : (told : Tales) (setting : Setting) (n : ℕ) (s : State) → Fits setting → Rests s → s.world.stopped ≡ false → Listed told s.world → Listed told (fire setting n s).world
fire_listed told setting n s fits r runs g =
    let s1 = silent (with_firing (Some n)) s in
    let t = fire_form setting n (form_at n s.world.nodes) s1 in
    (stays t.world (with_firing None t.world) refl refl refl refl refl refl).listed told (form_listed told setting (form_at n s.world.nodes) n s1 fits (firing_standing (Some n) s r.owned) (fires_shaped n s.world (r.left_over runs) r.shaped) refl refl ((stays s.world s1.world refl refl refl refl refl refl).listed told g))

rewound_leaves : (w : World) → Leaves w (rewound_world w)
rewound_leaves w = stays w (rewound_world w) refl refl refl refl refl refl

at_listed : (told : Tales) (setting : Setting) (o : Option ℕ) (s : State) → Fits setting → Rests s → s.world.stopped ≡ false → Listed told s.world → Listed told (turn_at setting o s).0.world
at_listed told setting None s fits r runs g = g
at_listed told setting (Some n) s fits r runs g =
    let s1 = silent taken_world s in
    let s2 = fire setting n s1 in
    (rewound_leaves s2.world).listed told (fire_listed told setting n s1 fits (taken_passes s r).rests runs ((stays s.world s1.world refl refl refl refl refl refl).listed told g))

unless_listed : (told : Tales) (setting : Setting) (b : Bool) (s : State) → Fits setting → Rests s → s.world.stopped ≡ b → Listed told s.world → Listed told (turn_unless b setting s).0.world
unless_listed told setting true s fits r is g = g
unless_listed told setting false s fits r is g = at_listed told setting (head_of s.world.queue) (silent rewound_world s) fits (rewound_passes s r).rests is ((rewound_leaves s.world).listed told g)

pub turn_listed : (told : Tales) (setting : Setting) (s : State) → Fits setting → Rests s → Listed told s.world → Listed told (turn setting s).0.world
turn_listed told setting s fits r g = unless_listed told setting s.world.stopped s fits r refl g

more_listed : (told : Tales) (t : Turned) (rest : State → State × Turned) (s : State) → (Listed told s.world → Listed told (rest s).0.world) → Listed told s.world → Listed told (more_turns rest t s).0.world
more_listed told Fired rest s h g = h g
more_listed told Idle rest s h g = g
more_listed told NoMemory rest s h g = g
more_listed told Stopped rest s h g = g

pub run_listed : (told : Tales) (setting : Setting) (n : ℕ) (s : State) → Fits setting → Rests s → Listed told s.world → Listed told (run setting n s).0.world
run_listed told setting zero s fits r g = g
run_listed told setting (suc n) s fits r g =
    let t = turn setting s in
    more_listed told t.1 (run setting n) t.0 (λ h. run_listed told setting n t.0 fits (turn_passes setting s fits r).rests h) (turn_listed told setting s fits r g)
