-- Each call of a loop only adds to the record.
use Rattle.std.proofs.Common.{zero, suc, ℕ, List, [], ◌∷◌, Bool, true, false, Option, None, Some, refl, reverse, ◌==◌}
use Rattle.kj_base.specs.declared.outcomes.Outcome.{Outcome}
use Rattle.kj_base.specs.declared.outcomes.Outcome.TheVariants.{Value, Broken}
use Rattle.kj_base.specs.Queue.{head_of, DepthFirst}
use Rattle.kj_model.specs.Nodes.{Entry, Form, Content, Tree, Kept, Stage, Waits, Fired as FiredSide, Keeps, Gone, Ready, Later, Last, Cell, Branch, Then, Chain, Eager, Wrap, Hub, Side, Race, Join, Task, Request, form_at, owner_of}
use Rattle.kj_model.specs.World.{World, State, Setting, Named, Held, Promise, CellOf, AskCell, HubOf, Group, Canceler, RequestOf, Awaited, held_at}
use Rattle.kj_base.specs.Record.{Free}
use Rattle.kj_model.specs.Changes.{silent, put, unnamed}
use Rattle.kj_model.specs.Listening.{join_ready, announced}
use Rattle.kj_model.specs.Free.{Guard, Holding, Every, free, each_freed}
use Rattle.kj_model.specs.Effects.{hub_unnamed, disarmed_node}
use Rattle.kj_model.specs.Uses.{is_name}
use Rattle.kj_model.specs.Value.{Given, Gave, Took, value, value_link, freed, run_step}
use Rattle.kj_model.specs.Fire.{chain_ended, kept_then, kept_from, race_fired, tree_freed, other_side, fast_announced, join_fired, side_fired_under, side_fired_by, side_fired, task_stepped, error_run, task_ended, task_left, task_valued, request_valued, fire_form, fire, with_firing, group_error, group_of, set_left, branches_announced}
use Rattle.kj_model.specs.Calls.{Turned, Waited, Fired, Idle, NoMemory, Stopped, turn_at, turn_unless, turn, more_turns, run, wait_valued, wait_value_at, awaited_freed, name_back, let_go_of, let_go, wait_turned, wait_turn, wait_more, wait_held, wait_unless, wait, held_awaited, rewound_world, taken_world, closed_held, each_closed, hubs_closed, hubs_of, detached_closed, names_closed, left_over_closed, close, Call, CallApply, CallTurn, CallRun, CallWait, CallTakeAsk, CallTakeEnded, CallTakeAbandoned, CallClose, call, calls}
use Rattle.kj_model.specs.Grown.{Grows}
use Rattle.kj_model.proofs.Growing.{stays, then_grows, each_freed_grows, reference_grows, free_grows, apply_grows, run_step_grows, freed_grows, value_grows, link_grows}

chain_grows : (n link : ℕ) (o : Option Given) (s : State) → Grows s (chain_ended n link o s)
chain_grows n link None s = stays s
chain_grows n link (Some (Gave o)) s = freed_grows link s
chain_grows n link (Some (Took root)) s = then_grows s (freed link s) (chain_ended n link (Some (Took root)) s) (freed_grows link s) (Free n ∷ [], refl)

kept_grows : (after : World → World) (n t : ℕ) (o : Option Outcome) (s : State) → Grows s (kept_then after n t o s)
kept_grows after n t None s = stays s
kept_grows after n t (Some o) s = freed_grows t s

kept_from_grows : (setting : Setting) (after : World → World) (n : ℕ) (content : Content) (s : State) → Grows s (kept_from setting after n content s)
kept_from_grows setting after n (Tree t) s = let r = value setting t s in then_grows s r.0 (kept_then after n t r.1 r.0) (value_grows setting t s) (kept_grows after n t r.1 r.0)
kept_from_grows setting after n (Kept o) s = stays s

tree_grows : (o : Option Form) (s : State) → Grows s (tree_freed o s)
tree_grows None s = stays s
tree_grows (Some (Side (Waits t))) s = freed_grows t s
tree_grows (Some (Side (FiredSide t))) s = freed_grows t s
tree_grows (Some (Side (Keeps o))) s = stays s
tree_grows (Some (Side Gone)) s = stays s
tree_grows (Some (Ready outcome)) s = stays s
tree_grows (Some Later) s = stays s
tree_grows (Some Last) s = stays s
tree_grows (Some (Cell outcome)) s = stays s
tree_grows (Some (Branch hub)) s = stays s
tree_grows (Some (Then value error tree)) s = stays s
tree_grows (Some (Chain link)) s = stays s
tree_grows (Some (Eager content)) s = stays s
tree_grows (Some (Wrap canceler content)) s = stays s
tree_grows (Some (Hub content is_named branches)) s = stays s
tree_grows (Some (Race left right winner)) s = stays s
tree_grows (Some (Join fast sides)) s = stays s
tree_grows (Some (Task tree)) s = stays s
tree_grows (Some (Request name tree)) s = stays s

race_grows : (race left right : ℕ) (winner : Option ℕ) (side t : ℕ) (s : State) → Grows s (race_fired race left right winner side t s)
race_grows race left right None side t s =
    let other = other_side (left == side) left right in
    tree_grows (form_at other s.world.nodes) (silent (λ w. put race (Race left right (Some side)) (put side (Side (FiredSide t)) w)) s)
race_grows race left right (Some winner) side t s = stays s

join_fired_grows : (setting : Setting) (fast : Bool) (join : ℕ) (sides : List ℕ) (side t : ℕ) (s : State) → Grows s (join_fired setting fast join sides side t s)
join_fired_grows setting true join sides side t s = kept_from_grows setting (fast_announced (join_ready true sides s.world.nodes) join sides) side (Tree t) s
join_fired_grows setting false join sides side t s = stays s

under_grows : (setting : Setting) (owner : ℕ) (form : Form) (side t : ℕ) (s : State) → Grows s (side_fired_under setting owner form side t s)
under_grows setting owner (Race left right winner) side t s = race_grows owner left right winner side t s
under_grows setting owner (Join fast sides) side t s = join_fired_grows setting fast owner sides side t s
under_grows setting owner (Ready outcome) side t s = stays s
under_grows setting owner Later side t s = stays s
under_grows setting owner Last side t s = stays s
under_grows setting owner (Cell outcome) side t s = stays s
under_grows setting owner (Branch hub) side t s = stays s
under_grows setting owner (Then value error tree) side t s = stays s
under_grows setting owner (Chain link) side t s = stays s
under_grows setting owner (Eager content) side t s = stays s
under_grows setting owner (Wrap canceler content) side t s = stays s
under_grows setting owner (Hub content is_named branches) side t s = stays s
under_grows setting owner (Side stage) side t s = stays s
under_grows setting owner (Task tree) side t s = stays s
under_grows setting owner (Request name tree) side t s = stays s

by_grows : (setting : Setting) (owner : Option Entry) (side t : ℕ) (s : State) → Grows s (side_fired_by setting owner side t s)
by_grows setting None side t s = stays s
by_grows setting (Some owner) side t s = under_grows setting owner.number owner.form side t s

side_grows : (setting : Setting) (n : ℕ) (stage : Stage) (s : State) → Grows s (side_fired setting n stage s)
side_grows setting n (Waits t) s = by_grows setting (owner_of n s.world.nodes) n t s
side_grows setting n (FiredSide t) s = stays s
side_grows setting n (Keeps o) s = stays s
side_grows setting n Gone s = stays s

stepped_grows : (n : ℕ) (o : Option Given) (s : State) → Grows s (task_stepped n o s)
stepped_grows n None s = stays s
stepped_grows n (Some given) s = (Free n ∷ [], refl)

error_grows : (setting : Setting) (n : ℕ) (o : Outcome) (step : Option ℕ) (s : State) → Grows s (error_run setting n o step s)
error_grows setting n o None s = (Free n ∷ [], refl)
error_grows setting n o (Some step) s = let r = run_step setting false n step o s in then_grows s r.0 (task_stepped n r.1 r.0) (run_step_grows setting false n step o s) (stepped_grows n r.1 r.0)

task_ended_grows : (setting : Setting) (n : ℕ) (o : Outcome) (error : Option ℕ) (s : State) → Grows s (task_ended setting n o error s)
task_ended_grows setting n (Value words) error s = (Free n ∷ [], refl)
task_ended_grows setting n (Broken exception) error s = error_grows setting n (Broken exception) error s

task_grows : (setting : Setting) (n t : ℕ) (o : Option Outcome) (s : State) → Grows s (task_valued setting n t o s)
task_grows setting n t None s = stays s
task_grows setting n t (Some o) s =
    let a = silent (put n (Task None)) (freed t s) in
    then_grows s a (task_left setting n o a) (freed_grows t s) (task_ended_grows setting n o (group_error (group_of n a.world.names)) (silent (set_left n) a))

request_grows : (n name t : ℕ) (o : Option Outcome) (s : State) → Grows s (request_valued n name t o s)
request_grows n name t None s = stays s
request_grows n name t (Some o) s = then_grows s (freed t s) (request_valued n name t (Some o) s) (freed_grows t s) (Free n ∷ [], refl)

fire_form_grows : (setting : Setting) (n : ℕ) (o : Option Form) (s : State) → Grows s (fire_form setting n o s)
fire_form_grows setting n None s = stays s
fire_form_grows setting n (Some (Chain link)) s = let r = value_link setting link s in then_grows s r.0 (chain_ended n link r.1 r.0) (link_grows setting link s) (chain_grows n link r.1 r.0)
fire_form_grows setting n (Some (Eager content)) s = kept_from_grows setting (announced DepthFirst n) n content s
fire_form_grows setting n (Some (Wrap canceler content)) s = kept_from_grows setting (announced DepthFirst n) n content s
fire_form_grows setting n (Some (Hub content is_named branches)) s = kept_from_grows setting (branches_announced n) n content s
fire_form_grows setting n (Some (Side stage)) s = side_grows setting n stage s
fire_form_grows setting n (Some (Task None)) s = stays s
fire_form_grows setting n (Some (Task (Some t))) s = let r = value setting t s in then_grows s r.0 (task_valued setting n t r.1 r.0) (value_grows setting t s) (task_grows setting n t r.1 r.0)
fire_form_grows setting n (Some (Request name None)) s = stays s
fire_form_grows setting n (Some (Request name (Some t))) s = let r = value setting t s in then_grows s r.0 (request_valued n name t r.1 r.0) (value_grows setting t s) (request_grows n name t r.1 r.0)
fire_form_grows setting n (Some (Ready outcome)) s = stays s
fire_form_grows setting n (Some Later) s = stays s
fire_form_grows setting n (Some Last) s = stays s
fire_form_grows setting n (Some (Cell outcome)) s = stays s
fire_form_grows setting n (Some (Branch hub)) s = stays s
fire_form_grows setting n (Some (Then value error tree)) s = stays s
fire_form_grows setting n (Some (Race left right winner)) s = stays s
fire_form_grows setting n (Some (Join fast sides)) s = stays s

pub fire_grows : (setting : Setting) (n : ℕ) (s : State) → Grows s (fire setting n s)
fire_grows setting n s = fire_form_grows setting n (form_at n s.world.nodes) (silent (with_firing (Some n)) s)

turn_at_grows : (setting : Setting) (o : Option ℕ) (s : State) → Grows s (turn_at setting o s).0
turn_at_grows setting None s = stays s
turn_at_grows setting (Some n) s = fire_grows setting n (silent taken_world s)

turn_unless_grows : (b : Bool) (setting : Setting) (s : State) → Grows s (turn_unless b setting s).0
turn_unless_grows true setting s = stays s
turn_unless_grows false setting s = turn_at_grows setting (head_of s.world.queue) (silent rewound_world s)

pub turn_grows : (setting : Setting) (s : State) → Grows s (turn setting s).0
turn_grows setting s = turn_unless_grows s.world.stopped setting s

more_grows : (rest : State → State × Turned) → ((b : State) → Grows b (rest b).0) → (t : Turned) (a : State) → Grows a (more_turns rest t a).0
more_grows rest g Fired a = g a
more_grows rest g Idle a = stays a
more_grows rest g NoMemory a = stays a
more_grows rest g Stopped a = stays a

pub run_grows : (setting : Setting) (n : ℕ) (s : State) → Grows s (run setting n s).0
run_grows setting zero s = stays s
run_grows setting (suc n) s = let r = turn setting s in then_grows s r.0 (more_turns (run setting n) r.1 r.0).0 (turn_grows setting s) (more_grows (run setting n) (run_grows setting n) r.1 r.0)

awaited_grows : (a : Option Awaited) (s : State) → Grows s (awaited_freed a s)
awaited_grows None s = stays s
awaited_grows (Some a) s = freed_grows a.root s

wait_valued_grows : (o : Option Outcome) (s : State) → Grows s (wait_valued o s).0
wait_valued_grows None s = stays s
wait_valued_grows (Some o) s = awaited_grows s.world.awaited s

wait_done_grows : (setting : Setting) (a : Option Awaited) (s : State) → Grows s (wait_value_at setting a s).0
wait_done_grows setting None s = stays s
wait_done_grows setting (Some a) s = let r = value setting a.root s in then_grows s r.0 (wait_valued r.1 r.0).0 (value_grows setting a.root s) (wait_valued_grows r.1 r.0)

name_back_grows : (b : Bool) (a : Awaited) (s : State) → Grows s (name_back b a s)
name_back_grows true a s = freed_grows a.root s
name_back_grows false a s = stays s

let_go_grows : (a : Option Awaited) (s : State) → Grows s (let_go_of a s)
let_go_grows None s = stays s
let_go_grows (Some a) s = name_back_grows (is_name a.name s.world.names) a s

let_go_all : (s : State) → Grows s (let_go s)
let_go_all s = let_go_grows s.world.awaited (silent (disarmed_node 0) s)

wait_turned_grows : (setting : Setting) (rest : State → State × Waited) → ((b : State) → Grows b (rest b).0) → (b : Bool) (t : Turned) (a : State) → Grows a (wait_turned setting rest b t a).0
wait_turned_grows setting rest g true Fired a = wait_done_grows setting a.world.awaited a
wait_turned_grows setting rest g false Fired a = g a
wait_turned_grows setting rest g true Idle a = stays a
wait_turned_grows setting rest g false Idle a = stays a
wait_turned_grows setting rest g true NoMemory a = stays a
wait_turned_grows setting rest g false NoMemory a = stays a
wait_turned_grows setting rest g true Stopped a = stays a
wait_turned_grows setting rest g false Stopped a = stays a

wait_turn_grows : (setting : Setting) (rest : State → State × Waited) → ((b : State) → Grows b (rest b).0) → (e : Option ℕ) (s : State) → Grows s (wait_turn setting rest e s).0
wait_turn_grows setting rest g None s = let_go_all s
wait_turn_grows setting rest g (Some e) s = let r = turn setting s in then_grows s r.0 (wait_turned setting rest (e == 0) r.1 r.0).0 (turn_grows setting s) (wait_turned_grows setting rest g (e == 0) r.1 r.0)

wait_more_grows : (setting : Setting) (n : ℕ) (s : State) → Grows s (wait_more setting n s).0
wait_more_grows setting zero s = let_go_all s
wait_more_grows setting (suc n) s = wait_turn_grows setting (wait_more setting n) (wait_more_grows setting n) (head_of s.world.queue) s

wait_held_grows : (setting : Setting) (name n : ℕ) (o : Option Held) (s : State) → Grows s (wait_held setting name n o s).0
wait_held_grows setting name n None s = stays s
wait_held_grows setting name n (Some (Promise root)) s = wait_more_grows setting n (silent (held_awaited name root) s)
wait_held_grows setting name n (Some (CellOf cell)) s = stays s
wait_held_grows setting name n (Some (AskCell cell is_taken)) s = stays s
wait_held_grows setting name n (Some (HubOf hub)) s = stays s
wait_held_grows setting name n (Some (Group error tasks empty)) s = stays s
wait_held_grows setting name n (Some (Canceler wraps)) s = stays s
wait_held_grows setting name n (Some (RequestOf r)) s = stays s

wait_unless_grows : (b : Bool) (setting : Setting) (name n : ℕ) (s : State) → Grows s (wait_unless b setting name n s).0
wait_unless_grows true setting name n s = stays s
wait_unless_grows false setting name n s = wait_held_grows setting name n (held_at name s.world.names) s

pub wait_grows : (setting : Setting) (name n : ℕ) (s : State) → Grows s (wait setting name n s).0
wait_grows setting name n s = wait_unless_grows s.world.stopped setting name n s

freed_all : (guard : Guard) (ns : List ℕ) (s : State) → Grows s (each_freed (free guard) ns s)
freed_all guard ns s = each_freed_grows (free guard) (free_grows guard) ns s

closed_grows : (h : Held) (s : State) → Grows s (closed_held h s)
closed_grows (Promise root) s = free_grows (Holding []) root s
closed_grows (CellOf cell) s = stays s
closed_grows (AskCell cell is_taken) s = stays s
closed_grows (HubOf hub) s = reference_grows (Holding []) (free (Holding [])) (free_grows (Holding [])) hub (silent (hub_unnamed hub) s)
closed_grows (Group error tasks empty) s = freed_all (Holding []) (reverse tasks) s
closed_grows (Canceler wraps) s = stays s
closed_grows (RequestOf None) s = stays s
closed_grows (RequestOf (Some n)) s = free_grows (Holding []) n s

each_closed_grows : (names : List Named) (s : State) → Grows s (each_closed names s)
each_closed_grows [] s = stays s
each_closed_grows (x ∷ xs) s =
    let a = silent (unnamed x.name) s in
    then_grows s (closed_held x.held a) (each_closed xs (closed_held x.held a)) (closed_grows x.held a) (each_closed_grows xs (closed_held x.held a))

pub close_grows : (s : State) → Grows s (close s)
close_grows s =
    let a = left_over_closed s in
    let b = names_closed a in
    let c = detached_closed b in
    then_grows s c (hubs_closed c)
    (then_grows s b c (then_grows s a b (freed_all (Holding []) s.world.left_over s) (each_closed_grows a.world.names a)) (freed_all (Holding []) (reverse b.world.detached) b))
    (freed_all Every (hubs_of c.world.nodes) c)

pub call_grows : (setting : Setting) (c : Call) (s : State) → Grows s (call setting c s).0
call_grows setting (CallApply command) s = apply_grows setting false command s
call_grows setting CallTurn s = turn_grows setting s
call_grows setting (CallRun turns) s = run_grows setting turns s
call_grows setting (CallWait name turns) s = wait_grows setting name turns s
call_grows setting CallTakeAsk s = stays s
call_grows setting CallTakeEnded s = stays s
call_grows setting CallTakeAbandoned s = stays s
call_grows setting CallClose s = close_grows s

pub calls_grow : (setting : Setting) (cs : List Call) (s : State) → Grows s (calls setting cs s).0
calls_grow setting [] s = stays s
calls_grow setting (c ∷ cs) s = let r = call setting c s in then_grows s r.0 (calls setting cs r.0).0 (call_grows setting c s) (calls_grow setting cs r.0)
