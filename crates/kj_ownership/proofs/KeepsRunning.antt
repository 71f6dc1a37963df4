-- No command stops the loop.
use Rattle.std.proofs.Common.{◌≡◌, ◌∙◌, ◌+◌, refl, ℕ, List, [], ◌∷◌, Option, None, Some, Bool, true, false}
use Rattle.std.specs.Prelude.{nat_lt, reverse}
use Rattle.kj_base.specs.declared.outcomes.Outcome.{Outcome}
use Rattle.kj_base.specs.declared.outcomes.Outcome.TheVariants.{Value, Broken as BrokenBy}
use Rattle.kj_model.specs.Outcomes.{void, cancelled, fulfiller_dropped}
use Rattle.kj_base.specs.declared.endings.Ending.{Ending}
use Rattle.kj_base.specs.declared.endings.Ending.TheVariants.{Value as Give, Throw, Promise as GivePromise, Input}
use Rattle.kj_base.specs.Commands.{Command, Action, Now, Broken, Later, Last, Pair, Then, Chain, Eager, Fork, Branch, Race, All, Fast, Fulfil, Reject, DropCell, NewSet, Add, Clear, OnEmpty, NewCanceler, Wrap, Cancel, Detach, Drop, Ask, Begin, Stop, Reply}
use Rattle.kj_base.specs.Queue.{Way, DepthFirst, BreadthFirst}
use Rattle.kj_base.specs.Places.{Spot, spot_of}
use Rattle.kj_model.specs.Nodes.{Form, Tree, Kept, Waits, Ready, Later as LaterNode, Last as LastNode, Cell, Branch as BranchNode, Then as ThenNode, Chain as ChainNode, Eager as EagerNode, Wrap as WrapNode, Hub, Side, Race as RaceNode, Join, Task, Request, form_at}
use Rattle.kj_model.specs.World.{World, State, Setting, Held, Promise, HubOf, Group, Canceler, RequestOf, held_at, depth_of}
use Rattle.kj_model.specs.Changes.{silent, put, arm_listener, unnamed, named}
use Rattle.kj_model.specs.Places.{placed_if, placed_over, placed, built}
use Rattle.kj_model.specs.Listening.{listener, announced, listened_way, listened_if, listened, is_last, ready, settled_form, settled}
use Rattle.kj_model.specs.Free.{Guard, guarded_too, free, each_freed, free_unless, free_unreferenced, is_guarded, usual}
use Rattle.kj_model.specs.Effects.{over_listening, chain_built, fork_built, branch_built, numbers_from, trees_named, added, wrap_built, with_detached, detached_built, request_built, disarmed_node, without_abandoned, leaf_built, over_built, over_named, node_named, with_branch_in, sides_built, each_listened, added_in, emptied, cleared_in, empty_built_in, wrapped_in, wrap_cancelled, each_cancelled, wraps_of, hub_unnamed_in, hub_unnamed, dropped_held, effect}
use Rattle.kj_model.specs.Apply.{Refused, refusal, applied, apply}
use Rattle.kj_model.specs.Value.{holds_firing, took_if, promise_taken, promise_ended, ended, rest_applied, all_applied, ended_if, acted}
use Rattle.kj_model.proofs.Falling.{node_frees}

-- whether the loop has stopped is the same
abbrev pub Runs : World → World → Type 0
Runs w v = v.stopped ≡ w.stopped

armed_runs : (way : Way) (o : Option ℕ) (w : World) → Runs w (arm_listener way o w)
armed_runs way None w = refl
armed_runs way (Some n) w = refl

pub announced_runs : (way : Way) (n : ℕ) (w : World) → Runs w (announced way n w)
announced_runs way n w = armed_runs way (listener n w) w

listened_case : (b : Bool) (n : ℕ) (w : World) → Runs w (listened_if b n w)
listened_case true n w = announced_runs (listened_way (is_last (depth_of w) w.nodes n)) n w
listened_case false n w = refl

pub listened_runs : (n : ℕ) (w : World) → Runs w (listened n w)
listened_runs n w = listened_case (ready (depth_of w) w.nodes n) n w

settled_case : (way : Way) (n : ℕ) (o : Outcome) (f : Option Form) (w : World) → Runs w (settled_form way n o f w)
settled_case way n o (Some (Cell None)) w = announced_runs way n (put n (Cell (Some o)) w)
settled_case way n o (Some (Cell (Some x))) w = refl
settled_case way n o None w = refl
settled_case way n o (Some _) w = refl

settled_runs : (way : Way) (n : ℕ) (o : Outcome) (w : World) → Runs w (settled way n o w)
settled_runs way n o w = settled_case way n o (form_at n w.nodes) w

if_runs : (b : Bool) (x : Spot) (w : World) → Runs w (placed_if b x w)
if_runs true x w = refl
if_runs false x w = refl

over_runs : (o : Option Spot) (w : World) → Runs w (placed_over o w)
over_runs None w = refl
over_runs (Some x) w = if_runs (nat_lt 0 x.place) x w

placed_runs : (before : Option ℕ) (w : World) → Runs w (placed before w)
placed_runs None w = refl
placed_runs (Some n) w = over_runs (spot_of n w.spots) w

built_runs : (before : Option ℕ) (form : Form) (w : World) → Runs w (built before form w)
built_runs before form w = placed_runs before w

source_runs : (form : ℕ → Form) (source : ℕ) (w : World) → Runs w (over_built form source w)
source_runs form source w = built_runs (Some (node_named source w)) (form (node_named source w)) (unnamed source w)

branch_runs : (n hub : ℕ) (f : Option Form) (w : World) → Runs w (with_branch_in n hub f w)
branch_runs n hub (Some (Hub content is_named branches)) w = refl
branch_runs n hub None w = refl
branch_runs n hub (Some _) w = refl

sides_runs : (sources : List ℕ) (w : World) → Runs w (sides_built sources w)
sides_runs [] w = refl
sides_runs (source ∷ more) w = sides_runs more (over_built (λ t. Side (Waits t)) source w) ∙ source_runs (λ t. Side (Waits t)) source w

each_runs : (ns : List ℕ) (w : World) → Runs w (each_listened ns w)
each_runs [] w = refl
each_runs (n ∷ ns) w = each_runs ns (listened n w) ∙ listened_runs n w

added_runs : (group task : ℕ) (h : Option Held) (w : World) → Runs w (added_in group task h w)
added_runs group task (Some (Group error tasks empty)) w = refl
added_runs group task None w = refl
added_runs group task (Some _) w = refl

pub emptied_runs : (group : ℕ) (h : Option Held) (w : World) → Runs w (emptied group h w)
emptied_runs group (Some (Group error [] (Some cell))) w = settled_runs DepthFirst cell void (named group (Group error [] None) w)
emptied_runs group (Some (Group error [] None)) w = refl
emptied_runs group (Some (Group error (t ∷ ts) empty)) w = refl
emptied_runs group None w = refl
emptied_runs group (Some _) w = refl

wrapped_runs : (canceler wrap : ℕ) (h : Option Held) (w : World) → Runs w (wrapped_in canceler wrap h w)
wrapped_runs canceler wrap (Some (Canceler wraps)) w = refl
wrapped_runs canceler wrap None w = refl
wrapped_runs canceler wrap (Some _) w = refl

empty_runs : (name group : ℕ) (h : Option Held) (w : World) → Runs w (empty_built_in name group h w)
empty_runs name group (Some (Group error (t ∷ ts) empty)) w = built_runs None (Cell None) w
empty_runs name group (Some (Group error [] empty)) w = built_runs None (Ready void) w
empty_runs name group None w = built_runs None (Ready void) w
empty_runs name group (Some _) w = built_runs None (Ready void) w

pub free_runs : (guard : Guard) (n : ℕ) (s : State) → Runs s.world (free guard n s).world
free_runs guard n s = (node_frees guard (depth_of s.world) n s).frame.same.stopped

each_free_runs : (guard : Guard) (ns : List ℕ) (s : State) → Runs s.world (each_freed (free guard) ns s).world
each_free_runs guard [] s = refl
each_free_runs guard (n ∷ ns) s = each_free_runs guard ns (free guard n s) ∙ free_runs guard n s

unless_runs : (b : Bool) (guard : Guard) (hub : ℕ) (s : State) → Runs s.world (free_unless b (free guard) hub s).world
unless_runs true guard hub s = refl
unless_runs false guard hub s = free_runs guard hub s

unreferenced_runs : (guard : Guard) (hub : ℕ) (f : Option Form) (s : State) → Runs s.world (free_unreferenced guard (free guard) hub f s).world
unreferenced_runs guard hub (Some (Hub content false [])) s = unless_runs (is_guarded guard hub s.world) guard hub s
unreferenced_runs guard hub (Some (Hub content false (b ∷ bs))) s = refl
unreferenced_runs guard hub (Some (Hub content true bs)) s = refl
unreferenced_runs guard hub None s = refl
unreferenced_runs guard hub (Some _) s = refl

hub_runs : (hub : ℕ) (f : Option Form) (w : World) → Runs w (hub_unnamed_in hub f w)
hub_runs hub (Some (Hub content is_named branches)) w = refl
hub_runs hub None w = refl
hub_runs hub (Some _) w = refl

cleared_runs : (guard : Guard) (group : ℕ) (h : Option Held) (s : State) → Runs s.world (cleared_in guard group h s).world
cleared_runs guard group (Some (Group error (t ∷ ts) empty)) s =
    let u = each_freed (free guard) (reverse (t ∷ ts)) (silent (named group (Group error [] empty)) s) in
    emptied_runs group (held_at group u.world.names) u.world ∙ each_free_runs guard (reverse (t ∷ ts)) (silent (named group (Group error [] empty)) s)
cleared_runs guard group (Some (Group error [] empty)) s = refl
cleared_runs guard group None s = refl
cleared_runs guard group (Some _) s = refl

wrap_runs : (guard : Guard) (n : ℕ) (f : Option Form) (s : State) → Runs s.world (wrap_cancelled guard n f s).world
wrap_runs guard n (Some (WrapNode canceler (Tree t))) s = announced_runs DepthFirst n (put n (WrapNode canceler (Kept cancelled)) (disarmed_node n (free (guarded_too n guard) t s).world)) ∙ free_runs (guarded_too n guard) t s
wrap_runs guard n (Some (WrapNode canceler (Kept o))) s = refl
wrap_runs guard n None s = refl
wrap_runs guard n (Some _) s = refl

cancelled_runs : (guard : Guard) (ns : List ℕ) (s : State) → Runs s.world (each_cancelled guard ns s).world
cancelled_runs guard [] s = refl
cancelled_runs guard (n ∷ ns) s = let f = form_at n s.world.nodes in cancelled_runs guard ns (wrap_cancelled guard n f s) ∙ wrap_runs guard n f s

dropped_runs : (guard : Guard) (name : ℕ) (h : Option Held) (s : State) → Runs s.world (dropped_held guard name h s).world
dropped_runs guard name (Some (Promise root)) s = free_runs guard root (silent (unnamed name) s)
dropped_runs guard name (Some (HubOf hub)) s =
    let u = silent (λ w. hub_unnamed hub (unnamed name w)) s in
    unreferenced_runs guard hub (form_at hub u.world.nodes) u ∙ hub_runs hub (form_at hub s.world.nodes) (unnamed name s.world)
dropped_runs guard name (Some (Group error tasks empty)) s = cleared_runs guard name (held_at name s.world.names) s
dropped_runs guard name (Some (Canceler wraps)) s = cancelled_runs guard (reverse (wraps_of (held_at name s.world.names))) s
dropped_runs guard name None s = refl
dropped_runs guard name (Some _) s = refl

leaf_runs : (name : ℕ) (form : Form) (w : World) → Runs w (leaf_built name form w)
leaf_runs name form w = built_runs None form w

chain_runs : (name source : ℕ) (v e : Option ℕ) (w : World) → Runs w (chain_built name source v e w)
chain_runs name source v e w =
    let o = over_built (λ t. ThenNode v e (Some t)) source w in
    let b = built (Some w.next) (ChainNode w.next) o in
    listened_runs w.next (named name (Promise (w.next + 1)) b) ∙ built_runs (Some w.next) (ChainNode w.next) o ∙ source_runs (λ t. ThenNode v e (Some t)) source w

eager_runs : (name : ℕ) (form : ℕ → Form) (source : ℕ) (w : World) → Runs w (over_listening name form source w)
eager_runs name form source w = listened_runs (node_named source w) (over_named name form source w) ∙ source_runs form source w

fork_runs : (hub source : ℕ) (w : World) → Runs w (fork_built hub source w)
fork_runs hub source w =
    let t = node_named source w in
    let form : Form = Hub (Tree t) true [] in
    listened_runs t (named hub (HubOf w.next) (built None form (unnamed source w))) ∙ built_runs None form (unnamed source w)

new_branch_runs : (name hub : ℕ) (w : World) → Runs w (branch_built name hub w)
new_branch_runs name hub w =
    let h = node_named hub w in
    branch_runs w.next h (form_at h w.nodes) (leaf_built name (BranchNode h) w) ∙ leaf_runs name (BranchNode h) w

over_sides_runs : (name : ℕ) (form : Form) (sources : List ℕ) (w : World) → Runs w (each_listened (trees_named sources w) (leaf_built name form (sides_built sources w)))
over_sides_runs name form sources w = each_runs (trees_named sources w) (leaf_built name form (sides_built sources w)) ∙ leaf_runs name form (sides_built sources w) ∙ sides_runs sources w

task_runs : (group source : ℕ) (w : World) → Runs w (added group source w)
task_runs group source w =
    let t = node_named source w in
    let o = over_built (λ root. Task (Some root)) source w in
    listened_runs t (added_in group w.next (held_at group w.names) o) ∙ added_runs group w.next (held_at group w.names) o ∙ source_runs (λ root. Task (Some root)) source w

new_wrap_runs : (name canceler source : ℕ) (w : World) → Runs w (wrap_built name canceler source w)
new_wrap_runs name canceler source w =
    let t = node_named source w in
    let o = over_named name (λ root. WrapNode canceler (Tree root)) source w in
    listened_runs t (wrapped_in canceler w.next (held_at canceler w.names) o) ∙ wrapped_runs canceler w.next (held_at canceler w.names) o ∙ source_runs (λ root. WrapNode canceler (Tree root)) source w

detached_runs : (source : ℕ) (w : World) → Runs w (detached_built source w)
detached_runs source w = listened_runs (node_named source w) (with_detached w.next (over_built (λ root. Task (Some root)) source w)) ∙ source_runs (λ root. Task (Some root)) source w

request_runs : (request step : ℕ) (words : List ℕ) (w : World) → Runs w (request_built request step words w)
request_runs request step words w =
    let n = w.next in
    let a = built None (Ready (Value words)) w in
    let b = built (Some n) (ThenNode (Some step) None (Some n)) a in
    let c = built (Some (n + 1)) (ChainNode (n + 1)) b in
    let d = built (Some (n + 2)) (Request request (Some (n + 2))) c in
    listened_runs (n + 1) (named request (RequestOf (Some (n + 3))) d) ∙ built_runs (Some (n + 2)) (Request request (Some (n + 2))) c ∙ built_runs (Some (n + 1)) (ChainNode (n + 1)) b ∙ built_runs (Some n) (ThenNode (Some step) None (Some n)) a ∙ built_runs None (Ready (Value words)) w

-- no command stops the loop
effect_runs : (guard : Guard) (c : Command) (s : State) → Runs s.world (effect guard c s).world
effect_runs guard (Now name words) s = leaf_runs name (Ready (Value words)) s.world
effect_runs guard (Broken name exception) s = leaf_runs name (Ready (BrokenBy exception)) s.world
effect_runs guard (Later name) s = leaf_runs name LaterNode s.world
effect_runs guard (Last name) s = leaf_runs name LastNode s.world
effect_runs guard (Pair name cell) s = leaf_runs name (Cell None) s.world
effect_runs guard (Then name source value error) s = source_runs (λ t. ThenNode value error (Some t)) source s.world
effect_runs guard (Chain name source value error) s = chain_runs name source value error s.world
effect_runs guard (Eager name source) s = eager_runs name (λ t. EagerNode (Tree t)) source s.world
effect_runs guard (Fork hub source) s = fork_runs hub source s.world
effect_runs guard (Branch name hub) s = new_branch_runs name hub s.world
effect_runs guard (Race name left right) s = over_sides_runs name (RaceNode s.world.next (s.world.next + 1) None) (left ∷ right ∷ []) s.world
effect_runs guard (All name sources) s = over_sides_runs name (Join false (numbers_from s.world.next sources)) sources s.world
effect_runs guard (Fast name sources) s = over_sides_runs name (Join true (numbers_from s.world.next sources)) sources s.world
effect_runs guard (Fulfil cell words) s = settled_runs DepthFirst (node_named cell s.world) (Value words) s.world
effect_runs guard (Reject cell exception) s = settled_runs DepthFirst (node_named cell s.world) (BrokenBy exception) s.world
effect_runs guard (DropCell cell) s = settled_runs DepthFirst (node_named cell s.world) fulfiller_dropped (unnamed cell s.world)
effect_runs guard (NewSet group error) s = refl
effect_runs guard (Add group source) s = task_runs group source s.world
effect_runs guard (Clear group) s = cleared_runs guard group (held_at group s.world.names) s
effect_runs guard (OnEmpty name group) s = empty_runs name group (held_at group s.world.names) s.world
effect_runs guard (NewCanceler canceler) s = refl
effect_runs guard (Wrap name canceler source) s = new_wrap_runs name canceler source s.world
effect_runs guard (Cancel canceler) s = cancelled_runs guard (reverse (wraps_of (held_at canceler s.world.names))) s
effect_runs guard (Detach source) s = detached_runs source s.world
effect_runs guard (Drop name) s = dropped_runs guard name (held_at name s.world.names) s
effect_runs guard (Ask name cell target step words) s = leaf_runs name (Cell None) s.world
effect_runs guard (Begin request step words) s = request_runs request step words s.world
effect_runs guard (Stop request) s = free_runs guard (node_named request s.world) (silent (named request (RequestOf None)) s)
effect_runs guard (Reply cell outcome) s = settled_runs BreadthFirst (node_named cell s.world) outcome (without_abandoned cell (unnamed cell s.world))

applied_runs : (o : Option Refused) (c : Command) (s : State) → Runs s.world (applied o c s).0.world
applied_runs None c s = effect_runs (usual s.world) c s
applied_runs (Some refused) c s = refl

pub apply_runs : (setting : Setting) (inside : Bool) (c : Command) (s : State) → Runs s.world (apply setting inside c s).0.world
apply_runs setting inside c s = applied_runs (refusal setting inside c s) c s

rest_runs : (o : Option Refused) (rest : State → State × Bool) (s : State) → ((t : State) → Runs t.world (rest t).0.world) → Runs s.world (rest_applied o rest s).0.world
rest_runs None rest s h = h s
rest_runs (Some refused) rest s h = refl

all_runs : (setting : Setting) (cs : List Command) (s : State) → Runs s.world (all_applied setting cs s).0.world
all_runs setting [] s = refl
all_runs setting (c ∷ cs) s = let r = apply setting true c s in rest_runs r.1 (all_applied setting cs) r.0 (all_runs setting cs) ∙ apply_runs setting true c s

took_runs : (b : Bool) (name root : ℕ) (s : State) → Runs s.world (took_if b name root s).0.world
took_runs true name root s = refl
took_runs false name root s = refl

taken_runs : (name : ℕ) (h : Option Held) (s : State) → Runs s.world (promise_taken name h s).0.world
taken_runs name (Some (Promise root)) s = took_runs (holds_firing s.world.firing root s.world) name root s
taken_runs name None s = refl
taken_runs name (Some _) s = refl

promise_runs : (under : Bool) (name : ℕ) (s : State) → Runs s.world (promise_ended under name s).0.world
promise_runs true name s = taken_runs name (held_at name s.world.names) s
promise_runs false name s = refl

ended_runs : (ending : Ending) (under : Bool) (input : Outcome) (s : State) → Runs s.world (ended ending under input s).0.world
ended_runs (Give words) under input s = refl
ended_runs (Throw exception) under input s = refl
ended_runs (GivePromise name) under input s = promise_runs under name.0 s
ended_runs Input under input s = refl

ended_case : (b : Bool) (ending : Ending) (under : Bool) (input : Outcome) (s : State) → Runs s.world (ended_if b ending under input s).0.world
ended_case true ending under input s = ended_runs ending under input s
ended_case false ending under input s = refl

pub acted_runs : (setting : Setting) (action : Action) (under : Bool) (input : Outcome) (s : State) → Runs s.world (acted setting action under input s).0.world
acted_runs setting action under input s = let r = all_applied setting action.commands s in ended_case r.1 action.ending under input r.0 ∙ all_runs setting action.commands s
