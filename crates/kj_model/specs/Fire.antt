-- What an event does when it fires.
use Rattle.std.specs.Prelude.{ℕ, List, [], ◌∷◌, ◌++◌, Option, None, Some, Bool, true, false, ◌==◌, find, map}
use Rattle.kj_base.specs.declared.outcomes.Outcome.{Outcome}
use Rattle.kj_base.specs.declared.outcomes.Outcome.TheVariants.{Value, Broken}
use Rattle.kj_base.specs.Queue.{DepthFirst}
use Rattle.kj_model.specs.Nodes.{Form, Content, Tree, Kept, Stage, Waits, Fired, Gone, Ready, Chain, Eager, Wrap, Hub, Side, Race, Join, Task, Request, Entry, form_at, owner_of, renamed, with_tree_renamed, kept_form, dropped, is_in}
use Rattle.kj_model.specs.World.{World, State, Setting, Named, Held, Promise, Group, RequestOf, Awaited}
use Rattle.kj_model.specs.Changes.{silent, put, gone, named}
use Rattle.kj_model.specs.Listening.{listened, announced, join_ready}
use Rattle.kj_model.specs.Effects.{now_empty, with_ended}
use Rattle.kj_model.specs.Value.{Given, Gave, Took, value, value_link, freed, run_step}

-- a promise whose tree was replaced
abbrev pub held_renamed : ℕ → ℕ → Held → Held
held_renamed old new (Promise root) = Promise (renamed old new root)
held_renamed old new other = other

-- a name whose tree was replaced
abbrev pub named_renamed : ℕ → ℕ → Named → Named
named_renamed old new x = record { name = x.name; held = held_renamed old new x.held }

-- an awaited tree that was replaced
abbrev pub awaited_renamed : ℕ → ℕ → Option Awaited → Option Awaited
awaited_renamed old new None = None
awaited_renamed old new (Some a) = Some (record { name = a.name; root = renamed old new a.root })

-- the tree new takes the place of old: under its owner, under a name, or awaited
abbrev pub replaced : ℕ → ℕ → World → World
replaced old new w = record w { nodes = with_tree_renamed old new w.nodes; names = map (named_renamed old new) w.names; awaited = awaited_renamed old new w.awaited }

-- a Chain becomes the promise that its step gave, or Ready in place
abbrev pub chain_ended : ℕ → ℕ → Option Given → State → State
chain_ended n link None s = s
chain_ended n link (Some (Gave o)) s = silent (λ w. listened n (put n (Ready o) w)) (freed link s)
chain_ended n link (Some (Took root)) s = gone n (silent (λ w. listened root (replaced n root w)) (freed link s))

-- the outcome of a node in place of its tree
abbrev pub kept_at : ℕ → Outcome → Option Form → World → World
kept_at n o None w = w
kept_at n o (Some form) w = put n (kept_form o form) w

-- this node keeps this outcome now
abbrev pub keeps : ℕ → Outcome → World → World
keeps n o w = kept_at n o (form_at n w.nodes) w

-- a tree was evaluated: it is freed, the outcome kept, and then the listeners are armed
abbrev pub kept_then : (World → World) → ℕ → ℕ → Option Outcome → State → State
kept_then after n t None s = s
kept_then after n t (Some o) s = silent (λ w. after (keeps n o w)) (freed t s)

-- a node with a tree evaluates it; one with an outcome does nothing
abbrev pub kept_from : Setting → (World → World) → ℕ → Content → State → State
kept_from setting after n (Tree t) s = let r = value setting t s in kept_then after n t r.1 r.0
kept_from setting after n (Kept o) s = s

-- the listeners of these nodes in order
abbrev pub each_announced : List ℕ → World → World
each_announced [] w = w
each_announced (n ∷ ns) w = each_announced ns (announced DepthFirst n w)

-- the branches of a hub
abbrev pub branches_of : Option Form → List ℕ
branches_of (Some (Hub content is_named branches)) = branches
branches_of other = []

-- the branches of a hub in the order of making
abbrev pub branches_announced : ℕ → World → World
branches_announced hub w = each_announced (branches_of (form_at hub w.nodes)) w

-- the Side that didn't fire
abbrev pub other_side : Bool → ℕ → ℕ → ℕ
other_side true left right = right
other_side false left right = left

-- the tree of a Side is freed
abbrev pub tree_freed : Option Form → State → State
tree_freed (Some (Side (Waits t))) s = freed t s
tree_freed (Some (Side (Fired t))) s = freed t s
tree_freed other s = s

-- the first Side of a Race: the other's tree is freed, and the Race is ready
abbrev pub race_won : ℕ → ℕ → ℕ → ℕ → ℕ → ℕ → State → State
race_won race left right side other t s = silent (λ w. announced DepthFirst race (put other (Side Gone) w)) (tree_freed (form_at other s.world.nodes) (silent (λ w. put race (Race left right (Some side)) (put side (Side (Fired t)) w)) s))

-- a Side that fires second does nothing
abbrev pub race_fired : ℕ → ℕ → ℕ → Option ℕ → ℕ → ℕ → State → State
race_fired race left right None side t s = race_won race left right side (other_side (left == side) left right) t s
race_fired race left right (Some winner) side t s = s

-- the listener of this node, where it became ready
abbrev pub announced_if : Bool → ℕ → World → World
announced_if true n w = announced DepthFirst n w
announced_if false n w = w

-- the Side of an All only counts
abbrev pub all_fired : ℕ → List ℕ → ℕ → ℕ → World → World
all_fired join sides side t w = let v = put side (Side (Fired t)) w in announced_if (join_ready false sides v.nodes) join v

-- a fast join becomes ready once
abbrev pub fast_announced : Bool → ℕ → List ℕ → World → World
fast_announced true join sides w = w
fast_announced false join sides w = announced_if (join_ready true sides w.nodes) join w

-- the Side of a fast join keeps its outcome
abbrev pub fast_fired : Setting → ℕ → List ℕ → ℕ → ℕ → State → State
fast_fired setting join sides side t s = kept_from setting (fast_announced (join_ready true sides s.world.nodes) join sides) side (Tree t) s

-- the Side of a fast join, or of another
abbrev pub join_fired : Setting → Bool → ℕ → List ℕ → ℕ → ℕ → State → State
join_fired setting true join sides side t s = fast_fired setting join sides side t s
join_fired setting false join sides side t s = silent (all_fired join sides side t) s

-- a Side under a Race or a join
abbrev pub side_fired_under : Setting → ℕ → Form → ℕ → ℕ → State → State
side_fired_under setting owner (Race left right winner) side t s = race_fired owner left right winner side t s
side_fired_under setting owner (Join fast sides) side t s = join_fired setting fast owner sides side t s
side_fired_under setting owner other side t s = s

-- a Side under its owner
abbrev pub side_fired_by : Setting → Option Entry → ℕ → ℕ → State → State
side_fired_by setting None side t s = s
side_fired_by setting (Some owner) side t s = side_fired_under setting owner.number owner.form side t s

-- a Side that waits fires once
abbrev pub side_fired : Setting → ℕ → Stage → State → State
side_fired setting n (Waits t) s = side_fired_by setting (owner_of n s.world.nodes) n t s
side_fired setting n other s = s

-- a set with this task
abbrev pub has_task : ℕ → Held → Bool
has_task n (Group error tasks empty) = is_in n tasks
has_task n other = false

-- the error step of a set
abbrev pub error_of : Held → Option ℕ
error_of (Group error tasks empty) = error
error_of other = None

-- a set without this task
abbrev pub without_task : ℕ → Held → Held
without_task n (Group error tasks empty) = Group error (dropped n tasks) empty
without_task n other = other

-- the set of a task
abbrev pub group_of : ℕ → List Named → Option Named
group_of n names = find (λ (x : Named). has_task n x.held) names

-- the error step of a task's set; the loop's own has none
abbrev pub group_error : Option Named → Option ℕ
group_error None = None
group_error (Some x) = error_of x.held

-- the set without the task
abbrev pub group_left : ℕ → Option Named → World → World
group_left n None w = w
group_left n (Some x) w = now_empty x.name (named x.name (without_task n x.held) w)

-- a Task leaves its set, which may be empty now, or the loop's own set
abbrev pub set_left : ℕ → World → World
set_left n w = group_left n (group_of n w.names) (record w { detached = dropped n w.detached; left_over = w.left_over ++ n ∷ [] })

-- this tree is no longer left over
abbrev pub without_left_over : ℕ → World → World
without_left_over n w = record w { left_over = dropped n w.left_over }

-- the Task goes at last
abbrev pub task_gone : ℕ → State → State
task_gone n s = gone n (silent (without_left_over n) s)

-- what the error step gave doesn't count, but that it ran
abbrev pub task_stepped : ℕ → Option Given → State → State
task_stepped n None s = s
task_stepped n (Some given) s = task_gone n s

-- the error step, where there is one
abbrev pub error_run : Setting → ℕ → Outcome → Option ℕ → State → State
error_run setting n o None s = task_gone n s
error_run setting n o (Some step) s = let r = run_step setting false n step o s in task_stepped n r.1 r.0

-- the error step runs on an exception
abbrev pub task_ended : Setting → ℕ → Outcome → Option ℕ → State → State
task_ended setting n (Value words) error s = task_gone n s
task_ended setting n (Broken exception) error s = error_run setting n (Broken exception) error s

-- the Task leaves its set, and then the error step may run
abbrev pub task_left : Setting → ℕ → Outcome → State → State
task_left setting n o s = task_ended setting n o (group_error (group_of n s.world.names)) (silent (set_left n) s)

-- the tree of a Task was evaluated: it is freed
abbrev pub task_valued : Setting → ℕ → ℕ → Option Outcome → State → State
task_valued setting n t None s = s
task_valued setting n t (Some o) s = task_left setting n o (silent (put n (Task None)) (freed t s))

-- the tree of a Request was evaluated: it is freed, and the request has ended
abbrev pub request_valued : ℕ → ℕ → ℕ → Option Outcome → State → State
request_valued n name t None s = s
request_valued n name t (Some o) s = gone n (silent (λ w. named name (RequestOf None) (with_ended name o w)) (freed t s))

-- what the event of each form does
abbrev pub fire_form : Setting → ℕ → Option Form → State → State
fire_form setting n (Some (Chain link)) s = let r = value_link setting link s in chain_ended n link r.1 r.0
fire_form setting n (Some (Eager content)) s = kept_from setting (announced DepthFirst n) n content s
fire_form setting n (Some (Wrap canceler content)) s = kept_from setting (announced DepthFirst n) n content s
fire_form setting n (Some (Hub content is_named branches)) s = kept_from setting (branches_announced n) n content s
fire_form setting n (Some (Side stage)) s = side_fired setting n stage s
fire_form setting n (Some (Task (Some t))) s = let r = value setting t s in task_valued setting n t r.1 r.0
fire_form setting n (Some (Request name (Some t))) s = let r = value setting t s in request_valued n name t r.1 r.0
fire_form setting n other s = s

-- the event of this node fires, or none does
abbrev pub with_firing : Option ℕ → World → World
with_firing n w = record w { firing = n }

-- the event of node n fires
abbrev pub fire : Setting → ℕ → State → State
fire setting n s = silent (with_firing None) (fire_form setting n (form_at n s.world.nodes) (silent (with_firing (Some n)) s))
