-- Ready trees, their listeners, and arming.
use Rattle.std.specs.Prelude.{ℕ, zero, suc, List, Option, None, Some, Bool, true, false, not, ◌||◌, ◌&&◌, ◌==◌, is_some}
use Rattle.std.specs.List.{list_any}
use Rattle.kj_base.specs.declared.outcomes.Outcome.{Outcome}
use Rattle.kj_model.specs.Outcomes.{is_value}
use Rattle.kj_base.specs.Queue.{Way, BreadthFirst, AtLast}
use Rattle.kj_model.specs.Nodes.{Content, Tree, Kept, Waits, Keeps, Form, Ready, Later, Last, Cell, Branch, Then, Chain, Eager, Wrap, Hub, Side, Race, Join, Task, Request, Entry, form_at, owner_of, has_event}
use Rattle.kj_model.specs.World.{World, Awaited, depth_of}
use Rattle.kj_model.specs.Changes.{put, arm_listener}

-- it has its outcome
abbrev pub is_kept : Content → Bool
is_kept (Tree root) = false
is_kept (Kept outcome) = true

-- a branch is ready when its hub has its outcome
abbrev pub hub_ready : Option Form → Bool
hub_ready (Some (Hub content named branches)) = is_kept content
hub_ready other = false

-- a Side that waits still
abbrev pub waits : Option Form → Bool
waits (Some (Side (Waits root))) = true
waits other = false

-- a Side that keeps an exception
abbrev pub keeps_exception : Option Form → Bool
keeps_exception (Some (Side (Keeps outcome))) = not (is_value outcome)
keeps_exception other = false

-- a join is ready when no Side waits, and a fast one at the first exception too
abbrev pub join_ready : Bool → List ℕ → List Entry → Bool
join_ready fast sides nodes = (fast && list_any (λ side. keeps_exception (form_at side nodes)) sides) || not (list_any (λ side. waits (form_at side nodes)) sides)

-- a tree that is there and ready
abbrev pub ready_tree : (ℕ → Bool) → Option ℕ → Bool
ready_tree ready None = false
ready_tree ready (Some t) = ready t

-- when each form is ready
abbrev pub ready_form : (ℕ → Bool) → List Entry → Form → Bool
ready_form below nodes (Ready outcome) = true
ready_form below nodes Later = true
ready_form below nodes Last = true
ready_form below nodes (Cell outcome) = is_some outcome
ready_form below nodes (Branch hub) = hub_ready (form_at hub nodes)
ready_form below nodes (Then value error tree) = ready_tree below tree
ready_form below nodes (Chain link) = false
ready_form below nodes (Eager content) = is_kept content
ready_form below nodes (Wrap canceler content) = is_kept content
ready_form below nodes (Hub content named branches) = false
ready_form below nodes (Side stage) = false
ready_form below nodes (Race left right winner) = is_some winner
ready_form below nodes (Join fast sides) = join_ready fast sides nodes
ready_form below nodes (Task tree) = false
ready_form below nodes (Request name tree) = false

-- no node that isn't live is ready
abbrev pub ready_found : (ℕ → Bool) → List Entry → Option Form → Bool
ready_found below nodes None = false
ready_found below nodes (Some form) = ready_form below nodes form

-- whether the tree of a root is ready; the first argument bounds its depth
abbrev pub ready : ℕ → List Entry → ℕ → Bool
ready zero nodes n = false
ready (suc k) nodes n = ready_found (ready k nodes) nodes (form_at n nodes)

-- whether a tree, but for Thens above it, is the leaf Last
abbrev pub last_form : (ℕ → Bool) → Option Form → Bool
last_form below (Some Last) = true
last_form below (Some (Then value error tree)) = ready_tree below tree
last_form below other = false

-- whether the leaf below node n is Last; the first argument bounds its depth
abbrev pub is_last : ℕ → List Entry → ℕ → Bool
is_last zero nodes n = false
is_last (suc k) nodes n = last_form (is_last k nodes) (form_at n nodes)

-- the wait listens to the awaited tree, and nobody to another root
abbrev pub wait_if : Bool → Option ℕ
wait_if true = Some 0
wait_if false = None

-- who listens to a root
abbrev pub root_listener : Option Awaited → ℕ → Option ℕ
root_listener None n = None
root_listener (Some a) n = wait_if (a.root == n)

-- the owner where it has an event, else who listens to it
abbrev pub listener_if : Bool → (ℕ → Option ℕ) → ℕ → Option ℕ
listener_if true above owner = Some owner
listener_if false above owner = above owner

-- from the owner upwards
abbrev pub listener_over : (ℕ → Option ℕ) → Option Awaited → ℕ → Option Entry → Option ℕ
listener_over above awaited n None = root_listener awaited n
listener_over above awaited n (Some owner) = listener_if (has_event owner.form) above owner.number

-- the nearest node with an event above node n, or the wait, or nobody
abbrev pub listener_from : ℕ → World → ℕ → Option ℕ
listener_from zero w n = None
listener_from (suc k) w n = listener_over (listener_from k w) w.awaited n (owner_of n w.nodes)

-- who listens to the tree of node n
abbrev pub listener : ℕ → World → Option ℕ
listener n w = listener_from (depth_of w) w n

-- the tree of node n became ready: its listener is armed
abbrev pub announced : Way → ℕ → World → World
announced way n w = arm_listener way (listener n w) w

-- how a ready tree is armed when it gets a listener
abbrev pub listened_way : Bool → Way
listened_way true = AtLast
listened_way false = BreadthFirst

-- the listener is armed where the tree is ready
abbrev pub listened_if : Bool → ℕ → World → World
listened_if true n w = announced (listened_way (is_last (depth_of w) w.nodes n)) n w
listened_if false n w = w

-- the tree of root n got a listener: where it is ready, it arms it
abbrev pub listened : ℕ → World → World
listened n w = listened_if (ready (depth_of w) w.nodes n) n w

-- only a cell that waits is settled
abbrev pub settled_form : Way → ℕ → Outcome → Option Form → World → World
settled_form way n o (Some (Cell None)) w = announced way n (put n (Cell (Some o)) w)
settled_form way n o other w = w

-- a cell gets its outcome; nothing where it was settled before or its promise is gone
abbrev pub settled : Way → ℕ → Outcome → World → World
settled way n o w = settled_form way n o (form_at n w.nodes) w
