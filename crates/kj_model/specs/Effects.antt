-- What each command does, where it isn't refused.
use Rattle.std.specs.Prelude.{ℕ, ◌+◌, List, [], ◌∷◌, ◌++◌, Option, None, Some, Bool, true, false, reverse, map}
use Rattle.kj_base.specs.declared.outcomes.Outcome.{Outcome}
use Rattle.kj_base.specs.declared.outcomes.Outcome.TheVariants.{Value, Broken as BrokenBy}
use Rattle.kj_model.specs.Outcomes.{void, cancelled, fulfiller_dropped}
use Rattle.kj_base.specs.Commands.{Command, Now, Broken, Later, Last, Pair, Then, Chain, Eager, Fork, Branch, Race, All, Fast, Fulfil, Reject, DropCell, NewSet, Add, Clear, OnEmpty, NewCanceler, Wrap, Cancel, Detach, Drop, Ask, Begin, Stop, Reply}
use Rattle.kj_base.specs.Queue.{DepthFirst, BreadthFirst, disarmed}
use Rattle.kj_model.specs.Nodes.{Form, Tree, Kept, Waits, Ready, Later as LaterNode, Last as LastNode, Cell, Branch as BranchNode, Then as ThenNode, Chain as ChainNode, Eager as EagerNode, Wrap as WrapNode, Hub, Side, Race as RaceNode, Join, Task, Request, form_at, dropped}
use Rattle.kj_model.specs.World.{World, State, Held, Promise, CellOf, AskCell, HubOf, Group, Canceler, RequestOf, held_at}
use Rattle.kj_model.specs.Changes.{silent, put, with_queue, named, unnamed}
use Rattle.kj_model.specs.Places.{built}
use Rattle.kj_model.specs.Listening.{listened, settled, announced}
use Rattle.kj_model.specs.Free.{Guard, free, each_freed, reference_gone, guarded_too}

-- the node that a name holds, where it holds one
abbrev pub node_of : Option Held → ℕ
node_of (Some (Promise root)) = root
node_of (Some (CellOf cell)) = cell
node_of (Some (AskCell cell is_taken)) = cell
node_of (Some (HubOf hub)) = hub
node_of (Some (RequestOf (Some node))) = node
node_of other = 0

-- the node that this name holds
abbrev pub node_named : ℕ → World → ℕ
node_named name w = node_of (held_at name w.names)

-- a node without tree that a new name promises (kj/async.h: a constant promise, `evalLater`, `evalLast`, `newPromiseAndFulfiller`)
abbrev pub leaf_built : ℕ → Form → World → World
leaf_built name form w = named name (Promise w.next) (built None form w)

-- a node over the tree of a source, which leaves the map
abbrev pub over_built : (ℕ → Form) → ℕ → World → World
over_built form source w = let t = node_named source w in built (Some t) (form t) (unnamed source w)

-- the same, and a new name promises it (kj/async.h, `then`)
abbrev pub over_named : ℕ → (ℕ → Form) → ℕ → World → World
over_named name form source w = named name (Promise w.next) (over_built form source w)

-- the same, and the new node listens (kj/async.h, `eagerlyEvaluate`)
abbrev pub over_listening : ℕ → (ℕ → Form) → ℕ → World → World
over_listening name form source w = listened (node_named source w) (over_named name form source w)

-- a Then, and the Chain over it, which listens (kj/async.h, `then` with a continuation that gives a promise)
abbrev pub chain_built : ℕ → ℕ → Option ℕ → Option ℕ → World → World
chain_built name source v e w = listened w.next (named name (Promise (w.next + 1)) (built (Some w.next) (ChainNode w.next) (over_built (λ t. ThenNode v e (Some t)) source w)))

-- a hub over the tree of a source; it listens (kj/async.h, `fork`)
abbrev pub fork_built : ℕ → ℕ → World → World
fork_built hub source w = let t = node_named source w in listened t (named hub (HubOf w.next) (built None (Hub (Tree t) true []) (unnamed source w)))

-- a hub with one more branch
abbrev pub with_branch_in : ℕ → ℕ → Option Form → World → World
with_branch_in n hub (Some (Hub content is_named branches)) w = put hub (Hub content is_named (branches ++ n ∷ [])) w
with_branch_in n hub other w = w

-- a branch, which is its hub's newest (kj/async.h, `ForkedPromise::addBranch`)
abbrev pub branch_built : ℕ → ℕ → World → World
branch_built name hub w = let h = node_named hub w in with_branch_in w.next h (form_at h w.nodes) (leaf_built name (BranchNode h) w)

-- a Side over each source in order; each Side's number is the next one
abbrev pub sides_built : List ℕ → World → World
sides_built [] w = w
sides_built (source ∷ more) w = sides_built more (over_built (λ t. Side (Waits t)) source w)

-- as many numbers as the list is long, from this one on
abbrev pub numbers_from : ℕ → List ℕ → List ℕ
numbers_from n [] = []
numbers_from n (x ∷ xs) = n ∷ numbers_from (n + 1) xs

-- these trees got listeners, in order
abbrev pub each_listened : List ℕ → World → World
each_listened [] w = w
each_listened (n ∷ ns) w = each_listened ns (listened n w)

-- the trees of these sources
abbrev pub trees_named : List ℕ → World → List ℕ
trees_named sources w = map (λ source. node_named source w) sources

-- two Sides and the Race over them; the Sides listen (kj/async.h, `exclusiveJoin`)
abbrev pub race_built : ℕ → ℕ → ℕ → World → World
race_built name left right w = each_listened (trees_named (left ∷ right ∷ []) w) (leaf_built name (RaceNode w.next (w.next + 1) None) (sides_built (left ∷ right ∷ []) w))

-- a Side for each source and the join over them; the Sides listen (kj/async.h, `joinPromises`, `joinPromisesFailFast`)
abbrev pub join_built : Bool → ℕ → List ℕ → World → World
join_built fast name sources w = each_listened (trees_named sources w) (leaf_built name (Join fast (numbers_from w.next sources)) (sides_built sources w))

-- the cell of this name gets its outcome (kj/async.h, `PromiseFulfiller`)
abbrev pub cell_settled : ℕ → Outcome → World → World
cell_settled cell o w = settled DepthFirst (node_named cell w) o w

-- the name goes, and a cell that waits gets the exception of a dropped fulfiller
abbrev pub cell_dropped : ℕ → World → World
cell_dropped cell w = settled DepthFirst (node_named cell w) fulfiller_dropped (unnamed cell w)

-- a Task in a set, or in the loop's own set
abbrev pub added_in : ℕ → ℕ → Option Held → World → World
added_in group task (Some (Group error tasks empty)) w = named group (Group error (tasks ++ task ∷ []) empty) w
added_in group task other w = w

-- a Task over the tree of a source, at the end of a set; it listens (kj/async.h, `TaskSet::add`)
abbrev pub added : ℕ → ℕ → World → World
added group source w = let t = node_named source w in listened t (added_in group w.next (held_at group w.names) (over_built (λ root. Task (Some root)) source w))

-- one more task of the loop's own set
abbrev pub with_detached : ℕ → World → World
with_detached task w = record w { detached = w.detached ++ task ∷ [] }

-- a Task over the tree of a source, in the loop's own set; it listens (kj/async.h, `detach`)
abbrev pub detached_built : ℕ → World → World
detached_built source w = let t = node_named source w in listened t (with_detached w.next (over_built (λ root. Task (Some root)) source w))

-- a set is empty now: the cell that waits for this is settled
abbrev pub emptied : ℕ → Option Held → World → World
emptied group (Some (Group error [] (Some cell))) w = settled DepthFirst cell void (named group (Group error [] None) w)
emptied group other w = w

-- this set may be empty now
abbrev pub now_empty : ℕ → World → World
now_empty group w = emptied group (held_at group w.names) w

-- the tasks of a set, newest first; where there was one, the set is empty now
abbrev pub cleared_in : Guard → ℕ → Option Held → State → State
cleared_in guard group (Some (Group error (task ∷ tasks) empty)) s = silent (now_empty group) (each_freed (free guard) (reverse (task ∷ tasks)) (silent (named group (Group error [] empty)) s))
cleared_in guard group other s = s

-- the tasks of this set go (kj/async.h, `TaskSet`)
abbrev pub cleared : Guard → ℕ → State → State
cleared guard group s = cleared_in guard group (held_at group s.world.names) s

-- a leaf that is ready where the set is empty, else a cell of the set
abbrev pub empty_built_in : ℕ → ℕ → Option Held → World → World
empty_built_in name group (Some (Group error (task ∷ tasks) empty)) w = named group (Group error (task ∷ tasks) (Some w.next)) (leaf_built name (Cell None) w)
empty_built_in name group other w = leaf_built name (Ready void) w

-- the promise that a set is empty (kj/async.h, `TaskSet::onEmpty`)
abbrev pub empty_built : ℕ → ℕ → World → World
empty_built name group w = empty_built_in name group (held_at group w.names) w

-- the Wrap is its canceler's newest
abbrev pub wrapped_in : ℕ → ℕ → Option Held → World → World
wrapped_in canceler wrap (Some (Canceler wraps)) w = named canceler (Canceler (wraps ++ wrap ∷ [])) w
wrapped_in canceler wrap other w = w

-- a Wrap over the tree of a source; it listens (kj/async.h, `Canceler::wrap`)
abbrev pub wrap_built : ℕ → ℕ → ℕ → World → World
wrap_built name canceler source w = listened (node_named source w) (wrapped_in canceler w.next (held_at canceler w.names) (over_named name (λ t. WrapNode canceler (Tree t)) source w))

-- the event of this node leaves the queue
abbrev pub disarmed_node : ℕ → World → World
disarmed_node n w = with_queue (disarmed n w.queue) w

-- a Wrap without outcome: its tree is freed, its event disarmed, its outcome set, its listener armed
abbrev pub wrap_cancelled : Guard → ℕ → Option Form → State → State
wrap_cancelled guard n (Some (WrapNode canceler (Tree t))) s = silent (λ w. announced DepthFirst n (put n (WrapNode canceler (Kept cancelled)) (disarmed_node n w))) (free (guarded_too n guard) t s)
wrap_cancelled guard n other s = s

-- these Wraps in order; one that an earlier one freed is passed over
abbrev pub each_cancelled : Guard → List ℕ → State → State
each_cancelled guard [] s = s
each_cancelled guard (n ∷ ns) s = each_cancelled guard ns (wrap_cancelled guard n (form_at n s.world.nodes) s)

-- the Wraps of a canceler, in order
abbrev pub wraps_of : Option Held → List ℕ
wraps_of (Some (Canceler wraps)) = wraps
wraps_of other = []

-- the Wraps of a canceler, newest first (kj/async.h, `Canceler::cancel`)
abbrev pub canceled : Guard → ℕ → State → State
canceled guard canceler s = each_cancelled guard (reverse (wraps_of (held_at canceler s.world.names))) s

-- a hub without its name
abbrev pub hub_unnamed_in : ℕ → Option Form → World → World
hub_unnamed_in hub (Some (Hub content is_named branches)) w = put hub (Hub content false branches) w
hub_unnamed_in hub other w = w

-- this hub has no name now
abbrev pub hub_unnamed : ℕ → World → World
hub_unnamed hub w = hub_unnamed_in hub (form_at hub w.nodes) w

-- a name goes with what it holds; a hub's name is only its reference
abbrev pub dropped_held : Guard → ℕ → Option Held → State → State
dropped_held guard name (Some (Promise root)) s = free guard root (silent (unnamed name) s)
dropped_held guard name (Some (HubOf hub)) s = reference_gone guard (free guard) hub (silent (λ w. hub_unnamed hub (unnamed name w)) s)
dropped_held guard name (Some (Group error tasks empty)) s = silent (unnamed name) (cleared guard name s)
dropped_held guard name (Some (Canceler wraps)) s = silent (unnamed name) (canceled guard name s)
dropped_held guard name other s = s

-- one more ask that wasn't taken
abbrev pub with_ask : ℕ → ℕ → ℕ → List ℕ → World → World
with_ask cell target step words w = record w { asks = w.asks ++ record { cell = cell; target = target; step = step; words = words } ∷ [] }

-- a cell that a promise and an ask share
abbrev pub ask_built : ℕ → ℕ → ℕ → ℕ → List ℕ → World → World
ask_built name cell target step words w = with_ask cell target step words (named cell (AskCell w.next false) (leaf_built name (Cell None) w))

-- a leaf, a Then over it, a Chain over it, a Request over it
abbrev pub request_built : ℕ → ℕ → List ℕ → World → World
request_built request step words w = let n = w.next in
    listened (n + 1) (named request (RequestOf (Some (n + 3)))
    (built (Some (n + 2)) (Request request (Some (n + 2)))
    (built (Some (n + 1)) (ChainNode (n + 1))
    (built (Some n) (ThenNode (Some step) None (Some n))
    (built None (Ready (Value words)) w)))))

-- one more request that ended
abbrev pub with_ended : ℕ → Outcome → World → World
with_ended request o w = record w { ended = w.ended ++ record { request = request; outcome = o } ∷ [] }

-- a request that hasn't ended ends as cancelled
abbrev pub stopped_request : Guard → ℕ → State → State
stopped_request guard request s = silent (with_ended request cancelled) (free guard (node_named request s.world) (silent (named request (RequestOf None)) s))

-- this cell is no longer listed as abandoned
abbrev pub without_abandoned : ℕ → World → World
without_abandoned cell w = record w { abandoned = dropped cell w.abandoned }

-- an ask's cell gets its outcome; its name goes
abbrev pub replied : ℕ → Outcome → World → World
replied cell o w = settled BreadthFirst (node_named cell w) o (without_abandoned cell (unnamed cell w))

-- the effect of a command
abbrev pub effect : Guard → Command → State → State
effect guard (Now name words) s = silent (leaf_built name (Ready (Value words))) s
effect guard (Broken name exception) s = silent (leaf_built name (Ready (BrokenBy exception))) s
effect guard (Later name) s = silent (leaf_built name LaterNode) s
effect guard (Last name) s = silent (leaf_built name LastNode) s
effect guard (Pair name cell) s = silent (λ w. named cell (CellOf w.next) (leaf_built name (Cell None) w)) s
effect guard (Then name source value error) s = silent (over_named name (λ t. ThenNode value error (Some t)) source) s
effect guard (Chain name source value error) s = silent (chain_built name source value error) s
effect guard (Eager name source) s = silent (over_listening name (λ t. EagerNode (Tree t)) source) s
effect guard (Fork hub source) s = silent (fork_built hub source) s
effect guard (Branch name hub) s = silent (branch_built name hub) s
effect guard (Race name left right) s = silent (race_built name left right) s
effect guard (All name sources) s = silent (join_built false name sources) s
effect guard (Fast name sources) s = silent (join_built true name sources) s
effect guard (Fulfil cell words) s = silent (cell_settled cell (Value words)) s
effect guard (Reject cell exception) s = silent (cell_settled cell (BrokenBy exception)) s
effect guard (DropCell cell) s = silent (cell_dropped cell) s
effect guard (NewSet group error) s = silent (named group (Group error [] None)) s
effect guard (Add group source) s = silent (added group source) s
effect guard (Clear group) s = cleared guard group s
effect guard (OnEmpty name group) s = silent (empty_built name group) s
effect guard (NewCanceler canceler) s = silent (named canceler (Canceler [])) s
effect guard (Wrap name canceler source) s = silent (wrap_built name canceler source) s
effect guard (Cancel canceler) s = canceled guard canceler s
effect guard (Detach source) s = silent (detached_built source) s
effect guard (Drop name) s = dropped_held guard name (held_at name s.world.names) s
effect guard (Ask name cell target step words) s = silent (ask_built name cell target step words) s
effect guard (Begin request step words) s = silent (request_built request step words) s
effect guard (Stop request) s = stopped_request guard request s
effect guard (Reply cell outcome) s = silent (replied cell outcome) s
