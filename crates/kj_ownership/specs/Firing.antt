-- What holds of the node whose event fires.
use Rattle.std.specs.Prelude.{◌≡◌, ◌≢◌, ℕ, ◌++◌, ◌∷◌, [], List, Option, None, Some, Bool, true, false, ◌==◌}
use Rattle.kj_base.specs.Record.{Item}
use Rattle.kj_model.specs.Nodes.{Entry, Fired, Gone, Side, Race, Task, form_at, owner_of, is_in}
use Rattle.kj_model.specs.World.{World, State, Setting}
use Rattle.kj_model.specs.Changes.{silent, put}
use Rattle.kj_model.specs.Value.{Given, Took, freed, value}
use Rattle.kj_model.specs.Fire.{with_firing, branches_of, other_side, tree_freed, set_left}
use Rattle.kj_model.specs.Calls.{rewound_world, taken_world}
use Rattle.kj_ownership.specs.Owners.{is_live, owns}
use Rattle.kj_ownership.specs.Standing.{Owned}
use Rattle.kj_ownership.specs.Shapes.{OfTree, OfSide, suits, part_kind, Shaped}

-- the event of this live node fires, in a world that keeps what worlds keep
pub record IsFiring (n : ℕ) (s : State) : Type 0 where
  pub owned : Owned s
  pub shaped : Shaped s.world
  pub fires : s.world.firing ≡ Some n
  pub live : is_live n s.world.nodes ≡ true

-- the first event leaves the queue, and fires
abbrev pub event_taken : ℕ → World → World
event_taken n w = with_firing (Some n) (taken_world (rewound_world w))

-- no event fires any more
abbrev pub event_ended : World → World
event_ended w = rewound_world (with_firing None w)

-- the world after the free of this tree, whatever was told before
abbrev pub world_freed : ℕ → List Item → World → World
world_freed tree past w = (freed tree (record { world = w; past = past })).world

-- a node still lives when that tree was freed
abbrev pub Outlives : ℕ → ℕ → World → Type 0
Outlives n tree w = (past : List Item) → is_live n (world_freed tree past w).nodes ≡ true

-- each branch of a hub lives
abbrev pub BranchesLive : ℕ → World → Type 0
BranchesLive hub w = (b : ℕ) → is_in b (branches_of (form_at hub w.nodes)) ≡ true → is_live b w.nodes ≡ true

-- the same when that tree was freed
abbrev pub BranchesOutlive : ℕ → ℕ → World → Type 0
BranchesOutlive hub tree w = (past : List Item) → BranchesLive hub (world_freed tree past w)

-- whether a step gave a promise
abbrev pub gave_promise : Option Given → Bool
gave_promise (Some (Took root)) = true
gave_promise other = false

-- the promise that the step of a Chain gave may take its place: the Chain lives, the promise is another node that nobody
-- owns, and who owns the Chain has it as its tree, and neither as a Side nor under another Chain
pub record TakesPlace (chain root : ℕ) (w : World) : Type 0 where
  pub lives : is_live chain w.nodes ≡ true
  pub apart : chain ≢ root
  pub unowned : is_live root w.nodes ≡ true → (q : ℕ) → owns q root w.nodes ≡ false
  pub placed : (e : Entry) → owner_of chain w.nodes ≡ Some e → part_kind (Some e.form) ≡ OfTree

-- the Side of a Race that didn't fire
abbrev pub loser : ℕ → ℕ → ℕ → ℕ
loser left right side = other_side (left == side) left right

-- the first Side of a Race has fired
abbrev pub race_decided : ℕ → ℕ → ℕ → ℕ → ℕ → World → World
race_decided race left right side tree w = put race (Race left right (Some side)) (put side (Side (Fired tree)) w)

-- the tree of a Side is freed, and nothing is left there
abbrev pub side_emptied : ℕ → State → State
side_emptied side s = silent (put side (Side Gone)) (tree_freed (form_at side s.world.nodes) s)

-- the other node of a Race is a Side or gone, and the Race still lives when that one's tree was freed
pub record MayWin (race left right side tree : ℕ) (w : World) : Type 0 where
  pub other : suits OfSide (form_at (loser left right side) w.nodes) ≡ true
  pub outlives : (past : List Item) → is_live race (side_emptied (loser left right side) (record { world = race_decided race left right side tree w; past = past })).world.nodes ≡ true

-- the tree of a Task was evaluated: it is freed, and the Task leaves its set, which may be empty then
abbrev pub task_off : Setting → ℕ → ℕ → State → State
task_off setting n tree s =
    let valued = (value setting tree s).0 in
    silent (set_left n) (silent (put n (Task None)) (freed tree valued))

-- the event of a Task fires that has left its set since, has no tree, and is left over
pub record HasLeftSet (n : ℕ) (before after : State) : Type 0 where
  pub fires : IsFiring n after
  pub form : form_at n after.world.nodes ≡ Some (Task None)
  pub left_over : after.world.left_over ≡ before.world.left_over ++ n ∷ []
