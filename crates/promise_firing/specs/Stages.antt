-- Sides that fire, under a Race or a join.
use Rattle.std.specs.Prelude.{◌≡◌, ℕ, List, Option, None, Some, true}
use Rattle.kj_model.specs.Nodes.{Form, Entry, Stage, Waits, Fired, Keeps, Gone, Side, Race, Join, form_at}
use Rattle.kj_model.specs.World.{World, State, Setting}
use Rattle.kj_model.specs.Fire.{race_fired, join_fired}
use Rattle.kj_ownership.specs.Shapes.{OfSide, suits}
use Rattle.kj_ownership.specs.Firing.{race_decided as decided, loser as other_of, MayWin as Wins}
pub use Rattle.kj_ownership.specs.Firing.{side_emptied}
use Rattle.promise_nodes.specs.Shown.{node_number, next_number, run_from}
use Rattle.promise_firing.specs.declared.owners.Joined.{Joined}
use Rattle.promise_firing.specs.declared.owners.Above.{Above}
use Rattle.promise_firing.specs.declared.owners.Above.TheVariants.{Nothing, Race as UnderRace, Join as UnderJoin}

-- the Sides of a join
abbrev pub sides_of : Joined → List ℕ
sides_of joined = run_from joined.count joined.first.number.0

-- what a Side does there that waits for this tree
abbrev pub fired_under : Setting → Above → ℕ → ℕ → State → State
fired_under setting Nothing side tree s = s
fired_under setting (UnderRace race left winner) side tree s = race_fired race.number.0 left.number.0 (next_number left.number.0) (node_number winner) side tree s
fired_under setting (UnderJoin joined is_fast) side tree s = join_fired setting is_fast joined.join.number.0 (sides_of joined) side tree s

-- the number and the form of what owns a Side, where it is a Race or a join
abbrev pub IsAbove : Above → ℕ → Form → Type 0
IsAbove Nothing number form = Unit {0}
IsAbove (UnderRace race left winner) number form = (number ≡ race.number.0) × (form ≡ Race left.number.0 (next_number left.number.0) (node_number winner))
IsAbove (UnderJoin joined is_fast) number form = (number ≡ joined.join.number.0) × (form ≡ Join is_fast (sides_of joined))

-- the same of the owner that there may be
abbrev pub IsOwner : Above → Option Entry → Type 0
IsOwner above None = above ≡ Nothing
IsOwner above (Some owner) = IsAbove above owner.number owner.form

-- a Side, or no node
abbrev pub MayBeSide : Option Form → Type 0
MayBeSide o = suits OfSide o ≡ true

-- the tree of each stage
abbrev pub stage_tree : Stage → Option ℕ
stage_tree (Waits tree) = Some tree
stage_tree (Fired tree) = Some tree
stage_tree (Keeps outcome) = None
stage_tree Gone = None

-- the tree of a Side, where it has one
abbrev pub tree_of : Option Form → Option ℕ
tree_of (Some (Side stage)) = stage_tree stage
tree_of other = None

-- the first Side of a Race has fired
abbrev pub race_decided : ℕ → ℕ → ℕ → ℕ → World → World
race_decided race left side tree w = decided race left (next_number left) side tree w

-- the other Side of a Race of these two
abbrev pub loser : ℕ → ℕ → ℕ
loser left side = other_of left (next_number left) side

-- the Race waits for its first Side, which may win it
pub record MayWin (race left side tree : ℕ) (w : World) : Type 0 where
  pub waits : form_at side w.nodes ≡ Some (Side (Waits tree))
  pub race_is : form_at race w.nodes ≡ Some (Race left (next_number left) None)
  pub wins : Wins race left (next_number left) side tree w
