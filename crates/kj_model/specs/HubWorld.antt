-- A small world with a hub.
use Rattle.std.specs.Prelude.{ℕ, [], ◌∷◌, false, None}
use Rattle.kj_model.specs.Nodes.{Entry, Form, Later, Eager, Hub, Branch, Race, Tree}
use Rattle.kj_model.specs.World.{World, State, new_world}

-- a node with its number
abbrev pub node : ℕ → Form → Entry
node number form = record { number = number; form = form }

-- the race 6 over both branches of the hub 3, which has no name; the hub owns the Eager 2, and that the leaf 1
abbrev pub hub_world : World
hub_world = record (new_world (record { slots = 8; names = 8 })) {
  nodes = node 1 Later ∷ node 2 (Eager (Tree 1)) ∷ node 3 (Hub (Tree 2) false (4 ∷ 5 ∷ [])) ∷ node 4 (Branch 3) ∷ node 5 (Branch 3) ∷ node 6 (Race 4 5 None) ∷ [];
  next = 7;
}

-- that world, of which nothing was freed yet
abbrev pub hub_state : State
hub_state = record { world = hub_world; past = [] }
