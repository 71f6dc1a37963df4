-- Single changes of a world.
use Rattle.std.specs.Prelude.{ℕ, List, [], ◌∷◌, ◌++◌, Option, None, Some, Bool, true, false, not, ◌==◌, nat_lt, filter}
use Rattle.kj_base.specs.Queue.{Events, Way, armed, disarmed}
use Rattle.kj_base.specs.Record.{Item, Run, Free}
use Rattle.kj_model.specs.Nodes.{Form, with_form, without}
use Rattle.kj_model.specs.World.{World, State, Named, Held}

-- a change of the world that the record doesn't show
abbrev pub silent : (World → World) → State → State
silent change s = record { world = change s.world; past = s.past }

-- the world with another queue
abbrev pub with_queue : Events → World → World
with_queue q w = record w { queue = q }

-- node n has this form now
abbrev pub put : ℕ → Form → World → World
put n form w = record w { nodes = with_form n form w.nodes }

-- the listener is armed, where there is one
abbrev pub arm_listener : Way → Option ℕ → World → World
arm_listener way None w = w
arm_listener way (Some e) w = with_queue (armed way e w.queue) w

-- the world with another map of names
abbrev pub with_names : List Named → World → World
with_names names w = record w { names = names }

-- the map without this name
abbrev pub without_name : ℕ → List Named → List Named
without_name name names = filter (λ x. not (x.name == name)) names

-- a new name in its place by number
abbrev pub with_new : Named → List Named → List Named
with_new x [] = x ∷ []
with_new x (y ∷ ys) = placed (nat_lt x.name y.name) x y ys (with_new x ys)
  where
    placed : Bool → Named → Named → List Named → List Named → List Named
    placed true x y ys rest = x ∷ y ∷ ys
    placed false x y ys rest = y ∷ rest

-- this name holds this now
abbrev pub named : ℕ → Held → World → World
named name held w = with_names (with_new (record { name = name; held = held }) (without_name name w.names)) w

-- this name goes
abbrev pub unnamed : ℕ → World → World
unnamed name w = with_names (without_name name w.names) w

-- a node goes: its event is disarmed, and the free is told
abbrev pub gone_world : ℕ → World → World
gone_world n w = record w { queue = disarmed n w.queue; nodes = without n w.nodes; spots = filter (λ x. not (x.number == n)) w.spots }

-- the free of a node, told
abbrev pub gone : ℕ → State → State
gone n s = record { world = gone_world n s.world; past = s.past ++ Free n ∷ [] }

-- the numbers that were freed among these items
abbrev pub frees_in : List Item → List ℕ
frees_in [] = []
frees_in (Free n ∷ items) = n ∷ frees_in items
frees_in (Run n step input action ∷ items) = frees_in items
