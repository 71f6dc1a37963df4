-- Applying a command: its refusals in their order, or its effect.
use Rattle.std.specs.Prelude.{ℕ, ◌^◌, List, [], ◌∷◌, ◌++◌, Option, None, Some, Bool, true, false, not, ◌||◌, ◌&&◌, ◌==◌, nat_lt, length, drop, map}
use Rattle.std.specs.List.{list_any}
use Rattle.kj_base.specs.Commands.{Command, Now, Broken, Later, Last, Pair, Then, Chain, Eager, Fork, Branch, Race, All, Fast, Fulfil, Reject, DropCell, NewSet, Add, Clear, OnEmpty, NewCanceler, Wrap, Cancel, Detach, Drop, Ask, Begin, Stop, Reply}
use Rattle.kj_base.specs.Record.{Item, Run, Free}
use Rattle.kj_model.specs.Nodes.{Form, Tree, Wrap as WrapNode, form_at, is_in}
use Rattle.kj_model.specs.World.{World, State, Setting, Promise, CellOf, Awaited, Row, held_at}
use Rattle.kj_model.specs.Changes.{named, unnamed}
use Rattle.kj_model.specs.Free.{Holding, usual}
use Rattle.kj_model.specs.Effects.{effect, node_named, wraps_of}
use Rattle.kj_model.specs.Uses.{Role, IsNew, IsSource, Use, uses_of, first_failing, is_outside, is_unknown, is_wrong, is_taken}

-- why a command is refused
pub data Refused : Type 0 where
  Unknown : (name : ℕ) → Refused
  Taken : (name : ℕ) → Refused
  Full : Refused
  Busy : (name : ℕ) → Refused
  Inside : Refused
  WrongKind : (name : ℕ) → Refused
  Stopped : Refused

-- the free of this node
abbrev pub is_free_of : ℕ → Item → Bool
is_free_of n (Free node) = node == n
is_free_of n (Run node step input action) = false

-- the command would free this node, where only the Wraps that it settles guard hubs
abbrev pub would_free : ℕ → Command → State → Bool
would_free n c s = list_any (is_free_of n) (drop (length s.past) (effect (Holding []) c s).past)

-- a Wrap without outcome
abbrev pub is_unsettled_wrap : Option Form → Bool
is_unsettled_wrap (Some (WrapNode canceler (Tree root))) = true
is_unsettled_wrap other = false

-- this node is a Wrap without outcome of this canceler
abbrev pub settles_wrap : ℕ → ℕ → World → Bool
settles_wrap n canceler w = is_in n (wraps_of (held_at canceler w.names)) && is_unsettled_wrap (form_at n w.nodes)

-- the command would settle this Wrap
abbrev pub would_settle : ℕ → Command → World → Bool
would_settle n (Cancel canceler) w = settles_wrap n canceler w
would_settle n (Drop name) w = settles_wrap n name w
would_settle n other w = false

-- the two causes of Busy, where an event fires
abbrev pub is_busy_at : Option ℕ → Command → State → Bool
is_busy_at None c s = false
is_busy_at (Some n) c s = would_settle n c s.world || would_free n c s

-- the command would free the node whose event fires, or settle it
abbrev pub is_busy : Command → State → Bool
is_busy c s = is_busy_at s.world.firing c s

-- so many nodes before the tree of a source
abbrev pub before_source : ℕ → ℕ → World → Row
before_source count source w = record { before = Some (node_named source w); count = count }

-- so many nodes, the first of them placed anew
abbrev pub anew : ℕ → Row
anew count = record { before = None; count = count }

-- the rows of nodes that a command builds
abbrev pub rows : Command → World → List Row
rows (Now name words) w = anew 1 ∷ []
rows (Broken name exception) w = anew 1 ∷ []
rows (Later name) w = anew 1 ∷ []
rows (Last name) w = anew 1 ∷ []
rows (Pair name cell) w = anew 1 ∷ []
rows (Then name source value error) w = before_source 1 source w ∷ []
rows (Chain name source value error) w = before_source 2 source w ∷ []
rows (Eager name source) w = before_source 1 source w ∷ []
rows (Fork hub source) w = anew 1 ∷ []
rows (Branch name hub) w = anew 1 ∷ []
rows (Race name left right) w = before_source 1 left w ∷ before_source 1 right w ∷ anew 1 ∷ []
rows (All name sources) w = map (λ source. before_source 1 source w) sources ++ anew 1 ∷ []
rows (Fast name sources) w = map (λ source. before_source 1 source w) sources ++ anew 1 ∷ []
rows (Fulfil cell words) w = []
rows (Reject cell exception) w = []
rows (DropCell cell) w = []
rows (NewSet group error) w = []
rows (Add group source) w = before_source 1 source w ∷ []
rows (Clear group) w = []
rows (OnEmpty name group) w = anew 1 ∷ []
rows (NewCanceler canceler) w = []
rows (Wrap name canceler source) w = before_source 1 source w ∷ []
rows (Cancel canceler) w = []
rows (Detach source) w = before_source 1 source w ∷ []
rows (Drop name) w = []
rows (Ask name cell target step words) w = anew 1 ∷ []
rows (Begin request step words) w = anew 2 ∷ anew 2 ∷ []
rows (Stop request) w = []
rows (Reply cell outcome) w = []

-- the map after the new names came and the sources went, with the name of the awaited promise
abbrev pub named_by : Role → ℕ → World → World
named_by IsNew name w = named name (CellOf 0) w
named_by IsSource name w = unnamed name w
named_by other name w = w

-- the map after all uses
abbrev pub each_named : List Use → World → World
each_named [] w = w
each_named (u ∷ us) w = each_named us (named_by u.role u.name w)

-- the map with the name of the awaited promise
abbrev pub with_awaited : Option Awaited → World → World
with_awaited None w = w
with_awaited (Some a) w = named a.name (Promise a.root) w

-- how many names there would be
abbrev pub names_after : Command → World → ℕ
names_after c w = length (with_awaited w.awaited (each_named (uses_of c) w)).names

-- the command builds no node
abbrev pub is_none : List Row → Bool
is_none [] = true
is_none (r ∷ rs) = false

-- no room for the nodes or the names, or all numbers of nodes are used
abbrev pub is_full : Setting → Command → World → Bool
is_full setting c w = not (setting.fits w.limits.slots w.spots (rows c w)) || nat_lt w.limits.names (names_after c w) || (not (is_none (rows c w)) && nat_lt (2 ^ 63) w.next)

-- the first name of the command, which Busy tells
abbrev pub name_of_first : List Use → ℕ
name_of_first [] = 0
name_of_first (u ∷ us) = u.name

-- Full comes last
abbrev pub refused_full : Bool → Option Refused
refused_full true = Some Full
refused_full false = None

-- Busy, else Full
abbrev pub refused_busy : Bool → Setting → Command → State → Option Refused
refused_busy true setting c s = Some (Busy (name_of_first (uses_of c)))
refused_busy false setting c s = refused_full (is_full setting c s.world)

-- Taken, else Busy and on
abbrev pub refused_taken : Option ℕ → Setting → Command → State → Option Refused
refused_taken (Some name) setting c s = Some (Taken name)
refused_taken None setting c s = refused_busy (is_busy c s) setting c s

-- WrongKind, else Taken and on
abbrev pub refused_wrong : Option ℕ → Setting → Command → State → Option Refused
refused_wrong (Some name) setting c s = Some (WrongKind name)
refused_wrong None setting c s = refused_taken (first_failing (is_taken s.world) [] (uses_of c)) setting c s

-- Unknown, else WrongKind and on
abbrev pub refused_unknown : Option ℕ → Setting → Command → State → Option Refused
refused_unknown (Some name) setting c s = Some (Unknown name)
refused_unknown None setting c s = refused_wrong (first_failing (is_wrong s.world) [] (uses_of c)) setting c s

-- Inside, else Unknown and on
abbrev pub refused_inside : Bool → Setting → Command → State → Option Refused
refused_inside true setting c s = Some Inside
refused_inside false setting c s = refused_unknown (first_failing (is_unknown s.world) [] (uses_of c)) setting c s

-- Stopped, else Inside and on
abbrev pub refused_stopped : Bool → Setting → Bool → Command → State → Option Refused
refused_stopped true setting inside c s = Some Stopped
refused_stopped false setting inside c s = refused_inside (inside && is_outside c) setting c s

-- why a command is refused: Stopped, Inside, Unknown, WrongKind, Taken, Busy, Full, in this order
abbrev pub refusal : Setting → Bool → Command → State → Option Refused
refusal setting inside c s = refused_stopped s.world.stopped setting inside c s

-- a refusal, or the effect
abbrev pub applied : Option Refused → Command → State → State × Option Refused
applied (Some refused) c s = (s, Some refused)
applied None c s = (effect (usual s.world) c s, None)

-- a command is refused, and all is as before; or it has its effect
abbrev pub apply : Setting → Bool → Command → State → State × Option Refused
apply setting inside c s = applied (refusal setting inside c s) c s
