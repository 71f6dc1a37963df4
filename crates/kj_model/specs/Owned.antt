-- Where nodes stand, and what is read off a world and its record for what each world keeps.
use Rattle.std.specs.Prelude.{◌≡◌, ℕ, List, [], ◌∷◌, ◌++◌, Option, None, Some, Bool, true, false, ◌==◌, map, flat_map, is_some, option_to_list}
use Rattle.std.specs.List.{list_any}
use Rattle.kj_model.specs.Nodes.{Entry, Form, Hub, Branch, is_in}
use Rattle.kj_model.specs.World.{World, Named, Held, Promise, CellOf, AskCell, HubOf, Group, Canceler, RequestOf, Awaited, depth_of}
use Rattle.kj_base.specs.Record.{Item, Run, Free}
use Rattle.kj_model.specs.Trees.{tree_numbers}

-- the roots that a name holds; a hub is no root of its name
abbrev pub held_roots : Held → List ℕ
held_roots (Promise root) = root ∷ []
held_roots (CellOf cell) = []
held_roots (AskCell cell is_taken) = []
held_roots (HubOf hub) = []
held_roots (Group error tasks empty) = tasks
held_roots (Canceler wraps) = []
held_roots (RequestOf node) = option_to_list node

-- the roots that all names hold
abbrev pub name_roots : List Named → List ℕ
name_roots names = flat_map (λ (x : Named). held_roots x.held) names

-- the awaited tree
abbrev pub awaited_roots : Option Awaited → List ℕ
awaited_roots None = []
awaited_roots (Some a) = a.root ∷ []

-- a hub
abbrev pub hub_roots_form : Form → ℕ → List ℕ
hub_roots_form (Hub content is_named branches) n = n ∷ []
hub_roots_form other n = []

-- all hubs
abbrev pub hub_roots : List Entry → List ℕ
hub_roots nodes = flat_map (λ (e : Entry). hub_roots_form e.form e.number) nodes

-- where trees but hubs stand: under a name, awaited, left over or detached
abbrev pub tree_roots : World → List ℕ
tree_roots w = name_roots w.names ++ awaited_roots w.awaited ++ w.left_over ++ w.detached

-- where nodes stand: there, or as a hub
abbrev pub roots : World → List ℕ
roots w = tree_roots w ++ hub_roots w.nodes

-- the nodes of all these trees
abbrev pub standing : World → List ℕ
standing w = flat_map (tree_numbers (depth_of w) w.nodes) (roots w)

-- the live numbers
abbrev pub numbers : List Entry → List ℕ
numbers nodes = map (λ (e : Entry). e.number) nodes

-- the name of this hub
abbrev pub is_hub_name : ℕ → Held → Bool
is_hub_name hub (HubOf h) = h == hub
is_hub_name hub other = false

-- this number, or none
abbrev pub if_to : Bool → ℕ → List ℕ
if_to true n = n ∷ []
if_to false n = []

-- this node where it is a branch of the hub
abbrev pub branch_to : ℕ → Form → ℕ → List ℕ
branch_to hub (Branch h) n = if_to (h == hub) n
branch_to hub other n = []

-- the live branches of a hub
abbrev pub branches_to : ℕ → List Entry → List ℕ
branches_to hub nodes = flat_map (λ (e : Entry). branch_to hub e.form e.number) nodes

-- a run of this node's step
abbrev pub is_run_of : ℕ → Item → Bool
is_run_of n (Run node step input action) = node == n
is_run_of n (Free node) = false

-- no run of a node stands after its free
abbrev pub IsInOrder : List Item → Type 0
IsInOrder [] = Unit {0}
IsInOrder (Run n step input action ∷ items) = IsInOrder items
IsInOrder (Free n ∷ items) = (list_any (is_run_of n) items ≡ false) × IsInOrder items

-- whether an event may stand in the queue
abbrev pub may_stand : World → ℕ → Bool
may_stand w e = if_zero (e == 0) (is_some w.awaited) (is_in e (numbers w.nodes))
  where
    if_zero : Bool → Bool → Bool → Bool
    if_zero true waits live = waits
    if_zero false waits live = live
