-- Freeing a tree: dependencies first.
use Rattle.std.specs.Prelude.{ℕ, zero, suc, List, [], ◌∷◌, ◌++◌, Option, None, Some, Bool, true, false, ◌==◌, find, option_to_list}
use Rattle.std.specs.List.{list_any}
use Rattle.kj_model.specs.Nodes.{Form, Ready, Later, Last, Cell, Branch, Then, Chain, Eager, Wrap, Hub, Side, Race, Join, Task, Request, form_at, parts_of, holds, dropped}
use Rattle.kj_model.specs.World.{World, State, Named, Held, AskCell, Canceler, held_at, depth_of}
use Rattle.kj_model.specs.Changes.{silent, put, gone, named}

-- the hubs that are never freed for want of references: those that are one of these nodes or whose tree holds one, or all hubs
pub data Guard : Type 0 where
  Holding : (nodes : List ℕ) → Guard
  Every : Guard

-- usually only the node whose event fires is guarded
abbrev pub usual : World → Guard
usual w = Holding (option_to_list w.firing)

-- the same guard, with one node more
abbrev pub guarded_too : ℕ → Guard → Guard
guarded_too n (Holding nodes) = Holding (n ∷ nodes)
guarded_too n Every = Every

-- whether the guard keeps this hub
abbrev pub is_guarded : Guard → ℕ → World → Bool
is_guarded (Holding nodes) hub w = list_any (λ n. holds (depth_of w) w.nodes n hub) nodes
is_guarded Every hub w = true

-- this hub is freed, but for the guard
abbrev pub free_unless : Bool → (ℕ → State → State) → ℕ → State → State
free_unless true free hub s = s
free_unless false free hub s = free hub s

-- a hub without name and branches is freed, but for the guard
abbrev pub free_unreferenced : Guard → (ℕ → State → State) → ℕ → Option Form → State → State
free_unreferenced guard free hub (Some (Hub content false [])) s = free_unless (is_guarded guard hub s.world) free hub s
free_unreferenced guard free hub other s = s

-- a reference of this hub went
abbrev pub reference_gone : Guard → (ℕ → State → State) → ℕ → State → State
reference_gone guard free hub s = free_unreferenced guard free hub (form_at hub s.world.nodes) s

-- a hub without this branch
abbrev pub without_branch_in : ℕ → ℕ → Option Form → World → World
without_branch_in n hub (Some (Hub content named branches)) w = put hub (Hub content named (dropped n branches)) w
without_branch_in n hub other w = w

-- the branch leaves its hub
abbrev pub without_branch : ℕ → ℕ → World → World
without_branch n hub w = without_branch_in n hub (form_at hub w.nodes) w

-- a canceler without this Wrap
abbrev pub without_wrap_in : ℕ → ℕ → Option Held → World → World
without_wrap_in n canceler (Some (Canceler wraps)) w = named canceler (Canceler (dropped n wraps)) w
without_wrap_in n canceler other w = w

-- the Wrap leaves its canceler
abbrev pub without_wrap : ℕ → ℕ → World → World
without_wrap n canceler w = without_wrap_in n canceler (held_at canceler w.names) w

-- the ask cell of this node
abbrev pub is_ask_of : ℕ → Held → Bool
is_ask_of n (AskCell cell is_taken) = cell == n
is_ask_of n other = false

-- the name of an ask cell
abbrev pub ask_of : ℕ → List Named → Option Named
ask_of n names = find (λ (x : Named). is_ask_of n x.held) names

-- this cell is listed as abandoned
abbrev pub abandoned_as : Option Named → World → World
abandoned_as None w = w
abandoned_as (Some x) w = record w { abandoned = w.abandoned ++ x.name ∷ [] }

-- a node's references to others go: a branch's to its hub, a Wrap's to its canceler; an ask's cell that waits is abandoned
abbrev pub unlinked : Guard → (ℕ → State → State) → ℕ → Form → State → State
unlinked guard free n (Ready outcome) s = s
unlinked guard free n Later s = s
unlinked guard free n Last s = s
unlinked guard free n (Cell None) s = silent (λ w. abandoned_as (ask_of n w.names) w) s
unlinked guard free n (Cell (Some outcome)) s = s
unlinked guard free n (Branch hub) s = reference_gone guard free hub (silent (without_branch n hub) s)
unlinked guard free n (Then value error tree) s = s
unlinked guard free n (Chain link) s = s
unlinked guard free n (Eager content) s = s
unlinked guard free n (Wrap canceler content) s = silent (without_wrap n canceler) s
unlinked guard free n (Hub content named branches) s = s
unlinked guard free n (Side stage) s = s
unlinked guard free n (Race left right winner) s = s
unlinked guard free n (Join fast sides) s = s
unlinked guard free n (Task tree) s = s
unlinked guard free n (Request name tree) s = s

-- these trees one after another
abbrev pub each_freed : (ℕ → State → State) → List ℕ → State → State
each_freed free [] s = s
each_freed free (n ∷ ns) s = each_freed free ns (free n s)

-- a node of this form; nothing where the node isn't live
abbrev pub free_form : Guard → (ℕ → State → State) → ℕ → Option Form → State → State
free_form guard free n None s = s
free_form guard free n (Some form) s = gone n (unlinked guard free n form (each_freed free (parts_of form) s))

-- the parts of a node in their order, then its references, then the node; the second argument bounds the depth
unfoldable pub free_to : Guard → ℕ → ℕ → State → State
free_to guard zero n s = s
free_to guard (suc k) n s = free_form guard (free_to guard k) n (form_at n s.world.nodes) s

-- a tree with all that it owns
abbrev pub free : Guard → ℕ → State → State
free guard n s = free_to guard (depth_of s.world) n s
