-- What each world of a loop keeps, as a test that computes, after each line of a script.
use Rattle.std.specs.Prelude.{ℕ, List, [], ◌∷◌, ◌++◌, Bool, true, false, not, ◌==◌, ◌&&◌, nat_lt, nat_le, length, ◌+◌}
use Rattle.std.specs.List.{list_any, list_all}
use Rattle.kj_base.specs.Record.{Item, Run, Free}
use Rattle.kj_model.specs.Nodes.{Entry, Form, Hub, is_in}
use Rattle.kj_model.specs.World.{World, State, Setting, Spot, Row, Named, depth_of}
use Rattle.kj_model.specs.Changes.{frees_in}
use Rattle.kj_model.specs.Trees.{tree_numbers}
use Rattle.kj_model.specs.Owned.{roots, standing, numbers, is_run_of, may_stand, is_hub_name, branches_to}
use Rattle.kj_model.specs.Log.{Script, Numbered, Logged, log_line, setting_of, new_log, limits_or}

-- no number stands twice
abbrev pub are_apart : List ℕ → Bool
are_apart [] = true
are_apart (n ∷ ns) = not (is_in n ns) && are_apart ns

-- the same numbers in the same order
abbrev pub are_same : List ℕ → List ℕ → Bool
are_same [] [] = true
are_same (m ∷ ms) [] = false
are_same [] (n ∷ ns) = false
are_same (m ∷ ms) (n ∷ ns) = (m == n) && are_same ms ns

-- both hold, or neither
abbrev pub are_alike : Bool → Bool → Bool
are_alike true b = b
are_alike false b = not b

-- no run of a node stands after its free
abbrev pub is_in_order : List Item → Bool
is_in_order [] = true
is_in_order (Run n step input action ∷ items) = is_in_order items
is_in_order (Free n ∷ items) = not (list_any (is_run_of n) items) && is_in_order items

-- a hub's references are its name and its live branches
abbrev pub has_references : World → ℕ → Form → Bool
has_references w n (Hub content is_named branches) = are_alike is_named (list_any (λ (x : Named). is_hub_name n x.held) w.names) && are_same branches (branches_to n w.nodes)
has_references w n other = true

-- each live node stands once, under one root
abbrev pub stands_once : World → Bool
stands_once w = are_apart (standing w) && list_all (λ n. is_in n (numbers w.nodes)) (standing w) && list_all (λ n. is_in n (standing w)) (numbers w.nodes)

-- the tree of each root has fewer nodes than the bound, so it is read whole
abbrev pub is_within_bound : World → Bool
is_within_bound w = list_all (λ n. nat_lt (length (tree_numbers (depth_of w) w.nodes n)) (depth_of w)) (roots w)

-- the queue's points lie in order, no event stands twice, and each may stand there
abbrev pub has_queue : World → Bool
has_queue w = nat_le w.queue.depth w.queue.breadth && nat_le w.queue.breadth (length w.queue.list) && are_apart w.queue.list && list_all (may_stand w) w.queue.list

-- each number that was built is live or was freed, once
abbrev pub is_told_once : State → Bool
is_told_once s = let ns = numbers s.world.nodes ++ frees_in s.past in are_apart ns && list_all (λ n. nat_lt 0 n && nat_lt n s.world.next) ns && (length ns + 1 == s.world.next)

-- all of it
abbrev pub is_owned : State → Bool
is_owned s = stands_once s.world && is_within_bound s.world && list_all (λ (e : Entry). has_references s.world e.number e.form) s.world.nodes && has_queue s.world && is_told_once s && is_in_order s.past

-- before each of these lines, and after the last one
abbrev pub are_owned : Setting → List Numbered → Logged → Bool
are_owned setting [] l = is_owned l.state
are_owned setting (x ∷ xs) l = is_owned l.state && are_owned setting xs (log_line setting x.number x.line l)

-- in the whole run of a script
abbrev pub always_owned : (ℕ → List Spot → List Row → Bool) → Script → Bool
always_owned fits script = are_owned (setting_of fits script.bodies) script.lines (new_log (limits_or script.limits))
