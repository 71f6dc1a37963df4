-- The paths of arenas, as a test that computes, after each line of a script.
use Rattle.std.specs.Prelude.{ℕ, List, [], ◌∷◌, Option, None, Some, Bool, true, false, not, ◌==◌, ◌&&◌, ◌||◌, nat_lt}
use Rattle.std.specs.List.{list_all}
use Rattle.kj_base.specs.Places.{Spot, Row}
use Rattle.kj_model.specs.Nodes.{Entry, parts_at, is_in}
use Rattle.kj_model.specs.World.{World, Setting}
use Rattle.kj_model.specs.Owned.{numbers}
use Rattle.kj_model.specs.Log.{Script, Numbered, Logged, log_line, setting_of, new_log, limits_or}

-- whether a spot is before this one in its arena, and behind the best so far
abbrev pub is_nearer : Spot → Option Spot → Spot → Bool
is_nearer x None y = (y.key == x.key) && nat_lt y.place x.place
is_nearer x (Some best) y = (y.key == x.key) && nat_lt y.place x.place && nat_lt best.place y.place

-- that one, or the best so far
abbrev pub nearer_if : Bool → Spot → Option Spot → Option Spot
nearer_if true y best = Some y
nearer_if false y best = best

-- the live node that is next before this one in its arena
abbrev pub next_before : Spot → Option Spot → List Spot → Option Spot
next_before x best [] = best
next_before x best (y ∷ ys) = next_before x (nearer_if (is_nearer x best y) y best) ys

-- whether it owns the node of this number, where there is one
abbrev pub is_owned_by : ℕ → Option Spot → List Entry → Bool
is_owned_by n None nodes = true
is_owned_by n (Some y) nodes = is_in n (parts_at y.number nodes)

-- no other spot has the same place of the same arena
abbrev pub is_alone : Spot → List Spot → Bool
is_alone x spots = list_all (λ (y : Spot). (y.number == x.number) || not ((y.key == x.key) && (y.place == x.place))) spots

-- the live nodes of each arena are one path: each but the first is owned by the live node next before it
abbrev pub are_paths : World → Bool
are_paths w = list_all (λ (x : Spot). nat_lt x.place 8 && is_in x.number (numbers w.nodes) && is_alone x w.spots && is_owned_by x.number (next_before x None w.spots) w.nodes) w.spots

-- before each of these lines, and after the last one
abbrev pub stay_paths : Setting → List Numbered → Logged → Bool
stay_paths setting [] l = are_paths l.state.world
stay_paths setting (x ∷ xs) l = are_paths l.state.world && stay_paths setting xs (log_line setting x.number x.line l)

-- in the whole run of a script
abbrev pub always_paths : (ℕ → List Spot → List Row → Bool) → Script → Bool
always_paths fits script = stay_paths (setting_of fits script.bodies) script.lines (new_log (limits_or script.limits))
