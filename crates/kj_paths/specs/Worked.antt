-- Worked calls: a path of six nodes in one arena, whose Chain gives its place to a promise with a
-- path of its own.
use Rattle.std.specs.Prelude.{ℕ, List, [], ◌∷◌, None, Some}
use Rattle.kj_base.specs.Commands.{Later, Then, Chain, Detach, Ask, Drop}
use Rattle.kj_base.specs.Places.{Spot}
use Rattle.kj_base.specs.declared.numbers.Limits.{Limits}
use Rattle.kj_model.specs.World.{Setting}
use Rattle.kj_model.specs.Calls.{Call, CallApply, CallTurn, CallTakeAsk, CallTakeAbandoned}
use Rattle.kj_model.specs.Log.{scripted}
use Rattle.kj_model.specs.Scripts.{body, promised}
use Rattle.kj_base.specs.Places.{arenas_fit}
use Rattle.kj_paths.specs.Rows.{over_store}

-- over arenas step 1 gives a promise of two nodes, and each other step passes its input on
abbrev pub worked_setting : Setting
worked_setting =
    over_store arenas_fit
    (scripted (body 1 (Later 10 ∷ Then 11 10 None None ∷ []) (promised 11) ∷ []))

abbrev pub worked_limits : Limits
worked_limits = record { slots = 24; names = 8 }

-- a leaf, a Then over it, a Chain with its Then, a Then over that, and a Task
abbrev pub worked_builds : List Call
worked_builds =
    CallApply (Later 1) ∷ CallApply (Then 2 1 (Some 5) None)
    ∷ CallApply (Chain 3 2 (Some 1) None) ∷ CallApply (Then 4 3 None None)
    ∷ CallApply (Detach 4) ∷ []

-- the event of the Chain fires; then an ask comes, is taken and dropped, and its cell is taken
abbrev pub worked_turn : List Call
worked_turn =
    CallTurn ∷ CallApply (Ask 20 21 0 7 []) ∷ CallTakeAsk ∷ CallApply (Drop 20)
    ∷ CallTakeAbandoned ∷ []

abbrev pub spot_at : ℕ → ℕ → ℕ → Spot
spot_at number key place = record { number = number; key = key; place = place }

-- one path, from the leaf at the last place to the Task
abbrev pub worked_path : List Spot
worked_path =
    spot_at 1 0 7 ∷ spot_at 2 0 6 ∷ spot_at 3 0 5 ∷ spot_at 4 0 4
    ∷ spot_at 5 0 3 ∷ spot_at 6 0 2 ∷ []

-- two paths: what is left of that one, and that of the promise, whose owner is in the first
abbrev pub worked_paths : List Spot
worked_paths = spot_at 5 0 3 ∷ spot_at 6 0 2 ∷ spot_at 7 1 7 ∷ spot_at 8 1 6 ∷ []
