-- Worked steps beside one another: a request that ends is taken after the next turn on one side only, and its number is then used again.
use Rattle.std.specs.Prelude.{List, [], ◌∷◌, Some}
use Rattle.kj_base.specs.Commands.{Begin, Later, Detach}
use Rattle.kj_base.specs.declared.endings.Ending.TheVariants.{Input}
use Rattle.kj_base.specs.declared.outcomes.Outcome.TheVariants.{Value}
use Rattle.kj_base.specs.Record.{Item, Run, Free}
use Rattle.kj_model.specs.World.{Setting, State, new_state}
use Rattle.kj_model.specs.Places.{table_fits}
use Rattle.kj_model.specs.Calls.{CallApply, CallTurn, CallTakeEnded}
use Rattle.kj_takings.specs.Calls.{Step, Both, Left, Right, Settled}

-- each step passes its input on
abbrev pub passing_setting : Setting
passing_setting = record { fits = table_fits; answer = λ past step. Some (record { commands = []; ending = Input }) }

-- a new loop
abbrev pub worked_start : State
worked_start = new_state (record { slots = 16; names = 16 })

-- the request ends in the second turn; the left side takes it before the command, the right side after the next turn
abbrev pub worked_steps : List Step
worked_steps =
    Both (CallApply (Begin 100 1 (7 ∷ []))) ∷ Both CallTurn ∷ Both CallTurn ∷ Left CallTakeEnded
    ∷ Both (CallApply (Later 1)) ∷ Both (CallApply (Detach 1)) ∷ Both CallTurn ∷ Right CallTakeEnded ∷ Settled 100
    ∷ Both (CallApply (Begin 100 2 [])) ∷ Both CallTurn ∷ []

-- what is told on both sides
abbrev pub worked_past : List Item
worked_past =
    Free 1 ∷ Run 2 1 (Value (7 ∷ [])) (record { commands = []; ending = Input }) ∷ Free 2 ∷ Free 3 ∷ Free 4
    ∷ Free 5 ∷ Free 6
    ∷ Free 7 ∷ Run 8 2 (Value []) (record { commands = []; ending = Input }) ∷ Free 8 ∷ []
