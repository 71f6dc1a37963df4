-- The actions of a server's steps.
use Rattle.std.specs.Prelude.{ℕ, ◌+◌, List, [], ◌∷◌, ◌++◌, None, Some, Bool, true, false}
use Rattle.kj_base.specs.Commands.{Command, Action, Now, Pair, Then, Chain, Fork, Branch, Race, All}
use Rattle.kj_base.specs.Commands.{DropCell, NewSet, Add, Detach}
use Rattle.kj_base.specs.declared.endings.Ending.{Ending}
use Rattle.kj_base.specs.declared.endings.Ending.TheVariants.{Value, Throw, Promise, Input}
use Rattle.kj_base.specs.declared.outcomes.Kind.TheVariants as kinds
use Rattle.http_stream.specs.declared.next.Next.{Next}
use Rattle.http_stream.specs.declared.next.Next.TheVariants as next
use Rattle.http_steps.specs.declared.names.TheConstants.{TASKS, DRAIN_CELL, DRAIN_FORK, LEAF, LAST}
use Rattle.http_steps.specs.declared.names.TheConstants.{READABLE, JOIN, RACE, FIRST_CELL}
use Rattle.http_steps.specs.declared.server_step.TheConstants.{DRAIN, READ, FAILED}
use Rattle.http_steps.specs.declared.actions.TheConstants.{ABANDONED, NO_PAYLOAD}
use Rattle.http_steps.specs.declared.server_step.ServerStep.{ServerStep}
use Rattle.http_steps.specs.declared.server_step.ServerStep.TheVariants as server
use Rattle.http_steps.specs.Steps.{number_of}

-- the name of a connection's cell
abbrev pub cell_of : ℕ → ℕ
cell_of place = FIRST_CELL + place

-- a step over a leaf that is ready with the place, an event of its own
abbrev pub go_commands : ℕ → ℕ → List Command
go_commands place step = Now LEAF (place ∷ []) ∷ Chain LAST LEAF (Some step) None ∷ []

-- a step over the place beside what it waits for, which has no words
abbrev pub over_commands : ℕ → ℕ → ℕ → List Command
over_commands place ready step =
    Now LEAF (place ∷ []) ∷ All JOIN (LEAF ∷ ready ∷ []) ∷ Chain LAST JOIN (Some step) None ∷ []

-- It waits for the race of the connection's cell with a branch of the drain's fork; for the cell
-- alone once the drain began, since that race would be ready for good.
abbrev pub wait_commands : Bool → ℕ → ℕ → List Command
wait_commands false place step =
    Pair READABLE (cell_of place) ∷ Branch JOIN DRAIN_FORK ∷ Race RACE READABLE JOIN
    ∷ over_commands place RACE step
wait_commands true place step = Pair READABLE (cell_of place) ∷ over_commands place READABLE step

-- the cell of the wait before goes first, so its name is free
abbrev pub front_commands : Bool → ℕ → List Command
front_commands true place = DropCell (cell_of place) ∷ []
front_commands false place = []

abbrev pub next_commands : Bool → ℕ → Next → List Command
next_commands drained place (next.Go step) = go_commands place (number_of step)
next_commands drained place (next.Wait step) = wait_commands drained place (number_of step)
next_commands drained place next.End = []
next_commands drained place next.Abandoned = []

-- how a connection's step ends
abbrev pub connection_ending : Next → Ending
connection_ending (next.Go step) = Promise (record { 0 = LAST })
connection_ending (next.Wait step) = Promise (record { 0 = LAST })
connection_ending next.End = Value []
connection_ending next.Abandoned = Throw (record { kind = kinds.Disconnected; code = ABANDONED })

-- The action of a connection's step, by whether it waited before, whether the drain began, its
-- place, and what follows.
abbrev pub connection_action : Bool → Bool → ℕ → Next → Action
connection_action waited drained place following = record {
  commands = front_commands waited place ++ next_commands drained place following;
  ending = connection_ending following;
}

-- the action of a step that does nothing with a connection: no commands, and this end
abbrev pub plain_ending : ServerStep → Ending
plain_ending server.Drain = Value []
plain_ending (server.Connection step) = Value []
plain_ending server.Failed = Value []
plain_ending server.Payload = Throw (record { kind = kinds.Failed; code = NO_PAYLOAD })
plain_ending server.Foreign = Input

abbrev pub plain_action : ServerStep → Action
plain_action step = record { commands = []; ending = plain_ending step }

-- the drain's cell, and its fork
abbrev pub drain_commands : List Command
drain_commands = Pair LEAF DRAIN_CELL ∷ Fork DRAIN_FORK LEAF ∷ []

-- the step over the drain, which the loop keeps
abbrev pub drain_step_commands : List Command
drain_step_commands = Branch LEAF DRAIN_FORK ∷ Then LAST LEAF (Some DRAIN) None ∷ Detach LAST ∷ []

-- the set of tasks, and the drain
abbrev pub first_commands : List Command
first_commands = NewSet TASKS (Some FAILED) ∷ drain_commands ++ drain_step_commands

-- a connection's first step, as a task of the set
abbrev pub admit_commands : ℕ → List Command
admit_commands place = go_commands place READ ++ Add TASKS LAST ∷ []
