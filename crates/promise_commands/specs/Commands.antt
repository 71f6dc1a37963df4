-- The commands that the Rust variants are.
use Rattle.std.specs.Prelude.{ℕ, List, map}
use Rattle.kj_base.specs.Commands.{Command, Action, step_of, Now, Broken, Later, Last, Pair, Then, Chain, Eager, Fork, Branch, Race, All, Fast, Fulfil, Reject, DropCell, Detach, NewSet, Add, OnEmpty, Clear, NewCanceler, Cancel, Drop}
use Rattle.kj_base.specs.declared.numbers.Name.{Name}
use Rattle.promise_commands.specs.declared.command.Command.{Command as CommandCase}
use Rattle.promise_commands.specs.declared.command.Command.TheVariants.{Now as NowCase, Broken as BrokenCase, Later as LaterCase, Last as LastCase, Pair as PairCase, Then as ThenCase, Chain as ChainCase, Eager as EagerCase, Fork as ForkCase, Branch as BranchCase, Race as RaceCase, All as AllCase, Fast as FastCase, Fulfil as FulfilCase, Reject as RejectCase, DropCell as DropCellCase, Detach as DetachCase, NewSet as NewSetCase, Add as AddCase, OnEmpty as OnEmptyCase, Clear as ClearCase, NewCanceler as NewCancelerCase, Cancel as CancelCase, Drop as DropCase}
use Rattle.promise_commands.specs.declared.action.Action.{Action as ActionCase}

-- the numbers of names
abbrev pub name_numbers : List Name → List ℕ
name_numbers names = map (λ (n : Name). n.0) names

-- the command that each variant is
abbrev pub command_of : CommandCase → Command
command_of (NowCase name value) = Now name.0 value
command_of (BrokenCase name exception) = Broken name.0 exception
command_of (LaterCase name) = Later name.0
command_of (LastCase name) = Last name.0
command_of (PairCase name cell) = Pair name.0 cell.0
command_of (ThenCase name source value error) = Then name.0 source.0 (step_of value) (step_of error)
command_of (ChainCase name source value error) = Chain name.0 source.0 (step_of value) (step_of error)
command_of (EagerCase name source) = Eager name.0 source.0
command_of (ForkCase hub source) = Fork hub.0 source.0
command_of (BranchCase name hub) = Branch name.0 hub.0
command_of (RaceCase name left right) = Race name.0 left.0 right.0
command_of (AllCase name parts) = All name.0 (name_numbers parts)
command_of (FastCase name parts) = Fast name.0 (name_numbers parts)
command_of (FulfilCase cell value) = Fulfil cell.0 value
command_of (RejectCase cell exception) = Reject cell.0 exception
command_of (DropCellCase cell) = DropCell cell.0
command_of (DetachCase source) = Detach source.0
command_of (NewSetCase group error) = NewSet group.0 (step_of error)
command_of (AddCase group source) = Add group.0 source.0
command_of (OnEmptyCase name group) = OnEmpty name.0 group.0
command_of (ClearCase group) = Clear group.0
command_of (NewCancelerCase canceler) = NewCanceler canceler.0
command_of (CancelCase canceler) = Cancel canceler.0
command_of (DropCase name) = Drop name.0

-- the action of each Rust action
abbrev pub action_of : ActionCase → Action
action_of action = record { commands = map command_of action.commands; ending = action.ending }
