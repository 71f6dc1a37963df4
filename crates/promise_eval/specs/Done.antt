-- What the parts of a step give.
use Rattle.std.specs.Prelude.{◌≡◌, ℕ, List, ◌++◌, map, Bool, Option, None, Some}
use Rattle.kj_base.specs.Commands.{Command}
use Rattle.kj_base.specs.Record.{Item}
use Rattle.promise_commands.specs.Telling.{Telling, Hears}
use Rattle.kj_model.specs.World.{World, State, Setting}
use Rattle.promise_walks.specs.Walks.{Moved}
use Rattle.promise_walks.specs.Values.{Answer, Rule, setting_of}
use Rattle.promise_commands.specs.Commands.{command_of}
use Rattle.promise_commands.specs.declared.command.Command.{Command as CommandCase}

-- this is the answer, in a state that stands now, and nothing was told
pub record IsDone {A : Type 0} (New : World → Type 0) (past : List Item) (answer : A) (r : State × A) : Type 0 where
  pub answer_is : r.1 ≡ answer
  pub stands : New r.0.world
  pub past_is : r.0.past ≡ past

-- from each state that stood, whatever steps answer, one that stands now: what is left to do comes to the same end,
-- and just these items were told
pub record Did {E : Type 0} (Old New : World → Type 0) (rule : Rule) (before after : Setting → State → E) (told_before told_after : Telling) : Type 0 where
  pub items : List Item
  pub told : Hears told_before items told_after
  pub moves : (answer : Answer) (s : State) → Old s.world → Moved New (before (setting_of rule answer) s) (after (setting_of rule answer)) (s.past ++ items)

-- the commands of each Rust command
abbrev pub commands_of : List CommandCase → List Command
commands_of commands = map command_of commands
