-- A script on its way: what each line does to the loop, to its steps and to the text of the log.
use Rattle.std.specs.Prelude.{◌≡◌, ◌≤◌, ◌%◌, ℕ, List, Option, None, Some}
use Rattle.kj_base.specs.declared.limits.TheConstants.{MAX_SLOTS}
use Rattle.kj_base.specs.declared.numbers.Limits.{Limits}
use Rattle.kj_base.specs.Record.{Item}
use Rattle.promise_commands.specs.Telling.{Telling}
use Rattle.kj_model.specs.World.{State}
use Rattle.kj_model.specs.Log.{Body, Logged}
use Rattle.kj_model.specs.Text.{log_text}
use Rattle.promise_steps.specs.Following.{Follows}
pub use Rattle.node_arena.specs.Needs.{places_fit}

-- a loop can be made with these limits, where there are any: its slots are whole arenas
abbrev pub HaveLimits : Option Limits → Type 0
HaveLimits None = Unit {0}
HaveLimits (Some limits) = (limits.slots ≤ MAX_SLOTS) × (limits.slots % 8 ≡ 0)

-- the loop stands at the end of this log, the steps follow its record, and its lines are this text
pub record Shows (bodies : List Body) (Stands : State → Type 0) (told : Telling) (text : List ℕ) (l : Logged) : Type 0 where
  pub stands : Stands l.state
  pub follows : Follows bodies l.state.past told
  pub printed : text ≡ log_text l.log
