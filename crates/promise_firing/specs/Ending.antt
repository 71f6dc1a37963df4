-- A Task whose tree gave an outcome.
use Rattle.std.specs.Prelude.{ℕ, List, Option, Some}
use Rattle.kj_base.specs.declared.outcomes.Outcome.{Outcome}
use Rattle.kj_base.specs.Record.{Item}
use Rattle.promise_commands.specs.Telling.{Telling, Hears}
use Rattle.kj_model.specs.World.{World, Setting}
use Rattle.kj_model.specs.Fire.{task_ended, task_valued}
use Rattle.promise_walks.specs.Walks.{Moves}

-- for each setting and each outcome the error step of its set is left to do, and that the Task goes; the same is told
pub record LeavesSet (Old New : World → Type 0) (task tree : ℕ) (error : Option ℕ) (told_before told_after : Telling) : Type 0 where
  pub items : List Item
  pub told : Hears told_before items told_after
  pub moves :
      (setting : Setting) (outcome : Outcome)
      → Moves Old New (task_valued setting task tree (Some outcome)) (task_ended setting task outcome error) items
