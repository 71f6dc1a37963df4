-- What is done while steps may find no memory, against the definitions.
use Rattle.std.specs.Prelude.{◌≡◌, ℕ, List, ◌++◌, Option, None, Some, true, is_some}
use Rattle.kj_base.specs.Counts.{HasLacked}
use Rattle.kj_base.specs.Record.{Item}
use Rattle.promise_commands.specs.Telling.{Telling, Hears}
use Rattle.kj_model.specs.World.{World, State, Setting}
use Rattle.promise_walks.specs.Walks.{Moved}
use Rattle.promise_walks.specs.Values.{Answer, Agrees, Rule, setting_of}

-- each state
abbrev pub Anywhere : Setting → State → Type 0
Anywhere setting s = Unit {0}

-- after this record this step finds no memory, where there is one
abbrev pub IsMissing : Answer → List Item → Option ℕ → Type 0
IsMissing answer past None = Unit {0}
IsMissing answer past (Some step) = answer past step ≡ None

-- a step found no memory, or none did; from each state that stood and of which this holds, with answers that agree with
-- that and with the items, the definition comes to one that stands now, with these items more
pub record Acts {E : Type 0} (Old New : World → Type 0) (rule : Rule) (From : Setting → State → Type 0) (change : Setting → State → E) (view : State → E) (told_before told_after : Telling) (lacks_before lacks_after : ℕ) : Type 0 where
  pub items : List Item
  pub missing : Option ℕ
  pub told : Hears told_before items told_after
  pub lacks : HasLacked (is_some missing) lacks_before lacks_after
  pub goes : (answer : Answer) (s : State) → Old s.world → From (setting_of rule answer) s → Agrees answer s.past items → IsMissing answer (s.past ++ items) missing → Moved New (change (setting_of rule answer) s) view (s.past ++ items)
  -- and where a step found no memory the loop is stopped
  pub stops : (answer : Answer) (s : State) (old : Old s.world) (from : From (setting_of rule answer) s) (agrees : Agrees answer s.past items) (lacking : IsMissing answer (s.past ++ items) missing) → is_some missing ≡ true → (goes answer s old from agrees lacking).state.world.stopped ≡ true
