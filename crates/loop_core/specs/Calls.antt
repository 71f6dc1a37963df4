-- The calls of a loop, against the definitions.
use Rattle.std.specs.Prelude.{◌≡◌, ◌&&◌, ℕ, List, ◌++◌, Option, None, Bool, false, map, nat_lt, is_some}
use Rattle.kj_base.specs.Counts.{HasLacked}
use Rattle.kj_base.specs.Record.{Item, Free}
use Rattle.promise_commands.specs.Telling.{Telling, Hears}
use Rattle.kj_model.specs.Changes.{frees_in}
use Rattle.kj_model.specs.Calls.{CallClose, Closed, call, close}
use Rattle.kj_model.specs.Framed.{times}
use Rattle.kj_model.specs.Owned.{numbers}
use Rattle.kj_model.specs.World.{State, Setting}
use Rattle.kj_ownership.specs.Standing.{one_if}
use Rattle.promise_turns.specs.Acting.{IsMissing}
use Rattle.promise_walks.specs.Values.{Answer, Agrees, Rule, setting_of}

-- a state with this record at which the loop stands now: what is left to do comes to the same end
pub record ComesTo {E : Type 0} (New : State → Type 0) (end : E) (after : State → E) (past : List Item) : Type 0 where
  pub state : State
  pub stands : New state
  pub past_is : state.past ≡ past
  pub ends : after state ≡ end

-- just these items were told, and then a step found no memory, or none did, which the count says; from each state at which
-- the loop stood, where steps answer so, the definition leads to one at which it stands now
pub record CallIs {E : Type 0} (Old New : State → Type 0) (rule : Rule) (before after : Setting → State → E) (told_before told_after : Telling) (lacks_before lacks_after : ℕ) : Type 0 where
  pub items : List Item
  pub missing : Option ℕ
  pub told : Hears told_before items told_after
  pub counts : (s : State) → Old s → HasLacked (is_some missing) lacks_before lacks_after
  pub leads :
      (answer : Answer) (s : State) → Old s → Agrees answer s.past items → IsMissing answer (s.past ++ items) missing
      → ComesTo New (before (setting_of rule answer) s) (after (setting_of rule answer)) (s.past ++ items)

-- the same, and a step found no memory only where this says so
pub record CallLacks {E : Type 0} (lacks : Bool) (Old New : State → Type 0) (rule : Rule) (before after : Setting → State → E) (told_before told_after : Telling) (lacks_before lacks_after : ℕ) : Type 0 where
  pub call : CallIs Old New rule before after told_before told_after lacks_before lacks_after
  pub only : lacks ≡ false → call.missing ≡ None

-- each number that was built was freed once in the whole record, and each live one is one of these, once
pub record FreesEachOnce (s : State) (freed : List ℕ) : Type 0 where
  pub once : (n : ℕ) → times n (frees_in (s.past ++ map Free freed)) ≡ one_if (nat_lt 0 n && nat_lt n s.world.next)
  pub live : (n : ℕ) → times n freed ≡ times n (numbers s.world.nodes)

-- the closing of this state freed these numbers, in order, and they are its reply
pub record IsClosed (s : State) (freed : List ℕ) : Type 0 where
  pub past_is : (close s).past ≡ s.past ++ map Free freed
  pub reply : (setting : Setting) → (call setting CallClose s).1 ≡ Closed freed
  pub each_once : FreesEachOnce s freed

-- the closing freed these numbers, in order, and just they were told
pub record Closes (Old : State → Type 0) (freed : List ℕ) (told_before told_after : Telling) : Type 0 where
  pub told : Hears told_before (map Free freed) told_after
  pub closed : (s : State) → Old s → IsClosed s freed
