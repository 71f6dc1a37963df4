-- What evaluations give, against the definitions.
use Rattle.std.specs.Prelude.{◌≡◌, ◌<◌, ℕ, List, [], ◌++◌, Option, None, Some, Bool, false, Result, Ok, Err}
use Rattle.kj_base.specs.declared.memory.NoMemory.{NoMemory}
use Rattle.kj_base.specs.declared.outcomes.Outcome.{Outcome}
use Rattle.kj_base.specs.declared.nodes.Form.{Form as FormCase}
use Rattle.kj_base.specs.Places.{Spot, Row}
use Rattle.kj_base.specs.Record.{Item}
use Rattle.promise_commands.specs.Telling.{Telling, Hears}
use Rattle.kj_model.specs.Nodes.{parts_of}
use Rattle.kj_model.specs.World.{World, State, Setting}
use Rattle.kj_model.specs.Value.{Given, Gave, Took}
pub use Rattle.promise_commands.specs.Answers.{Answer, Agrees}
use Rattle.promise_nodes.specs.Shown.{shown}
use Rattle.promise_nodes.specs.Kept.{ShowsPlain}
use Rattle.promise_walks.specs.declared.land.Given.{Given as GivenCase}
use Rattle.promise_walks.specs.declared.land.Given.TheVariants.{Gave as GaveCase, Took as TookCase}
use Rattle.promise_walks.specs.Walks.{Moved}

-- what a definition gives: a state, and what was wanted; none where a step found no memory
abbrev pub Valued : Type 0 → Type 0
Valued X = State × Option X

-- how the trees below a node are evaluated
abbrev pub Valuing : Type 0
Valuing = ℕ → State → Valued Outcome

-- whether rows fit, by the number of slots and the spots of the live nodes
abbrev pub Rule : Type 0
Rule = ℕ → List Spot → List Row → Bool

-- a store with this rule, and these answers
abbrev pub setting_of : Rule → Answer → Setting
setting_of rule answer = record { fits = rule; answer = answer }

-- from each state that stood, with answers that agree with these items, one that stands now, with these items more:
-- what is left to do comes to the same end
abbrev pub Goes : {X : Type 0} → (World → Type 0) → (World → Type 0) → Rule → (Setting → State → Valued X) → (Setting → State → Valued X) → List Item → Type 0
Goes Old New rule before after items = (answer : Answer) (s : State) → Old s.world → Agrees answer s.past items → Moved New (before (setting_of rule answer) s) (after (setting_of rule answer)) (s.past ++ items)

-- this is given, and nothing is left to do
abbrev pub gave : {X : Type 0} → X → Setting → State → Valued X
gave x setting s = (s, Some x)

-- nothing is given
abbrev pub gave_none : {X : Type 0} → State → Valued X
gave_none s = (s, None)

-- after these items a step found no memory
pub record Lacks {X : Type 0} (Old New : World → Type 0) (rule : Rule) (before : Setting → State → Valued X) (items : List Item) : Type 0 where
  pub step : ℕ
  pub moves : (answer : Answer) (s : State) → Old s.world → Agrees answer s.past items → answer (s.past ++ items) step ≡ None → Moved New (before (setting_of rule answer) s) gave_none (s.past ++ items)

-- the definition comes to this result, or a step found no memory
abbrev pub Answered : {X A : Type 0} → (World → Type 0) → (World → Type 0) → Rule → (Setting → State → Valued X) → (A → Setting → State → Valued X) → List Item → Result A NoMemory → Type 0
Answered Old New rule before view items (Ok a) = Goes Old New rule before (view a) items
Answered Old New rule before view items (Err none) = Lacks Old New rule before items

-- the same, and just these items were told
pub record Gives {X A : Type 0} (Old New : World → Type 0) (rule : Rule) (before : Setting → State → Valued X) (view : A → Setting → State → Valued X) (told_before told_after : Telling) (result : Result A NoMemory) : Type 0 where
  pub items : List Item
  pub told : Hears told_before items told_after
  pub same : Answered Old New rule before view items result

-- what a step gave
abbrev pub given_of : GivenCase → Given
given_of (GaveCase outcome) = Gave outcome
given_of (TookCase root) = Took root.number.0

-- the same, and nothing is left to do
abbrev pub gave_given : GivenCase → Setting → State → Valued Given
gave_given given = gave (given_of given)

-- a root that was built, that nothing owns, and that no name promises
pub record IsRoot (roots : ℕ → Option ℕ) (is_taken : ℕ → Bool) (next n : ℕ) : Type 0 where
  pub untaken : is_taken n ≡ false
  pub built : n < next
  pub unnamed : (name : ℕ) → roots name ≡ Some n → ⊥

-- a tree that was taken is such a root
abbrev pub GivesRoot : (ℕ → Option ℕ) → (ℕ → Bool) → ℕ → Result GivenCase NoMemory → Type 0
GivesRoot roots is_taken next (Ok (TookCase root)) = IsRoot roots is_taken next root.number.0
GivesRoot roots is_taken next other = Unit {0}

-- a form that owns nothing, and is no hub and no branch
pub record IsBare (form : FormCase) : Type 0 where
  pub plain : ShowsPlain (Some form)
  pub parts : parts_of (shown [] form) ≡ []

-- some of the way was gone, and just these items were told
pub record Walked {X : Type 0} (Old New : World → Type 0) (rule : Rule) (before after : Setting → State → Valued X) (told_before told_after : Telling) : Type 0 where
  pub items : List Item
  pub told : Hears told_before items told_after
  pub goes : Goes Old New rule before after items
