-- Running a step, and evaluating a tree.
use Rattle.std.specs.Prelude.{ℕ, zero, suc, List, [], ◌∷◌, ◌++◌, Option, None, Some, Bool, true, false}
use Rattle.kj_base.specs.declared.outcomes.Outcome.{Outcome}
use Rattle.kj_base.specs.declared.outcomes.Outcome.TheVariants.{Value, Broken}
use Rattle.kj_model.specs.Outcomes.{void, joined, promise_given, command_refused}
use Rattle.kj_base.specs.Commands.{Command, Action}
use Rattle.kj_base.specs.declared.endings.Ending.{Ending}
use Rattle.kj_base.specs.declared.endings.Ending.TheVariants.{Value as Give, Throw, Promise, Input}
use Rattle.kj_model.specs.Nodes.{Form, Content, Tree, Kept, Fired, Keeps, Gone, Ready, Cell, Branch, Then, Eager, Wrap, Hub, Side, Race, Join, Entry, form_at, holds}
use Rattle.kj_model.specs.World.{World, State, Setting, Held, Promise as PromiseOf, held_at, depth_of}
use Rattle.kj_base.specs.Record.{Item, Run}
use Rattle.kj_model.specs.Changes.{silent, put, unnamed}
use Rattle.kj_model.specs.Free.{free, usual}
use Rattle.kj_model.specs.Apply.{Refused, apply}

-- what a step gave: an outcome, or the tree of a promise, which left the map
pub data Given : Type 0 where
  Gave : (outcome : Outcome) → Given
  Took : (root : ℕ) → Given

-- the promise leaves the map, or is refused
abbrev pub took_if : Bool → ℕ → ℕ → State → State × Given
took_if true name root s = (s, Gave command_refused)
took_if false name root s = (silent (unnamed name) s, Took root)

-- whether a tree holds the node whose event fires
abbrev pub holds_firing : Option ℕ → ℕ → World → Bool
holds_firing None root w = false
holds_firing (Some n) root w = holds (depth_of w) w.nodes n root

-- under a Chain the promise is refused where it isn't there, is no promise, or holds the event that fires
abbrev pub promise_taken : ℕ → Option Held → State → State × Given
promise_taken name (Some (PromiseOf root)) s = took_if (holds_firing s.world.firing root s.world) name root s
promise_taken name other s = (s, Gave command_refused)

-- whether a Chain is directly above
abbrev pub promise_ended : Bool → ℕ → State → State × Given
promise_ended true name s = promise_taken name (held_at name s.world.names) s
promise_ended false name s = (s, Gave promise_given)

-- what each ending gives
abbrev pub ended : Ending → Bool → Outcome → State → State × Given
ended (Give words) under_chain input s = (s, Gave (Value words))
ended (Throw exception) under_chain input s = (s, Gave (Broken exception))
ended (Promise name) under_chain input s = promise_ended under_chain name.0 s
ended Input under_chain input s = (s, Gave input)

-- the commands after one that wasn't refused
abbrev pub rest_applied : Option Refused → (State → State × Bool) → State → State × Bool
rest_applied (Some refused) rest s = (s, false)
rest_applied None rest s = rest s

-- commands in order, until the first is refused, and whether none was
abbrev pub all_applied : Setting → List Command → State → State × Bool
all_applied setting [] s = (s, true)
all_applied setting (c ∷ cs) s = let r = apply setting true c s in rest_applied r.1 (all_applied setting cs) r.0

-- the first refusal decides; else the ending does
abbrev pub ended_if : Bool → Ending → Bool → Outcome → State → State × Given
ended_if true ending under_chain input s = ended ending under_chain input s
ended_if false ending under_chain input s = (s, Gave command_refused)

-- an action: its commands, and then its ending
abbrev pub acted : Setting → Action → Bool → Outcome → State → State × Given
acted setting action under_chain input s = let r = all_applied setting action.commands s in ended_if r.1 action.ending under_chain input r.0

-- one more item of the record
abbrev pub with_item : Item → State → State
with_item item s = record { world = s.world; past = s.past ++ item ∷ [] }

-- the loop is stopped
abbrev pub with_stopped : World → World
with_stopped w = record w { stopped = true }

-- a step that found its memory
abbrev pub some_given : State × Given → State × Option Given
some_given r = (r.0, Some r.1)

-- a step that finds no memory stops the loop, and its run isn't told
abbrev pub answered : Setting → Option Action → Bool → ℕ → ℕ → Outcome → State → State × Option Given
answered setting None under_chain n step input s = (silent with_stopped s, None)
answered setting (Some action) under_chain n step input s = some_given (acted setting action under_chain input (with_item (Run n step input action) s))

-- a step runs: it is told with what it gives, and that is done
abbrev pub run_step : Setting → Bool → ℕ → ℕ → Outcome → State → State × Option Given
run_step setting under_chain n step input s = answered setting (setting.answer s.past step) under_chain n step input s

-- the step for a value, or the one for an exception
abbrev pub chosen : Option ℕ → Option ℕ → Outcome → Option ℕ
chosen v e (Value words) = v
chosen v e (Broken exception) = e

-- where the step is absent the outcome passes
abbrev pub step_passed : Setting → Bool → ℕ → Option ℕ → Outcome → State → State × Option Given
step_passed setting under_chain n None o s = (s, Some (Gave o))
step_passed setting under_chain n (Some step) o s = run_step setting under_chain n step o s

-- a tree is freed while this event fires
abbrev pub freed : ℕ → State → State
freed n s = free (usual s.world) n s

-- the tree of a Then was evaluated: it is freed, and only then the step runs
abbrev pub then_valued : Setting → Bool → ℕ → Option ℕ → Option ℕ → ℕ → Option Outcome → State → State × Option Given
then_valued setting under_chain n v e t None s = (s, None)
then_valued setting under_chain n v e t (Some o) s = step_passed setting under_chain n (chosen v e o) o (silent (put n (Then v e None)) (freed t s))

-- what a Then gives that isn't under a Chain
abbrev pub given_outcome : Option Given → Option Outcome
given_outcome None = None
given_outcome (Some (Gave o)) = Some o
given_outcome (Some (Took root)) = Some promise_given

-- the same with its state
abbrev pub outcome_given : State × Option Given → State × Option Outcome
outcome_given r = (r.0, given_outcome r.1)

-- a Then's step, over the evaluation of trees below it
abbrev pub then_of : Setting → (ℕ → State → State × Option Outcome) → Bool → ℕ → Option Form → State → State × Option Given
then_of setting value under_chain n (Some (Then v e (Some t))) s = let r = value t s in then_valued setting under_chain n v e t r.1 r.0
then_of setting value under_chain n other s = (s, Some (Gave void))

-- a Side whose event has fired: its tree was evaluated, and is freed
abbrev pub side_valued : ℕ → ℕ → Option Outcome → State → State × Option Outcome
side_valued side t None s = (s, None)
side_valued side t (Some o) s = (silent (put side (Side Gone)) (freed t s), Some o)

-- what a Side has; a fast join's Side keeps an outcome
abbrev pub side_of : (ℕ → State → State × Option Outcome) → ℕ → Option Form → State → State × Option Outcome
side_of value side (Some (Side (Fired t))) s = let r = value t s in side_valued side t r.1 r.0
side_of value side (Some (Side (Keeps o))) s = (s, Some o)
side_of value side other s = (s, Some void)

-- the outcome of a Side
abbrev pub value_side : (ℕ → State → State × Option Outcome) → ℕ → State → State × Option Outcome
value_side value side s = side_of value side (form_at side s.world.nodes) s

-- the Sides after one whose outcome is there
abbrev pub rest_valued : Option Outcome → (Outcome → State → State × Option Outcome) → State → State × Option Outcome
rest_valued None rest s = (s, None)
rest_valued (Some o) rest s = rest o s

-- the Sides of an All in index order, all of them, after the outcomes so far
abbrev pub all_valued : (ℕ → State → State × Option Outcome) → List Outcome → List ℕ → State → State × Option Outcome
all_valued value outcomes [] s = (s, Some (joined outcomes))
all_valued value outcomes (side ∷ sides) s = let r = value_side value side s in rest_valued r.1 (λ o. all_valued value (outcomes ++ o ∷ []) sides) r.0

-- the outcomes that the Sides of a fast join keep, in index order
abbrev pub kept_of : Option Form → List Outcome
kept_of (Some (Side (Keeps o))) = o ∷ []
kept_of other = []

-- the outcomes that these Sides keep
abbrev pub kept_in : List Entry → List ℕ → List Outcome
kept_in nodes [] = []
kept_in nodes (side ∷ sides) = kept_of (form_at side nodes) ++ kept_in nodes sides

-- a fast join joins what its Sides keep; another evaluates them
abbrev pub join_valued : Bool → (ℕ → State → State × Option Outcome) → List ℕ → State → State × Option Outcome
join_valued true value sides s = (s, Some (joined (kept_in s.world.nodes sides)))
join_valued false value sides s = all_valued value [] sides s

-- the empty value for none
abbrev pub or_void : Option Outcome → Outcome
or_void None = void
or_void (Some o) = o

-- the outcome that is kept
abbrev pub content_outcome : Content → Outcome
content_outcome (Tree root) = void
content_outcome (Kept o) = o

-- the outcome of a hub
abbrev pub hub_outcome : Option Form → Outcome
hub_outcome (Some (Hub content named branches)) = content_outcome content
hub_outcome other = void

-- the Side that won a Race
abbrev pub winner_valued : (ℕ → State → State × Option Outcome) → Option ℕ → State → State × Option Outcome
winner_valued value None s = (s, Some void)
winner_valued value (Some side) s = value_side value side s

-- the outcome of each form
abbrev pub value_form : Setting → (ℕ → State → State × Option Outcome) → ℕ → Option Form → State → State × Option Outcome
value_form setting value n (Some (Ready o)) s = (s, Some o)
value_form setting value n (Some (Cell o)) s = (s, Some (or_void o))
value_form setting value n (Some (Branch hub)) s = (s, Some (hub_outcome (form_at hub s.world.nodes)))
value_form setting value n (Some (Eager content)) s = (s, Some (content_outcome content))
value_form setting value n (Some (Wrap canceler content)) s = (s, Some (content_outcome content))
value_form setting value n (Some (Race left right winner)) s = winner_valued value winner s
value_form setting value n (Some (Join fast sides)) s = join_valued fast value sides s
value_form setting value n (Some (Then v e tree)) s = outcome_given (then_of setting value false n (Some (Then v e tree)) s)
value_form setting value n other s = (s, Some void)

-- the outcome of a ready tree, with the steps that run for it; none where a step found no memory; the second argument bounds the depth
unfoldable pub value_to : Setting → ℕ → ℕ → State → State × Option Outcome
value_to setting zero n s = (s, Some void)
value_to setting (suc k) n s = value_form setting (value_to setting k) n (form_at n s.world.nodes) s

-- the outcome of a ready tree
abbrev pub value : Setting → ℕ → State → State × Option Outcome
value setting n s = value_to setting (depth_of s.world) n s

-- the Then of a Chain, whose step may give a promise
abbrev pub value_link : Setting → ℕ → State → State × Option Given
value_link setting n s = then_of setting (value setting) true n (form_at n s.world.nodes) s
