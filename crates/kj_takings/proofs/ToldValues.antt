-- Steps, and the evaluation of trees.
use Rattle.std.proofs.Common.{zero, suc, ◌≡◌, ℕ, List, [], ◌∷◌, ◌++◌, Bool, true, false, Option, None, Some, refl, ap}
use Rattle.kj_base.specs.declared.outcomes.Outcome.{Outcome}
use Rattle.kj_base.specs.Commands.{Command, Action}
use Rattle.kj_base.specs.declared.endings.Ending.{Ending}
use Rattle.kj_base.specs.declared.endings.Ending.TheVariants.{Value as Give, Throw, Promise, Input}
use Rattle.kj_base.specs.Record.{Run}
use Rattle.kj_model.specs.Nodes.{Form, Then, Race, Join, Side, Waits, Fired, Keeps, Gone, form_at}
use Rattle.kj_model.specs.World.{State, Setting, Held, Promise as PromiseOf, held_at, depth_of}
use Rattle.kj_model.specs.Changes.{silent, put}
use Rattle.kj_model.specs.Free.{usual}
use Rattle.kj_model.specs.Apply.{Refused, apply}
use Rattle.kj_model.specs.Value.{Given, took_if, holds_firing, promise_taken, promise_ended, ended, rest_applied, all_applied, ended_if, with_item, with_stopped, answered, run_step, chosen, step_passed, freed, then_valued, then_of, side_valued, side_of, value_side, rest_valued, all_valued, join_valued, winner_valued, value_form, value_to, value, value_link}
use Rattle.kj_takings.proofs.ToldListed.{kind, Tales, Listed, stays, put_leaves, unnamed_leaves}
use Rattle.kj_takings.proofs.ToldFrees.{free_leaves}
use Rattle.kj_takings.proofs.ToldCommands.{apply_listed}

abbrev pub GivenListed : Tales → State × Option Given → Type 0
GivenListed told r = Listed told r.0.world

pub freed_listed : (told : Tales) (t : ℕ) (s : State) → Listed told s.world → Listed told (freed t s).world
freed_listed told t s g = (free_leaves (usual s.world) t s).listed told g

-- commands in order
rest_listed : (told : Tales) (o : Option Refused) (rest : State → State × Bool) (s : State) → ((t : State) → Listed told t.world → Listed told (rest t).0.world) → Listed told s.world → Listed told (rest_applied o rest s).0.world
rest_listed told None rest s h g = h s g
rest_listed told (Some refused) rest s h g = g

all_listed : (told : Tales) (setting : Setting) (cs : List Command) (s : State) → Listed told s.world → Listed told (all_applied setting cs s).0.world
all_listed told setting [] s g = g
all_listed told setting (c ∷ cs) s g = let r = apply setting true c s in rest_listed told r.1 (all_applied setting cs) r.0 (λ t h. all_listed told setting cs t h) (apply_listed setting c s told g)

-- an ending
taken_if : (told : Tales) (b : Bool) (name root : ℕ) (s : State) → held_at name s.world.names ≡ Some (PromiseOf root) → Listed told s.world → Listed told (took_if b name root s).0.world
taken_if told true name root s at g = g
taken_if told false name root s at g = (unnamed_leaves name s.world (ap kind at)).listed told g

taken_listed : (told : Tales) (name : ℕ) (h : Option Held) (s : State) → held_at name s.world.names ≡ h → Listed told s.world → Listed told (promise_taken name h s).0.world
taken_listed told name (Some (PromiseOf root)) s at g = taken_if told (holds_firing s.world.firing root s.world) name root s at g
taken_listed told name None s at g = g
taken_listed told name (Some _) s at g = g

promised_listed : (told : Tales) (under : Bool) (name : ℕ) (s : State) → Listed told s.world → Listed told (promise_ended under name s).0.world
promised_listed told true name s g = taken_listed told name (held_at name s.world.names) s refl g
promised_listed told false name s g = g

ended_listed : (told : Tales) (ending : Ending) (under : Bool) (input : Outcome) (s : State) → Listed told s.world → Listed told (ended ending under input s).0.world
ended_listed told (Give words) under input s g = g
ended_listed told (Throw exception) under input s g = g
ended_listed told (Promise name) under input s g = promised_listed told under name.0 s g
ended_listed told Input under input s g = g

end_listed : (told : Tales) (b : Bool) (ending : Ending) (under : Bool) (input : Outcome) (s : State) → Listed told s.world → Listed told (ended_if b ending under input s).0.world
end_listed told true ending under input s g = ended_listed told ending under input s g
end_listed told false ending under input s g = g

-- a step
answered_listed : (told : Tales) (setting : Setting) (a : Option Action) (under : Bool) (n step : ℕ) (input : Outcome) (s : State) → Listed told s.world → GivenListed told (answered setting a under n step input s)
answered_listed told setting None under n step input s g = (stays s.world (with_stopped s.world) refl refl refl refl refl refl).listed told g
answered_listed told setting (Some action) under n step input s g =
    let t = with_item (Run n step input action) s in
    let r = all_applied setting action.commands t in
    end_listed told r.1 action.ending under input r.0 (all_listed told setting action.commands t g)

pub step_listed : (told : Tales) (setting : Setting) (under : Bool) (n step : ℕ) (input : Outcome) (s : State) → Listed told s.world → GivenListed told (run_step setting under n step input s)
step_listed told setting under n step input s g = answered_listed told setting (setting.answer s.past step) under n step input s g

passed_listed : (told : Tales) (setting : Setting) (under : Bool) (n : ℕ) (step : Option ℕ) (o : Outcome) (s : State) → Listed told s.world → GivenListed told (step_passed setting under n step o s)
passed_listed told setting under n None o s g = g
passed_listed told setting under n (Some step) o s g = step_listed told setting under n step o s g

-- a tree
abbrev pub EachListed : Tales → (ℕ → State → State × Option Outcome) → Type 0
EachListed told f = (n : ℕ) (s : State) → Listed told s.world → Listed told (f n s).0.world

pub valued_listed : (told : Tales) (setting : Setting) (under : Bool) (n : ℕ) (v e : Option ℕ) (t : ℕ) (o : Option Outcome) (s : State) → Listed told s.world → GivenListed told (then_valued setting under n v e t o s)
valued_listed told setting under n v e t None s g = g
valued_listed told setting under n v e t (Some o) s g =
    let u = freed t s in
    passed_listed told setting under n (chosen v e o) o (silent (put n (Then v e None)) u) ((put_leaves n (Then v e None) u.world).listed told (freed_listed told t s g))

then_listed : (told : Tales) (setting : Setting) (f : ℕ → State → State × Option Outcome) (under : Bool) (n : ℕ) (o : Option Form) (s : State) → EachListed told f → Listed told s.world → GivenListed told (then_of setting f under n o s)
then_listed told setting f under n (Some (Then v e (Some t))) s h g = let r = f t s in valued_listed told setting under n v e t r.1 r.0 (h t s g)
then_listed told setting f under n (Some (Then v e None)) s h g = g
then_listed told setting f under n None s h g = g
then_listed told setting f under n (Some _) s h g = g

side_valued_listed : (told : Tales) (side t : ℕ) (o : Option Outcome) (s : State) → Listed told s.world → Listed told (side_valued side t o s).0.world
side_valued_listed told side t None s g = g
side_valued_listed told side t (Some o) s g = let u = freed t s in (put_leaves side (Side Gone) u.world).listed told (freed_listed told t s g)

pub side_listed : (told : Tales) (f : ℕ → State → State × Option Outcome) (side : ℕ) (o : Option Form) (s : State) → EachListed told f → Listed told s.world → Listed told (side_of f side o s).0.world
side_listed told f side (Some (Side (Fired t))) s h g = let r = f t s in side_valued_listed told side t r.1 r.0 (h t s g)
side_listed told f side (Some (Side (Keeps o))) s h g = g
side_listed told f side (Some (Side (Waits t))) s h g = g
side_listed told f side (Some (Side Gone)) s h g = g
side_listed told f side None s h g = g
side_listed told f side (Some _) s h g = g

rest_valued_listed : (told : Tales) (o : Option Outcome) (rest : Outcome → State → State × Option Outcome) (s : State) → ((x : Outcome) → Listed told (rest x s).0.world) → Listed told s.world → Listed told (rest_valued o rest s).0.world
rest_valued_listed told None rest s h g = g
rest_valued_listed told (Some o) rest s h g = h o

all_sides : (told : Tales) (f : ℕ → State → State × Option Outcome) (outcomes : List Outcome) (sides : List ℕ) (s : State) → EachListed told f → Listed told s.world → Listed told (all_valued f outcomes sides s).0.world
all_sides told f outcomes [] s h g = g
all_sides told f outcomes (side ∷ sides) s h g =
    let r = value_side f side s in
    let a = side_listed told f side (form_at side s.world.nodes) s h g in
    rest_valued_listed told r.1 (λ o. all_valued f (outcomes ++ o ∷ []) sides) r.0 (λ o. all_sides told f (outcomes ++ o ∷ []) sides r.0 h a) a

join_listed : (told : Tales) (fast : Bool) (f : ℕ → State → State × Option Outcome) (sides : List ℕ) (s : State) → EachListed told f → Listed told s.world → Listed told (join_valued fast f sides s).0.world
join_listed told true f sides s h g = g
join_listed told false f sides s h g = all_sides told f [] sides s h g

race_listed : (told : Tales) (f : ℕ → State → State × Option Outcome) (winner : Option ℕ) (s : State) → EachListed told f → Listed told s.world → Listed told (winner_valued f winner s).0.world
race_listed told f None s h g = g
race_listed told f (Some side) s h g = side_listed told f side (form_at side s.world.nodes) s h g

form_listed : (told : Tales) (setting : Setting) (f : ℕ → State → State × Option Outcome) (n : ℕ) (o : Option Form) (s : State) → EachListed told f → Listed told s.world → Listed told (value_form setting f n o s).0.world
form_listed told setting f n (Some (Then v e tree)) s h g = then_listed told setting f false n (Some (Then v e tree)) s h g
form_listed told setting f n (Some (Race left right winner)) s h g = race_listed told f winner s h g
form_listed told setting f n (Some (Join fast sides)) s h g = join_listed told fast f sides s h g
form_listed told setting f n None s h g = g
form_listed told setting f n (Some _) s h g = g

pub value_to_listed : (told : Tales) (setting : Setting) (k : ℕ) → EachListed told (value_to setting k)
unfolding value_to
value_to_listed told setting zero n s g = g
value_to_listed told setting (suc k) n s g = form_listed told setting (value_to setting k) n (form_at n s.world.nodes) s (value_to_listed told setting k) g

pub value_listed : (told : Tales) (setting : Setting) (n : ℕ) (s : State) → Listed told s.world → Listed told (value setting n s).0.world
value_listed told setting n s g = value_to_listed told setting (depth_of s.world) n s g

pub link_listed : (told : Tales) (setting : Setting) (n : ℕ) (s : State) → Listed told s.world → GivenListed told (value_link setting n s)
link_listed told setting n s g = then_listed told setting (value setting) true n (form_at n s.world.nodes) s (λ m t h. value_listed told setting m t h) g
