-- Steps, and the evaluation of trees.
use Rattle.std.proofs.Common.{zero, suc, ◌≡◌, ℕ, List, [], ◌∷◌, ◌++◌, Bool, true, false, Option, None, Some, arith, refl}
use Rattle.kj_base.specs.declared.outcomes.Outcome.{Outcome}
use Rattle.kj_base.specs.Commands.{Command, Action}
use Rattle.kj_base.specs.declared.endings.Ending.{Ending}
use Rattle.kj_base.specs.declared.endings.Ending.TheVariants.{Value as Give, Throw, Promise, Input}
use Rattle.kj_base.specs.Record.{Item, Run}
use Rattle.kj_model.specs.Nodes.{Form, Then, Race, Join, Side, Waits, Fired, Keeps, Gone, form_at}
use Rattle.kj_model.specs.World.{World, State, Setting, Held, Promise as PromiseOf, held_at, depth_of}
use Rattle.kj_model.specs.Changes.{silent, put}
use Rattle.kj_model.specs.Free.{usual}
use Rattle.kj_model.specs.Apply.{Refused, apply}
use Rattle.kj_model.specs.Value.{Given, Took, took_if, holds_firing, promise_taken, promise_ended, ended, rest_applied, all_applied, ended_if, with_item, with_stopped, answered, run_step, chosen, step_passed, freed, then_valued, then_of, side_valued, side_of, value_side, rest_valued, all_valued, join_valued, winner_valued, value_form, value_to, value, value_link}
use Rattle.kj_paths.proofs.Laid.{Laid, laid_fewer, laid_roots}
use Rattle.kj_paths.proofs.Moves.{unnamed_laid, bare_laid}
use Rattle.kj_paths.proofs.Freed.{free_laid}
use Rattle.kj_paths.proofs.Commands.{apply_laid}

-- the tree that a step gave stands nowhere
abbrev pub given_loose : Option Given → List ℕ
given_loose (Some (Took root)) = root ∷ []
given_loose other = []

abbrev pub LaidGiven : State × Option Given → Type 0
LaidGiven r = Laid (given_loose r.1) r.0.world

pub none_loose : (loose : List ℕ) (w : World) → Laid loose w → Laid [] w
none_loose loose w g = laid_fewer loose [] w (λ m. omega arith) g

pub freed_laid : (t : ℕ) (loose : List ℕ) (s : State) → Laid loose s.world → Laid loose (freed t s).world
freed_laid t loose s g = free_laid (usual s.world) t loose s g

-- commands in order
rest_laid : (o : Option Refused) (rest : State → State × Bool) (s : State) → ((t : State) → Laid [] t.world → Laid [] (rest t).0.world) → Laid [] s.world → Laid [] (rest_applied o rest s).0.world
rest_laid None rest s h g = h s g
rest_laid (Some refused) rest s h g = g

all_laid : (setting : Setting) (cs : List Command) (s : State) → Laid [] s.world → Laid [] (all_applied setting cs s).0.world
all_laid setting [] s g = g
all_laid setting (c ∷ cs) s g = let r = apply setting true c s in rest_laid r.1 (all_applied setting cs) r.0 (λ t h. all_laid setting cs t h) (apply_laid setting true c s g)

-- an ending
LaidEnd : State × Given → Type 0
LaidEnd r = Laid (given_loose (Some r.1)) r.0.world

taken_if : (b : Bool) (name root : ℕ) (s : State) → held_at name s.world.names ≡ Some (PromiseOf root) → Laid [] s.world → Laid (given_loose (Some (took_if b name root s).1)) (took_if b name root s).0.world
taken_if true name root s at g = g
taken_if false name root s at g = unnamed_laid name (PromiseOf root) [] s.world at g

taken_laid : (name : ℕ) (h : Option Held) (s : State) → held_at name s.world.names ≡ h → Laid [] s.world → Laid (given_loose (Some (promise_taken name h s).1)) (promise_taken name h s).0.world
taken_laid name (Some (PromiseOf root)) s at g = taken_if (holds_firing s.world.firing root s.world) name root s at g
taken_laid name None s at g = g
taken_laid name (Some _) s at g = g

promised_laid : (under : Bool) (name : ℕ) (s : State) → Laid [] s.world → Laid (given_loose (Some (promise_ended under name s).1)) (promise_ended under name s).0.world
promised_laid true name s g = taken_laid name (held_at name s.world.names) s refl g
promised_laid false name s g = g

ended_laid : (ending : Ending) (under : Bool) (input : Outcome) (s : State) → Laid [] s.world → Laid (given_loose (Some (ended ending under input s).1)) (ended ending under input s).0.world
ended_laid (Give words) under input s g = g
ended_laid (Throw exception) under input s g = g
ended_laid (Promise name) under input s g = promised_laid under name.0 s g
ended_laid Input under input s g = g

end_laid : (b : Bool) (ending : Ending) (under : Bool) (input : Outcome) (s : State) → Laid [] s.world → Laid (given_loose (Some (ended_if b ending under input s).1)) (ended_if b ending under input s).0.world
end_laid true ending under input s g = ended_laid ending under input s g
end_laid false ending under input s g = g

-- the record, and whether the loop has stopped
item_laid : (item : Item) (loose : List ℕ) (s : State) → Laid loose s.world → Laid loose (with_item item s).world
item_laid item loose s g = g

stopped_laid : (loose : List ℕ) (w : World) → Laid loose w → Laid loose (with_stopped w)
stopped_laid loose w g = laid_roots loose loose w (with_stopped w) refl refl refl refl (λ a. a) (λ a m. omega arith) g

-- a step
answered_laid : (setting : Setting) (a : Option Action) (under : Bool) (n step : ℕ) (input : Outcome) (s : State) → Laid [] s.world → LaidGiven (answered setting a under n step input s)
answered_laid setting None under n step input s g = stopped_laid [] s.world g
answered_laid setting (Some action) under n step input s g =
    let t = with_item (Run n step input action) s in
    let r = all_applied setting action.commands t in
    end_laid r.1 action.ending under input r.0 (all_laid setting action.commands t g)

pub step_laid : (setting : Setting) (under : Bool) (n step : ℕ) (input : Outcome) (s : State) → Laid [] s.world → LaidGiven (run_step setting under n step input s)
step_laid setting under n step input s g = answered_laid setting (setting.answer s.past step) under n step input s g

passed_laid : (setting : Setting) (under : Bool) (n : ℕ) (step : Option ℕ) (o : Outcome) (s : State) → Laid [] s.world → LaidGiven (step_passed setting under n step o s)
passed_laid setting under n None o s g = g
passed_laid setting under n (Some step) o s g = step_laid setting under n step o s g

-- a tree
abbrev pub EachLaid : (ℕ → State → State × Option Outcome) → Type 0
EachLaid f = (n : ℕ) (s : State) → Laid [] s.world → Laid [] (f n s).0.world

pub valued_laid : (setting : Setting) (under : Bool) (n : ℕ) (v e : Option ℕ) (t : ℕ) (o : Option Outcome) (s : State) → Laid [] s.world → LaidGiven (then_valued setting under n v e t o s)
valued_laid setting under n v e t None s g = g
valued_laid setting under n v e t (Some o) s g =
    let u = freed t s in
    passed_laid setting under n (chosen v e o) o (silent (put n (Then v e None)) u) (bare_laid n (Then v e None) [] u.world refl refl (freed_laid t [] s g))

then_laid : (setting : Setting) (f : ℕ → State → State × Option Outcome) (under : Bool) (n : ℕ) (o : Option Form) (s : State) → EachLaid f → Laid [] s.world → LaidGiven (then_of setting f under n o s)
then_laid setting f under n (Some (Then v e (Some t))) s h g = let r = f t s in valued_laid setting under n v e t r.1 r.0 (h t s g)
then_laid setting f under n (Some (Then v e None)) s h g = g
then_laid setting f under n None s h g = g
then_laid setting f under n (Some _) s h g = g

side_valued_laid : (side t : ℕ) (o : Option Outcome) (s : State) → Laid [] s.world → Laid [] (side_valued side t o s).0.world
side_valued_laid side t None s g = g
side_valued_laid side t (Some o) s g = let u = freed t s in bare_laid side (Side Gone) [] u.world refl refl (freed_laid t [] s g)

pub side_laid : (f : ℕ → State → State × Option Outcome) (side : ℕ) (o : Option Form) (s : State) → EachLaid f → Laid [] s.world → Laid [] (side_of f side o s).0.world
side_laid f side (Some (Side (Fired t))) s h g = let r = f t s in side_valued_laid side t r.1 r.0 (h t s g)
side_laid f side (Some (Side (Keeps o))) s h g = g
side_laid f side (Some (Side (Waits t))) s h g = g
side_laid f side (Some (Side Gone)) s h g = g
side_laid f side None s h g = g
side_laid f side (Some _) s h g = g

rest_valued_laid : (o : Option Outcome) (rest : Outcome → State → State × Option Outcome) (s : State) → ((x : Outcome) → Laid [] (rest x s).0.world) → Laid [] s.world → Laid [] (rest_valued o rest s).0.world
rest_valued_laid None rest s h g = g
rest_valued_laid (Some o) rest s h g = h o

all_sides : (f : ℕ → State → State × Option Outcome) (outcomes : List Outcome) (sides : List ℕ) (s : State) → EachLaid f → Laid [] s.world → Laid [] (all_valued f outcomes sides s).0.world
all_sides f outcomes [] s h g = g
all_sides f outcomes (side ∷ sides) s h g =
    let r = value_side f side s in
    let a = side_laid f side (form_at side s.world.nodes) s h g in
    rest_valued_laid r.1 (λ o. all_valued f (outcomes ++ o ∷ []) sides) r.0 (λ o. all_sides f (outcomes ++ o ∷ []) sides r.0 h a) a

join_laid : (fast : Bool) (f : ℕ → State → State × Option Outcome) (sides : List ℕ) (s : State) → EachLaid f → Laid [] s.world → Laid [] (join_valued fast f sides s).0.world
join_laid true f sides s h g = g
join_laid false f sides s h g = all_sides f [] sides s h g

race_laid : (f : ℕ → State → State × Option Outcome) (winner : Option ℕ) (s : State) → EachLaid f → Laid [] s.world → Laid [] (winner_valued f winner s).0.world
race_laid f None s h g = g
race_laid f (Some side) s h g = side_laid f side (form_at side s.world.nodes) s h g

form_laid : (setting : Setting) (f : ℕ → State → State × Option Outcome) (n : ℕ) (o : Option Form) (s : State) → EachLaid f → Laid [] s.world → Laid [] (value_form setting f n o s).0.world
form_laid setting f n (Some (Then v e tree)) s h g = let r = then_of setting f false n (Some (Then v e tree)) s in none_loose (given_loose r.1) r.0.world (then_laid setting f false n (Some (Then v e tree)) s h g)
form_laid setting f n (Some (Race left right winner)) s h g = race_laid f winner s h g
form_laid setting f n (Some (Join fast sides)) s h g = join_laid fast f sides s h g
form_laid setting f n None s h g = g
form_laid setting f n (Some _) s h g = g

pub value_to_laid : (setting : Setting) (k : ℕ) → EachLaid (value_to setting k)
unfolding value_to
value_to_laid setting zero n s g = g
value_to_laid setting (suc k) n s g = form_laid setting (value_to setting k) n (form_at n s.world.nodes) s (value_to_laid setting k) g

pub value_laid : (setting : Setting) (n : ℕ) (s : State) → Laid [] s.world → Laid [] (value setting n s).0.world
value_laid setting n s g = value_to_laid setting (depth_of s.world) n s g

pub link_laid : (setting : Setting) (n : ℕ) (s : State) → Laid [] s.world → LaidGiven (value_link setting n s)
link_laid setting n s g = then_laid setting (value setting) true n (form_at n s.world.nodes) s (λ m t h. value_laid setting m t h) g
