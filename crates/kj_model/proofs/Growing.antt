-- Each function that takes a state only adds to its record.
use Rattle.std.proofs.Common.{zero, suc, ◌≡◌, ℕ, List, [], ◌∷◌, ◌++◌, Bool, true, false, Option, None, Some, refl, sym, ap, ◌∙◌, reverse}
use Rattle.kj_base.specs.declared.outcomes.Outcome.{Outcome}
use Rattle.kj_base.specs.Commands.{Command, Now, Broken as BrokenLine, Later as LaterLine, Last as LastLine, Pair, Then as ThenLine, Chain as ChainLine, Eager as EagerLine, Fork, Branch as BranchLine, Race as RaceLine, All, Fast, Fulfil, Reject, DropCell, NewSet, Add, Clear, OnEmpty, NewCanceler, Wrap as WrapLine, Cancel, Detach, Drop, Ask, Begin, Stop, Reply, Action}
use Rattle.kj_base.specs.declared.endings.Ending.{Ending}
use Rattle.kj_base.specs.declared.endings.Ending.TheVariants.{Value as Give, Throw, Promise as PromiseEnd, Input}
use Rattle.kj_model.specs.Nodes.{Form, Tree, Kept, Waits, Fired, Keeps, Gone, Ready, Later, Last, Cell, Branch, Then, Chain, Eager, Wrap, Hub, Side, Race, Join, Task, Request, form_at, parts_of}
use Rattle.kj_model.specs.World.{World, State, Setting, Held, Promise, CellOf, AskCell, HubOf, Group, Canceler, RequestOf, held_at}
use Rattle.kj_base.specs.Record.{Item, Run, Free}
use Rattle.kj_model.specs.Changes.{silent, put, gone, named, unnamed}
use Rattle.kj_model.specs.Free.{Guard, free, free_to, free_form, each_freed, unlinked, free_unless, is_guarded, free_unreferenced, reference_gone, without_branch, without_wrap, abandoned_as, ask_of, usual, guarded_too}
use Rattle.kj_model.specs.Effects.{effect, cleared, cleared_in, now_empty, wrap_cancelled, each_cancelled, canceled, wraps_of, dropped_held, node_named, hub_unnamed}
use Rattle.kj_model.specs.Apply.{Refused, apply, applied, refusal}
use Rattle.kj_model.specs.Value.{all_applied, rest_applied, ended, ended_if, acted, promise_ended, promise_taken, took_if, holds_firing, answered, with_item, run_step, chosen, step_passed, freed, then_valued, then_of, side_valued, side_of, value_side, rest_valued, all_valued, join_valued, winner_valued, value_form, value_to, value, value_link}
use Rattle.kj_model.specs.Grown.{Grows}

append-nil : (xs : List Item) → xs ++ [] ≡ xs
append-nil [] = refl
append-nil (x ∷ xs) = ap (λ ys. x ∷ ys) (append-nil xs)

append_assoc : (xs ys zs : List Item) → (xs ++ ys) ++ zs ≡ xs ++ (ys ++ zs)
append_assoc [] ys zs = refl
append_assoc (x ∷ xs) ys zs = ap (λ ts. x ∷ ts) (append_assoc xs ys zs)

pub stays : (a : State) → Grows a a
stays a = ([], sym (append-nil a.past))

pub quiet : (change : World → World) (a : State) → Grows a (silent change a)
quiet change a = ([], sym (append-nil a.past))

pub then_grows : (a b c : State) → Grows a b → Grows b c → Grows a c
then_grows a b c p q = (p.0 ++ q.0, q.1 ∙ ap (λ l. l ++ q.0) p.1 ∙ append_assoc a.past p.0 q.0)

gone_grows : (n : ℕ) (a : State) → Grows a (gone n a)
gone_grows n a = (Free n ∷ [], refl)

-- a function on numbers and states that only adds
abbrev pub AllGrow : (ℕ → State → State) → Type 0
AllGrow f = (n : ℕ) (s : State) → Grows s (f n s)

pub each_freed_grows : (f : ℕ → State → State) → AllGrow f → (ns : List ℕ) (s : State) → Grows s (each_freed f ns s)
each_freed_grows f g [] s = stays s
each_freed_grows f g (n ∷ ns) s = then_grows s (f n s) (each_freed f ns (f n s)) (g n s) (each_freed_grows f g ns (f n s))

unless_grows : (b : Bool) (f : ℕ → State → State) → AllGrow f → (n : ℕ) (s : State) → Grows s (free_unless b f n s)
unless_grows true f g n s = stays s
unless_grows false f g n s = g n s

unreferenced_grows : (guard : Guard) (f : ℕ → State → State) → AllGrow f → (hub : ℕ) (o : Option Form) (s : State) → Grows s (free_unreferenced guard f hub o s)
unreferenced_grows guard f g hub None s = stays s
unreferenced_grows guard f g hub (Some (Hub content true branches)) s = stays s
unreferenced_grows guard f g hub (Some (Hub content false [])) s = unless_grows (is_guarded guard hub s.world) f g hub s
unreferenced_grows guard f g hub (Some (Hub content false (b ∷ bs))) s = stays s
unreferenced_grows guard f g hub (Some (Ready outcome)) s = stays s
unreferenced_grows guard f g hub (Some Later) s = stays s
unreferenced_grows guard f g hub (Some Last) s = stays s
unreferenced_grows guard f g hub (Some (Cell outcome)) s = stays s
unreferenced_grows guard f g hub (Some (Branch h)) s = stays s
unreferenced_grows guard f g hub (Some (Then value error tree)) s = stays s
unreferenced_grows guard f g hub (Some (Chain link)) s = stays s
unreferenced_grows guard f g hub (Some (Eager content)) s = stays s
unreferenced_grows guard f g hub (Some (Wrap canceler content)) s = stays s
unreferenced_grows guard f g hub (Some (Side stage)) s = stays s
unreferenced_grows guard f g hub (Some (Race left right winner)) s = stays s
unreferenced_grows guard f g hub (Some (Join fast sides)) s = stays s
unreferenced_grows guard f g hub (Some (Task tree)) s = stays s
unreferenced_grows guard f g hub (Some (Request name tree)) s = stays s

pub reference_grows : (guard : Guard) (f : ℕ → State → State) → AllGrow f → AllGrow (reference_gone guard f)
reference_grows guard f g = λ hub s. unreferenced_grows guard f g hub (form_at hub s.world.nodes) s

unlinked_grows : (guard : Guard) (f : ℕ → State → State) → AllGrow f → (n : ℕ) (form : Form) (s : State) → Grows s (unlinked guard f n form s)
unlinked_grows guard f g n (Cell None) s = quiet (λ w. abandoned_as (ask_of n w.names) w) s
unlinked_grows guard f g n (Cell (Some outcome)) s = stays s
unlinked_grows guard f g n (Branch hub) s = let t = silent (without_branch n hub) s in then_grows s t (reference_gone guard f hub t) (quiet (without_branch n hub) s) (reference_grows guard f g hub t)
unlinked_grows guard f g n (Wrap canceler content) s = quiet (without_wrap n canceler) s
unlinked_grows guard f g n (Ready outcome) s = stays s
unlinked_grows guard f g n Later s = stays s
unlinked_grows guard f g n Last s = stays s
unlinked_grows guard f g n (Then value error tree) s = stays s
unlinked_grows guard f g n (Chain link) s = stays s
unlinked_grows guard f g n (Eager content) s = stays s
unlinked_grows guard f g n (Hub content is_named branches) s = stays s
unlinked_grows guard f g n (Side stage) s = stays s
unlinked_grows guard f g n (Race left right winner) s = stays s
unlinked_grows guard f g n (Join fast sides) s = stays s
unlinked_grows guard f g n (Task tree) s = stays s
unlinked_grows guard f g n (Request name tree) s = stays s

form_grows : (guard : Guard) (f : ℕ → State → State) → AllGrow f → (n : ℕ) (o : Option Form) (s : State) → Grows s (free_form guard f n o s)
form_grows guard f g n None s = stays s
form_grows guard f g n (Some form) s =
    let t = each_freed f (parts_of form) s in
    let u = unlinked guard f n form t in
    then_grows s u (gone n u) (then_grows s t u (each_freed_grows f g (parts_of form) s) (unlinked_grows guard f g n form t)) (gone_grows n u)

free_to_grows : (guard : Guard) (k : ℕ) → AllGrow (free_to guard k)
unfolding free_to
free_to_grows guard zero n s = stays s
free_to_grows guard (suc k) n s = form_grows guard (free_to guard k) (free_to_grows guard k) n (form_at n s.world.nodes) s

pub free_grows : (guard : Guard) → AllGrow (free guard)
free_grows guard = λ n s. free_to_grows guard _ n s

cleared_grows : (guard : Guard) (group : ℕ) (o : Option Held) (s : State) → Grows s (cleared_in guard group o s)
cleared_grows guard group None s = stays s
cleared_grows guard group (Some (Promise root)) s = stays s
cleared_grows guard group (Some (CellOf cell)) s = stays s
cleared_grows guard group (Some (AskCell cell is_taken)) s = stays s
cleared_grows guard group (Some (HubOf hub)) s = stays s
cleared_grows guard group (Some (Group error [] empty)) s = stays s
cleared_grows guard group (Some (Group error (task ∷ tasks) empty)) s =
    let a = silent (named group (Group error [] empty)) s in
    let b = each_freed (free guard) (reverse (task ∷ tasks)) a in
    then_grows s b (silent (now_empty group) b) (then_grows s a b (quiet (named group (Group error [] empty)) s) (each_freed_grows (free guard) (free_grows guard) (reverse (task ∷ tasks)) a)) (quiet (now_empty group) b)
cleared_grows guard group (Some (Canceler wraps)) s = stays s
cleared_grows guard group (Some (RequestOf r)) s = stays s

wrap_grows : (guard : Guard) (n : ℕ) (o : Option Form) (s : State) → Grows s (wrap_cancelled guard n o s)
wrap_grows guard n None s = stays s
wrap_grows guard n (Some (Wrap canceler (Tree t))) s = free_grows (guarded_too n guard) t s
wrap_grows guard n (Some (Wrap canceler (Kept outcome))) s = stays s
wrap_grows guard n (Some (Ready outcome)) s = stays s
wrap_grows guard n (Some Later) s = stays s
wrap_grows guard n (Some Last) s = stays s
wrap_grows guard n (Some (Cell outcome)) s = stays s
wrap_grows guard n (Some (Branch hub)) s = stays s
wrap_grows guard n (Some (Then value error tree)) s = stays s
wrap_grows guard n (Some (Chain link)) s = stays s
wrap_grows guard n (Some (Eager content)) s = stays s
wrap_grows guard n (Some (Hub content is_named branches)) s = stays s
wrap_grows guard n (Some (Side stage)) s = stays s
wrap_grows guard n (Some (Race left right winner)) s = stays s
wrap_grows guard n (Some (Join fast sides)) s = stays s
wrap_grows guard n (Some (Task tree)) s = stays s
wrap_grows guard n (Some (Request name tree)) s = stays s

each_cancelled_grows : (guard : Guard) (ns : List ℕ) (s : State) → Grows s (each_cancelled guard ns s)
each_cancelled_grows guard [] s = stays s
each_cancelled_grows guard (n ∷ ns) s =
    let a = wrap_cancelled guard n (form_at n s.world.nodes) s in
    then_grows s a (each_cancelled guard ns a) (wrap_grows guard n (form_at n s.world.nodes) s) (each_cancelled_grows guard ns a)

dropped_grows : (guard : Guard) (name : ℕ) (o : Option Held) (s : State) → Grows s (dropped_held guard name o s)
dropped_grows guard name None s = stays s
dropped_grows guard name (Some (Promise root)) s = let a = silent (unnamed name) s in then_grows s a (free guard root a) (quiet (unnamed name) s) (free_grows guard root a)
dropped_grows guard name (Some (CellOf cell)) s = stays s
dropped_grows guard name (Some (AskCell cell is_taken)) s = stays s
dropped_grows guard name (Some (HubOf hub)) s = let a = silent (λ w. hub_unnamed hub (unnamed name w)) s in then_grows s a (reference_gone guard (free guard) hub a) (quiet (λ w. hub_unnamed hub (unnamed name w)) s) (reference_grows guard (free guard) (free_grows guard) hub a)
dropped_grows guard name (Some (Group error tasks empty)) s = let a = cleared guard name s in then_grows s a (silent (unnamed name) a) (cleared_grows guard name (held_at name s.world.names) s) (quiet (unnamed name) a)
dropped_grows guard name (Some (Canceler wraps)) s = let a = canceled guard name s in then_grows s a (silent (unnamed name) a) (each_cancelled_grows guard (reverse (wraps_of (held_at name s.world.names))) s) (quiet (unnamed name) a)
dropped_grows guard name (Some (RequestOf r)) s = stays s

pub effect_grows : (guard : Guard) (c : Command) (s : State) → Grows s (effect guard c s)
effect_grows guard (Now name words) s = stays s
effect_grows guard (BrokenLine name exception) s = stays s
effect_grows guard (LaterLine name) s = stays s
effect_grows guard (LastLine name) s = stays s
effect_grows guard (Pair name cell) s = stays s
effect_grows guard (ThenLine name source value error) s = stays s
effect_grows guard (ChainLine name source value error) s = stays s
effect_grows guard (EagerLine name source) s = stays s
effect_grows guard (Fork hub source) s = stays s
effect_grows guard (BranchLine name hub) s = stays s
effect_grows guard (RaceLine name left right) s = stays s
effect_grows guard (All name sources) s = stays s
effect_grows guard (Fast name sources) s = stays s
effect_grows guard (Fulfil cell words) s = stays s
effect_grows guard (Reject cell exception) s = stays s
effect_grows guard (DropCell cell) s = stays s
effect_grows guard (NewSet group error) s = stays s
effect_grows guard (Add group source) s = stays s
effect_grows guard (OnEmpty name group) s = stays s
effect_grows guard (NewCanceler canceler) s = stays s
effect_grows guard (WrapLine name canceler source) s = stays s
effect_grows guard (Detach source) s = stays s
effect_grows guard (Ask name cell target step words) s = stays s
effect_grows guard (Begin request step words) s = stays s
effect_grows guard (Reply cell outcome) s = stays s
effect_grows guard (Clear group) s = cleared_grows guard group (held_at group s.world.names) s
effect_grows guard (Cancel canceler) s = each_cancelled_grows guard (reverse (wraps_of (held_at canceler s.world.names))) s
effect_grows guard (Drop name) s = dropped_grows guard name (held_at name s.world.names) s
effect_grows guard (Stop request) s = free_grows guard (node_named request s.world) (silent (named request (RequestOf None)) s)

applied_grows : (r : Option Refused) (c : Command) (s : State) → Grows s (applied r c s).0
applied_grows (Some refused) c s = stays s
applied_grows None c s = effect_grows (usual s.world) c s

pub apply_grows : (setting : Setting) (inside : Bool) (c : Command) (s : State) → Grows s (apply setting inside c s).0
apply_grows setting inside c s = applied_grows (refusal setting inside c s) c s

-- evaluation
commands_grow : (setting : Setting) (cs : List Command) (s : State) → Grows s (all_applied setting cs s).0
commands_grow setting [] s = stays s
commands_grow setting (c ∷ cs) s = rest_grows (apply setting true c s).1 s (apply setting true c s).0 (all_applied setting cs) (apply_grows setting true c s) (commands_grow setting cs)
  where
    rest_grows : (r : Option Refused) (s a : State) (rest : State → State × Bool) → Grows s a → ((b : State) → Grows b (rest b).0) → Grows s (rest_applied r rest a).0
    rest_grows (Some refused) s a rest g h = g
    rest_grows None s a rest g h = then_grows s a (rest a).0 g (h a)

took_grows : (b : Bool) (name root : ℕ) (s : State) → Grows s (took_if b name root s).0
took_grows true name root s = stays s
took_grows false name root s = stays s

taken_grows : (name : ℕ) (o : Option Held) (s : State) → Grows s (promise_taken name o s).0
taken_grows name None s = stays s
taken_grows name (Some (Promise root)) s = took_grows (holds_firing s.world.firing root s.world) name root s
taken_grows name (Some (CellOf cell)) s = stays s
taken_grows name (Some (AskCell cell is_taken)) s = stays s
taken_grows name (Some (HubOf hub)) s = stays s
taken_grows name (Some (Group error tasks empty)) s = stays s
taken_grows name (Some (Canceler wraps)) s = stays s
taken_grows name (Some (RequestOf r)) s = stays s

promise_grows : (under : Bool) (name : ℕ) (s : State) → Grows s (promise_ended under name s).0
promise_grows true name s = taken_grows name (held_at name s.world.names) s
promise_grows false name s = stays s

ended_grows : (e : Ending) (under : Bool) (input : Outcome) (s : State) → Grows s (ended e under input s).0
ended_grows (Give words) under input s = stays s
ended_grows (Throw exception) under input s = stays s
ended_grows (PromiseEnd name) under input s = promise_grows under name.0 s
ended_grows Input under input s = stays s

ended_if_grows : (b : Bool) (e : Ending) (under : Bool) (input : Outcome) (s : State) → Grows s (ended_if b e under input s).0
ended_if_grows true e under input s = ended_grows e under input s
ended_if_grows false e under input s = stays s

acted_grows : (setting : Setting) (action : Action) (under : Bool) (input : Outcome) (s : State) → Grows s (acted setting action under input s).0
acted_grows setting action under input s =
    let r = all_applied setting action.commands s in
    then_grows s r.0 (ended_if r.1 action.ending under input r.0).0 (commands_grow setting action.commands s) (ended_if_grows r.1 action.ending under input r.0)

answered_grows : (setting : Setting) (a : Option Action) (under : Bool) (n step : ℕ) (input : Outcome) (s : State) → Grows s (answered setting a under n step input s).0
answered_grows setting None under n step input s = stays s
answered_grows setting (Some action) under n step input s =
    let t = with_item (Run n step input action) s in
    then_grows s t (acted setting action under input t).0 (Run n step input action ∷ [], refl) (acted_grows setting action under input t)

pub run_step_grows : (setting : Setting) (under : Bool) (n step : ℕ) (input : Outcome) (s : State) → Grows s (run_step setting under n step input s).0
run_step_grows setting under n step input s = answered_grows setting (setting.answer s.past step) under n step input s

passed_grows : (setting : Setting) (under : Bool) (n : ℕ) (o : Option ℕ) (input : Outcome) (s : State) → Grows s (step_passed setting under n o input s).0
passed_grows setting under n None input s = stays s
passed_grows setting under n (Some step) input s = run_step_grows setting under n step input s

pub freed_grows : AllGrow freed
freed_grows = λ n s. free_grows (usual s.world) n s

then_valued_grows : (setting : Setting) (under : Bool) (n : ℕ) (v e : Option ℕ) (t : ℕ) (o : Option Outcome) (s : State) → Grows s (then_valued setting under n v e t o s).0
then_valued_grows setting under n v e t None s = stays s
then_valued_grows setting under n v e t (Some o) s =
    let a = silent (put n (Then v e None)) (freed t s) in
    then_grows s a (step_passed setting under n (chosen v e o) o a).0 (freed_grows t s) (passed_grows setting under n (chosen v e o) o a)

-- an evaluation that only adds
abbrev pub ValuesGrow : (ℕ → State → State × Option Outcome) → Type 0
ValuesGrow f = (n : ℕ) (s : State) → Grows s (f n s).0

then_of_grows : (setting : Setting) (f : ℕ → State → State × Option Outcome) → ValuesGrow f → (under : Bool) (n : ℕ) (o : Option Form) (s : State) → Grows s (then_of setting f under n o s).0
then_of_grows setting f g under n None s = stays s
then_of_grows setting f g under n (Some (Then v e None)) s = stays s
then_of_grows setting f g under n (Some (Then v e (Some t))) s =
    let r = f t s in
    then_grows s r.0 (then_valued setting under n v e t r.1 r.0).0 (g t s) (then_valued_grows setting under n v e t r.1 r.0)
then_of_grows setting f g under n (Some (Ready outcome)) s = stays s
then_of_grows setting f g under n (Some Later) s = stays s
then_of_grows setting f g under n (Some Last) s = stays s
then_of_grows setting f g under n (Some (Cell outcome)) s = stays s
then_of_grows setting f g under n (Some (Branch hub)) s = stays s
then_of_grows setting f g under n (Some (Chain link)) s = stays s
then_of_grows setting f g under n (Some (Eager content)) s = stays s
then_of_grows setting f g under n (Some (Wrap canceler content)) s = stays s
then_of_grows setting f g under n (Some (Hub content is_named branches)) s = stays s
then_of_grows setting f g under n (Some (Side stage)) s = stays s
then_of_grows setting f g under n (Some (Race left right winner)) s = stays s
then_of_grows setting f g under n (Some (Join fast sides)) s = stays s
then_of_grows setting f g under n (Some (Task tree)) s = stays s
then_of_grows setting f g under n (Some (Request name tree)) s = stays s

side_valued_grows : (side t : ℕ) (o : Option Outcome) (s : State) → Grows s (side_valued side t o s).0
side_valued_grows side t None s = stays s
side_valued_grows side t (Some o) s = freed_grows t s

side_of_grows : (f : ℕ → State → State × Option Outcome) → ValuesGrow f → (side : ℕ) (o : Option Form) (s : State) → Grows s (side_of f side o s).0
side_of_grows f g side None s = stays s
side_of_grows f g side (Some (Side (Waits root))) s = stays s
side_of_grows f g side (Some (Side (Fired t))) s =
    let r = f t s in
    then_grows s r.0 (side_valued side t r.1 r.0).0 (g t s) (side_valued_grows side t r.1 r.0)
side_of_grows f g side (Some (Side (Keeps o))) s = stays s
side_of_grows f g side (Some (Side Gone)) s = stays s
side_of_grows f g side (Some (Ready outcome)) s = stays s
side_of_grows f g side (Some Later) s = stays s
side_of_grows f g side (Some Last) s = stays s
side_of_grows f g side (Some (Cell outcome)) s = stays s
side_of_grows f g side (Some (Branch hub)) s = stays s
side_of_grows f g side (Some (Then value error tree)) s = stays s
side_of_grows f g side (Some (Chain link)) s = stays s
side_of_grows f g side (Some (Eager content)) s = stays s
side_of_grows f g side (Some (Wrap canceler content)) s = stays s
side_of_grows f g side (Some (Hub content is_named branches)) s = stays s
side_of_grows f g side (Some (Race left right winner)) s = stays s
side_of_grows f g side (Some (Join fast sides)) s = stays s
side_of_grows f g side (Some (Task tree)) s = stays s
side_of_grows f g side (Some (Request name tree)) s = stays s

side_grows : (f : ℕ → State → State × Option Outcome) → ValuesGrow f → ValuesGrow (value_side f)
side_grows f g = λ side s. side_of_grows f g side (form_at side s.world.nodes) s

sides_grow : (f : ℕ → State → State × Option Outcome) → ValuesGrow f → (sides : List ℕ) (outcomes : List Outcome) (s : State) → Grows s (all_valued f outcomes sides s).0
sides_grow f g [] outcomes s = stays s
sides_grow f g (side ∷ sides) outcomes s = rest_grows (value_side f side s).1 s (value_side f side s).0 (λ o. all_valued f (outcomes ++ o ∷ []) sides) (side_grows f g side s) (λ o b. sides_grow f g sides (outcomes ++ o ∷ []) b)
  where
    rest_grows : (r : Option Outcome) (s a : State) (rest : Outcome → State → State × Option Outcome) → Grows s a → ((o : Outcome) (b : State) → Grows b (rest o b).0) → Grows s (rest_valued r rest a).0
    rest_grows None s a rest h k = h
    rest_grows (Some o) s a rest h k = then_grows s a (rest o a).0 h (k o a)

join_grows : (fast : Bool) (f : ℕ → State → State × Option Outcome) → ValuesGrow f → (sides : List ℕ) (s : State) → Grows s (join_valued fast f sides s).0
join_grows true f g sides s = stays s
join_grows false f g sides s = sides_grow f g sides [] s

winner_grows : (f : ℕ → State → State × Option Outcome) → ValuesGrow f → (o : Option ℕ) (s : State) → Grows s (winner_valued f o s).0
winner_grows f g None s = stays s
winner_grows f g (Some side) s = side_grows f g side s

value_form_grows : (setting : Setting) (f : ℕ → State → State × Option Outcome) → ValuesGrow f → (n : ℕ) (o : Option Form) (s : State) → Grows s (value_form setting f n o s).0
value_form_grows setting f g n None s = stays s
value_form_grows setting f g n (Some (Race left right winner)) s = winner_grows f g winner s
value_form_grows setting f g n (Some (Join fast sides)) s = join_grows fast f g sides s
value_form_grows setting f g n (Some (Then v e tree)) s = then_of_grows setting f g false n (Some (Then v e tree)) s
value_form_grows setting f g n (Some (Ready outcome)) s = stays s
value_form_grows setting f g n (Some Later) s = stays s
value_form_grows setting f g n (Some Last) s = stays s
value_form_grows setting f g n (Some (Cell outcome)) s = stays s
value_form_grows setting f g n (Some (Branch hub)) s = stays s
value_form_grows setting f g n (Some (Chain link)) s = stays s
value_form_grows setting f g n (Some (Eager content)) s = stays s
value_form_grows setting f g n (Some (Wrap canceler content)) s = stays s
value_form_grows setting f g n (Some (Hub content is_named branches)) s = stays s
value_form_grows setting f g n (Some (Side stage)) s = stays s
value_form_grows setting f g n (Some (Task tree)) s = stays s
value_form_grows setting f g n (Some (Request name tree)) s = stays s

value_to_grows : (setting : Setting) (k : ℕ) → ValuesGrow (value_to setting k)
unfolding value_to
value_to_grows setting zero n s = stays s
value_to_grows setting (suc k) n s = value_form_grows setting (value_to setting k) (value_to_grows setting k) n (form_at n s.world.nodes) s

pub value_grows : (setting : Setting) → ValuesGrow (value setting)
value_grows setting = λ n s. value_to_grows setting _ n s

pub link_grows : (setting : Setting) (n : ℕ) (s : State) → Grows s (value_link setting n s).0
link_grows setting n s = then_of_grows setting (value setting) (value_grows setting) true n (form_at n s.world.nodes) s
