-- An event stops the loop only where a step found no memory, after all that was told.
use Rattle.std.proofs.Common.{◌≡◌, ◌∙◌, ◌⊎◌, inl, inr, refl, ℕ, List, [], ◌∷◌, ◌++◌, Bool, true, false, Option, None, Some}
use Rattle.std.specs.Prelude.{◌==◌}
use Rattle.kj_base.specs.declared.outcomes.Outcome.{Outcome}
use Rattle.kj_base.specs.declared.outcomes.Outcome.TheVariants.{Value, Broken}
use Rattle.kj_base.specs.Queue.{DepthFirst}
use Rattle.kj_model.specs.Nodes.{Form, Content, Tree, Kept, Stage, Waits, Fired, Keeps, Gone, Ready, Chain, Eager, Wrap, Hub, Side, Race, Join, Task, Request, Entry, form_at, owner_of, dropped}
use Rattle.kj_model.specs.World.{World, State, Setting, Named, held_at}
use Rattle.kj_model.specs.Changes.{silent, put, named}
use Rattle.kj_model.specs.Free.{usual}
use Rattle.kj_model.specs.Listening.{announced, join_ready}
use Rattle.kj_model.specs.Value.{Given, Gave, Took, value, value_link, freed, run_step}
use Rattle.kj_model.specs.Fire.{replaced, chain_ended, kept_at, keeps, kept_then, kept_from, each_announced, branches_of, branches_announced, other_side, tree_freed, race_won, race_fired, announced_if, all_fired, fast_announced, join_fired, side_fired_under, side_fired_by, side_fired, without_task, group_of, group_error, group_left, set_left, task_stepped, error_run, task_ended, task_valued, request_valued, fire_form, with_firing, fire}
use Rattle.kj_ownership.specs.Memory.{FindsMemory}
use Rattle.kj_ownership.proofs.KeepsRunning.{Runs, announced_runs, listened_runs, emptied_runs, free_runs}
use Rattle.kj_ownership.proofs.Lacks.{Lacked, Leaves, value_leaves, link_leaves, step_leaves}

-- the loop runs as before, or a step found no memory just now
abbrev pub Goes : Setting → Bool → State → Type 0
Goes setting b t = (t.world.stopped ≡ b) ⊎ Lacked setting t

freed_runs : (n : ℕ) (s : State) → Runs s.world (freed n s).world
freed_runs n s = free_runs (usual s.world) n s

-- a Chain
chain_goes : (setting : Setting) (b : Bool) (n link : ℕ) (g : Option Given) (s : State) → Leaves setting b g s → Goes setting b (chain_ended n link g s)
chain_goes setting b n link None s h = inr h
chain_goes setting b n link (Some (Gave o)) s h = inl (listened_runs n (put n (Ready o) (freed link s).world) ∙ freed_runs link s ∙ h)
chain_goes setting b n link (Some (Took root)) s h = inl (listened_runs root (replaced n root (freed link s).world) ∙ freed_runs link s ∙ h)

-- a node that keeps its outcome
kept_runs : (n : ℕ) (o : Outcome) (f : Option Form) (w : World) → Runs w (kept_at n o f w)
kept_runs n o None w = refl
kept_runs n o (Some form) w = refl

then_goes : (setting : Setting) (b : Bool) (after : World → World) (n t : ℕ) (o : Option Outcome) (s : State) → ((w : World) → Runs w (after w)) → Leaves setting b o s → Goes setting b (kept_then after n t o s)
then_goes setting b after n t None s runs h = inr h
then_goes setting b after n t (Some o) s runs h =
    let w = (freed t s).world in
    inl (runs (keeps n o w) ∙ kept_runs n o (form_at n w.nodes) w ∙ freed_runs t s ∙ h)

kept_goes : (setting : Setting) (after : World → World) (n : ℕ) (content : Content) (s : State) → ((w : World) → Runs w (after w)) → Goes setting s.world.stopped (kept_from setting after n content s)
kept_goes setting after n (Tree t) s runs = let r = value setting t s in then_goes setting s.world.stopped after n t r.1 r.0 runs (value_leaves setting t s)
kept_goes setting after n (Kept o) s runs = inl refl

each_runs : (ns : List ℕ) (w : World) → Runs w (each_announced ns w)
each_runs [] w = refl
each_runs (n ∷ ns) w = each_runs ns (announced DepthFirst n w) ∙ announced_runs DepthFirst n w

branches_runs : (hub : ℕ) (w : World) → Runs w (branches_announced hub w)
branches_runs hub w = each_runs (branches_of (form_at hub w.nodes)) w

-- the Side of a Race
tree_runs : (o : Option Form) (s : State) → Runs s.world (tree_freed o s).world
tree_runs (Some (Side (Waits t))) s = freed_runs t s
tree_runs (Some (Side (Fired t))) s = freed_runs t s
tree_runs (Some (Side (Keeps o))) s = refl
tree_runs (Some (Side Gone)) s = refl
tree_runs None s = refl
tree_runs (Some _) s = refl

won_runs : (race left right side other t : ℕ) (s : State) → Runs s.world (race_won race left right side other t s).world
won_runs race left right side other t s =
    let o = form_at other s.world.nodes in
    let u = tree_freed o (silent (λ w. put race (Race left right (Some side)) (put side (Side (Fired t)) w)) s) in
    announced_runs DepthFirst race (put other (Side Gone) u.world) ∙ tree_runs o (silent (λ w. put race (Race left right (Some side)) (put side (Side (Fired t)) w)) s)

race_runs : (race left right : ℕ) (winner : Option ℕ) (side t : ℕ) (s : State) → Runs s.world (race_fired race left right winner side t s).world
race_runs race left right None side t s = won_runs race left right side (other_side (left == side) left right) t s
race_runs race left right (Some winner) side t s = refl

-- the Side of a join
if_runs : (b : Bool) (n : ℕ) (w : World) → Runs w (announced_if b n w)
if_runs true n w = announced_runs DepthFirst n w
if_runs false n w = refl

all_runs : (join : ℕ) (sides : List ℕ) (side t : ℕ) (w : World) → Runs w (all_fired join sides side t w)
all_runs join sides side t w = let v = put side (Side (Fired t)) w in if_runs (join_ready false sides v.nodes) join v

fast_runs : (b : Bool) (join : ℕ) (sides : List ℕ) (w : World) → Runs w (fast_announced b join sides w)
fast_runs true join sides w = refl
fast_runs false join sides w = if_runs (join_ready true sides w.nodes) join w

join_goes : (setting : Setting) (fast : Bool) (join : ℕ) (sides : List ℕ) (side t : ℕ) (s : State) → Goes setting s.world.stopped (join_fired setting fast join sides side t s)
join_goes setting true join sides side t s =
    let b = join_ready true sides s.world.nodes in
    kept_goes setting (fast_announced b join sides) side (Tree t) s (fast_runs b join sides)
join_goes setting false join sides side t s = inl (all_runs join sides side t s.world)

under_goes : (setting : Setting) (owner : ℕ) (form : Form) (side t : ℕ) (s : State) → Goes setting s.world.stopped (side_fired_under setting owner form side t s)
under_goes setting owner (Race left right winner) side t s = inl (race_runs owner left right winner side t s)
under_goes setting owner (Join fast sides) side t s = join_goes setting fast owner sides side t s
under_goes setting owner _ side t s = inl refl

by_goes : (setting : Setting) (owner : Option Entry) (side t : ℕ) (s : State) → Goes setting s.world.stopped (side_fired_by setting owner side t s)
by_goes setting None side t s = inl refl
by_goes setting (Some owner) side t s = under_goes setting owner.number owner.form side t s

side_goes : (setting : Setting) (n : ℕ) (stage : Stage) (s : State) → Goes setting s.world.stopped (side_fired setting n stage s)
side_goes setting n (Waits t) s = by_goes setting (owner_of n s.world.nodes) n t s
side_goes setting n (Fired t) s = inl refl
side_goes setting n (Keeps o) s = inl refl
side_goes setting n Gone s = inl refl

-- a Task
left_runs : (n : ℕ) (x : Option Named) (w : World) → Runs w (group_left n x w)
left_runs n None w = refl
left_runs n (Some x) w = let v = named x.name (without_task n x.held) w in emptied_runs x.name (held_at x.name v.names) v

set_runs : (n : ℕ) (w : World) → Runs w (set_left n w)
set_runs n w = left_runs n (group_of n w.names) (record w { detached = dropped n w.detached; left_over = w.left_over ++ n ∷ [] })

stepped_goes : (setting : Setting) (b : Bool) (n : ℕ) (g : Option Given) (s : State) → Leaves setting b g s → Goes setting b (task_stepped n g s)
stepped_goes setting b n None s h = inr h
stepped_goes setting b n (Some given) s h = inl h

error_goes : (setting : Setting) (n : ℕ) (o : Outcome) (step : Option ℕ) (s : State) → Goes setting s.world.stopped (error_run setting n o step s)
error_goes setting n o None s = inl refl
error_goes setting n o (Some step) s = let r = run_step setting false n step o s in stepped_goes setting s.world.stopped n r.1 r.0 (step_leaves setting false n step o s)

ended_goes : (setting : Setting) (n : ℕ) (o : Outcome) (step : Option ℕ) (s : State) → Goes setting s.world.stopped (task_ended setting n o step s)
ended_goes setting n (Value words) step s = inl refl
ended_goes setting n (Broken exception) step s = error_goes setting n (Broken exception) step s

pub goes_as : (setting : Setting) (b c : Bool) (t : State) → b ≡ c → Goes setting b t → Goes setting c t
goes_as setting b c t e (inl g) = inl (g ∙ e)
goes_as setting b c t e (inr l) = inr l

task_goes : (setting : Setting) (b : Bool) (n t : ℕ) (o : Option Outcome) (s : State) → Leaves setting b o s → Goes setting b (task_valued setting n t o s)
task_goes setting b n t None s h = inr h
task_goes setting b n t (Some o) s h =
    let u = silent (put n (Task None)) (freed t s) in
    let v = silent (set_left n) u in
    let error = group_error (group_of n u.world.names) in
    goes_as setting v.world.stopped b (task_ended setting n o error v) (set_runs n u.world ∙ freed_runs t s ∙ h) (ended_goes setting n o error v)

-- a Request
request_goes : (setting : Setting) (b : Bool) (n name t : ℕ) (o : Option Outcome) (s : State) → Leaves setting b o s → Goes setting b (request_valued n name t o s)
request_goes setting b n name t None s h = inr h
request_goes setting b n name t (Some o) s h = inl (freed_runs t s ∙ h)

-- each form
pub form_goes : (setting : Setting) (n : ℕ) (o : Option Form) (s : State) → Goes setting s.world.stopped (fire_form setting n o s)
form_goes setting n (Some (Chain link)) s = let r = value_link setting link s in chain_goes setting s.world.stopped n link r.1 r.0 (link_leaves setting link s)
form_goes setting n (Some (Eager content)) s = kept_goes setting (announced DepthFirst n) n content s (announced_runs DepthFirst n)
form_goes setting n (Some (Wrap canceler content)) s = kept_goes setting (announced DepthFirst n) n content s (announced_runs DepthFirst n)
form_goes setting n (Some (Hub content is_named branches)) s = kept_goes setting (branches_announced n) n content s (branches_runs n)
form_goes setting n (Some (Side stage)) s = side_goes setting n stage s
form_goes setting n (Some (Task (Some t))) s = let r = value setting t s in task_goes setting s.world.stopped n t r.1 r.0 (value_leaves setting t s)
form_goes setting n (Some (Task None)) s = inl refl
form_goes setting n (Some (Request name (Some t))) s = let r = value setting t s in request_goes setting s.world.stopped n name t r.1 r.0 (value_leaves setting t s)
form_goes setting n (Some (Request name None)) s = inl refl
form_goes setting n None s = inl refl
form_goes setting n (Some _) s = inl refl

pub silent_goes : (setting : Setting) (b : Bool) (f : World → World) (t : State) → ((w : World) → Runs w (f w)) → Goes setting b t → Goes setting b (silent f t)
silent_goes setting b f t runs (inl g) = inl (runs t.world ∙ g)
silent_goes setting b f t runs (inr l) = inr (record { stopped = runs t.world ∙ l.stopped; lacks = l.lacks })

-- an event
pub fire_goes : (setting : Setting) (n : ℕ) (s : State) → Goes setting s.world.stopped (fire setting n s)
fire_goes setting n s =
    let s1 = silent (with_firing (Some n)) s in
    let t = fire_form setting n (form_at n s.world.nodes) s1 in
    silent_goes setting s.world.stopped (with_firing None) t (λ w. refl) (form_goes setting n (form_at n s.world.nodes) s1)

-- where steps find memory the loop runs on
pub found : (setting : Setting) (b : Bool) (t : State) → FindsMemory setting → Goes setting b t → t.world.stopped ≡ b
found setting b t finds (inl g) = g
found setting b t finds (inr l) = absurd (finds t.past l.lacks.0 l.lacks.1)
