-- Events that fire keep states alike.
use Rattle.std.proofs.Common.{◌≡◌, ◌∙◌, refl, sym, ap, subst, suc, ℕ, ◌+◌, List, [], ◌∷◌, ◌++◌, Bool, true, false, ◌==◌, Option, None, Some, arith}
use Rattle.kj_base.specs.declared.outcomes.Outcome.{Outcome}
use Rattle.kj_base.specs.declared.outcomes.Outcome.TheVariants.{Value, Broken}
use Rattle.kj_base.specs.Queue.{DepthFirst}
use Rattle.kj_model.specs.Nodes.{Form, Content, Tree, Kept, Stage, Waits, Fired, Keeps as KeepsOutcome, Gone, Ready, Chain, Eager, Wrap, Hub, Side, Race, Join, Task, Request, Entry, form_at, owner_of, dropped, kept_form}
use Rattle.kj_model.specs.World.{World, State, Setting, Named, RequestOf}
use Rattle.kj_model.specs.Changes.{silent, put, gone, named}
use Rattle.kj_model.specs.Listening.{announced, listened, join_ready}
use Rattle.kj_model.specs.Effects.{with_ended}
use Rattle.kj_model.specs.Value.{Given, Gave, Took, value, value_link, freed, run_step}
use Rattle.kj_model.specs.Fire.{replaced, chain_ended, kept_at, keeps, kept_then, kept_from, each_announced, branches_of, branches_announced, other_side, tree_freed, race_won, race_fired, announced_if, all_fired, fast_announced, join_fired, side_fired_under, side_fired_by, side_fired, without_task, group_of, group_error, group_left, set_left, without_left_over, task_gone, task_stepped, error_run, task_ended, task_left, task_valued, request_valued, fire_form, with_firing, fire}
use Rattle.kj_model.proofs.Growing.{quiet}
use Rattle.kj_ownership.specs.Kept.{is_spent}
use Rattle.kj_takings.specs.Alike.{with_lists}
use Rattle.kj_takings.proofs.Names.{group_firm, group_present, group_no_loose}
use Rattle.kj_takings.proofs.Worlds.{Near, Keeps, blind, seen_as, announced_near, listened_near, put_near, new_near, named_near, replaced_near}
use Rattle.kj_takings.proofs.Calm.{CalmOnly, only, pure, bind, then_calm, reads, reads_world, quietly, gone_calm, calm_more, calm_moves, less_same}
use Rattle.kj_takings.proofs.Frees.{by_form_near}
use Rattle.kj_takings.proofs.Effects.{empty_near, one_ended}
use Rattle.kj_takings.proofs.Values.{value_calm, link_calm, freed_calm, run_step_calm, form_reads}

-- a Chain
chain_calm : (loose : ℕ → Bool) (n link : ℕ) (o : Option Given) → CalmOnly loose 0 (chain_ended n link o)
chain_calm loose n link None = pure loose tt
chain_calm loose n link (Some (Gave o)) = then_calm loose (freed link) (silent (λ w. listened n (put n (Ready o) w))) (freed_calm loose link) (quietly loose (λ w. listened n (put n (Ready o) w)) (λ k w v r. listened_near loose n k (put n (Ready o) w) (put n (Ready o) v) (put_near loose n (Ready o) k w v r)))
chain_calm loose n link (Some (Took root)) =
    then_calm loose (λ s. silent (λ w. listened root (replaced n root w)) (freed link s)) (gone n)
    (then_calm loose (freed link) (silent (λ w. listened root (replaced n root w))) (freed_calm loose link) (quietly loose (λ w. listened root (replaced n root w)) (λ k w v r. listened_near loose root k (replaced n root w) (replaced n root v) (replaced_near loose n root k w v r))))
    (gone_calm loose n)

-- a node that keeps its outcome
kept_case : (loose : ℕ → Bool) (n : ℕ) (o : Outcome) (f : Option Form) → Keeps loose (kept_at n o f)
kept_case loose n o None k w v r = r
kept_case loose n o (Some form) k w v r = put_near loose n (kept_form o form) k w v r

keeps_near : (loose : ℕ → Bool) (n : ℕ) (o : Outcome) → Keeps loose (keeps n o)
keeps_near loose n o = by_form_near loose n (kept_at n o) (kept_case loose n o)

kept_then_calm : (loose : ℕ → Bool) (after : World → World) (n t : ℕ) (o : Option Outcome) → Keeps loose after → CalmOnly loose 0 (kept_then after n t o)
kept_then_calm loose after n t None h = pure loose tt
kept_then_calm loose after n t (Some o) h = then_calm loose (freed t) (silent (λ w. after (keeps n o w))) (freed_calm loose t) (quietly loose (λ w. after (keeps n o w)) (λ k w v r. h k (keeps n o w) (keeps n o v) (keeps_near loose n o k w v r)))

kept_calm : (loose : ℕ → Bool) (setting : Setting) (after : World → World) (n : ℕ) (content : Content) → Keeps loose after → CalmOnly loose 0 (kept_from setting after n content)
kept_calm loose setting after n (Tree t) h = bind loose 0 0 (value setting t) (λ o. only (kept_then after n t o)) (value_calm loose setting t) (λ o. kept_then_calm loose after n t o h)
kept_calm loose setting after n (Kept o) h = pure loose tt

each_near : (loose : ℕ → Bool) (ns : List ℕ) → Keeps loose (each_announced ns)
each_near loose [] k w v r = r
each_near loose (n ∷ ns) k w v r = each_near loose ns k (announced DepthFirst n w) (announced DepthFirst n v) (announced_near loose DepthFirst n k w v r)

branches_near : (loose : ℕ → Bool) (hub : ℕ) → Keeps loose (branches_announced hub)
branches_near loose hub = by_form_near loose hub (λ o w. each_announced (branches_of o) w) (λ o. each_near loose (branches_of o))

-- a Side
tree_calm : (loose : ℕ → Bool) (o : Option Form) → CalmOnly loose 0 (tree_freed o)
tree_calm loose (Some (Side (Waits t))) = freed_calm loose t
tree_calm loose (Some (Side (Fired t))) = freed_calm loose t
tree_calm loose (Some (Side (KeepsOutcome o))) = pure loose tt
tree_calm loose (Some (Side Gone)) = pure loose tt
tree_calm loose None = pure loose tt
tree_calm loose (Some _) = pure loose tt

two_put : (loose : ℕ → Bool) (n m : ℕ) (f g : Form) → Keeps loose (λ w. put n f (put m g w))
two_put loose n m f g k w v r = put_near loose n f k (put m g w) (put m g v) (put_near loose m g k w v r)

won_calm : (loose : ℕ → Bool) (race left right side other t : ℕ) → CalmOnly loose 0 (race_won race left right side other t)
won_calm loose race left right side other t =
    let first : World → World = λ w. put race (Race left right (Some side)) (put side (Side (Fired t)) w) in
    let last : World → World = λ w. announced DepthFirst race (put other (Side Gone) w) in
    bind loose 0 0 (λ s. (s, form_at other s.world.nodes)) (λ o. only (λ s. silent last (tree_freed o (silent first s)))) (form_reads loose other) (λ o.
    then_calm loose (λ s. tree_freed o (silent first s)) (silent last)
    (then_calm loose (silent first) (tree_freed o) (quietly loose first (two_put loose race side (Race left right (Some side)) (Side (Fired t)))) (tree_calm loose o))
    (quietly loose last (λ k w v r. announced_near loose DepthFirst race k (put other (Side Gone) w) (put other (Side Gone) v) (put_near loose other (Side Gone) k w v r))))

race_calm : (loose : ℕ → Bool) (race left right : ℕ) (winner : Option ℕ) (side t : ℕ) → CalmOnly loose 0 (race_fired race left right winner side t)
race_calm loose race left right None side t = won_calm loose race left right side (other_side (left == side) left right) t
race_calm loose race left right (Some winner) side t = pure loose tt

if_near : (loose : ℕ → Bool) (b : Bool) (n : ℕ) → Keeps loose (announced_if b n)
if_near loose true n = announced_near loose DepthFirst n
if_near loose false n = λ k w v r. r

ready_near : (loose : ℕ → Bool) (fast : Bool) (join : ℕ) (sides : List ℕ) → Keeps loose (λ w. announced_if (join_ready fast sides w.nodes) join w)
ready_near loose fast join sides k w v r = seen_as loose (λ u. announced_if (join_ready fast sides u.nodes) join u) k k w v r (λ l s. if_near loose (join_ready fast sides w.nodes) join k w (with_lists l w) s)

all_near : (loose : ℕ → Bool) (join : ℕ) (sides : List ℕ) (side t : ℕ) → Keeps loose (all_fired join sides side t)
all_near loose join sides side t k w v r = ready_near loose false join sides k (put side (Side (Fired t)) w) (put side (Side (Fired t)) v) (put_near loose side (Side (Fired t)) k w v r)

fast_near : (loose : ℕ → Bool) (b : Bool) (join : ℕ) (sides : List ℕ) → Keeps loose (fast_announced b join sides)
fast_near loose true join sides = λ k w v r. r
fast_near loose false join sides = ready_near loose true join sides

join_calm : (loose : ℕ → Bool) (setting : Setting) (fast : Bool) (join : ℕ) (sides : List ℕ) (side t : ℕ) → CalmOnly loose 0 (join_fired setting fast join sides side t)
join_calm loose setting true join sides side t = bind loose 0 0 (λ s. (s, join_ready true sides s.world.nodes)) (λ b. only (kept_from setting (fast_announced b join sides) side (Tree t))) (reads_world loose (λ w. join_ready true sides w.nodes) (λ l u. refl)) (λ b. kept_calm loose setting (fast_announced b join sides) side (Tree t) (fast_near loose b join sides))
join_calm loose setting false join sides side t = quietly loose (all_fired join sides side t) (all_near loose join sides side t)

under_calm : (loose : ℕ → Bool) (setting : Setting) (owner : ℕ) (form : Form) (side t : ℕ) → CalmOnly loose 0 (side_fired_under setting owner form side t)
under_calm loose setting owner (Race left right winner) side t = race_calm loose owner left right winner side t
under_calm loose setting owner (Join fast sides) side t = join_calm loose setting fast owner sides side t
under_calm loose setting owner _ side t = pure loose tt

by_calm : (loose : ℕ → Bool) (setting : Setting) (owner : Option Entry) (side t : ℕ) → CalmOnly loose 0 (side_fired_by setting owner side t)
by_calm loose setting None side t = pure loose tt
by_calm loose setting (Some owner) side t = under_calm loose setting owner.number owner.form side t

side_calm : (loose : ℕ → Bool) (setting : Setting) (n : ℕ) (stage : Stage) → CalmOnly loose 0 (side_fired setting n stage)
side_calm loose setting n (Waits t) = bind loose 0 0 (λ s. (s, owner_of n s.world.nodes)) (λ o. only (side_fired_by setting o n t)) (reads_world loose (λ w. owner_of n w.nodes) (λ l u. refl)) (λ o. by_calm loose setting o n t)
side_calm loose setting n (Fired t) = pure loose tt
side_calm loose setting n (KeepsOutcome o) = pure loose tt
side_calm loose setting n Gone = pure loose tt

-- a Task
pub group_alike : (loose : ℕ → Bool) (k n : ℕ) (w v : World) → Near loose k w v → group_of n w.names ≡ group_of n v.names
group_alike loose k n w v r = sym (group_firm loose n w.names r.alike.left.spent) ∙ ap (group_of n) (sym r.alike.same) ∙ group_firm loose n v.names r.alike.right.spent

aside_near : (loose : ℕ → Bool) (n : ℕ) → Keeps loose (λ w. record w { detached = dropped n w.detached; left_over = w.left_over ++ n ∷ [] })
aside_near loose n = blind loose (λ w. record w { detached = dropped n w.detached; left_over = w.left_over ++ n ∷ [] }) (λ l w. refl) (λ w. record { names = refl; limits = refl; awaited = refl })

left_near : (loose : ℕ → Bool) (n k : ℕ) (o : Option Named) (w v : World) → group_of n w.names ≡ o → group_of n v.names ≡ o → Near loose k w v → Near loose k (group_left n o w) (group_left n o v)
left_near loose n k None w v e h r = r
left_near loose n k (Some x) w v e h r =
    let held = without_task n x.held in
    let firm : loose x.name ≡ true → is_spent (Some held) ≡ true = λ l. absurd (group_no_loose loose n w.names x r.alike.left.spent e l) in
    empty_near loose x.name k (named x.name held w) (named x.name held v) (named_near loose x.name held k w v firm (group_present n w.names x e) (group_present n v.names x h) r)

set_near : (loose : ℕ → Bool) (n : ℕ) → Keeps loose (set_left n)
set_near loose n k w v r =
    let a : World = record w { detached = dropped n w.detached; left_over = w.left_over ++ n ∷ [] } in
    let b : World = record v { detached = dropped n v.detached; left_over = v.left_over ++ n ∷ [] } in
    let x = group_alike loose k n w v r in
    subst (λ (o : Option Named). Near loose k (group_left n (group_of n w.names) a) (group_left n o b)) x (left_near loose n k (group_of n w.names) a b refl (sym x) (aside_near loose n k w v r))

gone_task : (loose : ℕ → Bool) (n : ℕ) → CalmOnly loose 0 (task_gone n)
gone_task loose n = then_calm loose (silent (without_left_over n)) (gone n) (quietly loose (without_left_over n) (blind loose (without_left_over n) (λ l w. refl) (λ w. record { names = refl; limits = refl; awaited = refl }))) (gone_calm loose n)

stepped_calm : (loose : ℕ → Bool) (n : ℕ) (o : Option Given) → CalmOnly loose 0 (task_stepped n o)
stepped_calm loose n None = pure loose tt
stepped_calm loose n (Some given) = gone_task loose n

error_calm : (loose : ℕ → Bool) (setting : Setting) (n : ℕ) (o : Outcome) (step : Option ℕ) → CalmOnly loose 0 (error_run setting n o step)
error_calm loose setting n o None = gone_task loose n
error_calm loose setting n o (Some step) = bind loose 0 0 (run_step setting false n step o) (λ r. only (task_stepped n r)) (run_step_calm loose setting false n step o) (λ r. stepped_calm loose n r)

ended_calm : (loose : ℕ → Bool) (setting : Setting) (n : ℕ) (o : Outcome) (error : Option ℕ) → CalmOnly loose 0 (task_ended setting n o error)
ended_calm loose setting n (Value words) error = gone_task loose n
ended_calm loose setting n (Broken exception) error = error_calm loose setting n (Broken exception) error

left_calm : (loose : ℕ → Bool) (setting : Setting) (n : ℕ) (o : Outcome) → CalmOnly loose 0 (task_left setting n o)
left_calm loose setting n o =
    bind loose 0 0 (λ s. (s, group_error (group_of n s.world.names))) (λ e. only (λ s. task_ended setting n o e (silent (set_left n) s)))
    (reads loose (λ s. group_error (group_of n s.world.names)) (λ s t k r. ap group_error (group_alike loose k n s.world t.world r.world)))
    (λ e. then_calm loose (silent (set_left n)) (task_ended setting n o e) (quietly loose (set_left n) (set_near loose n)) (ended_calm loose setting n o e))

task_calm : (loose : ℕ → Bool) (setting : Setting) (n t : ℕ) (o : Option Outcome) → CalmOnly loose 0 (task_valued setting n t o)
task_calm loose setting n t None = pure loose tt
task_calm loose setting n t (Some o) =
    then_calm loose (λ s. silent (put n (Task None)) (freed t s)) (task_left setting n o)
    (then_calm loose (freed t) (silent (put n (Task None))) (freed_calm loose t) (quietly loose (put n (Task None)) (put_near loose n (Task None))))
    (left_calm loose setting n o)

-- a Request, whose name may come
request_calm : (loose : ℕ → Bool) (n name t : ℕ) (o : Option Outcome) → CalmOnly loose 1 (request_valued n name t o)
request_calm loose n name t None = calm_more loose 0 1 (only (λ s. s)) (omega arith) (pure loose tt)
request_calm loose n name t (Some o) =
    let op : World → World = λ w. named name (RequestOf None) (with_ended name o w) in
    bind loose 0 1 (only (freed t)) (λ a. only (λ s. gone n (silent op s))) (freed_calm loose t) (λ a.
    bind loose 1 0 (only (silent op)) (λ b. only (gone n))
    (calm_moves loose 1 (only (silent op)) (quiet op) (λ k s u r.
    let x = less_same loose (1 + k) (suc k) s u (omega arith) r in
    (record { world = new_near loose name (RequestOf None) k (with_ended name o s.world) (with_ended name o u.world) (λ l. refl) (one_ended loose name o (suc k) s.world u.world x.world); past = x.past }, refl)))
    (λ b. gone_calm loose n))

-- each form
calm_one : (loose : ℕ → Bool) (f : State → State) → CalmOnly loose 0 f → CalmOnly loose 1 f
calm_one loose f h = calm_more loose 0 1 (only f) (omega arith) h

form_calm : (loose : ℕ → Bool) (setting : Setting) (n : ℕ) (o : Option Form) → CalmOnly loose 1 (fire_form setting n o)
form_calm loose setting n (Some (Chain link)) = calm_one loose (fire_form setting n (Some (Chain link))) (bind loose 0 0 (value_link setting link) (λ r. only (chain_ended n link r)) (link_calm loose setting link) (λ r. chain_calm loose n link r))
form_calm loose setting n (Some (Eager content)) = calm_one loose (fire_form setting n (Some (Eager content))) (kept_calm loose setting (announced DepthFirst n) n content (announced_near loose DepthFirst n))
form_calm loose setting n (Some (Wrap c content)) = calm_one loose (fire_form setting n (Some (Wrap c content))) (kept_calm loose setting (announced DepthFirst n) n content (announced_near loose DepthFirst n))
form_calm loose setting n (Some (Hub content is_named branches)) = calm_one loose (fire_form setting n (Some (Hub content is_named branches))) (kept_calm loose setting (branches_announced n) n content (branches_near loose n))
form_calm loose setting n (Some (Side stage)) = calm_one loose (fire_form setting n (Some (Side stage))) (side_calm loose setting n stage)
form_calm loose setting n (Some (Task (Some t))) = calm_one loose (fire_form setting n (Some (Task (Some t)))) (bind loose 0 0 (value setting t) (λ r. only (task_valued setting n t r)) (value_calm loose setting t) (λ r. task_calm loose setting n t r))
form_calm loose setting n (Some (Task None)) = calm_one loose (fire_form setting n (Some (Task None))) (pure loose tt)
form_calm loose setting n (Some (Request name (Some t))) = bind loose 0 1 (value setting t) (λ r. only (request_valued n name t r)) (value_calm loose setting t) (λ r. request_calm loose n name t r)
form_calm loose setting n (Some (Request name None)) = calm_one loose (fire_form setting n (Some (Request name None))) (pure loose tt)
form_calm loose setting n None = calm_one loose (fire_form setting n None) (pure loose tt)
form_calm loose setting n (Some _) = calm_more loose 0 1 (only (λ s. s)) (omega arith) (pure loose tt)

firing_near : (loose : ℕ → Bool) (o : Option ℕ) → Keeps loose (with_firing o)
firing_near loose o = blind loose (with_firing o) (λ l w. refl) (λ w. record { names = refl; limits = refl; awaited = refl })

pub fire_calm : (loose : ℕ → Bool) (setting : Setting) (n : ℕ) → CalmOnly loose 1 (fire setting n)
fire_calm loose setting n =
    bind loose 0 1 (λ s. (s, form_at n s.world.nodes)) (λ o. only (λ s. silent (with_firing None) (fire_form setting n o (silent (with_firing (Some n)) s)))) (form_reads loose n) (λ o.
    bind loose 0 1 (only (silent (with_firing (Some n)))) (λ a. only (λ s. silent (with_firing None) (fire_form setting n o s))) (quietly loose (with_firing (Some n)) (firing_near loose (Some n))) (λ a.
    bind loose 1 0 (only (fire_form setting n o)) (λ b. only (silent (with_firing None))) (form_calm loose setting n o) (λ b. quietly loose (with_firing None) (firing_near loose None))))
