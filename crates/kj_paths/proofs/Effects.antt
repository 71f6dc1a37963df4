-- Each command that isn't refused.
use Rattle.std.proofs.Common.{◌≡◌, ℕ, ◌+◌, ◌≤◌, List, [], ◌∷◌, ◌++◌, Bool, true, false, Option, None, Some, arith, refl, sym, ap, ◌∙◌, subst}
use Rattle.std.specs.Prelude.{nat_eq, reverse}
use Rattle.kj_base.specs.declared.outcomes.Outcome.{Outcome}
use Rattle.kj_base.specs.Queue.{Way, DepthFirst}
use Rattle.kj_model.specs.Nodes.{Form, Content, Tree, Kept, Ready, Cell, Wrap as WrapNode, Hub, Task, form_at}
use Rattle.kj_model.specs.World.{World, State, Held, Promise, HubOf, Group, Canceler, Asked, Ended, held_at}
use Rattle.kj_model.specs.Changes.{silent, put, named, unnamed}
use Rattle.kj_model.specs.Places.{built}
use Rattle.kj_model.specs.Listening.{settled, settled_form}
use Rattle.kj_model.specs.Outcomes.{void, cancelled}
use Rattle.kj_model.specs.Free.{Guard, free, each_freed, is_guarded, free_unless, free_unreferenced, reference_gone, guarded_too}
use Rattle.kj_model.specs.Effects.{node_named, leaf_built, over_built, added_in, added, with_detached, detached_built, emptied, now_empty, cleared_in, cleared, empty_built_in, wrapped_in, disarmed_node, wrap_cancelled, each_cancelled, wraps_of, canceled, hub_unnamed_in, hub_unnamed, dropped_held}
use Rattle.kj_model.specs.Framed.{times, name_numbers}
use Rattle.kj_model.proofs.Counts.{times_app}
use Rattle.kj_ownership.proofs.Builders.{held_kept, held_left, held_apart, absent_other}
use Rattle.kj_paths.proofs.Laid.{Laid, laid_roots}
use Rattle.kj_paths.proofs.Moves.{announced_laid, listened_laid, named_laid, renamed_laid, unnamed_lost, others_laid, Lessens, put_laid, bare_laid}
use Rattle.kj_paths.proofs.Freed.{free_laid, each_laid}
use Rattle.kj_paths.proofs.Builders.{built_names, leaf_laid, over_laid}

-- lists in which no node stands, and the queue
pub lists_laid : (asks : List Asked) (ended : List Ended) (abandoned : List ℕ) (loose : List ℕ) (w : World) → Laid loose w → Laid loose (record w { asks = asks; ended = ended; abandoned = abandoned })
lists_laid asks ended abandoned loose w g = laid_roots loose loose w (record w { asks = asks; ended = ended; abandoned = abandoned }) refl refl refl refl (λ a. a) (λ a m. omega arith) g

pub disarmed_laid : (n : ℕ) (loose : List ℕ) (w : World) → Laid loose w → Laid loose (disarmed_node n w)
disarmed_laid n loose w g = laid_roots loose loose w (disarmed_node n w) refl refl refl refl (λ a. a) (λ a m. omega arith) g

-- cells
settled_at : (way : Way) (n : ℕ) (o : Outcome) (f : Option Form) (loose : List ℕ) (w : World) → Laid loose w → Laid loose (settled_form way n o f w)
settled_at way n o (Some (Cell None)) loose w g = announced_laid way n loose (put n (Cell (Some o)) w) (bare_laid n (Cell (Some o)) loose w refl refl g)
settled_at way n o (Some (Cell (Some p))) loose w g = g
settled_at way n o None loose w g = g
settled_at way n o (Some _) loose w g = g

pub settled_laid : (way : Way) (n : ℕ) (o : Outcome) (loose : List ℕ) (w : World) → Laid loose w → Laid loose (settled way n o w)
settled_laid way n o loose w g = settled_at way n o (form_at n w.nodes) loose w g

-- sets
emptied_laid : (group : ℕ) (h : Option Held) (loose : List ℕ) (w : World) → Laid loose w → Laid loose (emptied group h w)
emptied_laid group (Some (Group error [] (Some cell))) loose w g = settled_laid DepthFirst cell void loose (named group (Group error [] None) w) (named_laid group (Group error [] None) loose w g)
emptied_laid group (Some (Group error [] None)) loose w g = g
emptied_laid group (Some (Group error (task ∷ tasks) empty)) loose w g = g
emptied_laid group None loose w g = g
emptied_laid group (Some _) loose w g = g

pub empty_now_laid : (group : ℕ) (loose : List ℕ) (w : World) → Laid loose w → Laid loose (now_empty group w)
empty_now_laid group loose w g = emptied_laid group (held_at group w.names) loose w g

cleared_at : (guard : Guard) (group : ℕ) (h : Option Held) (s : State) → Laid [] s.world → Laid [] (cleared_in guard group h s).world
cleared_at guard group (Some (Group error (task ∷ tasks) empty)) s g =
    let t = silent (named group (Group error [] empty)) s in
    let u = each_freed (free guard) (reverse (task ∷ tasks)) t in
    empty_now_laid group [] u.world (each_laid guard (reverse (task ∷ tasks)) [] t (named_laid group (Group error [] empty) [] s.world g))
cleared_at guard group (Some (Group error [] empty)) s g = g
cleared_at guard group None s g = g
cleared_at guard group (Some _) s g = g

pub cleared_laid : (guard : Guard) (group : ℕ) (s : State) → Laid [] s.world → Laid [] (cleared guard group s).world
cleared_laid guard group s g = cleared_at guard group (held_at group s.world.names) s g

other_sources : (group source t : ℕ) (error : Option ℕ) (tasks : List ℕ) (empty : Option ℕ) (w : World) → held_at group w.names ≡ Some (Group error tasks empty) → held_at source w.names ≡ Some (Promise t) → nat_eq source group ≡ false
other_sources group source t error tasks empty w a b = held_apart source group (Promise t) (Group error tasks empty) w.names (λ e. differ e) b a
  where
    differ : ◌≡◌ {A = Option Held} (Some (Promise t)) (Some (Group error tasks empty)) → ⊥
    differ e = cc

task_times : (m task : ℕ) (tasks : List ℕ) → times m (tasks ++ task ∷ []) + 0 ≤ times m tasks + times m (task ∷ [])
task_times m task tasks = let a = times_app m tasks (task ∷ []) in omega (arith, a)

pub added_laid : (group source t : ℕ) (error : Option ℕ) (tasks : List ℕ) (empty : Option ℕ) (w : World) → held_at group w.names ≡ Some (Group error tasks empty) → held_at source w.names ≡ Some (Promise t) → Laid [] w → Laid [] (added group source w)
added_laid group source t error tasks empty w at bt g =
    let v = over_built (λ root. Task (Some root)) source w in
    let a = over_laid source t (λ root. Task (Some root)) [] w bt refl refl g in
    let e : held_at group v.names ≡ Some (Group error tasks empty) = ap (held_at group) (built_names (Some (node_named source w)) (Task (Some (node_named source w))) (unnamed source w)) ∙ held_left group source w (other_sources group source t error tasks empty w at bt) ∙ at in
    listened_laid (node_named source w) [] (added_in group w.next (held_at group w.names) v)
    (subst (λ (h : Option Held). Laid [] (added_in group w.next h v)) (sym at) (renamed_laid group (Group error tasks empty) (Group error (tasks ++ w.next ∷ []) empty) (w.next ∷ []) [] v e (λ m. task_times m w.next tasks) a))

pub detached_laid : (source t : ℕ) (w : World) → held_at source w.names ≡ Some (Promise t) → Laid [] w → Laid [] (detached_built source w)
detached_laid source t w at g =
    let v = over_built (λ root. Task (Some root)) source w in
    let a = over_laid source t (λ root. Task (Some root)) [] w at refl refl g in
    listened_laid (node_named source w) [] (with_detached w.next v) (others_laid (w.next ∷ []) [] v.awaited v.left_over (v.detached ++ w.next ∷ []) v (λ m. (let b = times_app m v.detached (w.next ∷ []) in omega (arith, b))) a)

leaf_held : (c name : ℕ) (form : Form) (w : World) → nat_eq name c ≡ false → held_at c (leaf_built name form w).names ≡ held_at c w.names
leaf_held c name form w n = held_kept c name (Promise w.next) (built None form w) n ∙ ap (held_at c) (built_names None form w)

pub empty_at : (name group : ℕ) (h : Option Held) (w : World) → held_at group w.names ≡ h → times name (name_numbers w.names) ≡ 0 → Laid [] w → Laid [] (empty_built_in name group h w)
empty_at name group (Some (Group error (task ∷ tasks) empty)) w at fresh g =
    let v = leaf_built name (Cell None) w in
    let e : held_at group v.names ≡ Some (Group error (task ∷ tasks) empty) = leaf_held group name (Cell None) w (absent_other name group (Group error (task ∷ tasks) empty) w.names fresh at) ∙ at in
    renamed_laid group (Group error (task ∷ tasks) empty) (Group error (task ∷ tasks) (Some w.next)) [] [] v e (λ m. omega arith) (leaf_laid name (Cell None) [] w refl g)
empty_at name group (Some (Group error [] empty)) w at fresh g = leaf_laid name (Ready void) [] w refl g
empty_at name group None w at fresh g = leaf_laid name (Ready void) [] w refl g
empty_at name group (Some _) w at fresh g = leaf_laid name (Ready void) [] w refl g

-- cancelers
pub wrapped_laid : (canceler wrap : ℕ) (h : Option Held) (w : World) → Laid [] w → Laid [] (wrapped_in canceler wrap h w)
wrapped_laid canceler wrap (Some (Canceler wraps)) w g = named_laid canceler (Canceler (wraps ++ wrap ∷ [])) [] w g
wrapped_laid canceler wrap None w g = g
wrapped_laid canceler wrap (Some _) w g = g

wrap_laid : (guard : Guard) (n : ℕ) (o : Option Form) (s : State) → Laid [] s.world → Laid [] (wrap_cancelled guard n o s).world
wrap_laid guard n (Some (WrapNode canceler (Tree t))) s g =
    let u = free (guarded_too n guard) t s in
    announced_laid DepthFirst n [] (put n (WrapNode canceler (Kept cancelled)) (disarmed_node n u.world)) (bare_laid n (WrapNode canceler (Kept cancelled)) [] (disarmed_node n u.world) refl refl (disarmed_laid n [] u.world (free_laid (guarded_too n guard) t [] s g)))
wrap_laid guard n (Some (WrapNode canceler (Kept o))) s g = g
wrap_laid guard n None s g = g
wrap_laid guard n (Some _) s g = g

wraps_laid : (guard : Guard) (ns : List ℕ) (s : State) → Laid [] s.world → Laid [] (each_cancelled guard ns s).world
wraps_laid guard [] s g = g
wraps_laid guard (n ∷ ns) s g = wraps_laid guard ns (wrap_cancelled guard n (form_at n s.world.nodes) s) (wrap_laid guard n (form_at n s.world.nodes) s g)

pub canceled_laid : (guard : Guard) (canceler : ℕ) (s : State) → Laid [] s.world → Laid [] (canceled guard canceler s).world
canceled_laid guard canceler s g = wraps_laid guard (reverse (wraps_of (held_at canceler s.world.names))) s g

-- hubs
pub some_form : (x y : Form) → ◌≡◌ {A = Option Form} (Some x) (Some y) → x ≡ y
some_form x y e = cc

hub_lessens : (content : Content) (a b : Bool) (xs ys : List ℕ) → Lessens (Hub content a xs) (Hub content b ys)
hub_lessens content a b xs ys = record { parts = λ p i. i; hub = omega arith }

pub hub_put : (h : ℕ) (content : Content) (a b : Bool) (xs ys : List ℕ) (loose : List ℕ) (w : World) → form_at h w.nodes ≡ Some (Hub content b ys) → Laid loose w → Laid loose (put h (Hub content a xs) w)
hub_put h content a b xs ys loose w at g = put_laid h (Hub content a xs) loose w (λ old bt. subst (Lessens (Hub content a xs)) (some_form (Hub content b ys) old (sym at ∙ bt)) (hub_lessens content a b xs ys)) g

unnamed_at : (hub : ℕ) (o : Option Form) (loose : List ℕ) (w : World) → form_at hub w.nodes ≡ o → Laid loose w → Laid loose (hub_unnamed_in hub o w)
unnamed_at hub (Some (Hub content is_named branches)) loose w at g = hub_put hub content false is_named branches branches loose w at g
unnamed_at hub None loose w at g = g
unnamed_at hub (Some _) loose w at g = g

pub hub_unnamed_laid : (hub : ℕ) (loose : List ℕ) (w : World) → Laid loose w → Laid loose (hub_unnamed hub w)
hub_unnamed_laid hub loose w g = unnamed_at hub (form_at hub w.nodes) loose w refl g

unless_laid : (b : Bool) (guard : Guard) (hub : ℕ) (loose : List ℕ) (s : State) → Laid loose s.world → Laid loose (free_unless b (free guard) hub s).world
unless_laid true guard hub loose s g = g
unless_laid false guard hub loose s g = free_laid guard hub loose s g

reference_at : (guard : Guard) (hub : ℕ) (o : Option Form) (loose : List ℕ) (s : State) → Laid loose s.world → Laid loose (free_unreferenced guard (free guard) hub o s).world
reference_at guard hub (Some (Hub content false [])) loose s g = unless_laid (is_guarded guard hub s.world) guard hub loose s g
reference_at guard hub (Some (Hub content false (b ∷ bs))) loose s g = g
reference_at guard hub (Some (Hub content true bs)) loose s g = g
reference_at guard hub None loose s g = g
reference_at guard hub (Some _) loose s g = g

pub reference_laid : (guard : Guard) (hub : ℕ) (loose : List ℕ) (s : State) → Laid loose s.world → Laid loose (reference_gone guard (free guard) hub s).world
reference_laid guard hub loose s g = reference_at guard hub (form_at hub s.world.nodes) loose s g

-- Drop
pub drop_laid : (guard : Guard) (name : ℕ) (h : Option Held) (s : State) → Laid [] s.world → Laid [] (dropped_held guard name h s).world
drop_laid guard name (Some (Promise root)) s g = free_laid guard root [] (silent (unnamed name) s) (unnamed_lost name [] s.world g)
drop_laid guard name (Some (HubOf hub)) s g = reference_laid guard hub [] (silent (λ w. hub_unnamed hub (unnamed name w)) s) (hub_unnamed_laid hub [] (unnamed name s.world) (unnamed_lost name [] s.world g))
drop_laid guard name (Some (Group error tasks empty)) s g = unnamed_lost name [] (cleared guard name s).world (cleared_laid guard name s g)
drop_laid guard name (Some (Canceler wraps)) s g = unnamed_lost name [] (canceled guard name s).world (canceled_laid guard name s g)
drop_laid guard name None s g = g
drop_laid guard name (Some _) s g = g
