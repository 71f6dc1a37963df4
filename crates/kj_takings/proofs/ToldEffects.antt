-- What stays listed over the parts of commands.
use Rattle.std.proofs.Common.{◌≡◌, ℕ, List, [], ◌∷◌, ◌++◌, false, Option, None, Some, refl, ap, ◌∙◌}
use Rattle.std.specs.Prelude.{reverse}
use Rattle.kj_base.specs.declared.outcomes.Outcome.{Outcome}
use Rattle.kj_base.specs.Queue.{Way, DepthFirst}
use Rattle.kj_model.specs.Nodes.{Form, Tree, Kept, Waits, Ready, Cell, Wrap as WrapNode, Hub, Side, Task, form_at}
use Rattle.kj_model.specs.World.{World, State, Held, Promise, HubOf, Group, Canceler, Awaited, held_at}
use Rattle.kj_model.specs.Changes.{silent, put, named, unnamed}
use Rattle.kj_model.specs.Places.{built}
use Rattle.kj_model.specs.Listening.{announced, listened, settled, settled_form}
use Rattle.kj_model.specs.Outcomes.{void, cancelled}
use Rattle.kj_model.specs.Free.{Guard, free, each_freed, reference_gone, guarded_too}
use Rattle.kj_model.specs.Effects.{node_named, leaf_built, over_built, over_named, sides_built, each_listened, added_in, added, with_detached, detached_built, emptied, now_empty, cleared_in, cleared, empty_built_in, wrapped_in, disarmed_node, wrap_cancelled, each_cancelled, wraps_of, canceled, hub_unnamed_in, hub_unnamed, dropped_held}
use Rattle.kj_ownership.proofs.Premises.{AreSources}
use Rattle.kj_takings.proofs.ToldListed.{kind, Leaves, leaves_none, leaves_then, stays, announced_leaves, listened_leaves, put_leaves, built_leaves, named_leaves, unnamed_leaves}
use Rattle.kj_takings.proofs.ToldFrees.{each_leaves, reference_leaves, free_leaves}

-- two changes of a world
pub both : (f g : World → World) (w : World) → Leaves w (f w) → Leaves (f w) (g (f w)) → Leaves w (g (f w))
both f g w a b = leaves_then w (f w) (g (f w)) a b

-- a name that may not be listed, after a change
pub still : (c : ℕ) (w v : World) → Leaves w v → kind (held_at c w.names) ≡ None → kind (held_at c v.names) ≡ None
still c w v l e = l.kinds c ∙ e

-- nodes under new names
pub leaf_leaves : (name : ℕ) (form : Form) (w : World) → kind (held_at name w.names) ≡ None → Leaves w (leaf_built name form w)
leaf_leaves name form w e =
    let v = built None form w in
    let a = built_leaves None form w in
    leaves_then w v (leaf_built name form w) a (named_leaves name (Promise w.next) v refl (still name w v a e))

pub over_leaves : (form : ℕ → Form) (source : ℕ) (w : World) → kind (held_at source w.names) ≡ None → Leaves w (over_built form source w)
over_leaves form source w e =
    let t = node_named source w in
    leaves_then w (unnamed source w) (over_built form source w) (unnamed_leaves source w e) (built_leaves (Some t) (form t) (unnamed source w))

pub over_named_leaves : (name : ℕ) (form : ℕ → Form) (source : ℕ) (w : World) → kind (held_at name w.names) ≡ None → kind (held_at source w.names) ≡ None → Leaves w (over_named name form source w)
over_named_leaves name form source w n e =
    let v = over_built form source w in
    let a = over_leaves form source w e in
    leaves_then w v (over_named name form source w) a (named_leaves name (Promise w.next) v refl (still name w v a n))

pub each_listened_leaves : (ns : List ℕ) (w : World) → Leaves w (each_listened ns w)
each_listened_leaves [] w = leaves_none w
each_listened_leaves (n ∷ ns) w = let v = listened n w in leaves_then w v (each_listened ns v) (listened_leaves n w) (each_listened_leaves ns v)

-- sources hold promises
abbrev pub AllPlain : World → List ℕ → Type 0
AllPlain w [] = Unit {0}
AllPlain w (source ∷ more) = (kind (held_at source w.names) ≡ None) × AllPlain w more

pub plain_sources : (w : World) (sources : List ℕ) → AreSources w.names sources → AllPlain w sources
plain_sources w [] a = tt
plain_sources w (source ∷ more) a = (ap kind a.1, plain_sources w more a.3)

still_plain : (w v : World) (sources : List ℕ) → Leaves w v → AllPlain w sources → AllPlain v sources
still_plain w v [] l a = tt
still_plain w v (source ∷ more) l a = (still source w v l a.0, still_plain w v more l a.1)

pub sides_leaves : (sources : List ℕ) (w : World) → AllPlain w sources → Leaves w (sides_built sources w)
sides_leaves [] w a = leaves_none w
sides_leaves (source ∷ more) w a =
    let v = over_built (λ t. Side (Waits t)) source w in
    let l = over_leaves (λ t. Side (Waits t)) source w a.0 in
    leaves_then w v (sides_built more v) l (sides_leaves more v (still_plain w v more l a.1))

-- queue and roots
pub disarmed_leaves : (n : ℕ) (w : World) → Leaves w (disarmed_node n w)
disarmed_leaves n w = stays w (disarmed_node n w) refl refl refl refl refl refl

pub roots_leaves : (awaited : Option Awaited) (left_over detached : List ℕ) (w : World) → Leaves w (record w { awaited = awaited; left_over = left_over; detached = detached })
roots_leaves awaited left_over detached w = stays w (record w { awaited = awaited; left_over = left_over; detached = detached }) refl refl refl refl refl refl

-- cells
settled_at : (way : Way) (n : ℕ) (o : Outcome) (f : Option Form) (w : World) → Leaves w (settled_form way n o f w)
settled_at way n o (Some (Cell None)) w = let v = put n (Cell (Some o)) w in leaves_then w v (announced way n v) (put_leaves n (Cell (Some o)) w) (announced_leaves way n v)
settled_at way n o (Some (Cell (Some p))) w = leaves_none w
settled_at way n o None w = leaves_none w
settled_at way n o (Some _) w = leaves_none w

pub settled_leaves : (way : Way) (n : ℕ) (o : Outcome) (w : World) → Leaves w (settled way n o w)
settled_leaves way n o w = settled_at way n o (form_at n w.nodes) w

-- sets
emptied_at : (group : ℕ) (h : Option Held) (w : World) → held_at group w.names ≡ h → Leaves w (emptied group h w)
emptied_at group (Some (Group error [] (Some cell))) w at =
    let v = named group (Group error [] None) w in
    leaves_then w v (settled DepthFirst cell void v) (named_leaves group (Group error [] None) w refl (ap kind at)) (settled_leaves DepthFirst cell void v)
emptied_at group (Some (Group error [] None)) w at = leaves_none w
emptied_at group (Some (Group error (task ∷ tasks) empty)) w at = leaves_none w
emptied_at group None w at = leaves_none w
emptied_at group (Some _) w at = leaves_none w

pub now_empty_leaves : (group : ℕ) (w : World) → Leaves w (now_empty group w)
now_empty_leaves group w = emptied_at group (held_at group w.names) w refl

cleared_at : (guard : Guard) (group : ℕ) (h : Option Held) (s : State) → held_at group s.world.names ≡ h → Leaves s.world (cleared_in guard group h s).world
cleared_at guard group (Some (Group error (task ∷ tasks) empty)) s at =
    let t = silent (named group (Group error [] empty)) s in
    let u = each_freed (free guard) (reverse (task ∷ tasks)) t in
    leaves_then s.world u.world (now_empty group u.world)
    (leaves_then s.world t.world u.world (named_leaves group (Group error [] empty) s.world refl (ap kind at)) (each_leaves (free guard) (reverse (task ∷ tasks)) t (free_leaves guard)))
    (now_empty_leaves group u.world)
cleared_at guard group (Some (Group error [] empty)) s at = leaves_none s.world
cleared_at guard group None s at = leaves_none s.world
cleared_at guard group (Some _) s at = leaves_none s.world

pub cleared_leaves : (guard : Guard) (group : ℕ) (s : State) → Leaves s.world (cleared guard group s).world
cleared_leaves guard group s = cleared_at guard group (held_at group s.world.names) s refl

added_at : (group task : ℕ) (h : Option Held) (w v : World) → held_at group w.names ≡ h → Leaves w v → Leaves v (added_in group task h v)
added_at group task (Some (Group error tasks empty)) w v at l = named_leaves group (Group error (tasks ++ task ∷ []) empty) v refl (still group w v l (ap kind at))
added_at group task None w v at l = leaves_none v
added_at group task (Some _) w v at l = leaves_none v

pub added_leaves : (group source : ℕ) (w : World) → kind (held_at source w.names) ≡ None → Leaves w (added group source w)
added_leaves group source w e =
    let t = node_named source w in
    let v = over_built (λ root. Task (Some root)) source w in
    let u = added_in group w.next (held_at group w.names) v in
    let l = over_leaves (λ root. Task (Some root)) source w e in
    leaves_then w u (listened t u) (leaves_then w v u l (added_at group w.next (held_at group w.names) w v refl l)) (listened_leaves t u)

pub detached_leaves : (source : ℕ) (w : World) → kind (held_at source w.names) ≡ None → Leaves w (detached_built source w)
detached_leaves source w e =
    let t = node_named source w in
    let v = over_built (λ root. Task (Some root)) source w in
    let u = with_detached w.next v in
    leaves_then w u (listened t u) (leaves_then w v u (over_leaves (λ root. Task (Some root)) source w e) (roots_leaves v.awaited v.left_over (v.detached ++ w.next ∷ []) v)) (listened_leaves t u)

pub empty_leaves : (name group : ℕ) (h : Option Held) (w : World) → held_at group w.names ≡ h → kind (held_at name w.names) ≡ None → Leaves w (empty_built_in name group h w)
empty_leaves name group (Some (Group error (task ∷ tasks) empty)) w at e =
    let v = leaf_built name (Cell None) w in
    let l = leaf_leaves name (Cell None) w e in
    leaves_then w v (named group (Group error (task ∷ tasks) (Some w.next)) v) l (named_leaves group (Group error (task ∷ tasks) (Some w.next)) v refl (still group w v l (ap kind at)))
empty_leaves name group (Some (Group error [] empty)) w at e = leaf_leaves name (Ready void) w e
empty_leaves name group None w at e = leaf_leaves name (Ready void) w e
empty_leaves name group (Some _) w at e = leaf_leaves name (Ready void) w e

-- cancelers
pub wrapped_leaves : (canceler wrap : ℕ) (h : Option Held) (w v : World) → held_at canceler w.names ≡ h → Leaves w v → Leaves v (wrapped_in canceler wrap h v)
wrapped_leaves canceler wrap (Some (Canceler wraps)) w v at l = named_leaves canceler (Canceler (wraps ++ wrap ∷ [])) v refl (still canceler w v l (ap kind at))
wrapped_leaves canceler wrap None w v at l = leaves_none v
wrapped_leaves canceler wrap (Some _) w v at l = leaves_none v

wrap_at : (guard : Guard) (n : ℕ) (o : Option Form) (s : State) → Leaves s.world (wrap_cancelled guard n o s).world
wrap_at guard n (Some (WrapNode canceler (Tree t))) s =
    let u = (free (guarded_too n guard) t s).world in
    let v = disarmed_node n u in
    let x = put n (WrapNode canceler (Kept cancelled)) v in
    leaves_then s.world x (announced DepthFirst n x)
    (leaves_then s.world v x (leaves_then s.world u v (free_leaves (guarded_too n guard) t s) (disarmed_leaves n u)) (put_leaves n (WrapNode canceler (Kept cancelled)) v))
    (announced_leaves DepthFirst n x)
wrap_at guard n (Some (WrapNode canceler (Kept o))) s = leaves_none s.world
wrap_at guard n None s = leaves_none s.world
wrap_at guard n (Some _) s = leaves_none s.world

wraps_leave : (guard : Guard) (ns : List ℕ) (s : State) → Leaves s.world (each_cancelled guard ns s).world
wraps_leave guard [] s = leaves_none s.world
wraps_leave guard (n ∷ ns) s = let t = wrap_cancelled guard n (form_at n s.world.nodes) s in leaves_then s.world t.world (each_cancelled guard ns t).world (wrap_at guard n (form_at n s.world.nodes) s) (wraps_leave guard ns t)

pub canceled_leaves : (guard : Guard) (canceler : ℕ) (s : State) → Leaves s.world (canceled guard canceler s).world
canceled_leaves guard canceler s = wraps_leave guard (reverse (wraps_of (held_at canceler s.world.names))) s

-- hubs
unnamed_in : (hub : ℕ) (o : Option Form) (w : World) → Leaves w (hub_unnamed_in hub o w)
unnamed_in hub (Some (Hub content is_named branches)) w = put_leaves hub (Hub content false branches) w
unnamed_in hub None w = leaves_none w
unnamed_in hub (Some _) w = leaves_none w

pub hub_unnamed_leaves : (hub : ℕ) (w : World) → Leaves w (hub_unnamed hub w)
hub_unnamed_leaves hub w = unnamed_in hub (form_at hub w.nodes) w

-- Drop
pub drop_leaves : (guard : Guard) (name : ℕ) (h : Option Held) (s : State) → held_at name s.world.names ≡ h → Leaves s.world (dropped_held guard name h s).world
drop_leaves guard name (Some (Promise root)) s at =
    let t = silent (unnamed name) s in
    leaves_then s.world t.world (free guard root t).world (unnamed_leaves name s.world (ap kind at)) (free_leaves guard root t)
drop_leaves guard name (Some (HubOf hub)) s at =
    let v = unnamed name s.world in
    let t = silent (λ w. hub_unnamed hub (unnamed name w)) s in
    leaves_then s.world t.world (reference_gone guard (free guard) hub t).world (leaves_then s.world v t.world (unnamed_leaves name s.world (ap kind at)) (hub_unnamed_leaves hub v)) (reference_leaves guard (free guard) hub t (free_leaves guard))
drop_leaves guard name (Some (Group error tasks empty)) s at =
    let t = cleared guard name s in
    let l = cleared_leaves guard name s in
    leaves_then s.world t.world (unnamed name t.world) l (unnamed_leaves name t.world (still name s.world t.world l (ap kind at)))
drop_leaves guard name (Some (Canceler wraps)) s at =
    let t = canceled guard name s in
    let l = canceled_leaves guard name s in
    leaves_then s.world t.world (unnamed name t.world) l (unnamed_leaves name t.world (still name s.world t.world l (ap kind at)))
drop_leaves guard name None s at = leaves_none s.world
drop_leaves guard name (Some _) s at = leaves_none s.world
