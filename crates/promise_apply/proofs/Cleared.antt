-- The tasks of a set go: when that is Busy, and what it comes to.
use Rattle.std.proofs.Common.{◌≡◌, ◌∙◌, ℕ, List, [], ◌∷◌, Option, None, Some, Bool, true, refl, sym, ap, subst, length, arith}
use Rattle.std.specs.Prelude.{◌&&◌, ◌||◌, ◌==◌, option_to_list, reverse, if◌then◌else◌}
use Rattle.std.proofs.lemmas.Bool.Decides.{nat_tests}
use Rattle.std.proofs.lemmas.List.{nil_from_length}
use Rattle.kj_base.specs.Commands.{Clear, Drop}
use Rattle.kj_base.specs.Queue.{DepthFirst}
use Rattle.kj_model.specs.Nodes.{form_at, is_in}
use Rattle.kj_model.specs.Outcomes.{void}
use Rattle.kj_model.specs.World.{World, State, Held, Group, held_at, depth_of}
use Rattle.kj_model.specs.Changes.{named, silent}
use Rattle.kj_model.specs.Effects.{cleared_in, emptied, now_empty, wraps_of}
use Rattle.kj_model.specs.Free.{Guard, Holding, each_freed, free, usual}
use Rattle.kj_model.specs.Listening.{settled}
use Rattle.kj_model.specs.Uses.{Use}
use Rattle.kj_model.specs.Value.{freed}
use Rattle.kj_model.specs.Apply.{Refused, is_busy, is_busy_at, is_unsettled_wrap, would_free}
use Rattle.kj_model.proofs.Falling.{node_frees}
use Rattle.kj_ownership.proofs.Sets.{clear_would_free, drop_set_would_free}
use Rattle.promise_nodes.specs.Members.{lists_in, members_of, newest_member}
use Rattle.promise_nodes.specs.Shown.{link_number}
use Rattle.promise_nodes.proofs.Listed.{lists_named}
use Rattle.promise_nodes.proofs.Same.{names_lists}
use Rattle.promise_names.specs.Once.{AreRising}
use Rattle.promise_names.specs.Held.{IsSet, regrouped, regrouped_in}
use Rattle.promise_walks.proofs.Commuted.{frees_commute}
use Rattle.promise_walks.proofs.Newest.{newest_first, none_first, set_stays}
use Rattle.promise_apply.specs.declared.sets.Tasks.{Tasks}
use Rattle.promise_apply.specs.Applying.{Rule, refused_first, refused_later}
use Rattle.promise_apply.specs.Dropping.{set_frees_firing}
use Rattle.promise_apply.specs.Sets.{IsTasks, set_cleared, tasks_freed}
use Rattle.promise_apply.proofs.Same.{settled_names}
use Rattle.promise_apply.proofs.Tasked.{HasTasks, tasks_of}

-- ---- whether it is Busy

clear_busy_at : (firing : Option ℕ) (group : ℕ) (error empty : Option ℕ) (tasks : List ℕ) (s : State) → held_at group s.world.names ≡ Some (Group error tasks empty)
    → is_busy_at firing (Clear group) s ≡ set_frees_firing firing tasks s.world
clear_busy_at None group error empty tasks s at = refl
clear_busy_at (Some f) group error empty tasks s at = clear_would_free f group error empty tasks s at

drop_busy_at : (firing : Option ℕ) (name : ℕ) (error empty : Option ℕ) (tasks : List ℕ) (s : State) → held_at name s.world.names ≡ Some (Group error tasks empty)
    → is_busy_at firing (Drop name) s ≡ set_frees_firing firing tasks s.world
drop_busy_at None name error empty tasks s at = refl
drop_busy_at (Some f) name error empty tasks s at =
    ap (λ (h : Option Held). (is_in f (wraps_of h) && is_unsettled_wrap (form_at f s.world.nodes)) || would_free f (Drop name) s) at
    ∙ drop_set_would_free f name error empty tasks s at

-- a Clear
pub clear_busy : (group : ℕ) (t : Tasks) (s : State) → IsTasks t (held_at group s.world.names) → is_busy (Clear group) s ≡ set_frees_firing s.world.firing (lists_in s.world group) s.world
clear_busy group t s tasks =
    let has = tasks_of t (held_at group s.world.names) tasks in
    clear_busy_at s.world.firing group has.error (link_number t.empty) has.members s has.is
    ∙ ap (λ (ns : List ℕ). set_frees_firing s.world.firing ns s.world) (sym (ap members_of has.is))

-- a Drop of a set
pub drop_busy : (name : ℕ) (t : Tasks) (s : State) → IsTasks t (held_at name s.world.names) → is_busy (Drop name) s ≡ set_frees_firing s.world.firing (lists_in s.world name) s.world
drop_busy name t s tasks =
    let has = tasks_of t (held_at name s.world.names) tasks in
    drop_busy_at s.world.firing name has.error (link_number t.empty) has.members s has.is
    ∙ ap (λ (ns : List ℕ). set_frees_firing s.world.firing ns s.world) (sym (ap members_of has.is))

-- what the test says of the use that is shown
pub tested_tasks : (rule : Rule) (u shown : Use) (w : World) {o : Option Refused} → shown ≡ u
    → (refused_first (shown ∷ []) w ≡ None → o ≡ refused_later (set_frees_firing w.firing (lists_in w shown.name) w) rule shown w)
    → refused_first (u ∷ []) w ≡ None → o ≡ refused_later (set_frees_firing w.firing (lists_in w u.name) w) rule u w
tested_tasks rule u shown w {o} is says passes =
    subst (λ (x : Use). (refused_first (x ∷ []) w ≡ None → o ≡ refused_later (set_frees_firing w.firing (lists_in w x.name) w) rule x w)) is says passes

-- ---- while tasks go

usual_stays : (g : Guard) (t : ℕ) (s : State) → usual (free g t s).world ≡ usual s.world
usual_stays g t s = ap (λ (o : Option ℕ). Holding (option_to_list o)) (node_frees g (depth_of s.world) t s).frame.same.firing

-- the set stays
pub task_stays : (group t : ℕ) (s : State) → IsSet (held_at group s.world.names) → held_at group (freed t s).world.names ≡ held_at group s.world.names
task_stays group t s is = set_stays (usual s.world) group t s is

-- the newest task goes first
pub task_goes : (group t : ℕ) (s : State) → IsSet (held_at group s.world.names) → newest_member s.world (lists_in s.world group) ≡ Some t → tasks_freed group (freed t s) ≡ tasks_freed group s
task_goes group t s is newest =
    let g = usual s.world in
    ap (λ (h : Guard). each_freed (free h) (reverse (lists_in (freed t s).world group)) (freed t s)) (usual_stays g t s)
    ∙ ap (λ (o : Option Held). each_freed (free g) (reverse (members_of o)) (freed t s)) (task_stays group t s is)
    ∙ sym (newest_first g (reverse (lists_in s.world group)) t s newest)

-- where no task lives, nothing goes
pub no_task_goes : (group : ℕ) (s : State) → newest_member s.world (lists_in s.world group) ≡ None → tasks_freed group s ≡ s
no_task_goes group s none = none_first (usual s.world) (reverse (lists_in s.world group)) s none

frees_stay : (g : Guard) (group : ℕ) (ns : List ℕ) (s : State) → IsSet (held_at group s.world.names) → held_at group (each_freed (free g) ns s).world.names ≡ held_at group s.world.names
frees_stay g group [] s is = refl
frees_stay g group (n ∷ ns) s is =
    let first = set_stays g group n s is in
    frees_stay g group ns (free g n s) (subst IsSet (sym first) is) ∙ first

tasks_set : (t : Tasks) (o : Option Held) → HasTasks t o → IsSet o
tasks_set t o has = subst IsSet (sym has.is) tt

-- a set with these tasks is one
pub is_set : (t : Tasks) (o : Option Held) → IsTasks t o → IsSet o
is_set t o tasks = tasks_set t o (tasks_of t o tasks)

-- and has them still
pub tasks_stay : (group : ℕ) (t : Tasks) (s : State) → IsTasks t (held_at group s.world.names) → IsTasks t (held_at group (tasks_freed group s).world.names)
tasks_stay group t s tasks =
    subst (IsTasks t) (sym (frees_stay (usual s.world) group (reverse (lists_in s.world group)) s (is_set t (held_at group s.world.names) tasks))) tasks

-- ---- then

no_length : (n : ℕ) (ns : List ℕ) → length (n ∷ ns) ≡ 0 → ⊥
no_length n ns e = omega (arith, e)

nothing_case : (guard : Guard) (group : ℕ) (error empty : Option ℕ) (members : List ℕ) (s : State) → length members ≡ 0 → cleared_in guard group (Some (Group error members empty)) s ≡ s
nothing_case guard group error empty [] s none = refl
nothing_case guard group error empty (task ∷ tasks) s none = absurd (no_length task tasks none)

-- where there was none, nothing changes
pub nothing_clears : (group : ℕ) (t : Tasks) (s : State) → IsTasks t (held_at group s.world.names) → t.count ≡ 0 → set_cleared group s ≡ s
nothing_clears group t s tasks none =
    let has = tasks_of t (held_at group s.world.names) tasks in
    ap (λ (o : Option Held). cleared_in (usual s.world) group o s) has.is
    ∙ nothing_case (usual s.world) group has.error (link_number t.empty) has.members s (has.counted ∙ none)

pub nothing_listed : (group : ℕ) (t : Tasks) (w : World) → IsTasks t (held_at group w.names) → t.count ≡ 0 → lists_in w group ≡ []
nothing_listed group t w tasks none =
    let has = tasks_of t (held_at group w.names) tasks in
    ap members_of has.is ∙ nil_from_length has.members (has.counted ∙ none)

some_case : (guard : Guard) (group : ℕ) (error empty : Option ℕ) (members : List ℕ) (s : State) → (length members ≡ 0 → ⊥)
    → cleared_in guard group (Some (Group error members empty)) s ≡ silent (now_empty group) (each_freed (free guard) (reverse members) (silent (named group (Group error [] empty)) s))
some_case guard group error empty [] s some = absurd (some refl)
some_case guard group error empty (task ∷ tasks) s some = refl

-- where there was one, the set may be emptied after they go
pub tasks_clear : (group : ℕ) (t : Tasks) (s : State) → AreRising s.world.names → IsTasks t (held_at group s.world.names) → (t.count ≡ 0 → ⊥)
    → silent (λ w. now_empty group (regrouped group [] (link_number t.empty) w)) (tasks_freed group s) ≡ set_cleared group s
tasks_clear group t s rising tasks some =
    let held = held_at group s.world.names in
    let has = tasks_of t held tasks in
    let g = usual s.world in
    let e = link_number t.empty in
    let new = Group has.error [] e in
    let newest = reverse has.members in
    let done : State = each_freed (free g) newest s in
    let freed_as : tasks_freed group s ≡ done = ap (λ (o : Option Held). each_freed (free g) (reverse (members_of o)) s) has.is in
    let at : held_at group done.world.names ≡ Some (Group has.error has.members e) = frees_stay g group newest s (tasks_set t held has) ∙ has.is in
    let whole : set_cleared group s ≡ silent (now_empty group) (each_freed (free g) newest (silent (named group new) s)) =
    ap (λ (o : Option Held). cleared_in g group o s) has.is
    ∙ some_case g group has.error e has.members s (λ none. some (sym has.counted ∙ none)) in
    let turned : each_freed (free g) newest (silent (named group new) s) ≡ silent (named group new) done =
    (frees_commute group (Some new) tt g newest s (rising, tasks_set t held has)).0 in
    ap (silent (λ w. now_empty group (regrouped group [] e w))) freed_as
    ∙ ap (λ (o : Option Held). silent (λ (w : World). now_empty group (regrouped_in o group [] e done.world)) done) at
    ∙ ap (silent (now_empty group)) (sym turned)
    ∙ sym whole

self : (n : ℕ) → (n == n) ≡ true
self n = grind (arith, nat_tests)

emptied_case : (group : ℕ) (error empty : Option ℕ) (w : World) → held_at group w.names ≡ Some (Group error [] empty) → lists_in (emptied group (Some (Group error [] empty)) w) group ≡ []
emptied_case group error None w at = ap members_of at
emptied_case group error (Some cell) w at =
    let v = named group (Group error [] None) w in
    names_lists v (settled DepthFirst cell void v) (settled_names DepthFirst cell void v) group
    ∙ lists_named group (Group error [] None) w group
    ∙ ap (λ (b : Bool). if b then [] else lists_in w group) (self group)

-- a set that is emptied has no tasks
pub emptied_none : (group : ℕ) (error empty : Option ℕ) (w : World) → held_at group w.names ≡ Some (Group error [] empty) → lists_in (now_empty group w) group ≡ []
emptied_none group error empty w at = ap (λ (o : Option Held). lists_in (emptied group o w) group) at ∙ emptied_case group error empty w at
