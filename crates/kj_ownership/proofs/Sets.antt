-- What a Clear or a Drop of a set would free.
use Rattle.std.proofs.Common.{◌≡◌, ℕ, ◌+◌, List, [], ◌∷◌, length, drop, Bool, Option, Some}
use Rattle.std.proofs.Common.{refl, ap, ◌∙◌}
use Rattle.std.specs.Prelude.{reverse}
use Rattle.std.specs.List.{list_any}
use Rattle.std.proofs.Math.Seq.{drop-length}
use Rattle.kj_base.specs.declared.numbers.Limits.{Limits}
use Rattle.kj_base.specs.Commands.{Clear, Drop}
use Rattle.kj_base.specs.Record.{Item}
use Rattle.kj_model.specs.Nodes.{is_in}
use Rattle.kj_model.specs.World.{State, Held, Group, held_at, depth_of}
use Rattle.kj_model.specs.Changes.{silent, named}
use Rattle.kj_model.specs.Free.{Guard, Holding, free, free_to, each_freed}
use Rattle.kj_model.specs.Effects.{cleared_in, dropped_held}
use Rattle.kj_model.specs.Apply.{is_free_of, would_free}
use Rattle.kj_model.specs.Falling.{falling, each_falling}
use Rattle.kj_ownership.specs.Going.{set_goes}
use Rattle.kj_model.proofs.Falling.{node_frees, each_frees}
use Rattle.kj_model.proofs.Alike.{ReadAlike, falls_alike}
use Rattle.kj_ownership.proofs.Busy.{told_more}

-- a free leaves the limits, so each of these trees is read as deep as the first
each_deep : (guard : Guard) (limits : Limits) (ns : List ℕ) (s : State)
    → s.world.limits ≡ limits
    → each_freed (free guard) ns s ≡ each_freed (free_to guard (limits.slots + 1)) ns s
each_deep guard limits [] s same = refl
each_deep guard limits (n ∷ ns) s same =
    let deep = free_to guard (limits.slots + 1) in
    let limits_then = (node_frees guard (depth_of s.world) n s).limits ∙ same in
    each_deep guard limits ns (free guard n s) limits_then
    ∙ ap (λ (l : Limits). each_freed deep ns (free_to guard (l.slots + 1) n s)) same

-- the free of this node is among what is told after these items
abbrev tells_free : ℕ → List Item → List Item → Bool
tells_free f before after = list_any (is_free_of f) (drop (length before) after)

-- trees one after another free what goes with them
each_tells : (f : ℕ) (ns : List ℕ) (s : State)
    → tells_free f s.past (each_freed (free (Holding [])) ns s).past
    ≡ is_in f (each_falling (falling (Holding []) s.world (depth_of s.world) []) [] ns)
each_tells f ns s =
    let d = depth_of s.world in
    let deep = each_deep (Holding []) s.world.limits ns s refl in
    ap (λ (t : State). tells_free f s.past t.past) deep
    ∙ ap (tells_free f s.past) (each_frees (Holding []) d ns s).told
    ∙ told_more f s.past (each_falling (falling (Holding []) s.world d []) [] ns)

cleared_tells : (f name : ℕ) (error empty : Option ℕ) (tasks : List ℕ) (s : State)
    → tells_free f s.past (cleared_in (Holding []) name (Some (Group error tasks empty)) s).past
    ≡ is_in f (set_goes tasks s.world)
cleared_tells f name error empty [] s = ap (list_any (is_free_of f)) (drop-length s.past)
cleared_tells f name error empty (task ∷ tasks) s =
    let v = named name (Group error [] empty) s.world in
    let newest = reverse (task ∷ tasks) in
    let same : ReadAlike v s.world = record { nodes = refl; limits = refl } in
    let falls_same = falls_alike (Holding []) v s.world (depth_of s.world) same in
    each_tells f newest (silent (named name (Group error [] empty)) s)
    ∙ ap (λ falls. is_in f (each_falling (falls []) [] newest)) falls_same

pub clear_would_free : (f name : ℕ) (error empty : Option ℕ) (tasks : List ℕ) (s : State)
    → held_at name s.world.names ≡ Some (Group error tasks empty)
    → would_free f (Clear name) s ≡ is_in f (set_goes tasks s.world)
clear_would_free f name error empty tasks s at =
    ap (λ (o : Option Held). tells_free f s.past (cleared_in (Holding []) name o s).past) at
    ∙ cleared_tells f name error empty tasks s

pub drop_set_would_free : (f name : ℕ) (error empty : Option ℕ) (tasks : List ℕ) (s : State)
    → held_at name s.world.names ≡ Some (Group error tasks empty)
    → would_free f (Drop name) s ≡ is_in f (set_goes tasks s.world)
drop_set_would_free f name error empty tasks s at =
    ap (λ (o : Option Held). tells_free f s.past (dropped_held (Holding []) name o s).past) at
    ∙ clear_would_free f name error empty tasks s at
