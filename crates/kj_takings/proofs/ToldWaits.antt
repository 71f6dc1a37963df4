-- A wait leaves the lists so that they tell each once.
use Rattle.std.proofs.Common.{zero, suc, ◌≡◌, ℕ, ◌∷◌, Bool, true, false, Option, None, Some, refl, ap, ◌==◌}
use Rattle.kj_base.specs.declared.outcomes.Outcome.{Outcome}
use Rattle.kj_base.specs.Queue.{head_of}
use Rattle.kj_model.specs.World.{World, State, Setting, Held, Promise, Awaited, held_at}
use Rattle.kj_model.specs.Changes.{silent, unnamed, named}
use Rattle.kj_model.specs.Effects.{disarmed_node}
use Rattle.kj_model.specs.Free.{usual}
use Rattle.kj_model.specs.Uses.{is_name}
use Rattle.kj_model.specs.Value.{value, freed}
use Rattle.kj_model.specs.Calls.{Turned, Fired, Idle, NoMemory, Stopped, turn, Waited, with_awaited, held_awaited, lost_in, lost, awaited_freed, wait_valued, wait_value_at, name_back, let_go_of, let_go, wait_turned, wait_turn, wait_more, wait_held, wait_unless, wait}
use Rattle.kj_model.specs.Listening.{listened}
use Rattle.kj_ownership.specs.Fits.{Fits}
use Rattle.kj_ownership.specs.Kept.{Rests}
use Rattle.kj_ownership.proofs.Premises.{name_absent}
use Rattle.kj_ownership.proofs.Turns.{turn_passes}
use Rattle.kj_ownership.proofs.Waits.{held_rests}
use Rattle.kj_takings.proofs.ToldListed.{kind, Tales, Listed, Leaves, leaves_none, leaves_then, listened_leaves, named_leaves, unnamed_leaves, absent_kind}
use Rattle.kj_takings.proofs.ToldFrees.{free_leaves}
use Rattle.kj_takings.proofs.ToldEffects.{disarmed_leaves, roots_leaves}
use Rattle.kj_takings.proofs.ToldValues.{value_listed}
use Rattle.kj_takings.proofs.ToldTurns.{turn_listed}

freed_leaves : (t : ℕ) (s : State) → Leaves s.world (freed t s).world
freed_leaves t s = free_leaves (usual s.world) t s

awaited_leaves : (a : Option Awaited) (w : World) → Leaves w (with_awaited a w)
awaited_leaves a w = roots_leaves a w.left_over w.detached w

-- the promise is held
held_leaves : (name root : ℕ) (w : World) → held_at name w.names ≡ Some (Promise root) → Leaves w (held_awaited name root w)
held_leaves name root w at =
    let a : Awaited = record { name = name; root = root } in
    let u = unnamed name w in
    let v = with_awaited (Some a) u in
    leaves_then w v (listened root v) (leaves_then w u v (unnamed_leaves name w (ap kind at)) (awaited_leaves (Some a) u)) (listened_leaves root v)

-- the wait is over
lost_at : (a : Option Awaited) (w : World) → Leaves w (lost_in a w)
lost_at None w = leaves_none w
lost_at (Some a) w = roots_leaves None (a.root ∷ w.left_over) w.detached w

lost_leaves : (w : World) → Leaves w (lost w)
lost_leaves w = let v = disarmed_node 0 w in leaves_then w v (lost w) (disarmed_leaves 0 w) (lost_at v.awaited v)

freed_at : (a : Option Awaited) (s : State) → Leaves s.world (awaited_freed a s).world
freed_at None s = leaves_none s.world
freed_at (Some a) s =
    let u = (freed a.root s).world in
    let v = with_awaited None u in
    leaves_then s.world v (disarmed_node 0 v) (leaves_then s.world u v (freed_leaves a.root s) (awaited_leaves None u)) (disarmed_leaves 0 v)

back_leaves : (b : Bool) (a : Awaited) (s : State) → is_name a.name s.world.names ≡ b → Leaves s.world (name_back b a s).world
back_leaves true a s there = let u = (freed a.root s).world in leaves_then s.world u (with_awaited None u) (freed_leaves a.root s) (awaited_leaves None u)
back_leaves false a s there =
    let v = with_awaited None s.world in
    leaves_then s.world v (named a.name (Promise a.root) v) (awaited_leaves None s.world) (named_leaves a.name (Promise a.root) v refl (absent_kind a.name s.world.names (name_absent a.name s.world.names there)))

go_leaves : (a : Option Awaited) (s : State) → Leaves s.world (let_go_of a s).world
go_leaves None s = leaves_none s.world
go_leaves (Some a) s = back_leaves (is_name a.name s.world.names) a s refl

let_go_leaves : (s : State) → Leaves s.world (let_go s).world
let_go_leaves s = let t = silent (disarmed_node 0) s in leaves_then s.world t.world (let_go s).world (disarmed_leaves 0 s.world) (go_leaves t.world.awaited t)

-- the awaited tree is evaluated
valued_leaves : (o : Option Outcome) (s : State) → Leaves s.world (wait_valued o s).0.world
valued_leaves None s = lost_leaves s.world
valued_leaves (Some o) s = freed_at s.world.awaited s

done_listed : (told : Tales) (setting : Setting) (a : Option Awaited) (s : State) → Listed told s.world → Listed told (wait_value_at setting a s).0.world
done_listed told setting None s g = g
done_listed told setting (Some a) s g = let v = value setting a.root s in (valued_leaves v.1 v.0).listed told (value_listed told setting a.root s g)

-- the turns of a wait
turned_listed : (told : Tales) (setting : Setting) (rest : State → State × Waited) (b : Bool) (t : Turned) (s : State) → (Listed told s.world → Listed told (rest s).0.world) → Listed told s.world → Listed told (wait_turned setting rest b t s).0.world
turned_listed told setting rest true Fired s h g = done_listed told setting s.world.awaited s g
turned_listed told setting rest false Fired s h g = h g
turned_listed told setting rest true Idle s h g = (lost_leaves s.world).listed told g
turned_listed told setting rest false Idle s h g = (lost_leaves s.world).listed told g
turned_listed told setting rest true NoMemory s h g = (lost_leaves s.world).listed told g
turned_listed told setting rest false NoMemory s h g = (lost_leaves s.world).listed told g
turned_listed told setting rest true Stopped s h g = (lost_leaves s.world).listed told g
turned_listed told setting rest false Stopped s h g = (lost_leaves s.world).listed told g

head_listed : (told : Tales) (setting : Setting) (rest : State → State × Waited) (o : Option ℕ) (s : State) → Fits setting → Rests s → ((u : State) → Rests u → Listed told u.world → Listed told (rest u).0.world) → Listed told s.world → Listed told (wait_turn setting rest o s).0.world
head_listed told setting rest None s fits r h g = (let_go_leaves s).listed told g
head_listed told setting rest (Some e) s fits r h g =
    let t = turn setting s in
    turned_listed told setting rest (e == 0) t.1 t.0 (h t.0 (turn_passes setting s fits r).rests) (turn_listed told setting s fits r g)

more_listed : (told : Tales) (setting : Setting) (n : ℕ) (s : State) → Fits setting → Rests s → Listed told s.world → Listed told (wait_more setting n s).0.world
more_listed told setting zero s fits r g = (let_go_leaves s).listed told g
more_listed told setting (suc n) s fits r g = head_listed told setting (wait_more setting n) (head_of s.world.queue) s fits r (λ u k l. more_listed told setting n u fits k l) g

held_listed : (told : Tales) (setting : Setting) (o : Option Held) (name n : ℕ) (s : State) → held_at name s.world.names ≡ o → Fits setting → Rests s → s.world.awaited ≡ None → Listed told s.world → Listed told (wait_held setting name n o s).0.world
held_listed told setting None name n s at fits r waits g = g
held_listed told setting (Some (Promise root)) name n s at fits r waits g = more_listed told setting n (silent (held_awaited name root) s) fits (held_rests name root s at waits r) ((held_leaves name root s.world at).listed told g)
held_listed told setting (Some _) name n s at fits r waits g = g

unless_listed : (told : Tales) (setting : Setting) (b : Bool) (name n : ℕ) (s : State) → Fits setting → Rests s → s.world.awaited ≡ None → Listed told s.world → Listed told (wait_unless b setting name n s).0.world
unless_listed told setting true name n s fits r waits g = g
unless_listed told setting false name n s fits r waits g = held_listed told setting (held_at name s.world.names) name n s refl fits r waits g

pub wait_listed : (told : Tales) (setting : Setting) (name n : ℕ) (s : State) → Fits setting → Rests s → s.world.awaited ≡ None → Listed told s.world → Listed told (wait setting name n s).0.world
wait_listed told setting name n s fits r waits g = unless_listed told setting s.world.stopped name n s fits r waits g
