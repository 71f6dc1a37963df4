-- Each call.
use Rattle.std.proofs.Common.{zero, suc, ◌≡◌, ℕ, List, [], ◌∷◌, Bool, true, false, Option, None, Some, arith, refl, ap, ◌==◌}
use Rattle.std.specs.Prelude.{reverse}
use Rattle.kj_base.specs.declared.outcomes.Outcome.{Outcome}
use Rattle.kj_base.specs.Queue.{head_of}
use Rattle.kj_model.specs.World.{World, State, Setting, Named, Held, Promise, CellOf, AskCell, HubOf, Group, Canceler, RequestOf, Awaited, Asked, Ended, held_at}
use Rattle.kj_model.specs.Changes.{silent, unnamed}
use Rattle.kj_model.specs.Free.{Holding, Every}
use Rattle.kj_model.specs.Effects.{hub_unnamed, disarmed_node}
use Rattle.kj_model.specs.Uses.{is_name}
use Rattle.kj_model.specs.Value.{value, freed}
use Rattle.kj_model.specs.Calls.{Turned, Fired, Idle, NoMemory, Stopped, turn, with_awaited, held_awaited, Waited, lost_in, lost, awaited_freed, wait_valued, wait_value_at, name_back, let_go_of, let_go, wait_turned, wait_turn, wait_more, wait_held, wait_unless, ask_taken_in, take_ask_of, take_ended_of, take_abandoned_of, closed_held, each_closed, hubs_of, detached_closed, names_closed, left_over_closed, close, Call, CallApply, CallTurn, CallRun, CallWait, CallTakeAsk, CallTakeEnded, CallTakeAbandoned, CallClose, call}
use Rattle.kj_model.specs.Owned.{awaited_roots}
use Rattle.kj_model.specs.Framed.{times}
use Rattle.kj_ownership.specs.Fits.{Fits}
use Rattle.kj_ownership.specs.Kept.{Rests, Kept}
use Rattle.kj_ownership.proofs.Turns.{turn_passes}
use Rattle.kj_ownership.proofs.Waits.{held_rests}
use Rattle.kj_ownership.proofs.Calls.{rests_of}
use Rattle.kj_paths.proofs.Laid.{Laid}
use Rattle.kj_paths.proofs.Moves.{listened_laid, named_laid, unnamed_laid, unnamed_lost, others_laid}
use Rattle.kj_paths.proofs.Freed.{free_laid, each_laid}
use Rattle.kj_paths.proofs.Effects.{lists_laid, disarmed_laid, hub_unnamed_laid, reference_laid}
use Rattle.kj_paths.proofs.Commands.{apply_laid}
use Rattle.kj_paths.proofs.Values.{freed_laid, value_laid}
use Rattle.kj_paths.proofs.Turns.{turn_laid, run_laid}

-- the promise is held
pub held_laid : (name root : ℕ) (w : World) → held_at name w.names ≡ Some (Promise root) → Laid [] w → Laid [] (held_awaited name root w)
held_laid name root w at g =
    let v = unnamed name w in
    let a : Option Awaited = Some (record { name = name; root = root }) in
    listened_laid root [] (with_awaited a v) (others_laid (root ∷ []) [] a v.left_over v.detached v (λ m. omega arith) (unnamed_laid name (Promise root) [] w at g))

-- nothing is awaited any more
none_awaited : (w : World) → Laid [] w → Laid [] (with_awaited None w)
none_awaited w g = others_laid [] [] None w.left_over w.detached w (λ m. omega arith) g

awaited_laid : (a : Option Awaited) (s : State) → Laid [] s.world → Laid [] (awaited_freed a s).world
awaited_laid None s g = g
awaited_laid (Some a) s g = let u = freed a.root s in disarmed_laid 0 [] (with_awaited None u.world) (none_awaited u.world (freed_laid a.root [] s g))

lost_at : (a : Option Awaited) (w : World) → w.awaited ≡ a → Laid [] w → Laid [] (lost_in a w)
lost_at None w e g = g
lost_at (Some a) w e g = others_laid [] [] None (a.root ∷ w.left_over) w.detached w (λ m. (let h : times m (awaited_roots w.awaited) ≡ times m (a.root ∷ []) = ap (λ (o : Option Awaited). times m (awaited_roots o)) e in omega (arith, h))) g

lost_laid : (w : World) → Laid [] w → Laid [] (lost w)
lost_laid w g = let v = disarmed_node 0 w in lost_at v.awaited v refl (disarmed_laid 0 [] w g)

valued_laid : (o : Option Outcome) (s : State) → Laid [] s.world → Laid [] (wait_valued o s).0.world
valued_laid None s g = lost_laid s.world g
valued_laid (Some o) s g = awaited_laid s.world.awaited s g

value_at : (setting : Setting) (a : Option Awaited) (s : State) → Laid [] s.world → Laid [] (wait_value_at setting a s).0.world
value_at setting None s g = g
value_at setting (Some a) s g = let r = value setting a.root s in valued_laid r.1 r.0 (value_laid setting a.root s g)

back_laid : (b : Bool) (a : Awaited) (s : State) → s.world.awaited ≡ Some a → Laid [] s.world → Laid [] (name_back b a s).world
back_laid true a s e g = let u = freed a.root s in none_awaited u.world (freed_laid a.root [] s g)
back_laid false a s e g =
    let w = s.world in
    named_laid a.name (Promise a.root) [] (with_awaited None w) (others_laid [] (a.root ∷ []) None w.left_over w.detached w (λ m. (let h : times m (awaited_roots w.awaited) ≡ times m (a.root ∷ []) = ap (λ (o : Option Awaited). times m (awaited_roots o)) e in omega (arith, h))) g)

go_laid : (a : Option Awaited) (s : State) → s.world.awaited ≡ a → Laid [] s.world → Laid [] (let_go_of a s).world
go_laid None s e g = g
go_laid (Some a) s e g = back_laid (is_name a.name s.world.names) a s e g

let_go_laid : (s : State) → Laid [] s.world → Laid [] (let_go s).world
let_go_laid s g = let t = silent (disarmed_node 0) s in go_laid t.world.awaited t refl (disarmed_laid 0 [] s.world g)

-- the turns of a wait
turned_laid : (setting : Setting) (rest : State → State × Waited) (b : Bool) (t : Turned) (s : State) → (Laid [] s.world → Laid [] (rest s).0.world) → Laid [] s.world → Laid [] (wait_turned setting rest b t s).0.world
turned_laid setting rest true Fired s h g = value_at setting s.world.awaited s g
turned_laid setting rest false Fired s h g = h g
turned_laid setting rest true Idle s h g = lost_laid s.world g
turned_laid setting rest false Idle s h g = lost_laid s.world g
turned_laid setting rest true NoMemory s h g = lost_laid s.world g
turned_laid setting rest false NoMemory s h g = lost_laid s.world g
turned_laid setting rest true Stopped s h g = lost_laid s.world g
turned_laid setting rest false Stopped s h g = lost_laid s.world g

head_laid : (setting : Setting) (rest : State → State × Waited) (o : Option ℕ) (s : State) → Fits setting → Rests s → (Rests (turn setting s).0 → Laid [] (turn setting s).0.world → Laid [] (rest (turn setting s).0).0.world) → Laid [] s.world → Laid [] (wait_turn setting rest o s).0.world
head_laid setting rest None s fits r h g = let_go_laid s g
head_laid setting rest (Some e) s fits r h g = let t = turn setting s in turned_laid setting rest (e == 0) t.1 t.0 (h (turn_passes setting s fits r).rests) (turn_laid setting s fits r g)

more_laid : (setting : Setting) (n : ℕ) (s : State) → Fits setting → Rests s → Laid [] s.world → Laid [] (wait_more setting n s).0.world
more_laid setting zero s fits r g = let_go_laid s g
more_laid setting (suc n) s fits r g = head_laid setting (wait_more setting n) (head_of s.world.queue) s fits r (λ k h. more_laid setting n (turn setting s).0 fits k h) g

wait_at : (setting : Setting) (name n : ℕ) (h : Option Held) (s : State) → held_at name s.world.names ≡ h → Fits setting → Kept s → Laid [] s.world → Laid [] (wait_held setting name n h s).0.world
wait_at setting name n (Some (Promise root)) s at fits k g = more_laid setting n (silent (held_awaited name root) s) fits (held_rests name root s at k.none_awaited (rests_of s k)) (held_laid name root s.world at g)
wait_at setting name n None s at fits k g = g
wait_at setting name n (Some _) s at fits k g = g

wait_unless_laid : (setting : Setting) (b : Bool) (name n : ℕ) (s : State) → Fits setting → Kept s → Laid [] s.world → Laid [] (wait_unless b setting name n s).0.world
wait_unless_laid setting true name n s fits k g = g
wait_unless_laid setting false name n s fits k g = wait_at setting name n (held_at name s.world.names) s refl fits k g

-- the taking calls
ask_at : (name : ℕ) (h : Option Held) (w : World) → Laid [] w → Laid [] (ask_taken_in name h w)
ask_at name (Some (AskCell cell is_taken)) w g = named_laid name (AskCell cell true) [] w g
ask_at name None w g = g
ask_at name (Some _) w g = g

ask_laid : (asks : List Asked) (w : World) → Laid [] w → Laid [] (take_ask_of asks w).0
ask_laid [] w g = g
ask_laid (a ∷ more) w g = ask_at a.cell (held_at a.cell w.names) (record w { asks = more }) (lists_laid more w.ended w.abandoned [] w g)

ended_laid : (ended : List Ended) (w : World) → Laid [] w → Laid [] (take_ended_of ended w).0
ended_laid [] w g = g
ended_laid (e ∷ more) w g = unnamed_lost e.request [] (record w { ended = more }) (lists_laid w.asks more w.abandoned [] w g)

abandoned_laid : (cells : List ℕ) (w : World) → Laid [] w → Laid [] (take_abandoned_of cells w).0
abandoned_laid [] w g = g
abandoned_laid (cell ∷ more) w g = unnamed_lost cell [] _ (lists_laid _ w.ended more [] w g)

-- the closing
closed_laid : (h : Held) (s : State) → Laid [] s.world → Laid [] (closed_held h s).world
closed_laid (Promise root) s g = free_laid (Holding []) root [] s g
closed_laid (CellOf cell) s g = g
closed_laid (AskCell cell is_taken) s g = g
closed_laid (HubOf hub) s g = reference_laid (Holding []) hub [] (silent (hub_unnamed hub) s) (hub_unnamed_laid hub [] s.world g)
closed_laid (Group error tasks empty) s g = each_laid (Holding []) (reverse tasks) [] s g
closed_laid (Canceler wraps) s g = g
closed_laid (RequestOf None) s g = g
closed_laid (RequestOf (Some node)) s g = free_laid (Holding []) node [] s g

names_laid : (xs : List Named) (s : State) → Laid [] s.world → Laid [] (each_closed xs s).world
names_laid [] s g = g
names_laid (x ∷ xs) s g = let t = silent (unnamed x.name) s in names_laid xs (closed_held x.held t) (closed_laid x.held t (unnamed_lost x.name [] s.world g))

pub close_laid : (s : State) → Laid [] s.world → Laid [] (close s).world
close_laid s g =
    let a = left_over_closed s in
    let b = names_closed a in
    let c = detached_closed b in
    each_laid Every (hubs_of c.world.nodes) [] c (each_laid (Holding []) (reverse b.world.detached) [] b (names_laid a.world.names a (each_laid (Holding []) s.world.left_over [] s g)))

pub call_laid : (setting : Setting) (c : Call) (s : State) → Fits setting → Kept s → Laid [] s.world → Laid [] (call setting c s).0.world
call_laid setting (CallApply command) s fits k g = apply_laid setting false command s g
call_laid setting CallTurn s fits k g = turn_laid setting s fits (rests_of s k) g
call_laid setting (CallRun turns) s fits k g = run_laid setting turns s fits (rests_of s k) g
call_laid setting (CallWait name turns) s fits k g = wait_unless_laid setting s.world.stopped name turns s fits k g
call_laid setting CallTakeAsk s fits k g = ask_laid s.world.asks s.world g
call_laid setting CallTakeEnded s fits k g = ended_laid s.world.ended s.world g
call_laid setting CallTakeAbandoned s fits k g = abandoned_laid s.world.abandoned s.world g
call_laid setting CallClose s fits k g = close_laid s g
