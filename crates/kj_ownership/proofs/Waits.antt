-- A wait, from the promise that it holds to its end.
use Rattle.std.proofs.Common.{zero, suc, ◌≡◌, inr, ℕ, ◌+◌, ◌≤◌, List, [], ◌∷◌, Bool, true, false, cond, Option, None, Some, arith, refl, sym, ap, ◌∙◌, subst, ◌==◌}
use Rattle.std.specs.Prelude.{nat_eq, is_some}
use Rattle.std.proofs.lemmas.Bool.{false≢true}
use Rattle.std.proofs.lemmas.Bool.Decides.{nat_tests}
use Rattle.kj_base.specs.declared.outcomes.Outcome.{Outcome}
use Rattle.kj_base.specs.Queue.{Events, head_of}
use Rattle.kj_model.specs.Nodes.{form_at, is_in}
use Rattle.kj_model.specs.World.{World, State, Setting, Held, Promise, Awaited, held_at, depth_of}
use Rattle.kj_model.specs.Changes.{silent, unnamed}
use Rattle.kj_model.specs.Free.{usual}
use Rattle.kj_model.specs.Effects.{disarmed_node}
use Rattle.kj_model.specs.Uses.{is_name}
use Rattle.kj_model.specs.Value.{value, freed}
use Rattle.kj_model.specs.Calls.{Turned, Fired, Idle, NoMemory, Stopped, turned_by, turn, Waited, with_awaited, held_awaited, lost_in, lost, awaited_freed, wait_valued, wait_value_at, name_back, let_go_of, let_go, wait_turned, wait_turn, wait_more, wait_held, wait_unless, wait}
use Rattle.kj_model.specs.Owned.{name_roots, awaited_roots, tree_roots}
use Rattle.kj_model.specs.Framed.{times}
use Rattle.kj_ownership.specs.Owners.{is_live}
use Rattle.kj_ownership.specs.Standing.{Standing, Owned}
use Rattle.kj_ownership.specs.Shapes.{OfTree, suits, Shaped}
use Rattle.kj_ownership.specs.Fits.{Fits}
use Rattle.kj_ownership.specs.Kept.{Rests}
use Rattle.kj_model.specs.Falling.{falling}
use Rattle.kj_model.proofs.Falling.{node_frees}
use Rattle.kj_model.proofs.Spared.{same_number}
use Rattle.kj_model.proofs.Members.{in_one, in_self, in_none}
use Rattle.kj_model.proofs.Once.{both_ways}
use Rattle.kj_ownership.proofs.Events.{all_in, less_in, disarmed_list}
use Rattle.kj_ownership.proofs.Stays.{in_times, roots_app}
use Rattle.kj_ownership.proofs.Changed.{named_standing, unnamed_standing}
use Rattle.kj_ownership.proofs.Cancels.{disarmed_standing}
use Rattle.kj_ownership.proofs.Closing.{each_placed}
use Rattle.kj_ownership.proofs.Shapes.{shaped_named, shaped_unnamed}
use Rattle.kj_ownership.proofs.Evaluates.{shaped_free, turn_freed, value_keeps}
use Rattle.kj_ownership.proofs.Reached.{listened_only, reached_listened, shaped_queue}
use Rattle.kj_ownership.proofs.Premises.{name_absent}
use Rattle.kj_ownership.proofs.Builders.{source_suits}
use Rattle.kj_ownership.proofs.Walks.{reached_here}
use Rattle.kj_ownership.proofs.Applied.{commands_keep}
use Rattle.kj_ownership.proofs.Turns.{turn_passes, turn_answers}
use Rattle.kj_ownership.proofs.Lacks.{value_stops}

-- after a wait nothing is awaited
pub record IsWaited (t : State) : Type 0 where
  pub rests : Rests t
  pub none : t.world.awaited ≡ None

-- another awaited tree, while event 0 isn't in the queue, or some tree is awaited
pub awaited_standing : (a : Option Awaited) (loose loose2 : List ℕ) (s : State) → ((m : ℕ) → is_live m s.world.nodes ≡ true → times m loose2 + times m (awaited_roots a) ≡ times m loose + times m (awaited_roots s.world.awaited)) → ((m : ℕ) → s.world.next ≤ m → times m loose2 + times m (awaited_roots a) ≡ 0)
    → ((e : ℕ) → is_in e s.world.queue.list ≡ true → nat_eq e 0 ≡ true → is_some a ≡ true) → Standing loose [] [] s → Standing loose2 [] [] (silent (with_awaited a) s)
awaited_standing a loose loose2 s counts none zero_event st = record {
  placed = record { once = λ m live. (let x = st.placed.once m live in let b = counts m live in let c = old m in let d = new m in omega (arith, x, b, c, d)); climbs = st.placed.climbs };
  names = st.names;
  hubs = record { name = st.hubs.name; branches = st.hubs.branches };
  below = record { positive = st.below.positive; places = λ m l. (let x = st.below.places m l in let b = none m l in let c = old m in let d = new m in omega (arith, x, b, c, d)); names = st.below.names; branches = st.below.branches };
  recorded = st.recorded;
  in_order = st.in_order;
  room = st.room;
  queue = st.queue;
  queued = λ e i. event e (e == 0) refl (zero_event e i) (st.queued e i);
  spots = st.spots;
}
  where
    old : (m : ℕ) → times m (tree_roots s.world) ≡ times m (name_roots s.world.names) + times m (awaited_roots s.world.awaited) + times m s.world.left_over + times m s.world.detached
    old m = roots_app m (name_roots s.world.names) (awaited_roots s.world.awaited) s.world.left_over s.world.detached

    new : (m : ℕ) → times m (tree_roots (with_awaited a s.world)) ≡ times m (name_roots s.world.names) + times m (awaited_roots a) + times m s.world.left_over + times m s.world.detached
    new m = roots_app m (name_roots s.world.names) (awaited_roots a) s.world.left_over s.world.detached

    event : (e : ℕ) (b : Bool) → nat_eq e 0 ≡ b → (nat_eq e 0 ≡ true → is_some a ≡ true) → cond (e == 0) (is_some s.world.awaited) (is_live e s.world.nodes) ≡ true → cond (e == 0) (is_some a) (is_live e s.world.nodes) ≡ true
    event e true d z h = ap (λ b. cond b (is_some a) (is_live e s.world.nodes)) d ∙ z d
    event e false d z h = ap (λ b. cond b (is_some a) (is_live e s.world.nodes)) d ∙ sym (ap (λ b. cond b (is_some s.world.awaited) (is_live e s.world.nodes)) d) ∙ h

-- the promise is held
one_of : (root : ℕ) (w : World) → suits OfTree (form_at root w.nodes) ≡ true → (p : ℕ) → is_in p (root ∷ []) ≡ true → suits OfTree (form_at p w.nodes) ≡ true
one_of root w h p i = subst (λ (y : ℕ). suits OfTree (form_at y w.nodes) ≡ true) (in_one p root i) h

pub held_rests : (name root : ℕ) (s : State) → held_at name s.world.names ≡ Some (Promise root) → s.world.awaited ≡ None → Rests s → Rests (silent (held_awaited name root) s)
held_rests name root s at waits r =
    let s1 = silent (unnamed name) s in
    let st1 = unnamed_standing name (Promise root) [] [] [] s at r.owned in
    let a : Awaited = record { name = name; root = root } in
    let s2 = silent (with_awaited (Some a)) s1 in
    let old : (m : ℕ) → times m (awaited_roots s.world.awaited) ≡ 0 = λ m. ap (λ o. times m (awaited_roots o)) waits in
    let st2 = awaited_standing (Some a) (root ∷ []) [] s1 (λ m live. (let o = old m in omega (arith, o))) (λ m l. (let b = st1.below.places m l in omega (arith, b))) (λ e i z. refl) st1 in
    let sh1 = shaped_unnamed name s.world r.shaped in
    let sh2 : Shaped s2.world = record { winners = sh1.winners; parts = sh1.parts; names = sh1.names; awaited = one_of root s.world (source_suits name root s.world at r.shaped); detached = sh1.detached; left_over = sh1.left_over } in
    let x = reached_listened root [] [] [] s2 s2 (reached_here [] [] [] s2 st2 sh2) in
    record { owned = x.standing; shaped = x.shaped; calm = x.stays.same.firing ∙ r.calm; left_over = λ runs. x.stays.same.left_over ∙ r.left_over (sym (ap (λ (w : World). w.stopped) (listened_only root s2.world).same) ∙ runs) }

-- event 0 is disarmed
zero_out : (s : State) → Owned s → (e : ℕ) → is_in e (silent (disarmed_node 0) s).world.queue.list ≡ true → nat_eq e 0 ≡ true → ⊥
zero_out s st e i z =
    let l = less_in 0 e s.world.queue.list st.queue.apart (subst (λ (xs : List ℕ). is_in e xs ≡ true) (disarmed_list 0 s.world.queue) i) in
    both_ways (nat_eq 0 e) (turned e z) l.1
  where
    turned : (e : ℕ) → nat_eq e 0 ≡ true → nat_eq 0 e ≡ true
    turned e z = grind (arith, nat_tests)

disarmed_rests : (s : State) → Rests s → Rests (silent (disarmed_node 0) s)
disarmed_rests s r = record { owned = disarmed_standing 0 [] [] [] s r.owned; shaped = shaped_queue _ s.world r.shaped; calm = r.calm; left_over = r.left_over }

awaited_below : (a : Awaited) (s : State) → s.world.awaited ≡ Some a → Owned s → (m : ℕ) → s.world.next ≤ m → times m (a.root ∷ []) ≡ 0
awaited_below a s is st m l =
    let x = st.below.places m l in
    let c = roots_app m (name_roots s.world.names) (awaited_roots s.world.awaited) s.world.left_over s.world.detached in
    let d : times m (awaited_roots s.world.awaited) ≡ times m (a.root ∷ []) = ap (λ o. times m (awaited_roots o)) is in
    omega (arith, x, c, d)

-- nothing is awaited any more, and the tree has gone
free_awaited : (w : World) → Shaped w → Shaped (with_awaited None w)
free_awaited w sh = record { winners = sh.winners; parts = sh.parts; names = sh.names; awaited = λ p i. absurd (in_none p i); detached = sh.detached; left_over = sh.left_over }

dead_awaited : (a : Awaited) (s : State) → s.world.awaited ≡ Some a → is_live a.root s.world.nodes ≡ false → ((e : ℕ) → is_in e s.world.queue.list ≡ true → nat_eq e 0 ≡ true → ⊥) → Owned s → Owned (silent (with_awaited None) s)
dead_awaited a s is dead never st = awaited_standing None [] [] s (λ m live. zero_sum (times m (awaited_roots s.world.awaited)) (ap (λ o. times m (awaited_roots o)) is ∙ other m live (nat_eq a.root m) refl)) (λ m l. refl) (λ e i z. absurd (never e i z)) st
  where
    zero_sum : (x : ℕ) → x ≡ 0 → 0 ≡ 0 + x
    zero_sum x e = omega (arith, e)

    none : (m : ℕ) → nat_eq a.root m ≡ false → times m (a.root ∷ []) ≡ 0
    none m d = grind (arith, nat_tests)

    other : (m : ℕ) → is_live m s.world.nodes ≡ true → (b : Bool) → nat_eq a.root m ≡ b → times m (a.root ∷ []) ≡ 0
    other m live false d = none m d
    other m live true d = absurd (both_ways (is_live m s.world.nodes) live (subst (λ (y : ℕ). is_live y s.world.nodes ≡ false) (sym (same_number a.root m d)) dead))

-- the awaited tree is freed in its place
awaited_goes : (a : Awaited) (s : State) → s.world.awaited ≡ Some a → Owned s → Owned (freed a.root s) × (is_live a.root (freed a.root s).world.nodes ≡ false)
awaited_goes a s is st =
    let c = roots_app a.root (name_roots s.world.names) (awaited_roots s.world.awaited) s.world.left_over s.world.detached in
    let d : times a.root (awaited_roots s.world.awaited) ≡ times a.root (a.root ∷ []) = ap (λ o. times a.root (awaited_roots o)) is in
    let e = in_times a.root (a.root ∷ []) (in_self a.root []) in
    let w = each_placed (usual s.world) [] (a.root ∷ []) s st (λ r i. subst (λ (y : ℕ). 1 ≤ times y (tree_roots s.world)) (in_one r a.root i) (omega (arith, c, d, e))) in
    (w.standing, w.went a.root (in_self a.root []))

queue_after : (r e : ℕ) (s : State) → Owned s → ((x : ℕ) → is_in x s.world.queue.list ≡ true → nat_eq x 0 ≡ true → ⊥) → is_in e (freed r s).world.queue.list ≡ true → nat_eq e 0 ≡ true → ⊥
queue_after r e s st never i z =
    let f = (node_frees (usual s.world) (depth_of s.world) r s).frame in
    never e (all_in (falling (usual s.world) s.world (depth_of s.world) [] [] r) e s.world.queue st.queue (subst (λ (q : Events). is_in e q.list ≡ true) f.queue i)).0 z

stopped_freed : (r : ℕ) (s : State) → (freed r s).world.stopped ≡ s.world.stopped
stopped_freed r s = (node_frees (usual s.world) (depth_of s.world) r s).frame.same.stopped

-- the wait is done
freed_is : (o : Option Awaited) (s : State) → s.world.awaited ≡ o → Rests s → IsWaited (awaited_freed o s)
freed_is None s is r = record { rests = r; none = is }
freed_is (Some a) s is r =
    let g = awaited_goes a s is r.owned in
    let s1 = freed a.root s in
    let same = turn_freed a.root s in
    let st2 = disarmed_standing 0 [] [] [] s1 g.0 in
    let s2 = silent (disarmed_node 0) s1 in
    record {
      rests = record {
        owned = dead_awaited a s2 (same.awaited ∙ is) g.1 (zero_out s1 g.0) st2;
        shaped = free_awaited s2.world (shaped_queue _ s1.world (shaped_free s a.root r.shaped));
        calm = same.firing ∙ r.calm;
        left_over = λ runs. same.left_over ∙ r.left_over (sym (stopped_freed a.root s) ∙ runs);
      };
      none = refl;
    }

-- no memory: the tree is left over
lost_is : (o : Option Awaited) (s : State) → (silent (disarmed_node 0) s).world.awaited ≡ o → s.world.stopped ≡ true → Rests s → IsWaited (silent (λ w. lost_in o (disarmed_node 0 w)) s)
lost_is None s is stops r = record { rests = disarmed_rests s r; none = is }
lost_is (Some a) s is stops r =
    let s1 = silent (disarmed_node 0) s in
    let d = disarmed_rests s r in
    let st = d.owned in
    record {
      rests = record {
        owned = record {
          placed = record { once = λ m live. (let x = st.placed.once m live in let b = roots a s1 is m in omega (arith, x, b)); climbs = st.placed.climbs };
          names = st.names;
          hubs = record { name = st.hubs.name; branches = st.hubs.branches };
          below = record { positive = st.below.positive; places = λ m l. (let x = st.below.places m l in let b = roots a s1 is m in omega (arith, x, b)); names = st.below.names; branches = st.below.branches };
          recorded = st.recorded;
          in_order = st.in_order;
          room = st.room;
          queue = st.queue;
          queued = λ e i. event e (e == 0) refl (λ z. absurd (zero_out s r.owned e i z)) (st.queued e i);
          spots = st.spots;
        };
        shaped = record { winners = d.shaped.winners; parts = d.shaped.parts; names = d.shaped.names; awaited = λ p i. absurd (in_none p i); detached = d.shaped.detached; left_over = λ p f i. absurd (false≢true (sym (ap is_some r.calm) ∙ f)) };
        calm = r.calm;
        left_over = λ runs. absurd (false≢true (sym runs ∙ stops));
      };
      none = refl;
    }
  where
    roots : (a : Awaited) (s1 : State) → s1.world.awaited ≡ Some a → (m : ℕ) → times m (tree_roots (lost_in (Some a) s1.world)) ≡ times m (tree_roots s1.world)
    roots a s1 is m =
        let x = roots_app m (name_roots s1.world.names) (awaited_roots s1.world.awaited) s1.world.left_over s1.world.detached in
        let y = roots_app m (name_roots s1.world.names) (awaited_roots None) (a.root ∷ s1.world.left_over) s1.world.detached in
        let d : times m (awaited_roots s1.world.awaited) ≡ times m (a.root ∷ []) = ap (λ o. times m (awaited_roots o)) is in
        omega (arith, x, y, d)

    event : (e : ℕ) (b : Bool) → nat_eq e 0 ≡ b → (nat_eq e 0 ≡ true → ⊥) → cond (e == 0) (is_some s.world.awaited) (is_live e s.world.nodes) ≡ true → cond (e == 0) false (is_live e s.world.nodes) ≡ true
    event e true d z h = absurd (z d)
    event e false d z h = ap (λ b. cond b false (is_live e s.world.nodes)) d ∙ sym (ap (λ b. cond b (is_some s.world.awaited) (is_live e s.world.nodes)) d) ∙ h

lost_rests : (s : State) → s.world.stopped ≡ true → Rests s → IsWaited (silent lost s)
lost_rests s stops r = lost_is (silent (disarmed_node 0) s).world.awaited s refl stops r

-- the wait ends early
back_is : (b : Bool) (a : Awaited) (s : State) → is_name a.name s.world.names ≡ b → s.world.awaited ≡ Some a → ((e : ℕ) → is_in e s.world.queue.list ≡ true → nat_eq e 0 ≡ true → ⊥) → Rests s → IsWaited (name_back b a s)
back_is true a s is_there is never r =
    let g = awaited_goes a s is r.owned in
    let s1 = freed a.root s in
    let same = turn_freed a.root s in
    record {
      rests = record {
        owned = dead_awaited a s1 (same.awaited ∙ is) g.1 (λ e i z. queue_after a.root e s r.owned never i z) g.0;
        shaped = free_awaited s1.world (shaped_free s a.root r.shaped);
        calm = same.firing ∙ r.calm;
        left_over = λ runs. same.left_over ∙ r.left_over (sym (stopped_freed a.root s) ∙ runs);
      };
      none = refl;
    }
back_is false a s absent is never r =
    let s1 = silent (with_awaited None) s in
    let st1 : Standing (a.root ∷ []) [] [] s1 = awaited_standing None [] (a.root ∷ []) s (λ m live. sum (times m (awaited_roots s.world.awaited)) (times m (a.root ∷ [])) (ap (λ o. times m (awaited_roots o)) is)) (λ m l. none (times m (a.root ∷ [])) (awaited_below a s is r.owned m l)) (λ e i z. absurd (never e i z)) r.owned in
    let sh1 = free_awaited s.world r.shaped in
    let tree : suits OfTree (form_at a.root s.world.nodes) ≡ true = r.shaped.awaited a.root (subst (λ (o : Option Awaited). is_in a.root (awaited_roots o) ≡ true) (sym is) (in_self a.root [])) in
    record {
      rests = record {
        owned = named_standing a.name (Promise a.root) [] [] [] s1 (name_absent a.name s.world.names absent) st1;
        shaped = shaped_named a.name (Promise a.root) s1.world (one_of a.root s.world tree) sh1;
        calm = r.calm;
        left_over = r.left_over;
      };
      none = refl;
    }
  where
    sum : (x y : ℕ) → x ≡ y → y + 0 ≡ 0 + x
    sum x y e = omega (arith, e)

    none : (x : ℕ) → x ≡ 0 → x + 0 ≡ 0
    none x e = omega (arith, e)

let_go_is : (o : Option Awaited) (s : State) → s.world.awaited ≡ o → ((e : ℕ) → is_in e s.world.queue.list ≡ true → nat_eq e 0 ≡ true → ⊥) → Rests s → IsWaited (let_go_of o s)
let_go_is None s is never r = record { rests = r; none = is }
let_go_is (Some a) s is never r = back_is (is_name a.name s.world.names) a s refl is never r

let_go_rests : (s : State) → Rests s → IsWaited (let_go s)
let_go_rests s r = let t = silent (disarmed_node 0) s in let_go_is t.world.awaited t refl (zero_out s r.owned) (disarmed_rests s r)

-- the awaited tree is evaluated
valued_is : (o : Option Outcome) (s : State) → (o ≡ None → s.world.stopped ≡ true) → Rests s → IsWaited (wait_valued o s).0
valued_is None s lacks r = lost_rests s (lacks refl) r
valued_is (Some o) s lacks r = freed_is s.world.awaited s refl r

done_is : (setting : Setting) (o : Option Awaited) (s : State) → s.world.awaited ≡ o → Fits setting → Rests s → s.world.stopped ≡ false → IsWaited (wait_value_at setting o s).0
done_is setting None s is fits r runs = record { rests = r; none = is }
done_is setting (Some a) s is fits r runs =
    let v = value setting a.root s in
    let e = value_keeps setting (depth_of s.world) (commands_keep setting fits) a.root s [] r.owned r.shaped tt (λ live. inr (r.calm, live, subst (λ (o : Option Awaited). is_in a.root (awaited_roots o) ≡ true) (sym is) (in_self a.root []))) in
    valued_is v.1 v.0 (value_stops setting a.root s) (record { owned = e.owned; shaped = e.shaped; calm = e.same.firing ∙ r.calm; left_over = λ runs2. e.same.left_over ∙ r.left_over runs })

-- the turns of a wait
stops_of : (b : Bool) (t : Turned) → t ≡ turned_by b → (t ≡ Fired → ⊥) → b ≡ true
stops_of true t e h = refl
stops_of false t e h = absurd (h e)

runs_of : (b : Bool) → Fired ≡ turned_by b → b ≡ false
runs_of true e = absurd (differ e)
  where
    differ : Fired ≡ NoMemory → ⊥
    differ e = cc
runs_of false e = refl

not_fired : Turned → Bool
not_fired Fired = false
not_fired other = true

turned_is : (setting : Setting) (rest : State → State × Waited) (b : Bool) (t : Turned) (s : State) → t ≡ turned_by s.world.stopped → Fits setting → ((u : State) → Rests u → u.world.stopped ≡ false → IsWaited (rest u).0) → Rests s → IsWaited (wait_turned setting rest b t s).0
unfolding not_fired
turned_is setting rest true Fired s answer fits h r = done_is setting s.world.awaited s refl fits r (runs_of s.world.stopped answer)
turned_is setting rest false Fired s answer fits h r = h s r (runs_of s.world.stopped answer)
turned_is setting rest true Idle s answer fits h r = lost_rests s (stops_of s.world.stopped Idle answer (λ e. false≢true (sym (ap not_fired e)))) r
turned_is setting rest false Idle s answer fits h r = lost_rests s (stops_of s.world.stopped Idle answer (λ e. false≢true (sym (ap not_fired e)))) r
turned_is setting rest true NoMemory s answer fits h r = lost_rests s (stops_of s.world.stopped NoMemory answer (λ e. false≢true (sym (ap not_fired e)))) r
turned_is setting rest false NoMemory s answer fits h r = lost_rests s (stops_of s.world.stopped NoMemory answer (λ e. false≢true (sym (ap not_fired e)))) r
turned_is setting rest true Stopped s answer fits h r = lost_rests s (stops_of s.world.stopped Stopped answer (λ e. false≢true (sym (ap not_fired e)))) r
turned_is setting rest false Stopped s answer fits h r = lost_rests s (stops_of s.world.stopped Stopped answer (λ e. false≢true (sym (ap not_fired e)))) r

head_is : (setting : Setting) (rest : State → State × Waited) (o : Option ℕ) (s : State) → head_of s.world.queue ≡ o → Fits setting → ((u : State) → Rests u → u.world.stopped ≡ false → IsWaited (rest u).0) → Rests s → s.world.stopped ≡ false → IsWaited (wait_turn setting rest o s).0
head_is setting rest None s is fits h r runs = let_go_rests s r
head_is setting rest (Some e) s is fits h r runs =
    let t = turn setting s in
    turned_is setting rest (e == 0) t.1 t.0 (turn_answers setting s e runs is) fits h (turn_passes setting s fits r).rests

pub more_is : (setting : Setting) (n : ℕ) (s : State) → Fits setting → Rests s → s.world.stopped ≡ false → IsWaited (wait_more setting n s).0
more_is setting zero s fits r runs = let_go_rests s r
more_is setting (suc n) s fits r runs = head_is setting (wait_more setting n) (head_of s.world.queue) s refl fits (λ u h k. more_is setting n u fits h k) r runs

held_is : (setting : Setting) (o : Option Held) (name n : ℕ) (s : State) → held_at name s.world.names ≡ o → Fits setting → Rests s → s.world.awaited ≡ None → s.world.stopped ≡ false → IsWaited (wait_held setting name n o s).0
held_is setting None name n s at fits r waits runs = record { rests = r; none = waits }
held_is setting (Some (Promise root)) name n s at fits r waits runs =
    let s1 = silent (held_awaited name root) s in
    let a : Awaited = record { name = name; root = root } in
    more_is setting n s1 fits (held_rests name root s at waits r) (ap (λ (w : World). w.stopped) (listened_only root (with_awaited (Some a) (unnamed name s.world))).same ∙ runs)
held_is setting (Some _) name n s at fits r waits runs = record { rests = r; none = waits }

unless_is : (setting : Setting) (b : Bool) (name n : ℕ) (s : State) → s.world.stopped ≡ b → Fits setting → Rests s → s.world.awaited ≡ None → IsWaited (wait_unless b setting name n s).0
unless_is setting true name n s is fits r waits = record { rests = r; none = waits }
unless_is setting false name n s is fits r waits = held_is setting (held_at name s.world.names) name n s refl fits r waits is

pub wait_is : (setting : Setting) (name n : ℕ) (s : State) → Fits setting → Rests s → s.world.awaited ≡ None → IsWaited (wait setting name n s).0
wait_is setting name n s fits r waits = unless_is setting s.world.stopped name n s refl fits r waits
