-- Cancel keeps what a world keeps; a new world keeps it.
use Rattle.std.proofs.Common.{◌≡◌, ℕ, ◌+◌, List, [], ◌∷◌, ◌++◌, length, drop, true, false, Option, None, Some, arith, refl, sym, ap, ◌∙◌, subst, ◌&&◌}
use Rattle.std.specs.Prelude.{nat_eq, nat_lt, is_some}
use Rattle.std.proofs.lemmas.Bool.{false≢true}
use Rattle.std.proofs.lemmas.Bool.Decides.{nat_tests}
use Rattle.kj_base.specs.declared.numbers.Limits.{Limits}
use Rattle.kj_base.specs.Record.{Item, Free, Run}
use Rattle.kj_base.specs.Queue.{DepthFirst, disarmed}
use Rattle.kj_base.proofs.QueueLemmas.{disarmed_keeps, empty_is}
use Rattle.kj_model.specs.Outcomes.{cancelled}
use Rattle.kj_model.specs.Nodes.{Form, Tree, Kept, Wrap, form_at, parts_found, is_in}
use Rattle.std.specs.List.{IsDistinct}
use Rattle.kj_model.specs.World.{State, new_state}
use Rattle.kj_model.specs.Changes.{silent, put, frees_in}
use Rattle.kj_model.specs.Free.{Holding, free}
use Rattle.kj_model.specs.Effects.{wrap_cancelled, each_cancelled, disarmed_node}
use Rattle.kj_model.specs.Calls.{close}
use Rattle.kj_model.specs.Owned.{numbers}
use Rattle.kj_ownership.specs.Owners.{is_live, owns}
use Rattle.kj_model.specs.Framed.{times}
use Rattle.kj_ownership.specs.Standing.{one_if, Standing, Owned}
use Rattle.kj_model.proofs.Spared.{no_form, same_number}
use Rattle.kj_model.proofs.Members.{in_self}
use Rattle.kj_model.proofs.Once.{both_ways, false_by}
use Rattle.kj_model.proofs.Counts.{times_app}
use Rattle.kj_ownership.proofs.Events.{less_in, disarmed_list}
use Rattle.kj_ownership.proofs.Commands.{Tended, tree_freed}
use Rattle.kj_ownership.proofs.Changed.{queue_standing, put_standing, announced_standing}
use Rattle.kj_ownership.proofs.Closing.{close_frees_all}
use Rattle.kj_model.proofs.Called.{close_grows}

pub disarmed_standing : (n : ℕ) (loose out lone : List ℕ) (s : State) → Standing loose out lone s → Standing loose out lone (silent (disarmed_node n) s)
disarmed_standing n loose out lone s st = queue_standing loose out lone (disarmed n s.world.queue) s (disarmed_keeps n s.world.queue st.queue) (λ e i. st.queued e (less_in n e s.world.queue.list st.queue.apart (subst (λ (xs : List ℕ). is_in e xs ≡ true) (disarmed_list n s.world.queue) i)).0) st

times_other : (p t : ℕ) → nat_eq t p ≡ false → times p (t ∷ []) ≡ 0
times_other p t d = grind (arith, nat_tests)

wrap_standing : (gs : List ℕ) (n canceler t : ℕ) (loose out : List ℕ) (s : State) → form_at n s.world.nodes ≡ Some (Wrap canceler (Tree t)) → Standing loose out [] s → Standing loose out [] (wrap_cancelled (Holding gs) n (Some (Wrap canceler (Tree t))) s)
wrap_standing gs n canceler t loose out s at st =
    let live : is_live n s.world.nodes ≡ true = ap is_some at in
    let c = st.placed.climbs n live in
    let tended : Tended (n ∷ gs) s n = record { live = live; above = c.0; climbs = c.1; hubs = λ h i u. record { node = n; above = c.0; guards = in_self n gs; climbs = c.1; holds_hub = i; on = λ m j. j } } in
    let own : owns n t s.world.nodes ≡ true = ap (λ (o : Option Form). is_in t (parts_found o)) at ∙ in_self t [] in
    let tf = tree_freed (n ∷ gs) loose out s n t st tended own in
    let s1 = free (Holding (n ∷ gs)) t s in
    let at1 = tf.form (Wrap canceler (Tree t)) refl at in
    let s2 = silent (disarmed_node n) s1 in
    let st2 = disarmed_standing n loose out [] s1 tf.standing in
    let form = Wrap canceler (Kept cancelled) in
    let st3 = put_standing n form (Wrap canceler (Tree t)) loose out [] s2 at1 refl refl (λ h. refl)
    (λ p p_live. sym (times_other p t (false_by (nat_eq t p) (λ e. both_ways (is_live t s1.world.nodes) (subst (λ (y : ℕ). is_live y s1.world.nodes ≡ true) (same_number t p e) p_live) tf.went))))
    (λ p. omega arith) st2 in
    announced_standing DepthFirst n loose out [] (silent (put n form) s2) st3

pub wrap_any : (o : Option Form) (gs : List ℕ) (n : ℕ) (loose out : List ℕ) (s : State) → form_at n s.world.nodes ≡ o → Standing loose out [] s → Standing loose out [] (wrap_cancelled (Holding gs) n o s)
wrap_any (Some (Wrap canceler (Tree t))) gs n loose out s at st = wrap_standing gs n canceler t loose out s at st
wrap_any (Some (Wrap canceler (Kept o))) gs n loose out s at st = st
wrap_any None gs n loose out s at st = st
wrap_any (Some _) gs n loose out s at st = st

each_standing : (gs ns loose out : List ℕ) (s : State) → Standing loose out [] s → Standing loose out [] (each_cancelled (Holding gs) ns s)
each_standing gs [] loose out s st = st
each_standing gs (n ∷ ns) loose out s st = each_standing gs ns loose out (wrap_cancelled (Holding gs) n (form_at n s.world.nodes) s) (wrap_any (form_at n s.world.nodes) gs n loose out s refl st)

-- a new world
pub new_owned : (limits : Limits) → Owned (new_state limits)
unfolding IsDistinct
new_owned limits = record {
  placed = record { once = λ n live. absurd (false≢true live); climbs = λ n live. absurd (false≢true live) };
  names = λ c. omega arith;
  hubs = record { name = λ h c n bs at. absurd (no_form _ at); branches = λ h c n bs at. absurd (no_form _ at) };
  below = record { positive = omega arith; places = λ n h. refl; names = λ n h. refl; branches = λ n b h. refl };
  recorded = λ n. none_yet n;
  in_order = tt;
  room = omega arith;
  queue = empty_is;
  queued = λ e i. absurd (false≢true i);
  spots = refl;
}
  where
    none_yet : (n : ℕ) → 0 ≡ one_if (nat_lt 0 n && nat_lt n 1)
    none_yet n = grind (arith, nat_tests)

-- the answer of close: the live numbers, each once
frees_more : (xs ys : List Item) → frees_in (xs ++ ys) ≡ frees_in xs ++ frees_in ys
frees_more [] ys = refl
frees_more (Free n ∷ xs) ys = ap (λ zs. n ∷ zs) (frees_more xs ys)
frees_more (Run n a b c ∷ xs) ys = frees_more xs ys

dropped_more : (xs ys : List Item) → drop (length xs) (xs ++ ys) ≡ ys
dropped_more [] ys = refl
dropped_more (x ∷ xs) ys = dropped_more xs ys

pub close_answers : (s : State) → Owned s → s.world.awaited ≡ None → (m : ℕ) → times m (frees_in (drop (length s.past) (close s).past)) ≡ times m (numbers s.world.nodes)
close_answers s o waits m =
    let c = close_frees_all s o waits in
    let g = close_grows s in
    let a : times m (frees_in (close s).past) ≡ times m (frees_in s.past) + times m (frees_in g.0) = ap (λ xs. times m (frees_in xs)) g.1 ∙ ap (times m) (frees_more s.past g.0) ∙ times_app m (frees_in s.past) (frees_in g.0) in
    let b : times m (frees_in (drop (length s.past) (close s).past)) ≡ times m (frees_in g.0) = ap (λ xs. times m (frees_in (drop (length s.past) xs))) g.1 ∙ ap (λ xs. times m (frees_in xs)) (dropped_more s.past g.0) in
    let d = c.once m in
    let e = o.recorded m in
    sum (times m (frees_in (drop (length s.past) (close s).past))) (times m (numbers s.world.nodes)) (times m (frees_in s.past)) (times m (frees_in g.0)) (times m (frees_in (close s).past)) (one_if (nat_lt 0 m && nat_lt m s.world.next)) a b d e
  where
    sum : (x n f g t w : ℕ) → t ≡ f + g → x ≡ g → t ≡ w → n + f ≡ w → x ≡ n
    sum x n f g t w a b c d = omega (arith, a, b, c, d)
