-- A Task that fires, whole.
use Rattle.std.proofs.Common.{◌≡◌, inl, ℕ, ◌+◌, ◌≤◌, List, [], ◌∷◌, ◌++◌, Bool, true, false, not, cond, Option, None, Some, arith, refl, sym, ap, ◌∙◌, subst}
use Rattle.std.specs.Prelude.{nat_eq, is_some, option_to_list}
use Rattle.std.proofs.lemmas.Bool.{false≢true}
use Rattle.std.proofs.lemmas.Bool.Decides.{nat_tests}
use Rattle.kj_base.specs.declared.outcomes.Outcome.{Outcome}
use Rattle.kj_base.specs.declared.outcomes.Outcome.TheVariants.{Value, Broken}
use Rattle.kj_base.specs.Commands.{Action}
use Rattle.kj_model.specs.Nodes.{Form, Chain, Race, Join, Task, form_at, parts_found, parts_at, is_in, dropped}
use Rattle.kj_model.specs.World.{World, State, Setting, Named, Held, Promise, CellOf, AskCell, HubOf, Group, Canceler, RequestOf, held_at, depth_of}
use Rattle.kj_model.specs.Changes.{silent, put, named, without_name}
use Rattle.kj_model.specs.Value.{value, freed, answered}
use Rattle.kj_model.specs.Effects.{now_empty}
use Rattle.kj_model.specs.Fire.{without_task, has_task, group_of, group_error, group_left, set_left, task_gone, task_stepped, error_run, task_ended, task_valued}
use Rattle.kj_model.specs.Owned.{held_roots, name_roots, awaited_roots, tree_roots, numbers}
use Rattle.kj_model.specs.Framed.{times, held_total}
use Rattle.kj_ownership.specs.Owners.{is_live, owns, is_hub_form}
use Rattle.kj_ownership.specs.Standing.{one_if, owned_times, Owned}
use Rattle.kj_ownership.specs.Stems.{stem, is_steady}
use Rattle.kj_ownership.specs.Shapes.{OfTree, OfEnded, suits, part_kind, held_kind, Shaped}
use Rattle.kj_model.proofs.Spared.{same_number}
use Rattle.kj_model.proofs.Members.{in_right, in_self}
use Rattle.kj_model.proofs.Once.{false_by}
use Rattle.kj_model.proofs.Counts.{times_app, held_split}
use Rattle.kj_ownership.proofs.Stays.{in_times, out_times, name_roots_total, roots_app}
use Rattle.kj_ownership.proofs.Closing.{total_none}
use Rattle.kj_ownership.proofs.Fires.{fired_frames}
use Rattle.kj_ownership.proofs.Frames.{stem_of}
use Rattle.kj_ownership.proofs.Shapes.{empty_suits}
use Rattle.kj_ownership.proofs.Evaluates.{Evals, SameTurn, turn_refl, CommandsKeep, value_keeps, Clears, tree_cleared, step_keeps, kept_form}
use Rattle.kj_ownership.proofs.Reached.{is_cell, reached_none, reached_renamed}
use Rattle.kj_ownership.proofs.Makes.{held_suits}
use Rattle.kj_ownership.proofs.Walks.{reached_here, empty_now_reached}
use Rattle.kj_ownership.proofs.Firing.{Fires}
use Rattle.kj_ownership.proofs.Tasks.{dropped_times, in_dropped, total_by_at, found_name, not_found, HasLeft, left_is, left_world, task_gone_is}

-- a Task that has ended stands in no other place
part_not_task : (o : Option Form) → suits (part_kind o) (Some (Task None)) ≡ true → ⊥
part_not_task None e = false≢true e
part_not_task (Some (Chain link)) e = false≢true e
part_not_task (Some (Race l r w)) e = false≢true e
part_not_task (Some (Join fast sides)) e = false≢true e
part_not_task (Some _) e = false≢true e

pub task_unowned : (n : ℕ) (w : World) → form_at n w.nodes ≡ Some (Task None) → Shaped w → owned_times n w.nodes ≡ 0
task_unowned n w at sh = total_none (λ q. times n (parts_at q w.nodes)) (numbers w.nodes) (λ q. out_times n (parts_at q w.nodes) (false_by (owns q n w.nodes) (λ o. part_not_task (form_at q w.nodes) (ap (suits (part_kind (form_at q w.nodes))) (sym at) ∙ sh.parts q n o))))

task_not_awaited : (n : ℕ) (w : World) → form_at n w.nodes ≡ Some (Task None) → Shaped w → times n (awaited_roots w.awaited) ≡ 0
task_not_awaited n w at sh = out_times n (awaited_roots w.awaited) (false_by (is_in n (awaited_roots w.awaited)) (λ i. false≢true (ap (suits OfTree) (sym at) ∙ sh.awaited n i)))

no_group_has : (n c : ℕ) (h : Held) (w : World) → held_at c w.names ≡ Some h → has_task n h ≡ false → form_at n w.nodes ≡ Some (Task None) → Shaped w → times n (held_roots h) ≡ 0
no_group_has n c (Group error tasks empty) w at_c none at sh = out_times n tasks none
no_group_has n c (Promise root) w at_c none at sh = out_times n (root ∷ []) (false_by (is_in n (root ∷ [])) (λ i. false≢true (ap (suits OfTree) (sym at) ∙ held_suits c n (Promise root) w at_c sh i)))
no_group_has n c (RequestOf r) w at_c none at sh = out_times n (option_to_list r) (false_by (is_in n (option_to_list r)) (λ i. false≢true (ap (suits (held_kind c (Some (RequestOf r)))) (sym at) ∙ held_suits c n (RequestOf r) w at_c sh i)))
no_group_has n c (CellOf cell) w at_c none at sh = refl
no_group_has n c (AskCell cell b) w at_c none at sh = refl
no_group_has n c (HubOf h) w at_c none at sh = refl
no_group_has n c (Canceler wraps) w at_c none at sh = refl

-- the set of a task
record IsGroup (n : ℕ) (h : Held) : Type 0 where
  error : Option ℕ
  tasks : List ℕ
  empty : Option ℕ
  held : h ≡ Group error tasks empty
  has : is_in n tasks ≡ true

is_group : (n : ℕ) (h : Held) → has_task n h ≡ true → IsGroup n h
is_group n (Group error tasks empty) e = record { error = error; tasks = tasks; empty = empty; held = refl; has = e }
is_group n (Promise r) e = absurd (false≢true e)
is_group n (CellOf c) e = absurd (false≢true e)
is_group n (AskCell c b) e = absurd (false≢true e)
is_group n (HubOf h) e = absurd (false≢true e)
is_group n (Canceler ws) e = absurd (false≢true e)
is_group n (RequestOf r) e = absurd (false≢true e)

left_of : (o : Option Named) (n : ℕ) (s : State) → group_of n s.world.names ≡ o → Owned s → Shaped s.world → form_at n s.world.nodes ≡ Some (Task None) → is_in n s.world.left_over ≡ false → HasLeft n s (silent (λ w. group_left n o (left_world n w)) s)
left_of None n s is st sh at off =
    left_is n [] s s st sh (turn_refl s.world) at
    (alone (times n (name_roots s.world.names)) (times n (awaited_roots s.world.awaited)) (times n s.world.left_over) (times n s.world.detached) (one_if (is_hub_form (form_at n s.world.nodes))) (owned_times n s.world.nodes) (times n (tree_roots s.world))
    (roots_app n (name_roots s.world.names) (awaited_roots s.world.awaited) s.world.left_over s.world.detached)
    (st.placed.once n (ap is_some at))
    (name_roots_total n s.world.names ∙ total_by_at (λ (h : Held). times n (held_roots h)) s.world.names st.names (λ c h at_c. no_group_has n c h s.world at_c (not_found (λ (x : Named). has_task n x.held) c h s.world.names (λ a b e. ap (has_task n) e) is at_c) at sh))
    (task_not_awaited n s.world at sh) (out_times n s.world.left_over off) (ap one_if (ap is_hub_form at)) (task_unowned n s.world at sh))
    (λ m d. refl)
  where
    alone : (a b l d h o t : ℕ) → t ≡ a + b + l + d → 0 + (t + (h + o)) ≡ 1 → a ≡ 0 → b ≡ 0 → l ≡ 0 → h ≡ 0 → o ≡ 0 → 0 + d ≡ 1
    alone a b l d h o t x1 x2 x3 x4 x5 x6 x7 = omega (arith, x1, x2, x3, x4, x5, x6, x7)
left_of (Some x) n s is st sh at off =
    let f = found_name (λ (y : Named). has_task n y.held) x s.world.names st.names is in
    let g = is_group n x.held f.1 in
    subst (λ (h : Held). HasLeft n s (silent (λ w. now_empty x.name (named x.name (without_task n h) (left_world n w))) s)) (sym g.held) (in_group x.name g.error g.tasks g.empty n s st sh at off (f.0 ∙ ap Some g.held) g.has)
  where
    single : (tn rest n_all a l d h o t : ℕ) → n_all ≡ tn + rest → t ≡ n_all + a + l + d → 0 + (t + (h + o)) ≡ 1 → 1 ≤ tn → (tn ≡ 1) × (d ≡ 0)
    single tn rest n_all a l d h o t x1 x2 x3 x4 = (omega (arith, x1, x2, x3, x4), omega (arith, x1, x2, x3, x4))

    self : (m n : ℕ) → nat_eq m n ≡ true → times m (n ∷ []) ≡ 1
    self m n d = (let e : nat_eq n m ≡ true = grind (arith, nat_tests) in grind (arith, nat_tests))

    other : (m n : ℕ) → nat_eq m n ≡ false → times m (n ∷ []) ≡ 0
    other m n d = grind (arith, nat_tests)

    same : (n : ℕ) → nat_eq n n ≡ true
    same n = grind (arith, nat_tests)

    in_group : (name : ℕ) (error : Option ℕ) (tasks : List ℕ) (empty : Option ℕ) (n : ℕ) (s : State) → Owned s → Shaped s.world → form_at n s.world.nodes ≡ Some (Task None) → is_in n s.world.left_over ≡ false → held_at name s.world.names ≡ Some (Group error tasks empty) → is_in n tasks ≡ true → HasLeft n s (silent (λ w. now_empty name (named name (Group error (dropped n tasks) empty) (left_world n w))) s)
    in_group name error tasks empty n s st sh at off at_name has =
        let old = Group error tasks empty in
        let new = Group error (dropped n tasks) empty in
        let one = single (times n tasks) (held_total (λ (h : Held). times n (held_roots h)) (without_name name s.world.names)) (times n (name_roots s.world.names)) (times n (awaited_roots s.world.awaited)) (times n s.world.left_over) (times n s.world.detached) (one_if (is_hub_form (form_at n s.world.nodes))) (owned_times n s.world.nodes) (times n (tree_roots s.world))
        (name_roots_total n s.world.names ∙ held_split (λ (h : Held). times n (held_roots h)) name s.world.names old at_name st.names)
        (roots_app n (name_roots s.world.names) (awaited_roots s.world.awaited) s.world.left_over s.world.detached) (st.placed.once n (ap is_some at)) (in_times n tasks has) in
        let counts = λ (m : ℕ). by_number m tasks one.0 (nat_eq m n) refl in
        let r = reached_renamed name old new [] (n ∷ []) [] s s at_name refl counts (λ p i. held_suits name p old s.world at_name sh (in_dropped n p tasks i)) (reached_none s st sh) in
        let s1 = silent (named name new) s in
        let l = left_is n (n ∷ []) s s1 r.standing r.shaped r.stays.same at (let a = one.1 in let b = self n n (same n) in omega (arith, a, b)) (λ m d. other m n d) in
        let u = silent (left_world n) s1 in
        let v = silent (now_empty name) u in
        let e = empty_now_reached name [] u u (reached_here [] [] [] u l.owned l.shaped) in
        record {
          owned = e.standing;
          shaped = e.shaped;
          firing = e.stays.same.firing ∙ l.firing;
          awaited = e.stays.same.awaited ∙ l.awaited;
          left_over = e.stays.same.left_over ∙ l.left_over;
          at = stem_of (form_at n v.world.nodes) (Task None) refl (e.stays.forms n (ap is_some l.at) (ap is_cell l.at) ∙ ap stem l.at);
        }
      where
        by_number : (m : ℕ) (tasks : List ℕ) → times n tasks ≡ 1 → (d : Bool) → nat_eq m n ≡ d → times m (dropped n tasks ++ n ∷ []) ≡ times m (tasks ++ [])
        by_number m tasks one true d =
            let a = times_app m (dropped n tasks) (n ∷ []) in
            let b = times_app m tasks [] in
            let c : times m (dropped n tasks) ≡ 0 = dropped_times n m tasks ∙ ap (λ q. cond (not q) (times m tasks) 0) d in
            let e = self m n d in
            let f : times m tasks ≡ 1 = subst (λ (y : ℕ). times y tasks ≡ 1) (same_number m n d) one in
            omega (arith, a, b, c, e, f)
        by_number m tasks one false d =
            let a = times_app m (dropped n tasks) (n ∷ []) in
            let b = times_app m tasks [] in
            let c : times m (dropped n tasks) ≡ times m tasks = dropped_times n m tasks ∙ ap (λ q. cond (not q) (times m tasks) 0) d in
            let e = other m n d in
            omega (arith, a, b, c, e)

pub set_left_is : (n : ℕ) (s : State) → Owned s → Shaped s.world → form_at n s.world.nodes ≡ Some (Task None) → is_in n s.world.left_over ≡ false → HasLeft n s (silent (set_left n) s)
set_left_is n s st sh at off = left_of (group_of n s.world.names) n s refl st sh at off

-- after it has left: it goes, maybe after the error step
last_in : (n : ℕ) (xs : List ℕ) → is_in n (xs ++ n ∷ []) ≡ true
last_in n xs = in_right n xs (n ∷ []) (in_self n [])

dropped_last : (n : ℕ) (xs : List ℕ) → xs ≡ n ∷ [] → dropped n xs ≡ []
dropped_last n xs e = ap (dropped n) e ∙ only n
  where
    only : (n : ℕ) → dropped n (n ∷ []) ≡ []
    only n = grind (arith, nat_tests)

gone_fires : (n : ℕ) (s u t : State) → HasLeft n s u → Owned t → Shaped t.world → SameTurn u.world t.world → form_at n t.world.nodes ≡ Some (Task None) → Fires s (task_gone n t)
gone_fires n s u t l st sh same at =
    let left : t.world.left_over ≡ s.world.left_over ++ n ∷ [] = same.left_over ∙ l.left_over in
    let r = task_gone_is n t st sh at (subst (λ (xs : List ℕ). is_in n xs ≡ true) (sym left) (last_in n s.world.left_over)) in
    record {
      owned = r.0;
      shaped = r.1;
      awaited = λ e. same.awaited ∙ l.awaited ∙ e;
      left_over = λ e runs. dropped_last n t.world.left_over (left ∙ ap (λ (xs : List ℕ). xs ++ n ∷ []) e);
    }

stepped_fires : (setting : Setting) (a : Option Action) (n step : ℕ) (o : Outcome) (s u : State) → CommandsKeep setting → s.world.firing ≡ Some n → HasLeft n s u → Fires s (task_stepped n (answered setting a false n step o u).1 (answered setting a false n step o u).0)
stepped_fires setting a n step o s u commands firing l = by_answer a (step_keeps setting a n step o u [] commands l.owned l.shaped (inl (l.firing ∙ firing, ap is_some l.at)) (ap is_steady l.at))
  where
    by_answer : (a : Option Action) → Evals u (answered setting a false n step o u).0 (n ∷ []) → Fires s (task_stepped n (answered setting a false n step o u).1 (answered setting a false n step o u).0)
    by_answer None e = record { owned = e.owned; shaped = e.shaped; awaited = λ k. l.awaited ∙ k; left_over = λ k runs. absurd (false≢true (sym runs)) }
    by_answer (Some action) e = gone_fires n s u (answered setting (Some action) false n step o u).0 l e.owned e.shaped e.same (kept_form u (answered setting (Some action) false n step o u).0 n [] (Task None) refl refl l.at e)

error_fires : (setting : Setting) (error : Option ℕ) (n : ℕ) (o : Outcome) (s u : State) → CommandsKeep setting → s.world.firing ≡ Some n → HasLeft n s u → Fires s (error_run setting n o error u)
error_fires setting None n o s u commands firing l = gone_fires n s u u l l.owned l.shaped (turn_refl u.world) l.at
error_fires setting (Some step) n o s u commands firing l = stepped_fires setting (setting.answer u.past step) n step o s u commands firing l

ended_fires : (setting : Setting) (error : Option ℕ) (n : ℕ) (o : Outcome) (s u : State) → CommandsKeep setting → s.world.firing ≡ Some n → HasLeft n s u → Fires s (task_ended setting n o error u)
ended_fires setting error n (Value words) s u commands firing l = gone_fires n s u u l l.owned l.shaped (turn_refl u.world) l.at
ended_fires setting error n (Broken exception) s u commands firing l = error_fires setting error n (Broken exception) s u commands firing l

pub fires_later : (s t u : State) → SameTurn s.world t.world → Fires t u → Fires s u
fires_later s t u same f = record { owned = f.owned; shaped = f.shaped; awaited = λ e. f.awaited (same.awaited ∙ e); left_over = λ e runs. f.left_over (same.left_over ∙ e) runs }

pub task_clears : (t : ℕ) → Clears (Task (Some t)) (Task None) t
task_clears t = record { parts = refl; none = refl; old_hub = refl; new_hub = refl; branch = λ h. refl; suits = empty_suits (Task (Some t)) (Task None) (record { tree = refl; link = refl; side = refl; task = refl; request = λ n. refl; ended = λ h. absurd (false≢true h) }) refl refl }

valued_fires : (setting : Setting) (n t : ℕ) (o : Option Outcome) (s : State) → CommandsKeep setting → Owned s → Shaped s.world → s.world.firing ≡ Some n → form_at n s.world.nodes ≡ Some (Task (Some t)) → Fires s (task_valued setting n t o s)
valued_fires setting n t None s commands st sh firing at = record { owned = st; shaped = sh; awaited = λ e. e; left_over = λ e runs. e }
valued_fires setting n t (Some o) s commands st sh firing at =
    let c = tree_cleared s n t [] (Task (Some t)) (Task None) st sh (inl (firing, ap is_some at)) at (task_clears t) in
    let s2 = silent (put n (Task None)) (freed t s) in
    let off : is_in n s.world.left_over ≡ false = false_by (is_in n s.world.left_over) (λ i. false≢true (ap (suits OfEnded) (sym at) ∙ sh.left_over n (ap is_some firing) i)) in
    let off2 : is_in n s2.world.left_over ≡ false = ap (is_in n) c.0.same.left_over ∙ off in
    let l = set_left_is n s2 c.0.owned c.0.shaped c.2 off2 in
    fires_later s s2 (task_valued setting n t (Some o) s) c.0.same (ended_fires setting (group_error (group_of n s2.world.names)) n o s2 (silent (set_left n) s2) commands (c.0.same.firing ∙ firing) l)

pub task_fires : (setting : Setting) (n t : ℕ) (s : State) → CommandsKeep setting → Owned s → Shaped s.world → s.world.firing ≡ Some n → form_at n s.world.nodes ≡ Some (Task (Some t)) → Fires s (task_valued setting n t (value setting t s).1 (value setting t s).0)
task_fires setting n t s commands st sh firing at =
    let live : is_live n s.world.nodes ≡ true = ap is_some at in
    let own : owns n t s.world.nodes ≡ true = ap (λ (x : Option Form). is_in t (parts_found x)) at ∙ in_self t [] in
    let r = value setting t s in
    let e = value_keeps setting (depth_of s.world) commands t s (n ∷ []) st sh (inl (firing, live)) (λ t_live. fired_frames s n t st firing live own t_live) in
    fires_later s r.0 (task_valued setting n t r.1 r.0) e.same (valued_fires setting n t r.1 r.0 commands e.owned e.shaped (e.same.firing ∙ firing) (kept_form s r.0 n [] (Task (Some t)) refl refl at e))
