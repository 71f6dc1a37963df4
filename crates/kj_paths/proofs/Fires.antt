-- Events that fire.
use Rattle.std.proofs.Common.{◌≡◌, ℕ, ◌+◌, ◌≤◌, List, [], ◌∷◌, ◌++◌, Bool, true, false, not, cond, Option, None, Some, arith, refl, sym, ap, ◌∙◌, subst, ◌==◌}
use Rattle.std.specs.Prelude.{nat_eq}
use Rattle.std.proofs.lemmas.Bool.{false≢true}
use Rattle.std.proofs.lemmas.Bool.Decides.{nat_tests}
use Rattle.kj_base.specs.declared.outcomes.Outcome.{Outcome}
use Rattle.kj_base.specs.Queue.{DepthFirst}
use Rattle.kj_model.specs.Nodes.{Entry, Form, Content, Tree, Kept, Stage, Waits, Fired, Keeps, Gone, Ready, Then, Chain, Eager, Wrap, Hub, Side, Race, Join, Task, Request, form_at, owner_of, kept_form, dropped}
use Rattle.kj_model.specs.World.{World, State, Setting, Named, Held, Promise, CellOf, AskCell, HubOf, Group, Canceler, RequestOf, held_at}
use Rattle.kj_model.specs.Changes.{silent, put, named}
use Rattle.kj_model.specs.Listening.{announced, join_ready}
use Rattle.kj_model.specs.Effects.{now_empty}
use Rattle.kj_model.specs.Value.{Given, Gave, Took, value, freed}
use Rattle.kj_model.specs.Fire.{chain_ended, kept_at, keeps, kept_then, kept_from, each_announced, branches_of, branches_announced, other_side, tree_freed, race_won, announced_if, fast_announced, join_fired, side_fired_under, side_fired_by, side_fired, has_task, without_task, group_of, group_left, set_left}
use Rattle.kj_model.specs.Owned.{name_roots, awaited_roots}
use Rattle.kj_model.specs.Framed.{times}
use Rattle.kj_model.proofs.Spared.{same_number, form_put_other}
use Rattle.kj_model.proofs.Once.{false_by}
use Rattle.kj_model.proofs.Counts.{times_app}
use Rattle.kj_ownership.specs.Owners.{is_live, is_hub_form}
use Rattle.kj_ownership.specs.Standing.{one_if, owned_times, Owned}
use Rattle.kj_ownership.proofs.Stays.{in_times, roots_app}
use Rattle.kj_ownership.proofs.Sides.{owner_is}
use Rattle.kj_ownership.proofs.Tasks.{dropped_times, found_name, HasLeft, left_world}
use Rattle.kj_paths.proofs.Laid.{Laid}
use Rattle.kj_paths.proofs.Moves.{announced_laid, listened_laid, renamed_laid, others_laid, Lessens, put_laid, bare_laid}
use Rattle.kj_paths.proofs.Effects.{some_form, empty_now_laid}
use Rattle.kj_paths.proofs.Values.{given_loose, freed_laid, value_laid}
use Rattle.kj_paths.proofs.Replaced.{chain_goes}

-- a Chain
pub chain_laid : (n link : ℕ) (o : Option Given) (s : State) → Laid (given_loose o) s.world → Laid [] (chain_ended n link o s).world
chain_laid n link None s g = g
chain_laid n link (Some (Gave o)) s g =
    let u = freed link s in
    listened_laid n [] (put n (Ready o) u.world) (bare_laid n (Ready o) [] u.world refl refl (freed_laid link [] s g))
chain_laid n link (Some (Took root)) s g = chain_goes n root (freed link s).world (freed_laid link (root ∷ []) s g)

-- a node that keeps an outcome
abbrev AfterLaid : (World → World) → Type 0
AfterLaid after = (w : World) → Laid [] w → Laid [] (after w)

same_lessens : (form : Form) → Lessens form form
same_lessens form = record { parts = λ p i. i; hub = omega arith }

kept_lessens : (o : Outcome) (form : Form) → Lessens (kept_form o form) form
kept_lessens o (Eager content) = record { parts = λ p i. absurd (false≢true i); hub = omega arith }
kept_lessens o (Wrap canceler content) = record { parts = λ p i. absurd (false≢true i); hub = omega arith }
kept_lessens o (Hub content is_named branches) = record { parts = λ p i. absurd (false≢true i); hub = omega arith }
kept_lessens o (Side stage) = record { parts = λ p i. absurd (false≢true i); hub = omega arith }
kept_lessens o (Ready outcome) = same_lessens (Ready outcome)
kept_lessens o (Then v e tree) = same_lessens (Then v e tree)
kept_lessens o (Chain link) = same_lessens (Chain link)
kept_lessens o (Race left right winner) = same_lessens (Race left right winner)
kept_lessens o (Join fast sides) = same_lessens (Join fast sides)
kept_lessens o (Task tree) = same_lessens (Task tree)
kept_lessens o (Request name tree) = same_lessens (Request name tree)
kept_lessens o _ = record { parts = λ p i. i; hub = omega arith }

kept_laid : (n : ℕ) (o : Outcome) (f : Option Form) (w : World) → form_at n w.nodes ≡ f → Laid [] w → Laid [] (kept_at n o f w)
kept_laid n o None w at g = g
kept_laid n o (Some form) w at g = put_laid n (kept_form o form) [] w (λ old bt. subst (Lessens (kept_form o form)) (some_form form old (sym at ∙ bt)) (kept_lessens o form)) g

kept_then_laid : (after : World → World) (n t : ℕ) (o : Option Outcome) (s : State) → AfterLaid after → Laid [] s.world → Laid [] (kept_then after n t o s).world
kept_then_laid after n t None s h g = g
kept_then_laid after n t (Some o) s h g = let u = freed t s in h (keeps n o u.world) (kept_laid n o (form_at n u.world.nodes) u.world refl (freed_laid t [] s g))

pub kept_from_laid : (setting : Setting) (after : World → World) (n : ℕ) (content : Content) (s : State) → AfterLaid after → Laid [] s.world → Laid [] (kept_from setting after n content s).world
kept_from_laid setting after n (Tree t) s h g = let r = value setting t s in kept_then_laid after n t r.1 r.0 h (value_laid setting t s g)
kept_from_laid setting after n (Kept o) s h g = g

each_announced_laid : (ns : List ℕ) → AfterLaid (each_announced ns)
each_announced_laid [] w g = g
each_announced_laid (n ∷ ns) w g = each_announced_laid ns (announced DepthFirst n w) (announced_laid DepthFirst n [] w g)

pub branches_laid : (hub : ℕ) → AfterLaid (branches_announced hub)
branches_laid hub w g = each_announced_laid (branches_of (form_at hub w.nodes)) w g

-- a Side
tree_laid : (o : Option Form) (s : State) → Laid [] s.world → Laid [] (tree_freed o s).world
tree_laid (Some (Side (Waits t))) s g = freed_laid t [] s g
tree_laid (Some (Side (Fired t))) s g = freed_laid t [] s g
tree_laid (Some (Side (Keeps o))) s g = g
tree_laid (Some (Side Gone)) s g = g
tree_laid None s g = g
tree_laid (Some _) s g = g

same_put : (n : ℕ) (form old : Form) (w : World) → form_at n w.nodes ≡ Some old → Lessens form old → Laid [] w → Laid [] (put n form w)
same_put n form old w at less g = put_laid n form [] w (λ f bt. subst (Lessens form) (some_form old f (sym at ∙ bt)) less) g

race_laid : (race left right side other t : ℕ) (s : State) → form_at race s.world.nodes ≡ Some (Race left right None) → form_at side s.world.nodes ≡ Some (Side (Waits t)) → Laid [] s.world → Laid [] (race_won race left right side other t s).world
race_laid race left right side other t s at bt g =
    let w = s.world in
    let v = put side (Side (Fired t)) w in
    let a = same_put side (Side (Fired t)) (Side (Waits t)) w bt (record { parts = λ p i. i; hub = omega arith }) g in
    let d : nat_eq side race ≡ false = false_by (nat_eq side race) (λ e. differ (some_form _ _ (sym (subst (λ (k : ℕ). form_at k w.nodes ≡ Some (Side (Waits t))) (sym (same_number side race e)) bt) ∙ at))) in
    let b = same_put race (Race left right (Some side)) (Race left right None) v (form_put_other side race (Side (Fired t)) w.nodes d ∙ at) (record { parts = λ p i. i; hub = omega arith }) a in
    let u = silent (λ x. put race (Race left right (Some side)) (put side (Side (Fired t)) x)) s in
    let f = tree_freed (form_at other w.nodes) u in
    announced_laid DepthFirst race [] (put other (Side Gone) f.world) (bare_laid other (Side Gone) [] f.world refl refl (tree_laid (form_at other w.nodes) u b))
  where
    differ : Side (Waits t) ≡ Race left right None → ⊥
    differ e = cc

announced_if_laid : (b : Bool) (n : ℕ) → AfterLaid (announced_if b n)
announced_if_laid true n w g = announced_laid DepthFirst n [] w g
announced_if_laid false n w g = g

fast_laid : (b : Bool) (join : ℕ) (sides : List ℕ) → AfterLaid (fast_announced b join sides)
fast_laid true join sides w g = g
fast_laid false join sides w g = announced_if_laid (join_ready true sides w.nodes) join w g

join_laid : (setting : Setting) (fast : Bool) (join : ℕ) (sides : List ℕ) (side t : ℕ) (s : State) → form_at side s.world.nodes ≡ Some (Side (Waits t)) → Laid [] s.world → Laid [] (join_fired setting fast join sides side t s).world
join_laid setting true join sides side t s bt g = kept_from_laid setting (fast_announced (join_ready true sides s.world.nodes) join sides) side (Tree t) s (fast_laid (join_ready true sides s.world.nodes) join sides) g
join_laid setting false join sides side t s bt g =
    let v = put side (Side (Fired t)) s.world in
    announced_if_laid (join_ready false sides v.nodes) join v (same_put side (Side (Fired t)) (Side (Waits t)) s.world bt (record { parts = λ p i. i; hub = omega arith }) g)

under_laid : (setting : Setting) (owner : ℕ) (form : Form) (side t : ℕ) (s : State) → form_at owner s.world.nodes ≡ Some form → form_at side s.world.nodes ≡ Some (Side (Waits t)) → Laid [] s.world → Laid [] (side_fired_under setting owner form side t s).world
under_laid setting owner (Race left right None) side t s at bt g = race_laid owner left right side (other_side (left == side) left right) t s at bt g
under_laid setting owner (Race left right (Some winner)) side t s at bt g = g
under_laid setting owner (Join fast sides) side t s at bt g = join_laid setting fast owner sides side t s bt g
under_laid setting owner _ side t s at bt g = g

by_laid : (setting : Setting) (o : Option Entry) (side t : ℕ) (s : State) → Owned s → owner_of side s.world.nodes ≡ o → form_at side s.world.nodes ≡ Some (Side (Waits t)) → Laid [] s.world → Laid [] (side_fired_by setting o side t s).world
by_laid setting None side t s st e bt g = g
by_laid setting (Some owner) side t s st e bt g = under_laid setting owner.number owner.form side t s (owner_is side owner s st.recorded e).0 bt g

pub side_laid : (setting : Setting) (n : ℕ) (stage : Stage) (s : State) → Owned s → form_at n s.world.nodes ≡ Some (Side stage) → Laid [] s.world → Laid [] (side_fired setting n stage s).world
side_laid setting n (Waits t) s st at g = by_laid setting (owner_of n s.world.nodes) n t s st refl at g
side_laid setting n (Fired t) s st at g = g
side_laid setting n (Keeps o) s st at g = g
side_laid setting n Gone s st at g = g

-- a Task leaves its set
self : (m n : ℕ) → nat_eq m n ≡ true → times m (n ∷ []) ≡ 1
self m n d = (let e : nat_eq n m ≡ true = grind (arith, nat_tests) in grind (arith, nat_tests))

other : (m n : ℕ) → nat_eq m n ≡ false → times m (n ∷ []) ≡ 0
other m n d = grind (arith, nat_tests)

-- once in a list, and then in another
moved_times : (m n : ℕ) (xs : List ℕ) → 1 ≤ times n xs → times m (n ∷ []) + times m (dropped n xs) ≤ times m xs
moved_times m n xs h = decide (nat_eq m n) refl
  where
    decide : (b : Bool) → nat_eq m n ≡ b → times m (n ∷ []) + times m (dropped n xs) ≤ times m xs
    decide true e =
        let a = self m n e in
        let c : times m (dropped n xs) ≡ 0 = dropped_times n m xs ∙ ap (λ q. cond (not q) (times m xs) 0) e in
        let f : 1 ≤ times m xs = subst (λ (y : ℕ). 1 ≤ times y xs) (same_number m n e) h in
        omega (arith, a, c, f)
    decide false e =
        let a = other m n e in
        let c : times m (dropped n xs) ≡ times m xs = dropped_times n m xs ∙ ap (λ q. cond (not q) (times m xs) 0) e in
        omega (arith, a, c)

pub dropped_less : (m n : ℕ) (xs : List ℕ) → times m (dropped n xs) ≤ times m xs
dropped_less m n xs = decide (nat_eq m n) refl
  where
    decide : (b : Bool) → nat_eq m n ≡ b → times m (dropped n xs) ≤ times m xs
    decide true e = let c : times m (dropped n xs) ≡ 0 = dropped_times n m xs ∙ ap (λ q. cond (not q) (times m xs) 0) e in omega (arith, c)
    decide false e = let c : times m (dropped n xs) ≡ times m xs = dropped_times n m xs ∙ ap (λ q. cond (not q) (times m xs) 0) e in omega (arith, c)

group_laid : (c n : ℕ) (h : Held) (w : World) → held_at c w.names ≡ Some h → has_task n h ≡ true → Laid [] w → Laid [] (now_empty c (named c (without_task n h) (left_world n w)))
group_laid c n (Group error tasks empty) w at has g =
    let v = named c (Group error (dropped n tasks) empty) w in
    let a = renamed_laid c (Group error tasks empty) (Group error (dropped n tasks) empty) [] (n ∷ []) w at (λ m. (let k = moved_times m n tasks (in_times n tasks has) in omega (arith, k))) g in
    let b = others_laid (n ∷ []) [] v.awaited (v.left_over ++ n ∷ []) (dropped n v.detached) v (λ m. (let x = times_app m v.left_over (n ∷ []) in let y = dropped_less m n v.detached in omega (arith, x, y))) a in
    empty_now_laid c [] (named c (Group error (dropped n tasks) empty) (left_world n w)) b
group_laid c n (Promise r) w at has g = absurd (false≢true has)
group_laid c n (CellOf r) w at has g = absurd (false≢true has)
group_laid c n (AskCell r b) w at has g = absurd (false≢true has)
group_laid c n (HubOf r) w at has g = absurd (false≢true has)
group_laid c n (Canceler r) w at has g = absurd (false≢true has)
group_laid c n (RequestOf r) w at has g = absurd (false≢true has)

-- a Task in no set is detached
is_detached : (n : ℕ) (s : State) → is_live n s.world.nodes ≡ true → Owned s → Owned (silent (left_world n) s) → 1 ≤ times n s.world.detached
is_detached n s live a b =
    let w = s.world in
    let c = roots_app n (name_roots w.names) (awaited_roots w.awaited) w.left_over w.detached in
    let d = roots_app n (name_roots w.names) (awaited_roots w.awaited) (w.left_over ++ n ∷ []) (dropped n w.detached) in
    let e = times_app n w.left_over (n ∷ []) in
    let f = self n n (same n) in
    let h : times n (dropped n w.detached) ≡ 0 = dropped_times n n w.detached ∙ ap (λ q. cond (not q) (times n w.detached) 0) (same n) in
    let i = a.placed.once n live in
    let j = b.placed.once n live in
    count _ _ _ _ _ _ _ _ _ (one_if (is_hub_form (form_at n w.nodes))) (owned_times n w.nodes) c d e f h i j
  where
    same : (n : ℕ) → nat_eq n n ≡ true
    same n = grind (arith, nat_tests)

    count : (r r2 a b l d l2 d2 o h k : ℕ) → r ≡ a + b + l + d → r2 ≡ a + b + l2 + d2 → l2 ≡ l + o → o ≡ 1 → d2 ≡ 0 → 0 + (r + (h + k)) ≡ 1 → 0 + (r2 + (h + k)) ≡ 1 → 1 ≤ d
    count r r2 a b l d l2 d2 o h k x1 x2 x3 x4 x5 x6 x7 = omega (arith, x1, x2, x3, x4, x5, x6, x7)

left_at : (o : Option Named) (n : ℕ) (s : State) → group_of n s.world.names ≡ o → is_live n s.world.nodes ≡ true → Owned s → HasLeft n s (silent (λ w. group_left n o (left_world n w)) s) → Laid [] s.world → Laid [] (group_left n o (left_world n s.world))
left_at None n s e live st l g =
    let w = s.world in
    let h = is_detached n s live st l.owned in
    others_laid [] [] w.awaited (w.left_over ++ n ∷ []) (dropped n w.detached) w (λ m. (let x = times_app m w.left_over (n ∷ []) in let y = moved_times m n w.detached h in omega (arith, x, y))) g
left_at (Some x) n s e live st l g = let f = found_name (λ (y : Named). has_task n y.held) x s.world.names g.names e in group_laid x.name n x.held s.world f.0 f.1 g

pub set_left_laid : (n : ℕ) (s : State) → is_live n s.world.nodes ≡ true → Owned s → HasLeft n s (silent (set_left n) s) → Laid [] s.world → Laid [] (set_left n s.world)
set_left_laid n s live st l g = left_at (group_of n s.world.names) n s refl live st l g
