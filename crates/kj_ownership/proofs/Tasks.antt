-- A Task that fires: it leaves its set, and its error step may run.
use Rattle.std.proofs.Common.{◌≡◌, inl, inr, ℕ, ◌+◌, ◌≤◌, List, [], ◌∷◌, ◌++◌, Bool, true, false, not, cond, Option, None, Some, arith, refl, sym, ap, ◌∙◌, subst, ◌==◌}
use Rattle.std.specs.Prelude.{nat_eq, is_some, find}
use Rattle.std.proofs.lemmas.Bool.Decides.{nat_tests}
use Rattle.kj_model.specs.Nodes.{Form, Task, form_at, parts_found, is_in, dropped}
use Rattle.kj_model.specs.World.{World, State, Named, Held, held_at}
use Rattle.kj_model.specs.Changes.{silent, gone}
use Rattle.kj_model.specs.Fire.{without_left_over, task_gone}
use Rattle.kj_model.specs.Falling.{is_branch_of}
use Rattle.kj_model.specs.Owned.{name_roots, awaited_roots, tree_roots}
use Rattle.kj_model.specs.Framed.{times, held_total, name_numbers, NamesApart}
use Rattle.kj_ownership.specs.Owners.{is_live, owns, is_hub_form}
use Rattle.kj_ownership.specs.Standing.{one_if, owned_times, Standing, Owned}
use Rattle.kj_ownership.specs.Shapes.{OfEnded, suits, Shaped}
use Rattle.kj_model.proofs.Spared.{same_number}
use Rattle.kj_model.proofs.Members.{in_either, in_one, in_none}
use Rattle.kj_model.proofs.Once.{false_by}
use Rattle.kj_model.proofs.Falling.{gone_freed}
use Rattle.kj_model.proofs.Counts.{times_app, held_there}
use Rattle.kj_ownership.proofs.Stays.{in_times, roots_app, owns_before}
use Rattle.kj_ownership.proofs.Kept.{gone_standing, times_filter}
use Rattle.kj_ownership.proofs.Unions.{in_kept}
use Rattle.kj_ownership.proofs.Shapes.{shaped_freed}
use Rattle.kj_ownership.proofs.Evaluates.{SameTurn, turn_both}
use Rattle.kj_ownership.proofs.Walks.{Went}

-- the node goes at last, where nothing else of it is left
pub went_gone : (n : ℕ) (loose : List ℕ) (s t : State) → ((m : ℕ) → is_branch_of m (form_at n t.world.nodes) ≡ false) → is_live n t.world.nodes ≡ true → ((p : ℕ) → owns n p t.world.nodes ≡ true → is_live p t.world.nodes ≡ false) → Went (n ∷ loose) [] s t → Went loose [] s (gone n t)
went_gone n loose s t plain live dead w =
    let f = gone_freed n t plain in
    record {
      standing = gone_standing n loose [] t plain live dead w.standing;
      shaped = shaped_freed (n ∷ []) t (gone n t) f (λ q p o. owns_before (n ∷ []) t (gone n t) q p f o) w.shaped;
      same = turn_both s.world t.world (gone n t).world w.same (record { firing = f.frame.same.firing; awaited = f.frame.same.awaited; left_over = f.frame.same.left_over });
    }

-- a Task that is left over goes
pub dropped_times : (n m : ℕ) (xs : List ℕ) → times m (dropped n xs) ≡ cond (not (m == n)) (times m xs) 0
dropped_times n m xs = times_filter (λ x. not (x == n)) m xs

without_left : (n : ℕ) (s : State) → Owned s → is_live n s.world.nodes ≡ true → is_in n s.world.left_over ≡ true → Standing (n ∷ []) [] [] (silent (without_left_over n) s)
without_left n s st live i = record {
  placed = record { once = λ m m_live. once_at m (nat_eq m n) refl m_live; climbs = st.placed.climbs };
  names = st.names;
  hubs = record { name = st.hubs.name; branches = st.hubs.branches };
  below = record { positive = st.below.positive; places = λ m l. below_at m (nat_eq m n) refl l; names = st.below.names; branches = st.below.branches };
  recorded = st.recorded;
  in_order = st.in_order;
  room = st.room;
  queue = st.queue;
  queued = st.queued;
  spots = st.spots;
}
  where
    w : World
    w = s.world

    roots : (m : ℕ) (l : List ℕ) → times m (((name_roots s.world.names ++ awaited_roots s.world.awaited) ++ l) ++ s.world.detached) ≡ times m (name_roots s.world.names) + times m (awaited_roots s.world.awaited) + times m l + times m s.world.detached
    roots m l = roots_app m (name_roots s.world.names) (awaited_roots s.world.awaited) l s.world.detached

    same : (m : ℕ) → nat_eq m n ≡ false → times m (dropped n s.world.left_over) ≡ times m s.world.left_over
    same m d = dropped_times n m s.world.left_over ∙ ap (λ b. cond (not b) (times m s.world.left_over) 0) d

    none : (m : ℕ) → nat_eq m n ≡ true → times m (dropped n s.world.left_over) ≡ 0
    none m d = dropped_times n m s.world.left_over ∙ ap (λ b. cond (not b) (times m s.world.left_over) 0) d

    other : (m : ℕ) → nat_eq m n ≡ false → times m (n ∷ []) ≡ 0
    other m d = grind (arith, nat_tests)

    self : (m : ℕ) → nat_eq m n ≡ true → times m (n ∷ []) ≡ 1
    self m d = (let e : nat_eq n m ≡ true = grind (arith, nat_tests) in grind (arith, nat_tests))

    moves : (k a b l d h o l2 t t2 : ℕ) → k ≡ 1 → t ≡ a + b + l + d → t2 ≡ a + b + l2 + d → t + (h + o) ≡ 1 → 1 ≤ l → l2 ≡ 0 → k + (t2 + (h + o)) ≡ 1
    moves k a b l d h o l2 t t2 x1 x2 x3 x4 x5 x6 = omega (arith, x1, x2, x3, x4, x5, x6)

    stays : (k a b l d h o l2 t t2 : ℕ) → k ≡ 0 → t ≡ a + b + l + d → t2 ≡ a + b + l2 + d → 0 + (t + (h + o)) ≡ 1 → l2 ≡ l → k + (t2 + (h + o)) ≡ 1
    stays k a b l d h o l2 t t2 x1 x2 x3 x4 x5 = omega (arith, x1, x2, x3, x4, x5)

    once_at : (m : ℕ) (d : Bool) → nat_eq m n ≡ d → is_live m s.world.nodes ≡ true → times m (n ∷ []) + (times m (((name_roots s.world.names ++ awaited_roots s.world.awaited) ++ dropped n s.world.left_over) ++ s.world.detached) + (one_if (is_hub_form (form_at m s.world.nodes)) + owned_times m s.world.nodes)) ≡ 1
    once_at m true d m_live =
        let one : 1 ≤ times m s.world.left_over = subst (λ (y : ℕ). 1 ≤ times y s.world.left_over) (same_number m n d) (in_times n s.world.left_over i) in
        let old = st.placed.once m m_live in
        moves (times m (n ∷ [])) (times m (name_roots s.world.names)) (times m (awaited_roots s.world.awaited)) (times m s.world.left_over) (times m s.world.detached) (one_if (is_hub_form (form_at m s.world.nodes))) (owned_times m s.world.nodes) (times m (dropped n s.world.left_over)) (times m (tree_roots s.world)) _ (self m d) (roots m s.world.left_over) (roots m (dropped n s.world.left_over)) (omega (arith, old)) one (none m d)
    once_at m false d m_live = stays (times m (n ∷ [])) (times m (name_roots s.world.names)) (times m (awaited_roots s.world.awaited)) (times m s.world.left_over) (times m s.world.detached) (one_if (is_hub_form (form_at m s.world.nodes))) (owned_times m s.world.nodes) (times m (dropped n s.world.left_over)) (times m (tree_roots s.world)) _ (other m d) (roots m s.world.left_over) (roots m (dropped n s.world.left_over)) (st.placed.once m m_live) (same m d)

    clash : (l a b d t o : ℕ) → t ≡ a + b + l + d → 0 + (t + o) ≡ 0 → 1 ≤ l → ⊥
    clash l a b d t o x y z = omega (arith, x, y, z)

    zero : (k a b l d o l2 t t2 : ℕ) → k ≡ 0 → t ≡ a + b + l + d → t2 ≡ a + b + l2 + d → 0 + (t + o) ≡ 0 → l2 ≡ l → k + (t2 + o) ≡ 0
    zero k a b l d o l2 t t2 x1 x2 x3 x4 x5 = omega (arith, x1, x2, x3, x4, x5)

    below_at : (m : ℕ) (d : Bool) → nat_eq m n ≡ d → s.world.next ≤ m → times m (n ∷ []) + (times m (((name_roots s.world.names ++ awaited_roots s.world.awaited) ++ dropped n s.world.left_over) ++ s.world.detached) + owned_times m s.world.nodes) ≡ 0
    below_at m true d l =
        let one : 1 ≤ times m s.world.left_over = subst (λ (y : ℕ). 1 ≤ times y s.world.left_over) (same_number m n d) (in_times n s.world.left_over i) in
        absurd (clash (times m s.world.left_over) (times m (name_roots s.world.names)) (times m (awaited_roots s.world.awaited)) (times m s.world.detached) (times m (tree_roots s.world)) (owned_times m s.world.nodes) (roots m s.world.left_over) (st.below.places m l) one)
    below_at m false d l = zero (times m (n ∷ [])) (times m (name_roots s.world.names)) (times m (awaited_roots s.world.awaited)) (times m s.world.left_over) (times m s.world.detached) (owned_times m s.world.nodes) (times m (dropped n s.world.left_over)) (times m (tree_roots s.world)) _ (other m d) (roots m s.world.left_over) (roots m (dropped n s.world.left_over)) (st.below.places m l) (same m d)

pub in_dropped : (n p : ℕ) (xs : List ℕ) → is_in p (dropped n xs) ≡ true → is_in p xs ≡ true
in_dropped n p xs i = (in_kept (λ x. not (x == n)) p xs i).0

left_shaped : (n : ℕ) (w : World) → Shaped w → Shaped (without_left_over n w)
left_shaped n w sh = record { winners = sh.winners; parts = sh.parts; names = sh.names; awaited = sh.awaited; detached = sh.detached; left_over = λ p f i. sh.left_over p f (in_dropped n p w.left_over i) }

-- the Task goes at last
none_owned : (o : Option Form) (p : ℕ) → o ≡ Some (Task None) → is_in p (parts_found o) ≡ true → ⊥
none_owned o p e i = in_none p (sym (ap (λ (x : Option Form). is_in p (parts_found x)) e) ∙ i)

pub task_gone_is : (n : ℕ) (s : State) → Owned s → Shaped s.world → form_at n s.world.nodes ≡ Some (Task None) → is_in n s.world.left_over ≡ true → Owned (task_gone n s) × Shaped (task_gone n s).world
task_gone_is n s st sh at i =
    let t = silent (without_left_over n) s in
    let live : is_live n s.world.nodes ≡ true = ap is_some at in
    let w = went_gone n [] t t (λ m. ap (is_branch_of m) at) live (λ p o. absurd (none_owned (form_at n s.world.nodes) p at o)) (record { standing = without_left n s st live i; shaped = left_shaped n s.world sh; same = record { firing = refl; awaited = refl; left_over = refl } }) in
    (w.standing, w.shaped)

-- what names hold, name by name
pub total_by_at : (f : Held → ℕ) (names : List Named) → NamesApart names → ((c : ℕ) (h : Held) → held_at c names ≡ Some h → f h ≡ 0) → held_total f names ≡ 0
total_by_at f [] apart z = refl
total_by_at f (x ∷ xs) apart z =
    let a = z x.name x.held (here x xs) in
    let b = total_by_at f xs (λ c. (let k = apart c in omega (arith, k))) (λ c h at. z c h (later c x xs h at (apart x.name) ∙ at)) in
    omega (arith, a, b)
  where
    here : (x : Named) (xs : List Named) → held_at x.name (x ∷ xs) ≡ Some x.held
    here x xs = grind (arith, nat_tests)

    later : (c : ℕ) (x : Named) (xs : List Named) (h : Held) → held_at c xs ≡ Some h → cond (x.name == x.name) 1 0 + times x.name (name_numbers xs) ≤ 1 → held_at c (x ∷ xs) ≡ held_at c xs
    later c x xs h at one = skip (false_by (nat_eq x.name c) (λ e. clash (times x.name (name_numbers xs)) (cond (x.name == x.name) 1 0) one (ap (λ b. cond b 1 0) (self x.name)) (subst (λ (y : ℕ). 1 ≤ times y (name_numbers xs)) (same_number x.name c e) (held_there c xs h at))))
      where
        self : (d : ℕ) → nat_eq d d ≡ true
        self d = grind (arith, nat_tests)

        clash : (t a : ℕ) → a + t ≤ 1 → a ≡ 1 → 1 ≤ t → ⊥
        clash t a u v w = omega (arith, u, v, w)

        skip : nat_eq x.name c ≡ false → held_at c (x ∷ xs) ≡ held_at c xs
        skip d = grind (arith, nat_tests)

pub found_name : (p : Named → Bool) (x : Named) (ys : List Named) → NamesApart ys → find p ys ≡ Some x → (held_at x.name ys ≡ Some x.held) × (p x ≡ true)
found_name p x [] apart h = absurd (no_name x h)
  where
    no_name : (x : Named) → ◌≡◌ {A = Option Named} None (Some x) → ⊥
    no_name x e = cc
found_name p x (y ∷ ys) apart h = more (p y) refl (found_name p x ys (λ c. (let k = apart c in omega (arith, k))))
  where
    name_is : (x y : Named) → ◌≡◌ {A = Option Named} (Some x) (Some y) → x ≡ y
    name_is x y h = cc

    here : (z : Named) → held_at z.name (z ∷ ys) ≡ Some z.held
    here z = grind (arith, nat_tests)

    skip : nat_eq y.name x.name ≡ false → held_at x.name (y ∷ ys) ≡ held_at x.name ys
    skip d = grind (arith, nat_tests)

    clash : (a t : ℕ) → a ≡ 1 → a + t ≤ 1 → 1 ≤ t → ⊥
    clash a t u v w = omega (arith, u, v, w)

    more : (b : Bool) → p y ≡ b → (find p ys ≡ Some x → (held_at x.name ys ≡ Some x.held) × (p x ≡ true)) → (held_at x.name (y ∷ ys) ≡ Some x.held) × (p x ≡ true)
    more true q ih = let same : y ≡ x = name_is y x (first q h) in (subst (λ (z : Named). held_at z.name (y ∷ ys) ≡ Some z.held) same (here y), subst (λ (z : Named). p z ≡ true) same q)
      where
        first : p y ≡ true → find p (y ∷ ys) ≡ Some x → Some y ≡ Some x
        first q h = grind arith
    more false q ih =
        let r = ih (rest q h) in
        let d = false_by (nat_eq y.name x.name) (λ e. clash (cond (y.name == x.name) 1 0) (times x.name (name_numbers ys)) (ap (λ b. cond b 1 0) e) (apart x.name) (held_there x.name ys x.held r.0)) in
        (skip d ∙ r.0, r.1)
      where
        rest : p y ≡ false → find p (y ∷ ys) ≡ Some x → find p ys ≡ Some x
        rest q h = grind arith

pub not_found : (p : Named → Bool) (c : ℕ) (h : Held) (ys : List Named) → ((a b : Named) → a.held ≡ b.held → p a ≡ p b) → find p ys ≡ None → held_at c ys ≡ Some h → p (record { name = c; held = h }) ≡ false
not_found p c h [] only e at = absurd (no_held h at)
  where
    no_held : (h : Held) → ◌≡◌ {A = Option Held} None (Some h) → ⊥
    no_held h e = cc
not_found p c h (y ∷ ys) only e at = more (p y) refl (not_found p c h ys only)
  where
    held_is : (x y : Held) → ◌≡◌ {A = Option Held} (Some x) (Some y) → x ≡ y
    held_is x y h = cc

    no_name : (x : Named) → ◌≡◌ {A = Option Named} (Some x) None → ⊥
    no_name x e = cc

    step : (b : Bool) → nat_eq y.name c ≡ b → p y ≡ false → (held_at c ys ≡ Some h → p (record { name = c; held = h }) ≡ false) → p (record { name = c; held = h }) ≡ false
    step true d q ih = only (record { name = c; held = h }) y (held_is h y.held (sym at ∙ here d)) ∙ q
      where
        here : nat_eq y.name c ≡ true → held_at c (y ∷ ys) ≡ Some y.held
        here d = grind (arith, nat_tests)
    step false d q ih = ih (sym (skip d) ∙ at)
      where
        skip : nat_eq y.name c ≡ false → held_at c (y ∷ ys) ≡ held_at c ys
        skip d = grind (arith, nat_tests)

    more : (b : Bool) → p y ≡ b → (find p ys ≡ None → held_at c ys ≡ Some h → p (record { name = c; held = h }) ≡ false) → p (record { name = c; held = h }) ≡ false
    more true q ih = absurd (no_name y (first q e))
      where
        first : p y ≡ true → find p (y ∷ ys) ≡ None → Some y ≡ None
        first q e = grind arith
    more false q ih = step (nat_eq y.name c) refl q (ih (rest q e))
      where
        rest : p y ≡ false → find p (y ∷ ys) ≡ None → find p ys ≡ None
        rest q e = grind arith

-- other lists of what is left over and detached
abbrev pub with_roots : List ℕ → List ℕ → World → World
with_roots detached left_over w = record w { detached = detached; left_over = left_over }

pub roots_standing : (detached left_over loose loose2 : List ℕ) (s : State) → ((m : ℕ) → times m loose2 + (times m left_over + times m detached) ≡ times m loose + (times m s.world.left_over + times m s.world.detached)) → Standing loose [] [] s → Standing loose2 [] [] (silent (with_roots detached left_over) s)
roots_standing detached left_over loose loose2 s counts st = record {
  placed = record { once = λ m live. (let a = st.placed.once m live in let b = counts m in let x = old m in let y = new m in omega (arith, a, b, x, y)); climbs = st.placed.climbs };
  names = st.names;
  hubs = record { name = st.hubs.name; branches = st.hubs.branches };
  below = record { positive = st.below.positive; places = λ m l. (let a = st.below.places m l in let b = counts m in let x = old m in let y = new m in omega (arith, a, b, x, y)); names = st.below.names; branches = st.below.branches };
  recorded = st.recorded;
  in_order = st.in_order;
  room = st.room;
  queue = st.queue;
  queued = st.queued;
  spots = st.spots;
}
  where
    old : (m : ℕ) → times m (tree_roots s.world) ≡ times m (name_roots s.world.names) + times m (awaited_roots s.world.awaited) + times m s.world.left_over + times m s.world.detached
    old m = roots_app m (name_roots s.world.names) (awaited_roots s.world.awaited) s.world.left_over s.world.detached

    new : (m : ℕ) → times m (tree_roots (with_roots detached left_over s.world)) ≡ times m (name_roots s.world.names) + times m (awaited_roots s.world.awaited) + times m left_over + times m detached
    new m = roots_app m (name_roots s.world.names) (awaited_roots s.world.awaited) left_over detached

-- a Task leaves its set
pub record HasLeft (n : ℕ) (s t : State) : Type 0 where
  pub owned : Owned t
  pub shaped : Shaped t.world
  pub firing : t.world.firing ≡ s.world.firing
  pub awaited : t.world.awaited ≡ s.world.awaited
  pub left_over : t.world.left_over ≡ s.world.left_over ++ n ∷ []
  pub at : form_at n t.world.nodes ≡ Some (Task None)

abbrev pub left_world : ℕ → World → World
left_world n w = record w { detached = dropped n w.detached; left_over = w.left_over ++ n ∷ [] }

pub left_is : (n : ℕ) (loose : List ℕ) (s t : State) → Standing loose [] [] t → Shaped t.world → SameTurn s.world t.world → form_at n t.world.nodes ≡ Some (Task None) → times n loose + times n t.world.detached ≡ 1 → ((m : ℕ) → nat_eq m n ≡ false → times m loose ≡ 0) → HasLeft n s (silent (left_world n) t)
left_is n loose s t st sh same at one others = record {
  owned = roots_standing (dropped n t.world.detached) (t.world.left_over ++ n ∷ []) loose [] t (λ m. counts m (nat_eq m n) refl) st;
  shaped = record {
    winners = sh.winners;
    parts = sh.parts;
    names = sh.names;
    awaited = sh.awaited;
    detached = λ p i. sh.detached p (in_dropped n p t.world.detached i);
    left_over = λ p f i. elim (in_either p t.world.left_over (n ∷ []) i) [ inl a ↦ sh.left_over p f a | inr b ↦ subst (λ (y : ℕ). suits OfEnded (form_at y t.world.nodes) ≡ true) (in_one p n b) (ap (suits OfEnded) at) ];
  };
  firing = same.firing;
  awaited = same.awaited;
  left_over = ap (λ (xs : List ℕ). xs ++ n ∷ []) same.left_over;
  at = at;
}
  where
    moved : (l l2 d d2 k : ℕ) → l2 ≡ l + 1 → d2 ≡ 0 → k + d ≡ 1 → 0 + (l2 + d2) ≡ k + (l + d)
    moved l l2 d d2 k a b c = omega (arith, a, b, c)

    kept : (l l2 d d2 k : ℕ) → l2 ≡ l + 0 → d2 ≡ d → k ≡ 0 → 0 + (l2 + d2) ≡ k + (l + d)
    kept l l2 d d2 k a b c = omega (arith, a, b, c)

    self : (m : ℕ) → nat_eq m n ≡ true → times m (n ∷ []) ≡ 1
    self m d = (let e : nat_eq n m ≡ true = grind (arith, nat_tests) in grind (arith, nat_tests))

    other : (m : ℕ) → nat_eq m n ≡ false → times m (n ∷ []) ≡ 0
    other m d = grind (arith, nat_tests)

    counts : (m : ℕ) (d : Bool) → nat_eq m n ≡ d → times m [] + (times m (t.world.left_over ++ n ∷ []) + times m (dropped n t.world.detached)) ≡ times m loose + (times m t.world.left_over + times m t.world.detached)
    counts m true d = moved (times m t.world.left_over) (times m (t.world.left_over ++ n ∷ [])) (times m t.world.detached) (times m (dropped n t.world.detached)) (times m loose) (times_app m t.world.left_over (n ∷ []) ∙ ap (λ k. times m t.world.left_over + k) (self m d)) (dropped_times n m t.world.detached ∙ ap (λ b. cond (not b) (times m t.world.detached) 0) d) (subst (λ (y : ℕ). times y loose + times y t.world.detached ≡ 1) (same_number m n d) one)
    counts m false d = kept (times m t.world.left_over) (times m (t.world.left_over ++ n ∷ [])) (times m t.world.detached) (times m (dropped n t.world.detached)) (times m loose) (times_app m t.world.left_over (n ∷ []) ∙ ap (λ k. times m t.world.left_over + k) (other m d)) (dropped_times n m t.world.detached ∙ ap (λ b. cond (not b) (times m t.world.detached) 0) d) (others m d)
