-- Names that go one after another.
use Rattle.std.proofs.Common.{◌≡◌, ◌∙◌, refl, sym, ap, subst, ℕ, ◌+◌, ◌<◌, ◌≤◌, List, [], ◌∷◌, Option, None, Some, Bool, true, false, cond, not, length, arith}
use Rattle.std.specs.Prelude.{nat_eq, reverse}
use Rattle.std.specs.List.{AllByRecursion}
use Rattle.std.proofs.lemmas.Bool.Decides.{nat_tests}
use Rattle.kj_model.specs.Nodes.{Form, Hub, form_at}
use Rattle.kj_model.specs.World.{World, State, Named, Held, Promise, CellOf, AskCell, HubOf, Group, Canceler, RequestOf, held_at, depth_of}
use Rattle.kj_model.specs.Changes.{silent, unnamed, without_name}
use Rattle.kj_model.specs.Effects.{hub_unnamed, hub_unnamed_in}
use Rattle.kj_model.specs.Free.{Holding, free_unless, free_unreferenced, is_guarded, each_freed}
use Rattle.kj_model.specs.Framed.{stripped}
use Rattle.kj_model.specs.Calls.{closed_held, each_closed, names_closed}
use Rattle.kj_model.proofs.Falling.{node_frees}
use Rattle.promise_names.specs.Once.{AreRising}
use Rattle.promise_names.specs.Held.{first_name}
use Rattle.promise_firing.specs.Closed.{free_one, hub_name_closed, found_closed, name_closed}

-- ---- what a free leaves of names

-- what each name holds is the same, but for a canceler's Wraps
abbrev SameHeld : World → World → Type 0
SameHeld w v = (c : ℕ) → stripped (held_at c v.names) ≡ stripped (held_at c w.names)

freed_held : (n : ℕ) (s : State) → SameHeld s.world (free_one n s).world
freed_held n s = (node_frees (Holding []) (depth_of s.world) n s).frame.at

each_held : (ns : List ℕ) (s : State) → SameHeld s.world (each_freed free_one ns s).world
each_held [] s c = refl
each_held (n ∷ ns) s c = each_held ns (free_one n s) c ∙ freed_held n s c

unless_held : (b : Bool) (hub : ℕ) (s : State) → SameHeld s.world (free_unless b free_one hub s).world
unless_held true hub s c = refl
unless_held false hub s c = freed_held hub s c

reference_held : (hub : ℕ) (o : Option Form) (s : State) → SameHeld s.world (free_unreferenced (Holding []) free_one hub o s).world
reference_held hub (Some (Hub content false [])) s c = unless_held (is_guarded (Holding []) hub s.world) hub s c
reference_held hub (Some (Hub content false (b ∷ branches))) s c = refl
reference_held hub (Some (Hub content true branches)) s c = refl
reference_held hub None s c = refl
reference_held hub (Some _) s c = refl

unnamed_held : (hub : ℕ) (o : Option Form) (w : World) → SameHeld w (hub_unnamed_in hub o w)
unnamed_held hub (Some (Hub content is_named branches)) w c = refl
unnamed_held hub None w c = refl
unnamed_held hub (Some _) w c = refl

hub_held : (hub : ℕ) (s : State) → SameHeld s.world (hub_name_closed hub s).world
hub_held hub s c =
    let t = silent (hub_unnamed hub) s in
    reference_held hub (form_at hub t.world.nodes) t c ∙ unnamed_held hub (form_at hub s.world.nodes) s.world c

closed_same : (h : Held) (s : State) → SameHeld s.world (closed_held h s).world
closed_same (Promise root) s c = freed_held root s c
closed_same (CellOf cell) s c = refl
closed_same (AskCell cell is_taken) s c = refl
closed_same (HubOf hub) s c = hub_held hub s c
closed_same (Group error tasks empty) s c = each_held (reverse tasks) s c
closed_same (Canceler wraps) s c = refl
closed_same (RequestOf None) s c = refl
closed_same (RequestOf (Some node)) s c = freed_held node s c

-- ---- names in order

none_some : (h : Held) → ◌≡◌ {A = Option Held} None (stripped (Some h)) → ⊥
none_some (Promise root) e = cc
none_some (CellOf cell) e = cc
none_some (AskCell cell is_taken) e = cc
none_some (HubOf hub) e = cc
none_some (Group error tasks empty) e = cc
none_some (Canceler wraps) e = cc
none_some (RequestOf request) e = cc

some_name : (a b : ℕ) → ◌≡◌ {A = Option ℕ} (Some a) (Some b) → a ≡ b
some_name a b e = cc

none_name : (b : ℕ) → ◌≡◌ {A = Option ℕ} None (Some b) → ⊥
none_name b e = cc

self : (n : ℕ) → nat_eq n n ≡ true
self n = grind (arith, nat_tests)

isnt : (a b : ℕ) → a < b → nat_eq b a ≡ false
isnt a b h = grind (arith, nat_tests)

same_is : (a b : ℕ) → nat_eq a b ≡ true → a ≡ b
same_is a b h = grind (arith, nat_tests)

held_first : (c : ℕ) (x : Named) (xs : List Named) → nat_eq x.name c ≡ true → held_at c (x ∷ xs) ≡ Some x.held
held_first c x xs e = rw e refl

held_rest : (c : ℕ) (x : Named) (xs : List Named) → nat_eq x.name c ≡ false → held_at c (x ∷ xs) ≡ held_at c xs
held_rest c x xs e = rw e refl

-- a lower name isn't there
below_none : (c : ℕ) (xs : List Named) → AllByRecursion (λ (later : Named). c < later.name) xs → held_at c xs ≡ None
below_none c [] all = refl
below_none c (x ∷ xs) all = held_rest c x xs (isnt c x.name all.0) ∙ below_none c xs all.1

all_higher : (c d : ℕ) (xs : List Named) → c < d → AllByRecursion (λ (later : Named). d < later.name) xs → AllByRecursion (λ (later : Named). c < later.name) xs
all_higher c d [] h all = tt
all_higher c d (x ∷ xs) h all = (let a = all.0 in omega (arith, h, a), all_higher c d xs h all.1)

-- the same names hold the same, but for a canceler's Wraps
abbrev AreAlike : List Named → List Named → Type 0
AreAlike [] [] = Unit {0}
AreAlike [] (y ∷ ys) = ⊥
AreAlike (x ∷ xs) [] = ⊥
AreAlike (x ∷ xs) (y ∷ ys) = (x.name ≡ y.name) × (stripped (Some x.held) ≡ stripped (Some y.held)) × AreAlike xs ys

abbrev SameAt : List Named → List Named → Type 0
SameAt xs ys = (c : ℕ) → stripped (held_at c xs) ≡ stripped (held_at c ys)

-- no list has a lower name in front
not_lower : (x y : Named) (xs ys : List Named) → AreRising (y ∷ ys) → SameAt (x ∷ xs) (y ∷ ys) → x.name < y.name → ⊥
not_lower x y xs ys rise same low =
    let none : held_at x.name (y ∷ ys) ≡ None = held_rest x.name y ys (isnt x.name y.name low) ∙ below_none x.name ys (all_higher x.name y.name ys low rise.0) in
    none_some x.held (ap stripped (sym none) ∙ sym (same x.name) ∙ ap stripped (held_first x.name x xs (self x.name)))

same_name : (x y : Named) (xs ys : List Named) → AreRising (x ∷ xs) → AreRising (y ∷ ys) → SameAt (x ∷ xs) (y ∷ ys) → x.name ≡ y.name
same_name x y xs ys rx ry same = decide (nat_eq x.name y.name) refl
  where
    apart : nat_eq x.name y.name ≡ false → (x.name < y.name → ⊥) → (y.name < x.name → ⊥) → x.name ≡ y.name
    apart e f g = decide_low (Rattle.std.specs.Prelude.nat_lt x.name y.name) refl
      where
        decide_low : (b : Bool) → Rattle.std.specs.Prelude.nat_lt x.name y.name ≡ b → x.name ≡ y.name
        decide_low true t = absurd (f (grind (arith, nat_tests)))
        decide_low false t = absurd (g (grind (arith, nat_tests)))

    decide : (b : Bool) → nat_eq x.name y.name ≡ b → x.name ≡ y.name
    decide true e = same_is x.name y.name e
    decide false e = apart e (not_lower x y xs ys ry same) (not_lower y x ys xs rx (λ c. sym (same c)))

rest_case : (b : Bool) (c : ℕ) (x y : Named) (xs ys : List Named) → nat_eq x.name c ≡ b → AreRising (x ∷ xs) → AreRising (y ∷ ys) → x.name ≡ y.name → SameAt (x ∷ xs) (y ∷ ys) → stripped (held_at c xs) ≡ stripped (held_at c ys)
rest_case true c x y xs ys e rx ry name same =
    let here : x.name ≡ c = same_is x.name c e in
    let a : held_at c xs ≡ None = subst (λ (k : ℕ). held_at k xs ≡ None) here (below_none x.name xs rx.0) in
    let b : held_at c ys ≡ None = subst (λ (k : ℕ). held_at k ys ≡ None) (sym name ∙ here) (below_none y.name ys ry.0) in
    ap stripped a ∙ sym (ap stripped b)
rest_case false c x y xs ys e rx ry name same =
    ap stripped (sym (held_rest c x xs e)) ∙ same c ∙ ap stripped (held_rest c y ys (ap (λ (k : ℕ). nat_eq k c) (sym name) ∙ e))

alike : (xs ys : List Named) → AreRising xs → AreRising ys → SameAt xs ys → AreAlike xs ys
alike [] [] rx ry same = tt
alike [] (y ∷ ys) rx ry same = none_some y.held (same y.name ∙ ap stripped (held_first y.name y ys (self y.name)))
alike (x ∷ xs) [] rx ry same = none_some x.held (sym (same x.name) ∙ ap stripped (held_first x.name x xs (self x.name)))
alike (x ∷ xs) (y ∷ ys) rx ry same =
    let name = same_name x y xs ys rx ry same in
    let held = ap stripped (sym (held_first x.name x xs (self x.name))) ∙ same x.name ∙ ap stripped (held_first x.name y ys (ap (λ (k : ℕ). nat_eq k x.name) (sym name) ∙ self x.name)) in
    (name, held, alike xs ys rx.1 ry.1 (λ c. rest_case (nat_eq x.name c) c x y xs ys refl rx ry name same))

alike_length : (xs ys : List Named) → AreAlike xs ys → length xs ≡ length ys
alike_length [] [] a = refl
alike_length [] (y ∷ ys) a = absurd a
alike_length (x ∷ xs) [] a = absurd a
alike_length (x ∷ xs) (y ∷ ys) a = let rest = alike_length xs ys a.2 in omega (arith, rest)

-- ---- they go alike

stripped_closed : (h : Held) (s : State) → closed_held h s ≡ found_closed (stripped (Some h)) s
stripped_closed (Promise root) s = refl
stripped_closed (CellOf cell) s = refl
stripped_closed (AskCell cell is_taken) s = refl
stripped_closed (HubOf hub) s = refl
stripped_closed (Group error tasks empty) s = refl
stripped_closed (Canceler wraps) s = refl
stripped_closed (RequestOf request) s = refl

alike_closed : (xs ys : List Named) (s : State) → AreAlike xs ys → each_closed xs s ≡ each_closed ys s
alike_closed [] [] s a = refl
alike_closed [] (y ∷ ys) s a = absurd a
alike_closed (x ∷ xs) [] s a = absurd a
alike_closed (x ∷ xs) (y ∷ ys) s a =
    let t = silent (unnamed x.name) s in
    alike_closed xs ys (closed_held x.held t) a.2
    ∙ ap (each_closed ys) (stripped_closed x.held t ∙ ap (λ (o : Option Held). found_closed o t) a.1 ∙ sym (stripped_closed y.held t))
    ∙ ap (λ (name : ℕ). each_closed ys (closed_held y.held (silent (unnamed name) s))) a.0

-- ---- the lowest name goes

without_lower : (n : ℕ) (xs : List Named) → AllByRecursion (λ (later : Named). n < later.name) xs → without_name n xs ≡ xs
without_lower n [] all = refl
without_lower n (x ∷ xs) all = ap (λ (b : Bool). cond (not b) (x ∷ without_name n xs) (without_name n xs)) (isnt n x.name all.0) ∙ ap (λ (l : List Named). x ∷ l) (without_lower n xs all.1)

without_first : (x : Named) (xs : List Named) → AllByRecursion (λ (later : Named). x.name < later.name) xs → without_name x.name (x ∷ xs) ≡ xs
without_first x xs all = ap (λ (b : Bool). cond (not b) (x ∷ without_name x.name xs) (without_name x.name xs)) (self x.name) ∙ without_lower x.name xs all

-- what is left to do, and one name fewer
pub record OneLess (s t : State) : Type 0 where
  pub same : names_closed t ≡ names_closed s
  pub less : length t.world.names + 1 ≡ length s.world.names

first_case : (name : ℕ) (s : State) (l : List Named) → s.world.names ≡ l → first_name l ≡ Some name → AreRising s.world.names → AreRising (name_closed name s).world.names → OneLess s (name_closed name s)
first_case name s [] e h rise after = absurd (none_name name h)
first_case name s (x ∷ xs) e h rise after =
    let is : x.name ≡ name = some_name x.name name h in
    let up : AreRising (x ∷ xs) = subst AreRising e rise in
    let bare = silent (unnamed name) s in
    let t = closed_held x.held bare in
    let held : held_at name s.world.names ≡ Some x.held = ap (held_at name) e ∙ held_first name x xs (ap (λ (k : ℕ). nat_eq k name) is ∙ self name) in
    let now : name_closed name s ≡ t = ap (λ (o : Option Held). found_closed o bare) held in
    let left : bare.world.names ≡ xs = ap (without_name name) e ∙ ap (λ (k : ℕ). without_name k (x ∷ xs)) (sym is) ∙ without_first x xs up.0 in
    let risen : AreRising t.world.names = subst (λ (u : State). AreRising u.world.names) now after in
    let like = alike t.world.names xs risen up.1 (λ c. closed_same x.held bare c ∙ ap (λ (l : List Named). stripped (held_at c l)) left) in
    record {
      same = ap names_closed now
          ∙ alike_closed t.world.names xs t like
          ∙ ap (λ (k : ℕ). each_closed xs (closed_held x.held (silent (unnamed k) s))) (sym is)
          ∙ ap (λ (l : List Named). each_closed l s) (sym e);
      less = let a = ap (λ (u : State). length u.world.names) now in let b = alike_length t.world.names xs like in let c = ap (λ (l : List Named). length l) e in omega (arith, a, b, c);
    }

-- the lowest name goes first
pub first_goes : (name : ℕ) (s : State) → first_name s.world.names ≡ Some name → AreRising s.world.names → AreRising (name_closed name s).world.names → OneLess s (name_closed name s)
first_goes name s h rise after = first_case name s s.world.names refl h rise after

none_case : (s : State) (l : List Named) → s.world.names ≡ l → first_name l ≡ None → names_closed s ≡ s
none_case s [] e h = ap (λ (l : List Named). each_closed l s) e
none_case s (x ∷ xs) e h = absurd (none_name x.name (sym h))

-- where no name is left, nothing goes
pub no_name_goes : (s : State) → first_name s.world.names ≡ None → names_closed s ≡ s
no_name_goes s h = none_case s s.world.names refl h

empty_case : (l : List Named) → length l ≤ 0 → first_name l ≡ None
empty_case [] h = refl
empty_case (x ∷ xs) h = absurd (omega (arith, h))

-- and where there are none, none is the lowest
pub no_first : (w : World) → length w.names ≤ 0 → first_name w.names ≡ None
no_first w h = empty_case w.names h
