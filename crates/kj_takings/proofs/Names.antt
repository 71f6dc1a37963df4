-- Names of two worlds that are alike.
use Rattle.std.proofs.Common.{◌≡◌, ◌∙◌, refl, sym, ap, subst, suc, ℕ, ◌≤◌, ◌<◌, List, [], ◌∷◌, length, Bool, true, false, not, cond, ◌||◌, Option, None, Some, arith}
use Rattle.std.specs.Prelude.{nat_eq, nat_lt, map, is_some}
use Rattle.std.proofs.lemmas.Bool.{false≢true}
use Rattle.std.proofs.lemmas.Bool.Decides.{nat_tests}
use Rattle.kj_model.specs.World.{Named, Held, Promise, CellOf, AskCell, HubOf, Group, Canceler, RequestOf, held_at}
use Rattle.kj_model.specs.Changes.{without_name, with_new}
use Rattle.kj_model.specs.Uses.{is_name}
use Rattle.kj_model.specs.Fire.{has_task, group_of, named_renamed, held_renamed}
use Rattle.kj_ownership.specs.Kept.{is_spent}
use Rattle.kj_takings.specs.Alike.{as_taken, name_as_taken, firm_names, AllAbove, AreRising, LooseAreSpent, Sorted}

-- what a name holds, as if asks were taken
abbrev pub found_taken : Option Held → Option Held
found_taken None = None
found_taken (Some h) = Some (as_taken h)

-- the head of a list of names
pub firm_loose : (loose : ℕ → Bool) (x : Named) (xs : List Named) → loose x.name ≡ true → firm_names loose (x ∷ xs) ≡ firm_names loose xs
firm_loose loose x xs e = rw e refl

pub firm_kept : (loose : ℕ → Bool) (x : Named) (xs : List Named) → loose x.name ≡ false → firm_names loose (x ∷ xs) ≡ name_as_taken x ∷ firm_names loose xs
firm_kept loose x xs e = rw e refl

without_here : (c : ℕ) (x : Named) (xs : List Named) → nat_eq x.name c ≡ true → without_name c (x ∷ xs) ≡ without_name c xs
without_here c x xs e = rw e refl

without_other : (c : ℕ) (x : Named) (xs : List Named) → nat_eq x.name c ≡ false → without_name c (x ∷ xs) ≡ x ∷ without_name c xs
without_other c x xs e = rw e refl

with_before : (x y : Named) (ys : List Named) → nat_lt x.name y.name ≡ true → with_new x (y ∷ ys) ≡ x ∷ y ∷ ys
with_before x y ys e = rw e refl

with_after : (x y : Named) (ys : List Named) → nat_lt x.name y.name ≡ false → with_new x (y ∷ ys) ≡ y ∷ with_new x ys
with_after x y ys e = rw e refl

-- a list that a test may leave its head out of
cond_case : {A : Type 0} (P : List A → Type 0) (b : Bool) (xs ys : List A) → P xs → P ys → P (cond b xs ys)
cond_case P true xs ys p q = p
cond_case P false xs ys p q = q

-- without a name
pub firm_without : (loose : ℕ → Bool) (c : ℕ) (xs : List Named) → firm_names loose (without_name c xs) ≡ without_name c (firm_names loose xs)
firm_without loose c [] = refl
firm_without loose c (x ∷ xs) = decide (nat_eq x.name c) (loose x.name) refl refl (firm_without loose c xs)
  where
    decide : (b l : Bool) → nat_eq x.name c ≡ b → loose x.name ≡ l → firm_names loose (without_name c xs) ≡ without_name c (firm_names loose xs) → firm_names loose (without_name c (x ∷ xs)) ≡ without_name c (firm_names loose (x ∷ xs))
    decide true true e h ih = ap (firm_names loose) (without_here c x xs e) ∙ ih ∙ ap (without_name c) (sym (firm_loose loose x xs h))
    decide true false e h ih = ap (firm_names loose) (without_here c x xs e) ∙ ih ∙ sym (without_here c (name_as_taken x) (firm_names loose xs) e) ∙ ap (without_name c) (sym (firm_kept loose x xs h))
    decide false true e h ih = ap (firm_names loose) (without_other c x xs e) ∙ firm_loose loose x (without_name c xs) h ∙ ih ∙ ap (without_name c) (sym (firm_loose loose x xs h))
    decide false false e h ih = ap (firm_names loose) (without_other c x xs e) ∙ firm_kept loose x (without_name c xs) h ∙ ap (λ ys. name_as_taken x ∷ ys) ih ∙ sym (without_other c (name_as_taken x) (firm_names loose xs) e) ∙ ap (without_name c) (sym (firm_kept loose x xs h))

above_without : (n c : ℕ) (xs : List Named) → AllAbove n xs → AllAbove n (without_name c xs)
above_without n c [] a = tt
above_without n c (x ∷ xs) a = cond_case (AllAbove n) (not (nat_eq x.name c)) (x ∷ without_name c xs) (without_name c xs) (a.0, above_without n c xs a.1) (above_without n c xs a.1)

rising_without : (c : ℕ) (xs : List Named) → AreRising xs → AreRising (without_name c xs)
rising_without c [] r = tt
rising_without c (x ∷ xs) r = cond_case AreRising (not (nat_eq x.name c)) (x ∷ without_name c xs) (without_name c xs) (above_without x.name c xs r.0, rising_without c xs r.1) (rising_without c xs r.1)

spent_without : (loose : ℕ → Bool) (c : ℕ) (xs : List Named) → LooseAreSpent loose xs → LooseAreSpent loose (without_name c xs)
spent_without loose c [] s = tt
spent_without loose c (x ∷ xs) s = cond_case (LooseAreSpent loose) (not (nat_eq x.name c)) (x ∷ without_name c xs) (without_name c xs) (s.0, spent_without loose c xs s.1) (spent_without loose c xs s.1)

pub sorted_without : (loose : ℕ → Bool) (c : ℕ) (xs : List Named) → Sorted loose xs → Sorted loose (without_name c xs)
sorted_without loose c xs s = record { spent = spent_without loose c xs s.spent; rising = rising_without c xs s.rising }

pub length_without : (c : ℕ) (xs : List Named) → length (without_name c xs) ≤ length xs
length_without c [] = omega arith
length_without c (x ∷ xs) = less (not (nat_eq x.name c)) (without_name c xs) (length_without c xs)
  where
    less : (b : Bool) (ys : List Named) → length ys ≤ length xs → length (cond b (x ∷ ys) ys) ≤ length (x ∷ xs)
    less true ys h = omega (arith, h)
    less false ys h = omega (arith, h)

-- what a name holds
held_here : (c : ℕ) (x : Named) (xs : List Named) → nat_eq x.name c ≡ true → held_at c (x ∷ xs) ≡ Some x.held
held_here c x xs e = rw e refl

held_later : (c : ℕ) (x : Named) (xs : List Named) → nat_eq x.name c ≡ false → held_at c (x ∷ xs) ≡ held_at c xs
held_later c x xs e = rw e refl

pub length_present : (c : ℕ) (xs : List Named) → is_some (held_at c xs) ≡ true → suc (length (without_name c xs)) ≤ length xs
length_present c [] e = absurd (false≢true e)
length_present c (x ∷ xs) e = decide (nat_eq x.name c) refl (length_present c xs)
  where
    decide : (b : Bool) → nat_eq x.name c ≡ b → (is_some (held_at c xs) ≡ true → suc (length (without_name c xs)) ≤ length xs) → suc (length (without_name c (x ∷ xs))) ≤ length (x ∷ xs)
    decide true h ih = let l = ap length (without_here c x xs h) in let m = length_without c xs in omega (arith, l, m)
    decide false h ih =
        let l = ap length (without_other c x xs h) in
        let rest : is_some (held_at c xs) ≡ true = ap is_some (sym (held_later c x xs h)) ∙ e in
        let m = ih rest in omega (arith, l, m)

-- a name that isn't there
abbrev pub IsAbsent : ℕ → List Named → Type 0
IsAbsent c [] = Unit {0}
IsAbsent c (x ∷ xs) = (nat_eq x.name c ≡ false) × IsAbsent c xs

pub absent_without : (c : ℕ) (xs : List Named) → IsAbsent c (without_name c xs)
absent_without c [] = tt
absent_without c (x ∷ xs) = decide (nat_eq x.name c) refl (absent_without c xs)
  where
    decide : (b : Bool) → nat_eq x.name c ≡ b → IsAbsent c (without_name c xs) → IsAbsent c (without_name c (x ∷ xs))
    decide true e ih = subst (IsAbsent c) (sym (without_here c x xs e)) ih
    decide false e ih = subst (IsAbsent c) (sym (without_other c x xs e)) (e, ih)

-- with a name more
above_more : (n m : ℕ) (xs : List Named) → n < m → AllAbove m xs → AllAbove n xs
above_more n m [] l a = tt
above_more n m (x ∷ xs) l a = (omega (arith, l, a.0), above_more n m xs l a.1)

less_by : (n m : ℕ) → nat_lt n m ≡ true → n < m
less_by n m e = grind (arith, nat_tests)

by_less : (n m : ℕ) → n < m → nat_lt n m ≡ true
by_less n m e = grind (arith, nat_tests)

more_by : (n m : ℕ) → nat_lt n m ≡ false → nat_eq m n ≡ false → m < n
more_by n m e h = grind (arith, nat_tests)

above_with : (n : ℕ) (x : Named) (xs : List Named) → n < x.name → AllAbove n xs → AllAbove n (with_new x xs)
above_with n x [] l a = (l, tt)
above_with n x (y ∷ ys) l a = decide (nat_lt x.name y.name) refl (above_with n x ys l a.1)
  where
    decide : (b : Bool) → nat_lt x.name y.name ≡ b → AllAbove n (with_new x ys) → AllAbove n (with_new x (y ∷ ys))
    decide true e ih = subst (AllAbove n) (sym (with_before x y ys e)) (l, a)
    decide false e ih = subst (AllAbove n) (sym (with_after x y ys e)) (a.0, ih)

rising_with : (x : Named) (xs : List Named) → IsAbsent x.name xs → AreRising xs → AreRising (with_new x xs)
rising_with x [] o r = (tt, tt)
rising_with x (y ∷ ys) o r = decide (nat_lt x.name y.name) refl (rising_with x ys o.1 r.1)
  where
    decide : (b : Bool) → nat_lt x.name y.name ≡ b → AreRising (with_new x ys) → AreRising (with_new x (y ∷ ys))
    decide true e ih = let l = less_by x.name y.name e in subst AreRising (sym (with_before x y ys e)) ((l, above_more x.name y.name ys l r.0), r)
    decide false e ih = subst AreRising (sym (with_after x y ys e)) (above_with y.name x ys (more_by x.name y.name e o.0) r.0, ih)

spent_with : (loose : ℕ → Bool) (x : Named) (xs : List Named) → (loose x.name ≡ true → is_spent (Some x.held) ≡ true) → LooseAreSpent loose xs → LooseAreSpent loose (with_new x xs)
spent_with loose x [] h s = (h, tt)
spent_with loose x (y ∷ ys) h s = decide (nat_lt x.name y.name) refl (spent_with loose x ys h s.1)
  where
    decide : (b : Bool) → nat_lt x.name y.name ≡ b → LooseAreSpent loose (with_new x ys) → LooseAreSpent loose (with_new x (y ∷ ys))
    decide true e ih = subst (LooseAreSpent loose) (sym (with_before x y ys e)) (h, s)
    decide false e ih = subst (LooseAreSpent loose) (sym (with_after x y ys e)) (s.0, ih)

pub sorted_with : (loose : ℕ → Bool) (x : Named) (xs : List Named) → (loose x.name ≡ true → is_spent (Some x.held) ≡ true) → IsAbsent x.name xs → Sorted loose xs → Sorted loose (with_new x xs)
sorted_with loose x xs h o s = record { spent = spent_with loose x xs h s.spent; rising = rising_with x xs o s.rising }

pub length_with : (x : Named) (xs : List Named) → length (with_new x xs) ≡ suc (length xs)
length_with x [] = omega arith
length_with x (y ∷ ys) = decide (nat_lt x.name y.name) refl (length_with x ys)
  where
    decide : (b : Bool) → nat_lt x.name y.name ≡ b → length (with_new x ys) ≡ suc (length ys) → length (with_new x (y ∷ ys)) ≡ suc (length (y ∷ ys))
    decide true e ih = let l = ap length (with_before x y ys e) in omega (arith, l)
    decide false e ih = let l = ap length (with_after x y ys e) in let m = ih in omega (arith, l, m)

front : (x : Named) (zs : List Named) → AllAbove x.name zs → with_new x zs ≡ x ∷ zs
front x [] a = refl
front x (z ∷ zs) a = with_before x z zs (by_less x.name z.name a.0)

above_firm : (loose : ℕ → Bool) (n : ℕ) (xs : List Named) → AllAbove n xs → AllAbove n (firm_names loose xs)
above_firm loose n [] a = tt
above_firm loose n (x ∷ xs) a = decide (loose x.name) refl (above_firm loose n xs a.1)
  where
    decide : (b : Bool) → loose x.name ≡ b → AllAbove n (firm_names loose xs) → AllAbove n (firm_names loose (x ∷ xs))
    decide true e ih = subst (AllAbove n) (sym (firm_loose loose x xs e)) ih
    decide false e ih = subst (AllAbove n) (sym (firm_kept loose x xs e)) (a.0, ih)

pub firm_with : (loose : ℕ → Bool) (x : Named) (xs : List Named) → loose x.name ≡ false → AreRising xs → firm_names loose (with_new x xs) ≡ with_new (name_as_taken x) (firm_names loose xs)
firm_with loose x [] f r = firm_kept loose x [] f
firm_with loose x (y ∷ ys) f r = decide (nat_lt x.name y.name) (loose y.name) refl refl (firm_with loose x ys f r.1)
  where
    ahead : nat_lt x.name y.name ≡ true → AllAbove x.name (y ∷ ys)
    ahead e = let l = less_by x.name y.name e in (l, above_more x.name y.name ys l r.0)

    decide : (b l : Bool) → nat_lt x.name y.name ≡ b → loose y.name ≡ l → firm_names loose (with_new x ys) ≡ with_new (name_as_taken x) (firm_names loose ys) → firm_names loose (with_new x (y ∷ ys)) ≡ with_new (name_as_taken x) (firm_names loose (y ∷ ys))
    decide true l e h ih = ap (firm_names loose) (with_before x y ys e) ∙ firm_kept loose x (y ∷ ys) f ∙ sym (front (name_as_taken x) (firm_names loose (y ∷ ys)) (above_firm loose x.name (y ∷ ys) (ahead e)))
    decide false true e h ih = ap (firm_names loose) (with_after x y ys e) ∙ firm_loose loose y (with_new x ys) h ∙ ih ∙ ap (with_new (name_as_taken x)) (sym (firm_loose loose y ys h))
    decide false false e h ih = ap (firm_names loose) (with_after x y ys e) ∙ firm_kept loose y (with_new x ys) h ∙ ap (λ zs. name_as_taken y ∷ zs) ih ∙ sym (with_after (name_as_taken x) (name_as_taken y) (firm_names loose ys) e) ∙ ap (with_new (name_as_taken x)) (sym (firm_kept loose y ys h))

pub firm_with_loose : (loose : ℕ → Bool) (x : Named) (xs : List Named) → loose x.name ≡ true → firm_names loose (with_new x xs) ≡ firm_names loose xs
firm_with_loose loose x [] f = firm_loose loose x [] f
firm_with_loose loose x (y ∷ ys) f = decide (nat_lt x.name y.name) (loose y.name) refl refl (firm_with_loose loose x ys f)
  where
    decide : (b l : Bool) → nat_lt x.name y.name ≡ b → loose y.name ≡ l → firm_names loose (with_new x ys) ≡ firm_names loose ys → firm_names loose (with_new x (y ∷ ys)) ≡ firm_names loose (y ∷ ys)
    decide true l e h ih = ap (firm_names loose) (with_before x y ys e) ∙ firm_loose loose x (y ∷ ys) f
    decide false true e h ih = ap (firm_names loose) (with_after x y ys e) ∙ firm_loose loose y (with_new x ys) h ∙ ih ∙ sym (firm_loose loose y ys h)
    decide false false e h ih = ap (firm_names loose) (with_after x y ys e) ∙ firm_kept loose y (with_new x ys) h ∙ ap (λ zs. name_as_taken y ∷ zs) ih ∙ sym (firm_kept loose y ys h)

pub same_name : (n m : ℕ) → nat_eq n m ≡ true → n ≡ m
same_name n m e = grind (arith, nat_tests)

pub held_firm : (loose : ℕ → Bool) (c : ℕ) (xs : List Named) → loose c ≡ false → held_at c (firm_names loose xs) ≡ found_taken (held_at c xs)
held_firm loose c [] f = refl
held_firm loose c (x ∷ xs) f = decide (nat_eq x.name c) (loose x.name) refl refl (held_firm loose c xs f)
  where
    decide : (b l : Bool) → nat_eq x.name c ≡ b → loose x.name ≡ l → held_at c (firm_names loose xs) ≡ found_taken (held_at c xs) → held_at c (firm_names loose (x ∷ xs)) ≡ found_taken (held_at c (x ∷ xs))
    decide true true e h ih = absurd (false≢true (sym f ∙ ap loose (sym (same_name x.name c e)) ∙ h))
    decide true false e h ih = ap (held_at c) (firm_kept loose x xs h) ∙ held_here c (name_as_taken x) (firm_names loose xs) e ∙ ap found_taken (sym (held_here c x xs e))
    decide false true e h ih = ap (held_at c) (firm_loose loose x xs h) ∙ ih ∙ ap found_taken (sym (held_later c x xs e))
    decide false false e h ih = ap (held_at c) (firm_kept loose x xs h) ∙ held_later c (name_as_taken x) (firm_names loose xs) e ∙ ih ∙ ap found_taken (sym (held_later c x xs e))

pub held_spent : (loose : ℕ → Bool) (c : ℕ) (xs : List Named) → loose c ≡ true → LooseAreSpent loose xs → is_spent (held_at c xs) ≡ true
held_spent loose c [] f s = refl
held_spent loose c (x ∷ xs) f s = decide (nat_eq x.name c) refl (held_spent loose c xs f s.1)
  where
    decide : (b : Bool) → nat_eq x.name c ≡ b → is_spent (held_at c xs) ≡ true → is_spent (held_at c (x ∷ xs)) ≡ true
    decide true e ih = ap is_spent (held_here c x xs e) ∙ s.0 (ap loose (same_name x.name c e) ∙ f)
    decide false e ih = ap is_spent (held_later c x xs e) ∙ ih

pub name_held : (c : ℕ) (xs : List Named) → is_name c xs ≡ is_some (held_at c xs)
name_held c [] = refl
name_held c (x ∷ xs) = decide (nat_eq x.name c) refl (name_held c xs)
  where
    decide : (b : Bool) → nat_eq x.name c ≡ b → is_name c xs ≡ is_some (held_at c xs) → is_name c (x ∷ xs) ≡ is_some (held_at c (x ∷ xs))
    decide true e ih = ap (λ (b : Bool). b || is_name c xs) e ∙ ap is_some (sym (held_here c x xs e))
    decide false e ih = ap (λ (b : Bool). b || is_name c xs) e ∙ ih ∙ ap is_some (sym (held_later c x xs e))

-- the set of a task
task_taken : (n : ℕ) (h : Held) → has_task n (as_taken h) ≡ has_task n h
task_taken n (AskCell cell is_taken) = refl
task_taken n (Promise root) = refl
task_taken n (CellOf cell) = refl
task_taken n (HubOf hub) = refl
task_taken n (Group error tasks empty) = refl
task_taken n (Canceler wraps) = refl
task_taken n (RequestOf request) = refl

spent_taskless : (n : ℕ) (h : Held) → is_spent (Some h) ≡ true → has_task n h ≡ false
spent_taskless n (Group error tasks empty) e = absurd (false≢true e)
spent_taskless n (AskCell cell is_taken) e = refl
spent_taskless n (Promise root) e = refl
spent_taskless n (CellOf cell) e = refl
spent_taskless n (HubOf hub) e = refl
spent_taskless n (Canceler wraps) e = refl
spent_taskless n (RequestOf request) e = refl

tasked_same : (n : ℕ) (x : Named) → has_task n x.held ≡ true → name_as_taken x ≡ x
tasked_same n x e = ap (λ (h : Held). let y : Named = record { name = x.name; held = h } in y) (same x.held e)
  where
    same : (h : Held) → has_task n h ≡ true → as_taken h ≡ h
    same (AskCell cell is_taken) e = absurd (false≢true e)
    same (Promise root) e = refl
    same (CellOf cell) e = refl
    same (HubOf hub) e = refl
    same (Group error tasks empty) e = refl
    same (Canceler wraps) e = refl
    same (RequestOf request) e = refl

group_here : (n : ℕ) (x : Named) (xs : List Named) → has_task n x.held ≡ true → group_of n (x ∷ xs) ≡ Some x
group_here n x xs e = rw e refl

group_later : (n : ℕ) (x : Named) (xs : List Named) → has_task n x.held ≡ false → group_of n (x ∷ xs) ≡ group_of n xs
group_later n x xs e = rw e refl

pub group_firm : (loose : ℕ → Bool) (n : ℕ) (xs : List Named) → LooseAreSpent loose xs → group_of n (firm_names loose xs) ≡ group_of n xs
group_firm loose n [] s = refl
group_firm loose n (x ∷ xs) s = decide (loose x.name) (has_task n x.held) refl refl (group_firm loose n xs s.1)
  where
    decide : (l b : Bool) → loose x.name ≡ l → has_task n x.held ≡ b → group_of n (firm_names loose xs) ≡ group_of n xs → group_of n (firm_names loose (x ∷ xs)) ≡ group_of n (x ∷ xs)
    decide true b h e ih = ap (group_of n) (firm_loose loose x xs h) ∙ ih ∙ sym (group_later n x xs (spent_taskless n x.held (s.0 h)))
    decide false true h e ih = ap (group_of n) (firm_kept loose x xs h) ∙ group_here n (name_as_taken x) (firm_names loose xs) (task_taken n x.held ∙ e) ∙ ap Some (tasked_same n x e) ∙ sym (group_here n x xs e)
    decide false false h e ih = ap (group_of n) (firm_kept loose x xs h) ∙ group_later n (name_as_taken x) (firm_names loose xs) (task_taken n x.held ∙ e) ∙ ih ∙ sym (group_later n x xs e)

pub group_there : (n : ℕ) (xs : List Named) (x : Named) → group_of n xs ≡ Some x → has_task n x.held ≡ true
group_there n [] x e = absurd (none_some e)
  where
    none_some : None ≡ Some x → ⊥
    none_some h = false≢true (ap is_some h)
group_there n (y ∷ ys) x e = decide (has_task n y.held) refl (group_there n ys x)
  where
    as_some : (a b : Named) → Some a ≡ Some b → a ≡ b
    as_some a b h = ap (λ (o : Option Named). some_or a o) h
      where
        some_or : Named → Option Named → Named
        some_or a None = a
        some_or a (Some b) = b

    decide : (b : Bool) → has_task n y.held ≡ b → (group_of n ys ≡ Some x → has_task n x.held ≡ true) → has_task n x.held ≡ true
    decide true h ih = ap (λ (z : Named). has_task n z.held) (sym (as_some y x (sym (group_here n y ys h) ∙ e))) ∙ h
    decide false h ih = ih (sym (group_later n y ys h) ∙ e)

-- a tree in place of another
renamed_taken : (old new : ℕ) (h : Held) → as_taken (held_renamed old new h) ≡ held_renamed old new (as_taken h)
renamed_taken old new (AskCell cell is_taken) = refl
renamed_taken old new (Promise root) = refl
renamed_taken old new (CellOf cell) = refl
renamed_taken old new (HubOf hub) = refl
renamed_taken old new (Group error tasks empty) = refl
renamed_taken old new (Canceler wraps) = refl
renamed_taken old new (RequestOf request) = refl

spent_renamed : (old new : ℕ) (h : Held) → is_spent (Some h) ≡ true → is_spent (Some (held_renamed old new h)) ≡ true
spent_renamed old new (Promise root) e = e
spent_renamed old new (AskCell cell is_taken) e = e
spent_renamed old new (CellOf cell) e = e
spent_renamed old new (HubOf hub) e = e
spent_renamed old new (Group error tasks empty) e = e
spent_renamed old new (Canceler wraps) e = e
spent_renamed old new (RequestOf request) e = e

pub firm_renamed : (loose : ℕ → Bool) (old new : ℕ) (xs : List Named) → firm_names loose (map (named_renamed old new) xs) ≡ map (named_renamed old new) (firm_names loose xs)
firm_renamed loose old new [] = refl
firm_renamed loose old new (x ∷ xs) = decide (loose x.name) refl (firm_renamed loose old new xs)
  where
    head : name_as_taken (named_renamed old new x) ≡ named_renamed old new (name_as_taken x)
    head = ap (λ (h : Held). let y : Named = record { name = x.name; held = h } in y) (renamed_taken old new x.held)

    decide : (l : Bool) → loose x.name ≡ l → firm_names loose (map (named_renamed old new) xs) ≡ map (named_renamed old new) (firm_names loose xs) → firm_names loose (map (named_renamed old new) (x ∷ xs)) ≡ map (named_renamed old new) (firm_names loose (x ∷ xs))
    decide true h ih = firm_loose loose (named_renamed old new x) (map (named_renamed old new) xs) h ∙ ih ∙ ap (map (named_renamed old new)) (sym (firm_loose loose x xs h))
    decide false h ih = firm_kept loose (named_renamed old new x) (map (named_renamed old new) xs) h ∙ ap (λ (y : Named). y ∷ firm_names loose (map (named_renamed old new) xs)) head ∙ ap (λ ys. named_renamed old new (name_as_taken x) ∷ ys) ih ∙ ap (map (named_renamed old new)) (sym (firm_kept loose x xs h))

above_renamed : (old new n : ℕ) (xs : List Named) → AllAbove n xs → AllAbove n (map (named_renamed old new) xs)
above_renamed old new n [] a = tt
above_renamed old new n (x ∷ xs) a = (a.0, above_renamed old new n xs a.1)

pub sorted_renamed : (loose : ℕ → Bool) (old new : ℕ) (xs : List Named) → Sorted loose xs → Sorted loose (map (named_renamed old new) xs)
sorted_renamed loose old new xs s = record { spent = spent xs s.spent; rising = rising xs s.rising }
  where
    spent : (ys : List Named) → LooseAreSpent loose ys → LooseAreSpent loose (map (named_renamed old new) ys)
    spent [] h = tt
    spent (y ∷ ys) h = (λ l. spent_renamed old new y.held (h.0 l), spent ys h.1)

    rising : (ys : List Named) → AreRising ys → AreRising (map (named_renamed old new) ys)
    rising [] h = tt
    rising (y ∷ ys) h = (above_renamed old new y.name ys h.0, rising ys h.1)

pub length_renamed : (old new : ℕ) (xs : List Named) → length (map (named_renamed old new) xs) ≡ length xs
length_renamed old new [] = refl
length_renamed old new (x ∷ xs) = let h = length_renamed old new xs in omega (arith, h)

-- the set of a task has a firm name that is there
group_case : (P : Named → Type 0) (n : ℕ) (y x : Named) (ys : List Named) → (has_task n y.held ≡ true → P y) → (group_of n ys ≡ Some x → P x) → group_of n (y ∷ ys) ≡ Some x → P x
group_case P n y x ys here later e = decide (has_task n y.held) refl
  where
    some_or : Named → Option Named → Named
    some_or a None = a
    some_or a (Some b) = b

    decide : (b : Bool) → has_task n y.held ≡ b → P x
    decide true h = subst P (ap (some_or y) (sym (group_here n y ys h) ∙ e)) (here h)
    decide false h = later (sym (group_later n y ys h) ∙ e)

pub group_spent : (loose : ℕ → Bool) (n : ℕ) (xs : List Named) (x : Named) → LooseAreSpent loose xs → group_of n xs ≡ Some x → loose x.name ≡ true → is_spent (Some x.held) ≡ true
group_spent loose n [] x s e = absurd (false≢true (ap is_some e))
group_spent loose n (y ∷ ys) x s e = group_case (λ z. loose z.name ≡ true → is_spent (Some z.held) ≡ true) n y x ys (λ h. s.0) (group_spent loose n ys x s.1) e

present_more : (y : Named) (ys : List Named) (c : ℕ) → is_some (held_at c ys) ≡ true → is_some (held_at c (y ∷ ys)) ≡ true
present_more y ys c h = decide (nat_eq y.name c) refl
  where
    decide : (b : Bool) → nat_eq y.name c ≡ b → is_some (held_at c (y ∷ ys)) ≡ true
    decide true e = ap is_some (held_here c y ys e)
    decide false e = ap is_some (held_later c y ys e) ∙ h

self_name : (n : ℕ) → nat_eq n n ≡ true
self_name n = grind (arith, nat_tests)

pub group_present : (n : ℕ) (xs : List Named) (x : Named) → group_of n xs ≡ Some x → is_some (held_at x.name xs) ≡ true
group_present n [] x e = absurd (false≢true (ap is_some e))
group_present n (y ∷ ys) x e = group_case (λ z. is_some (held_at z.name (y ∷ ys)) ≡ true) n y x ys (λ h. ap is_some (held_here y.name y ys (self_name y.name))) (λ h. present_more y ys x.name (group_present n ys x h)) e

pub group_no_loose : (loose : ℕ → Bool) (n : ℕ) (xs : List Named) (x : Named) → LooseAreSpent loose xs → group_of n xs ≡ Some x → loose x.name ≡ true → ⊥
group_no_loose loose n xs x s e l = false≢true (sym (spent_taskless n x.held (group_spent loose n xs x s e l)) ∙ group_there n xs x e)

-- a loose name more or less
pub firm_no_loose : (loose : ℕ → Bool) (c : ℕ) (xs : List Named) → loose c ≡ true → without_name c (firm_names loose xs) ≡ firm_names loose xs
firm_no_loose loose c [] l = refl
firm_no_loose loose c (x ∷ xs) l = decide (loose x.name) refl (firm_no_loose loose c xs l)
  where
    differs : loose x.name ≡ false → nat_eq x.name c ≡ false
    differs h = by_case (nat_eq x.name c) refl
      where
        by_case : (b : Bool) → nat_eq x.name c ≡ b → nat_eq x.name c ≡ false
        by_case false e = e
        by_case true e = absurd (false≢true (sym h ∙ ap loose (same_name x.name c e) ∙ l))

    decide : (b : Bool) → loose x.name ≡ b → without_name c (firm_names loose xs) ≡ firm_names loose xs → without_name c (firm_names loose (x ∷ xs)) ≡ firm_names loose (x ∷ xs)
    decide true h ih = ap (without_name c) (firm_loose loose x xs h) ∙ ih ∙ sym (firm_loose loose x xs h)
    decide false h ih = ap (without_name c) (firm_kept loose x xs h) ∙ without_other c (name_as_taken x) (firm_names loose xs) (differs h) ∙ ap (λ ys. name_as_taken x ∷ ys) ih ∙ sym (firm_kept loose x xs h)

-- a name that holds the same again
without_above : (c : ℕ) (xs : List Named) → AllAbove c xs → without_name c xs ≡ xs
without_above c [] a = refl
without_above c (x ∷ xs) a = without_other c x xs (apart c x.name a.0) ∙ ap (λ ys. x ∷ ys) (without_above c xs a.1)
  where
    apart : (n m : ℕ) → n < m → nat_eq m n ≡ false
    apart n m l = grind (arith, nat_tests)

held_above : (n c : ℕ) (xs : List Named) → AllAbove n xs → is_some (held_at c xs) ≡ true → n < c
held_above n c [] a h = absurd (false≢true h)
held_above n c (x ∷ xs) a h = decide (nat_eq x.name c) refl (held_above n c xs a.1)
  where
    decide : (b : Bool) → nat_eq x.name c ≡ b → (is_some (held_at c xs) ≡ true → n < c) → n < c
    decide true e ih = subst (λ (m : ℕ). n < m) (same_name x.name c e) a.0
    decide false e ih = ih (sym (ap is_some (held_later c x xs e)) ∙ h)

not_less : (n m : ℕ) → n < m → nat_lt m n ≡ false
not_less n m l = grind (arith, nat_tests)

pub named_again : (c : ℕ) (h : Held) (xs : List Named) → AreRising xs → held_at c xs ≡ Some h → with_new (record { name = c; held = h }) (without_name c xs) ≡ xs
named_again c h [] r e = absurd (false≢true (ap is_some e))
named_again c h (x ∷ xs) r e = decide (nat_eq x.name c) refl (named_again c h xs r.1)
  where
    held_or : Option Held → Held
    held_or None = h
    held_or (Some k) = k

    decide : (b : Bool) → nat_eq x.name c ≡ b → (held_at c xs ≡ Some h → with_new (record { name = c; held = h }) (without_name c xs) ≡ xs) → with_new (record { name = c; held = h }) (without_name c (x ∷ xs)) ≡ x ∷ xs
    decide true d ih =
        let y : Named = record { name = c; held = h } in
        let same = same_name x.name c d in
        let above = subst (λ (m : ℕ). AllAbove m xs) same r.0 in
        let one : x ≡ y = ap (λ (m : ℕ). let z : Named = record { name = m; held = x.held } in z) same ∙ ap (λ (k : Held). let z : Named = record { name = c; held = k } in z) (ap held_or (sym (held_here c x xs d) ∙ e)) in
        ap (with_new y) (without_here c x xs d ∙ without_above c xs above) ∙ front y xs above ∙ ap (λ (z : Named). z ∷ xs) (sym one)
    decide false d ih =
        let y : Named = record { name = c; held = h } in
        let rest = sym (held_later c x xs d) ∙ e in
        let less = held_above x.name c xs r.0 (ap is_some rest) in
        ap (with_new y) (without_other c x xs d) ∙ with_after y x (without_name c xs) (not_less x.name c less) ∙ ap (λ ys. x ∷ ys) (ih rest)

pub rising_firm : (loose : ℕ → Bool) (xs : List Named) → AreRising xs → AreRising (firm_names loose xs)
rising_firm loose [] r = tt
rising_firm loose (x ∷ xs) r = decide (loose x.name) refl (rising_firm loose xs r.1)
  where
    decide : (b : Bool) → loose x.name ≡ b → AreRising (firm_names loose xs) → AreRising (firm_names loose (x ∷ xs))
    decide true e ih = subst AreRising (sym (firm_loose loose x xs e)) ih
    decide false e ih = subst AreRising (sym (firm_kept loose x xs e)) (above_firm loose x.name xs r.0, ih)
