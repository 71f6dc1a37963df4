-- The place of a name among entries whose names rise.
use Rattle.std.proofs.Common.{◌≡◌, ℕ, zero, suc, ◌<◌, ◌≤◌, cond, Bool, true, false, List, [], ◌∷◌, Option, None, Some, length, get_or, refl, sym, ap, ◌∙◌, subst, arith}
use Rattle.std.specs.Prelude.{nat_lt, nat_eq, slice_get, slice_set, insert, remove}
use Rattle.std.specs.List.{AllByRecursion}
use Rattle.std.specs.List.Sorted.{IsPartitionPoint, IsNonDecreasingBy}
use Rattle.std.proofs.lemmas.Bool.{false≢true}
use Rattle.std.proofs.lemmas.Bool.Decides.{nat_tests}
use Rattle.promise_names.specs.declared.names.Held.{Held}
use Rattle.name_table.specs.declared.entries.Entry.{Entry}
use Rattle.name_table.specs.Entries.{IsRising, rank, is_named, is_name_at, held_if, held_in, without_entry, with_entry, entered}

pub less_tests : (a b : ℕ) → a < b → nat_lt a b ≡ true
less_tests a b h = grind (arith, nat_tests)

pub less_isnt : (a b : ℕ) → a < b → nat_eq b a ≡ false
less_isnt a b h = grind (arith, nat_tests)

pub lower_isnt : (a b : ℕ) → nat_lt a b ≡ true → nat_eq a b ≡ false
lower_isnt a b h = grind (arith, nat_tests)

pub lower_not_above : (a b : ℕ) → nat_lt a b ≡ true → nat_lt b a ≡ false
lower_not_above a b h = grind (arith, nat_tests)

pub lower_is : (a b : ℕ) → nat_lt a b ≡ true → a < b
lower_is a b h = grind (arith, nat_tests)

pub other_is_above : (a b : ℕ) → nat_lt a b ≡ false → nat_eq a b ≡ false → b < a
other_is_above a b h k = grind (arith, nat_tests)

pub same_is : (a b : ℕ) → nat_eq a b ≡ true → a ≡ b
same_is a b h = grind (arith, nat_tests)

-- each of these has a greater name
abbrev pub AreAbove : ℕ → List Entry → Type 0
AreAbove n es = AllByRecursion (λ (later : Entry). n < later.name.0) es

pub above_lower : (a b : ℕ) (es : List Entry) → a < b → AreAbove b es → AreAbove a es
above_lower a b [] h all = tt
above_lower a b (e ∷ es) h all = (omega (arith, h, all.0), above_lower a b es h all.1)

pub above_same : (a b : ℕ) (es : List Entry) → nat_eq a b ≡ true → AreAbove a es → AreAbove b es
above_same a b es h all = subst (λ (n : ℕ). AreAbove n es) (same_is a b h) all

later_at : (n : ℕ) (es : List Entry) → AreAbove n es → (j : ℕ) (d : Entry) → j < length es → n < (get_or es j d).name.0
later_at n [] h j d low = absurd (omega arith)
later_at n (e ∷ es) h zero d low = h.0
later_at n (e ∷ es) h (suc j) d low = later_at n es h.1 j d (omega arith)

ordered_at : (es : List Entry) → IsRising es → (i j : ℕ) (d : Entry) → i ≤ j → j < length es → (get_or es i d).name.0 ≤ (get_or es j d).name.0
ordered_at [] r i j d le low = absurd (omega arith)
ordered_at (e ∷ es) r zero zero d le low = omega arith
ordered_at (e ∷ es) r zero (suc j) d le low = let k = later_at e.name.0 es r.0 j d (omega arith) in omega (arith, k)
ordered_at (e ∷ es) r (suc i) zero d le low = absurd (omega arith)
ordered_at (e ∷ es) r (suc i) (suc j) d le low = ordered_at es r.1 i j d (omega arith) (omega arith)

pub rising_ordered : (es : List Entry) → IsRising es → IsNonDecreasingBy (λ (e : Entry). e.name.0) es
rising_ordered es r i j d le low = ordered_at es r i j d le low

-- ---- the place that a bisection finds

pub rank_is : (n : ℕ) (es : List Entry) (place : ℕ) → IsPartitionPoint (λ (e : Entry). nat_lt e.name.0 n ≡ true) (λ (e : Entry). nat_lt e.name.0 n ≡ false) es place → place ≤ length es → place ≡ rank n es
rank_is n [] zero h le = refl
rank_is n [] (suc p) h le = absurd (omega arith)
rank_is n (e ∷ es) zero h le =
    let here : nat_lt e.name.0 n ≡ false = h.1 0 e (omega arith) (omega arith) in rw here refl
rank_is n (e ∷ es) (suc p) h le =
    let here : nat_lt e.name.0 n ≡ true = h.0 0 e (omega arith) (omega arith) in
    let rest : p ≡ rank n es = rank_is n es p (λ k d low high. h.0 (suc k) d (omega arith) (omega arith), λ k d low high. h.1 (suc k) d (omega arith) (omega arith)) (omega arith) in
    rw here (ap (λ (k : ℕ). suc k) rest)

pub name_within : (n : ℕ) (es : List Entry) (place : ℕ) → is_name_at n es place ≡ true → place < length es
name_within n [] place h = absurd (false≢true h)
name_within n (e ∷ es) zero h = omega arith
name_within n (e ∷ es) (suc p) h = let k = name_within n es p h in omega (arith, k)

-- ---- greater names don't matter

pub stay_above : (n : ℕ) (es : List Entry) → AreAbove n es → without_entry n es ≡ es
stay_above n [] all = refl
stay_above n (e ∷ es) all = rw (less_isnt n e.name.0 all.0) (ap (λ (l : List Entry). e ∷ l) (stay_above n es all.1))

pub goes_first : (x : Entry) (es : List Entry) → AreAbove x.name.0 es → with_entry x es ≡ x ∷ es
goes_first x [] all = refl
goes_first x (e ∷ es) all = rw (less_tests x.name.0 e.name.0 all.0) refl

pub none_above : (n : ℕ) (es : List Entry) → AreAbove n es → held_in n es ≡ None
none_above n [] all = refl
none_above n (e ∷ es) all = rw (less_isnt n e.name.0 all.0) (none_above n es all.1)

-- ---- what a name holds

if_same : (b : Bool) (h : Held) (o : Option Held) → (b ≡ false → o ≡ None) → ◌≡◌ {A = Option Held} (cond b (Some h) None) (cond b (Some h) o)
if_same true h o none = refl
if_same false h o none = sym (none refl)

found_step : (n : ℕ) (e : Entry) (es : List Entry) (b : Bool) → nat_lt e.name.0 n ≡ b → AreAbove e.name.0 es → held_if n (slice_get es (rank n es)) ≡ held_in n es
    → held_if n (slice_get (e ∷ es) (rank n (e ∷ es))) ≡ held_in n (e ∷ es)
found_step n e es true t all ih = rw (t, lower_isnt e.name.0 n t) ih
found_step n e es false t all ih =
    rw t (if_same (nat_eq e.name.0 n) e.held (held_in n es) (λ other. none_above n es (above_lower n e.name.0 es (other_is_above e.name.0 n t other) all)))

pub found_is : (n : ℕ) (es : List Entry) → IsRising es → held_if n (slice_get es (rank n es)) ≡ held_in n es
found_is n [] r = refl
found_is n (e ∷ es) r = found_step n e es (nat_lt e.name.0 n) refl r.0 (found_is n es r.1)

none_if : (n : ℕ) (o : Option Entry) → is_named n o ≡ false → held_if n o ≡ None
none_if n None h = refl
none_if n (Some e) h = rw h refl

pub absent_is : (n : ℕ) (es : List Entry) → IsRising es → is_name_at n es (rank n es) ≡ false → held_in n es ≡ None
absent_is n es r h = sym (found_is n es r) ∙ none_if n (slice_get es (rank n es)) h

-- ---- a name holds this now

put_step : (x e : Entry) (es : List Entry) (b : Bool) → nat_lt e.name.0 x.name.0 ≡ b → AreAbove e.name.0 es
    → (is_name_at x.name.0 es (rank x.name.0 es) ≡ true → slice_set es (rank x.name.0 es) x ≡ entered x es)
    → is_name_at x.name.0 (e ∷ es) (rank x.name.0 (e ∷ es)) ≡ true → slice_set (e ∷ es) (rank x.name.0 (e ∷ es)) x ≡ entered x (e ∷ es)
put_step x e es true t all ih h =
    let n = x.name.0 in
    rw (t, lower_isnt e.name.0 n t, lower_not_above e.name.0 n t) (ap (λ (l : List Entry). e ∷ l) (ih (rw t at h)))
put_step x e es false t all ih h =
    let n = x.name.0 in
    let same : nat_eq e.name.0 n ≡ true = rw t at h in
    let above : AreAbove n es = above_same e.name.0 n es same all in
    rw (t, same) (sym (ap (with_entry x) (stay_above n es above) ∙ goes_first x es above))

pub put_there : (x : Entry) (es : List Entry) → IsRising es → is_name_at x.name.0 es (rank x.name.0 es) ≡ true → slice_set es (rank x.name.0 es) x ≡ entered x es
put_there x [] r h = absurd (false≢true h)
put_there x (e ∷ es) r h = put_step x e es (nat_lt e.name.0 x.name.0) refl r.0 (put_there x es r.1) h

anew_step : (x e : Entry) (es : List Entry) (b : Bool) → nat_lt e.name.0 x.name.0 ≡ b → AreAbove e.name.0 es
    → (is_name_at x.name.0 es (rank x.name.0 es) ≡ false → insert es (rank x.name.0 es) x ≡ entered x es)
    → is_name_at x.name.0 (e ∷ es) (rank x.name.0 (e ∷ es)) ≡ false → insert (e ∷ es) (rank x.name.0 (e ∷ es)) x ≡ entered x (e ∷ es)
anew_step x e es true t all ih h =
    let n = x.name.0 in
    rw (t, lower_isnt e.name.0 n t, lower_not_above e.name.0 n t) (ap (λ (l : List Entry). e ∷ l) (ih (rw t at h)))
anew_step x e es false t all ih h =
    let n = x.name.0 in
    let other : nat_eq e.name.0 n ≡ false = rw t at h in
    let less : n < e.name.0 = other_is_above e.name.0 n t other in
    let first : nat_lt n e.name.0 ≡ true = less_tests n e.name.0 less in
    rw (t, other, first) (ap (λ (l : List Entry). x ∷ e ∷ l) (sym (stay_above n es (above_lower n e.name.0 es less all))))

pub put_anew : (x : Entry) (es : List Entry) → IsRising es → is_name_at x.name.0 es (rank x.name.0 es) ≡ false → insert es (rank x.name.0 es) x ≡ entered x es
put_anew x [] r h = refl
put_anew x (e ∷ es) r h = anew_step x e es (nat_lt e.name.0 x.name.0) refl r.0 (put_anew x es r.1) h

-- ---- a name goes

taken_step : (n : ℕ) (e : Entry) (es : List Entry) (b : Bool) → nat_lt e.name.0 n ≡ b → AreAbove e.name.0 es
    → (is_name_at n es (rank n es) ≡ true → remove es (rank n es) ≡ without_entry n es)
    → is_name_at n (e ∷ es) (rank n (e ∷ es)) ≡ true → remove (e ∷ es) (rank n (e ∷ es)) ≡ without_entry n (e ∷ es)
taken_step n e es true t all ih h = rw (t, lower_isnt e.name.0 n t) (ap (λ (l : List Entry). e ∷ l) (ih (rw t at h)))
taken_step n e es false t all ih h =
    let same : nat_eq e.name.0 n ≡ true = rw t at h in
    rw (t, same) (sym (stay_above n es (above_same e.name.0 n es same all)))

pub taken_there : (n : ℕ) (es : List Entry) → IsRising es → is_name_at n es (rank n es) ≡ true → remove es (rank n es) ≡ without_entry n es
taken_there n [] r h = absurd (false≢true h)
taken_there n (e ∷ es) r h = taken_step n e es (nat_lt e.name.0 n) refl r.0 (taken_there n es r.1) h

stays_step : (n : ℕ) (e : Entry) (es : List Entry) (b : Bool) → nat_lt e.name.0 n ≡ b → AreAbove e.name.0 es
    → (is_name_at n es (rank n es) ≡ false → without_entry n es ≡ es)
    → is_name_at n (e ∷ es) (rank n (e ∷ es)) ≡ false → without_entry n (e ∷ es) ≡ e ∷ es
stays_step n e es true t all ih h = rw (lower_isnt e.name.0 n t) (ap (λ (l : List Entry). e ∷ l) (ih (rw t at h)))
stays_step n e es false t all ih h =
    let other : nat_eq e.name.0 n ≡ false = rw t at h in
    rw other (ap (λ (l : List Entry). e ∷ l) (stay_above n es (above_lower n e.name.0 es (other_is_above e.name.0 n t other) all)))

pub stays_absent : (n : ℕ) (es : List Entry) → IsRising es → is_name_at n es (rank n es) ≡ false → without_entry n es ≡ es
stays_absent n [] r h = refl
stays_absent n (e ∷ es) r h = stays_step n e es (nat_lt e.name.0 n) refl r.0 (stays_absent n es r.1) h

-- ---- a name that holds this already

same_entry : (e x : Entry) → e.name.0 ≡ x.name.0 → e.held ≡ x.held → x ≡ e
same_entry e x names held = sym (ap (λ (n : ℕ). entry_of n e.held) names ∙ ap (entry_of x.name.0) held)
  where
    entry_of : ℕ → Held → Entry
    entry_of n h = record { name = record { 0 = n }; held = h }

some_same : (a b : Held) → ◌≡◌ {A = Option Held} (Some a) (Some b) → a ≡ b
some_same a b e = cc

some_none : (a : Held) → ◌≡◌ {A = Option Held} None (Some a) → ⊥
some_none a k = cc

again_here : (x e : Entry) (es : List Entry) (c : Bool) → nat_lt e.name.0 x.name.0 ≡ false → nat_eq e.name.0 x.name.0 ≡ c → AreAbove e.name.0 es
    → held_in x.name.0 (e ∷ es) ≡ Some x.held → entered x (e ∷ es) ≡ e ∷ es
again_here x e es true t same all h =
    let n = x.name.0 in
    let above : AreAbove n es = above_same e.name.0 n es same all in
    let held : e.held ≡ x.held = some_same e.held x.held (rw same at h) in
    rw same (ap (with_entry x) (stay_above n es above) ∙ goes_first x es above ∙ ap (λ (y : Entry). y ∷ es) (same_entry e x (same_is e.name.0 n same) held))
again_here x e es false t other all h =
    let n = x.name.0 in
    let none : held_in n es ≡ None = none_above n es (above_lower n e.name.0 es (other_is_above e.name.0 n t other) all) in
    absurd (some_none x.held (sym none ∙ (rw other at h)))

again_step : (x e : Entry) (es : List Entry) (b : Bool) → nat_lt e.name.0 x.name.0 ≡ b → AreAbove e.name.0 es
    → (held_in x.name.0 es ≡ Some x.held → entered x es ≡ es) → held_in x.name.0 (e ∷ es) ≡ Some x.held → entered x (e ∷ es) ≡ e ∷ es
again_step x e es true t all ih h =
    let n = x.name.0 in
    let other : nat_eq e.name.0 n ≡ false = lower_isnt e.name.0 n t in
    rw (other, lower_not_above e.name.0 n t) (ap (λ (l : List Entry). e ∷ l) (ih (rw other at h)))
again_step x e es false t all ih h = again_here x e es (nat_eq e.name.0 x.name.0) t refl all h

pub put_again : (x : Entry) (es : List Entry) → IsRising es → held_in x.name.0 es ≡ Some x.held → entered x es ≡ es
put_again x [] r h = absurd (some_none x.held h)
put_again x (e ∷ es) r h = again_step x e es (nat_lt e.name.0 x.name.0) refl r.0 (put_again x es r.1) h
