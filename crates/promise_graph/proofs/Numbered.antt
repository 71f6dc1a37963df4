-- Finding a slot by a number, where numbers rise.
use Rattle.std.proofs.Common.{◌≡◌, ℕ, zero, suc, ◌<◌, ◌≤◌, cond, Bool, true, false, List, [], ◌∷◌, ◌++◌, Option, None, Some, length, get_or, refl, sym, ap, ◌∙◌, arith, inl, inr}
use Rattle.std.specs.Prelude.{nat_lt, nat_eq, ◌==◌, filter, unwrap_or, slice_index_or, IsSome}
use Rattle.std.specs.List.{AllByRecursion}
use Rattle.std.specs.List.Sorted.{IsNonDecreasingBy}
use Rattle.std.proofs.lemmas.Bool.{cases_eq}
use Rattle.std.proofs.lemmas.Bool.Decides.{nat_tests}
use Rattle.kj_base.specs.declared.nodes.Node.{Node}
use Rattle.promise_graph.specs.declared.index.Entry.{Entry}
use Rattle.promise_graph.specs.declared.fields.Marks.{Marks}
use Rattle.promise_graph.specs.Slots.{IsRising, AreBelow, slot_in, number_at, IsAbsent, Finds, one_up, place_of, slot_of}
use Rattle.promise_graph.specs.Kept.{AreNumbered}

later_at : (m : ℕ) (es : List Entry) → AllByRecursion (λ (later : Entry). m < later.number) es → (j : ℕ) (d : Entry) → j < length es → m < (get_or es j d).number
later_at m [] h j d low = absurd (omega arith)
later_at m (e ∷ es) h zero d low = h.0
later_at m (e ∷ es) h (suc j) d low = later_at m es h.1 j d (omega arith)

rising_at : (es : List Entry) → IsRising es → (i j : ℕ) (d : Entry) → i < j → j < length es → (get_or es i d).number < (get_or es j d).number
rising_at [] h i j d less low = absurd (omega arith)
rising_at (e ∷ es) h zero zero d less low = absurd (omega arith)
rising_at (e ∷ es) h zero (suc j) d less low = later_at e.number es h.0 j d (omega arith)
rising_at (e ∷ es) h (suc i) zero d less low = absurd (omega arith)
rising_at (e ∷ es) h (suc i) (suc j) d less low = rising_at es h.1 i j d (omega arith) (omega arith)

ordered_case : (es : List Entry) → IsRising es → (i j : ℕ) (d : Entry) → j < length es → (b : Bool) → nat_lt i j ≡ b → i ≤ j → (get_or es i d).number ≤ (get_or es j d).number
ordered_case es h i j d low true t le = omega (arith, rising_at es h i j d (grind (arith, nat_tests)) low)
ordered_case es h i j d low false t le =
    let same : i ≡ j = grind (arith, nat_tests) in
    omega (arith, ap (λ (k : ℕ). (get_or es k d).number) same)

pub rising_ordered : (es : List Entry) → IsRising es → IsNonDecreasingBy (λ (e : Entry). e.number) es
rising_ordered es h i j d le low = ordered_case es h i j d low _ refl le

pub differ : (a b : ℕ) → (a ≡ b → ⊥) → nat_eq a b ≡ false
differ a b h = differ_case (nat_eq a b) refl
  where
    differ_case : (t : Bool) → nat_eq a b ≡ t → nat_eq a b ≡ false
    differ_case false e = e
    differ_case true e = absurd (h (grind (arith, nat_tests)))

apart : (a b : ℕ) → a < b → nat_eq a b ≡ false
apart a b less = grind (arith, nat_tests)

nowhere : (n : ℕ) (es : List Entry) → ((k : ℕ) (d : Entry) → k < length es → (get_or es k d).number ≡ n → ⊥) → slot_in n es ≡ None
nowhere n [] h = refl
nowhere n (e ∷ es) h =
    ap (λ (b : Bool). cond b (Some e.slot) (slot_in n es)) (differ e.number n (h 0 e (omega arith)))
    ∙ nowhere n es (λ k d low. h (suc k) d (omega arith))

pub slot_here : (n : ℕ) (es : List Entry) → IsRising es → (place : ℕ) (d : Entry) → place < length es → (get_or es place d).number ≡ n → slot_in n es ≡ Some (get_or es place d).slot
slot_here n [] h place d low same = absurd (omega arith)
slot_here n (e ∷ es) h zero d low same =
    let here : nat_eq e.number n ≡ true = grind (arith, nat_tests) in
    ap (λ (b : Bool). cond b (Some e.slot) (slot_in n es)) here
slot_here n (e ∷ es) h (suc place) d low same =
    let less = later_at e.number es h.0 place d (omega arith) in
    ap (λ (b : Bool). cond b (Some e.slot) (slot_in n es)) (apart e.number n (omega (arith, less, same)))
    ∙ slot_here n es h.1 place d (omega arith) same

less_not : (a b : ℕ) → nat_lt a b ≡ true → a ≡ b → ⊥
less_not a b h same = absurd (grind (arith, nat_tests))

pub all_lower : (n : ℕ) (es : List Entry) (place : ℕ) → AreBelow n es place → length es ≤ place → slot_in n es ≡ None
all_lower n es place h long = nowhere n es (λ k d low same. less_not (get_or es k d).number n (h.0 k d (omega arith) (omega arith)) same)

after_case : (n : ℕ) (es : List Entry) (place : ℕ) → IsRising es → AreBelow n es place → place < length es → ((d : Entry) → (get_or es place d).number ≡ n → ⊥)
    → (k : ℕ) (d : Entry) → k < length es → (get_or es k d).number ≡ n → (b c : Bool) → nat_lt k place ≡ b → nat_lt place k ≡ c → ⊥
after_case n es place rising h within other k d low same true c s t =
    less_not (get_or es k d).number n (h.0 k d (omega arith) (grind (arith, nat_tests))) same
after_case n es place rising h within other k d low same false true s t =
    let less = rising_at es rising place k d (grind (arith, nat_tests)) low in
    let here = h.1 place d (omega arith) within in
    absurd (grind (arith, nat_tests))
after_case n es place rising h within other k d low same false false s t =
    let equal : k ≡ place = grind (arith, nat_tests) in
    other d (ap (λ (i : ℕ). (get_or es i d).number) (sym equal) ∙ same)

pub another : (n : ℕ) (es : List Entry) (place : ℕ) → IsRising es → AreBelow n es place → place < length es → ((d : Entry) → (get_or es place d).number ≡ n → ⊥) → slot_in n es ≡ None
another n es place rising h within other = nowhere n es (λ k d low same. after_case n es place rising h within other k d low same _ _ refl refl)

-- ---- the slots of live nodes

some_same : (a b : ℕ) → ◌≡◌ {A = Option ℕ} (Some a) (Some b) → a ≡ b
some_same a b e = cc

none_some : (a : ℕ) → ◌≡◌ {A = Option ℕ} None (Some a) → ⊥
none_some a e = cc

pub absent_out : (at : ℕ → Option Node) (index : List Entry) (n : ℕ) → ((s m : ℕ) → number_at at s ≡ Some m → slot_in m index ≡ Some s) → slot_in n index ≡ None → IsAbsent at n
absent_out at index n indexed none s live = none_some s (sym none ∙ indexed s n live)

pub absent_stale : (at : ℕ → Option Node) (numbers : List ℕ) (index : List Entry) (n t slots : ℕ) → ((s m : ℕ) → number_at at s ≡ Some m → slot_in m index ≡ Some s)
    → ((s : ℕ) → s < slots → slice_index_or numbers s 0 ≡ unwrap_or (number_at at s) 0) → ((s m : ℕ) → number_at at s ≡ Some m → s < slots)
    → slot_in n index ≡ Some t → (slice_index_or numbers t 0 == n) ≡ false → IsAbsent at n
absent_stale at numbers index n t slots indexed is low found other s live =
    let same : s ≡ t = some_same s t (sym (indexed s n live) ∙ found) in
    let here : slice_index_or numbers s 0 ≡ n = is s (low s n live) ∙ ap (λ (o : Option ℕ). unwrap_or o 0) live in
    let there : slice_index_or numbers t 0 ≡ n = ap (λ (i : ℕ). slice_index_or numbers i 0) (sym same) ∙ here in
    absurd (grind (arith, nat_tests))

number_of_case : (o : Option ℕ) (n : ℕ) → 0 < n → unwrap_or o 0 ≡ n → o ≡ Some n
number_of_case None n p h = absurd (omega (arith, h))
number_of_case (Some m) n p h = ap (λ (k : ℕ). Some k) h

pub low_case : (numbers : List ℕ) (t n : ℕ) → 0 < n → slice_index_or numbers t 0 ≡ n → t < length numbers
low_case [] t n p h = absurd (omega (arith, h))
low_case (m ∷ ms) zero n p h = omega arith
low_case (m ∷ ms) (suc t) n p h = let k = low_case ms t n p h in omega (arith, k)

pub live_found : (at : ℕ → Option Node) (numbers : List ℕ) (n t slots : ℕ) → length numbers ≡ slots
    → ((s : ℕ) → s < slots → slice_index_or numbers s 0 ≡ unwrap_or (number_at at s) 0) → (n ≡ 0 → ⊥) → (slice_index_or numbers t 0 == n) ≡ true → number_at at t ≡ Some n
live_found at numbers n t slots len is positive here =
    let p : 0 < n = elim (cases_eq n 0) [ inl e ↦ absurd (positive e) | inr e ↦ omega (arith, e) ] in
    let same : slice_index_or numbers t 0 ≡ n = grind (arith, nat_tests) in
    number_of_case (number_at at t) n p (sym (is t (omega (arith, low_case numbers t n p same, len))) ∙ same)

-- ---- compaction

first_case : (b c : Bool) (m s : ℕ) (e : Entry) (es fs : List Entry) → nat_eq e.number m ≡ b → cond b (Some e.slot) (slot_in m es) ≡ Some s → ((e.number ≡ m) → (e.slot ≡ s) → c ≡ true)
    → (slot_in m es ≡ Some s → slot_in m fs ≡ Some s) → slot_in m (cond c (e ∷ fs) fs) ≡ Some s
first_case true c m s e es fs t h k l =
    let number : e.number ≡ m = grind (arith, nat_tests) in
    let slot : e.slot ≡ s = some_same e.slot s h in
    ap (λ (b : Bool). slot_in m (cond b (e ∷ fs) fs)) (k number slot) ∙ ap (λ (b : Bool). cond b (Some e.slot) (slot_in m fs)) t ∙ h
first_case false true m s e es fs t h k l = ap (λ (b : Bool). cond b (Some e.slot) (slot_in m fs)) t ∙ l h
first_case false false m s e es fs t h k l = l h

-- what isn't stale stays
pub slot_kept : (p : Entry → Bool) (m s : ℕ) (es : List Entry) → ((e : Entry) → e.number ≡ m → e.slot ≡ s → p e ≡ true) → slot_in m es ≡ Some s → slot_in m (filter p es) ≡ Some s
slot_kept p m s [] k h = absurd (none_some s h)
slot_kept p m s (e ∷ es) k h = first_case (nat_eq e.number m) (p e) m s e es (filter p es) refl h (k e) (slot_kept p m s es k)

-- ---- a new number

pub slot_more : (m s : ℕ) (es fs : List Entry) → slot_in m es ≡ Some s → slot_in m (es ++ fs) ≡ Some s
slot_more m s [] fs h = absurd (none_some s h)
slot_more m s (e ∷ es) fs h = more_case (nat_eq e.number m) m s e es fs h (slot_more m s es fs)
  where
    more_case : (b : Bool) (m s : ℕ) (e : Entry) (es fs : List Entry) → cond b (Some e.slot) (slot_in m es) ≡ Some s → (slot_in m es ≡ Some s → slot_in m (es ++ fs) ≡ Some s) → cond b (Some e.slot) (slot_in m (es ++ fs)) ≡ Some s
    more_case true m s e es fs h k = h
    more_case false m s e es fs h k = k h

pub slot_new : (m s : ℕ) (es : List Entry) → AllByRecursion (λ (e : Entry). e.number < m) es → slot_in m (es ++ record { number = m; slot = s } ∷ []) ≡ Some s
slot_new m s [] h = let here : nat_eq m m ≡ true = grind (arith, nat_tests) in ap (λ (b : Bool). cond b (Some s) (slot_in m [])) here
slot_new m s (e ∷ es) h = ap (λ (b : Bool). cond b (Some e.slot) (slot_in m (es ++ record { number = m; slot = s } ∷ []))) (apart e.number m h.0) ∙ slot_new m s es h.1

-- ---- from a number to its slot, by the numbers of all slots

pub place_none : (n : ℕ) (ms : List ℕ) → ((i : ℕ) → i < length ms → slice_index_or ms i 0 ≡ n → ⊥) → place_of n ms ≡ None
place_none n [] h = refl
place_none n (m ∷ ms) h =
    ap (λ (b : Bool). cond b (Some 0) (one_up (place_of n ms))) (differ m n (h 0 (omega arith)))
    ∙ ap one_up (place_none n ms (λ i low same. h (suc i) (omega (arith, low)) same))

pub place_some : (n : ℕ) (ms : List ℕ) (s : ℕ) → s < length ms → slice_index_or ms s 0 ≡ n → ((i : ℕ) → i < length ms → slice_index_or ms i 0 ≡ n → i ≡ s) → place_of n ms ≡ Some s
place_some n [] s low same one = absurd (omega (arith, low))
place_some n (m ∷ ms) zero low same one = let here : nat_eq m n ≡ true = grind (arith, nat_tests) in ap (λ (b : Bool). cond b (Some 0) (one_up (place_of n ms))) here
place_some n (m ∷ ms) (suc s) low same one =
    ap (λ (b : Bool). cond b (Some 0) (one_up (place_of n ms))) (differ m n (λ e. absurd (let k = one 0 (omega arith) e in omega (arith, k))))
    ∙ ap one_up (place_some n ms s (omega (arith, low)) same (λ i l e. let k = one (suc i) (omega (arith, l)) e in omega (arith, k)))

place_case : (n m s : ℕ) (ms : List ℕ) (b : Bool) (o : Option ℕ) → nat_eq m n ≡ b → cond b (Some 0) (one_up o) ≡ Some s → ((t : ℕ) → o ≡ Some t → (slice_index_or ms t 0 ≡ n) × (t < length ms)) → (slice_index_or (m ∷ ms) s 0 ≡ n) × (s < length (m ∷ ms))
place_case n m s ms true o e h k =
    let zero_is : 0 ≡ s = some_same 0 s h in
    let same : m ≡ n = grind (arith, nat_tests) in
    (ap (λ (i : ℕ). slice_index_or (m ∷ ms) i 0) (sym zero_is) ∙ same, omega (arith, zero_is))
place_case n m s ms false None e h k = absurd (none_some s h)
place_case n m s ms false (Some t) e h k =
    let up : suc t ≡ s = some_same (suc t) s h in
    let there = k t refl in
    (ap (λ (i : ℕ). slice_index_or (m ∷ ms) i 0) (sym up) ∙ there.0, omega (arith, up, there.1))

pub place_out : (n : ℕ) (ms : List ℕ) (s : ℕ) → place_of n ms ≡ Some s → (slice_index_or ms s 0 ≡ n) × (s < length ms)
place_out n [] s h = absurd (none_some s h)
place_out n (m ∷ ms) s h = place_case n m s ms (nat_eq m n) (place_of n ms) refl h (λ t e. place_out n ms t e)

-- no number is in two slots
pub one_slot : (at : ℕ → Option Node) (m : Marks) → AreNumbered at m → (s t n : ℕ) → number_at at s ≡ Some n → number_at at t ≡ Some n → s ≡ t
one_slot at m k s t n h l = some_same s t (sym (k.indexed s n h) ∙ k.indexed t n l)

some_there : (o : Option ℕ) (n : ℕ) → o ≡ Some n → IsSome o
some_there o n e = rw e refl

-- the slot of a live node
pub slot_live : (at : ℕ → Option Node) (m : Marks) → AreNumbered at m → (s n : ℕ) → number_at at s ≡ Some n → slot_of n m.numbers.items ≡ Some s
slot_live at m k s zero h = absurd (let p = (k.given s 0 h).0 in omega (arith, p))
slot_live at m k s (suc n) h =
    let low : s < m.slots = k.low s (some_there (number_at at s) (suc n) h) in
    place_some (suc n) m.numbers.items s (omega (arith, low, k.all)) (k.each s low ∙ ap (λ (o : Option ℕ). unwrap_or o 0) h)
    (λ i l e. one_slot at m k i s (suc n) (number_of_case (number_at at i) (suc n) (omega arith) (sym (k.each i (omega (arith, l, k.all))) ∙ e)) h)

-- no slot has the number of a node that isn't live
pub slot_absent : (at : ℕ → Option Node) (m : Marks) → AreNumbered at m → (n : ℕ) → IsAbsent at n → slot_of n m.numbers.items ≡ None
slot_absent at m k zero h = refl
slot_absent at m k (suc n) h = place_none (suc n) m.numbers.items (λ i l e. h i (number_of_case (number_at at i) (suc n) (omega arith) (sym (k.each i (omega (arith, l, k.all))) ∙ e)))

pub slot_found : (at : ℕ → Option Node) (m : Marks) → AreNumbered at m → (n : ℕ) (o : Option ℕ) → Finds at n o → o ≡ slot_of n m.numbers.items
slot_found at m k n None h = sym (slot_absent at m k n h)
slot_found at m k n (Some s) h = sym (slot_live at m k s n h)

-- a slot that is found has the number
pub slot_out : (at : ℕ → Option Node) (m : Marks) → AreNumbered at m → (n s : ℕ) → slot_of n m.numbers.items ≡ Some s → number_at at s ≡ Some n
slot_out at m k zero s h = absurd (none_some s h)
slot_out at m k (suc n) s h =
    let there = place_out (suc n) m.numbers.items s h in
    number_of_case (number_at at s) (suc n) (omega arith) (sym (k.each s (omega (arith, there.1, k.all))) ∙ there.0)

slot_is_case : (at : ℕ → Option Node) (m : Marks) → AreNumbered at m → (n : ℕ) (o : Option ℕ) → slot_of n m.numbers.items ≡ o → Finds at n o
slot_is_case at m k n None e = λ s h. none_some s (sym e ∙ slot_live at m k s n h)
slot_is_case at m k n (Some s) e = slot_out at m k n s e

pub slot_is : (at : ℕ → Option Node) (m : Marks) → AreNumbered at m → (n : ℕ) → Finds at n (slot_of n m.numbers.items)
slot_is at m k n = slot_is_case at m k n (slot_of n m.numbers.items) refl
