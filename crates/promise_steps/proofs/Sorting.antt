-- A stable sort by steps keeps what each step has to come.
use Rattle.std.proofs.Common.{◌≡◌, ◌⊎◌, ◌<◌, ◌≤◌, ◌&&◌, ℕ, zero, suc, List, [], ◌∷◌, map, filter, cond, not, length, get_or, Some, Bool, true, false, ◌==◌, refl, sym, ap, ◌∙◌, inl, inr, arith, subst}
use Rattle.std.specs.List.{AllByRecursion, All}
use Rattle.std.specs.List.Sorted.{IsNonDecreasingBy, IsPermutation, IsStableByKey, ties}
use Rattle.std.specs.Ordering.{nat_cmp, is_lt}
use Rattle.std.specs.declared.cmp.Ordering.{Ordering}
use Rattle.std.specs.declared.cmp.Ordering.TheVariants.{Less, Equal, Greater}
use Rattle.std.specs.Cmp.{nat_cmp_is}
use Rattle.std.proofs.lemmas.Bool.{cases_Bool, cases_lt, false≢true}
use Rattle.std.proofs.lemmas.Bool.Decides.{nat_tests}
use Rattle.std.proofs.lemmas.List.Sorted.{All-permutation}
use Rattle.kj_base.specs.Commands.{Action}
use Rattle.kj_model.specs.Log.{Body, passing, at_or_last, runs_of, bodies_of}
use Rattle.promise_commands.specs.Scripts.{body_of}
use Rattle.promise_commands.specs.Script.{Body as BodyCase, body_at}
use Rattle.promise_steps.specs.declared.order.Entry.{Entry}
use Rattle.promise_steps.specs.Order.{action_in, body_in, step_of, Precedes, InOrder, left_of, IsLeft}
use Rattle.promise_steps.proofs.Lefts.{mine, mine_other, mine_here}

-- no run took it
abbrev pub IsLeftHere : Entry → Type 0
IsLeftHere e = e.taken ≡ false

pub left_fresh : (bodies : List BodyCase) (es : List Entry) → AllByRecursion IsLeftHere es → left_of bodies es ≡ map body_of (map (λ (e : Entry). body_at bodies e.which) es)
left_fresh bodies [] fresh = refl
left_fresh bodies (e ∷ es) fresh =
    let rest : List Entry = filter (λ (x : Entry). not x.taken) es in
    ap (λ (t : Bool). map (λ (x : Entry). body_in bodies x) (cond (not t) (e ∷ rest) rest)) fresh.0
    ∙ ap (λ (l : List Body). body_in bodies e ∷ l) (left_fresh bodies es fresh.1)

abbrev by_step : List BodyCase → Entry → Entry → Bool
by_step bodies x y = is_lt (nat_cmp (step_of bodies x) (step_of bodies y))

tie_is : (s a : ℕ) → (not (is_lt (nat_cmp s a)) && not (is_lt (nat_cmp a s))) ≡ (a == s)
tie_is s a = by (cases_lt s a) (cases_lt a s)
  where
    with_order : Ordering → Ordering → Bool
    with_order x y = not (is_lt x) && not (is_lt y)

    by : (s < a) ⊎ (a ≤ s) → (a < s) ⊎ (s ≤ a) → (not (is_lt (nat_cmp s a)) && not (is_lt (nat_cmp a s))) ≡ (a == s)
    by (inl below) above =
        let other : (a == s) ≡ false = grind (arith, nat_tests) in
        ap (λ (x : Ordering). not (is_lt x) && not (is_lt (nat_cmp a s))) (sym (nat_cmp_is s a Less below)) ∙ sym other
    by (inr low) (inl above) =
        let other : (a == s) ≡ false = grind (arith, nat_tests) in
        ap (λ (y : Ordering). not (is_lt (nat_cmp s a)) && not (is_lt y)) (sym (nat_cmp_is a s Less above))
        ∙ ap (λ (x : Ordering). not (is_lt x) && false) (sym (nat_cmp_is s a Greater above)) ∙ sym other
    by (inr low) (inr high) =
        let same : s ≡ a = omega (arith, low, high) in
        let equal : (a == s) ≡ true = grind (arith, nat_tests) in
        ap (λ (y : Ordering). not (is_lt (nat_cmp s a)) && not (is_lt y)) (sym (nat_cmp_is a s Equal (sym same)))
        ∙ ap (λ (x : Ordering). not (is_lt x) && true) (sym (nat_cmp_is s a Equal same)) ∙ sym equal

mine_ties : (bodies : List BodyCase) (x : Entry) (es : List Entry) → AllByRecursion IsLeftHere es
    → mine bodies (step_of bodies x) es ≡ map (λ (e : Entry). action_in bodies e.which) (filter (ties (by_step bodies) x) es)
mine_ties bodies x [] fresh = refl
mine_ties bodies x (e ∷ es) fresh = by (mine_ties bodies x es fresh.1) (cases_Bool (step_of bodies e == step_of bodies x))
  where
    chosen : (b : Bool) → (step_of bodies e == step_of bodies x) ≡ b → map (λ (y : Entry). action_in bodies y.which) (cond b (e ∷ filter (ties (by_step bodies) x) es) (filter (ties (by_step bodies) x) es)) ≡ map (λ (y : Entry). action_in bodies y.which) (cond (ties (by_step bodies) x e) (e ∷ filter (ties (by_step bodies) x) es) (filter (ties (by_step bodies) x) es))
    chosen b is = ap (λ (t : Bool). map (λ (y : Entry). action_in bodies y.which) (cond t (e ∷ filter (ties (by_step bodies) x) es) (filter (ties (by_step bodies) x) es))) (sym is ∙ sym (tie_is (step_of bodies x) (step_of bodies e)))

    by : mine bodies (step_of bodies x) es ≡ map (λ (y : Entry). action_in bodies y.which) (filter (ties (by_step bodies) x) es) → ((step_of bodies e == step_of bodies x) ≡ true) ⊎ ((step_of bodies e == step_of bodies x) ≡ false)
        → mine bodies (step_of bodies x) (e ∷ es) ≡ map (λ (y : Entry). action_in bodies y.which) (cond (ties (by_step bodies) x e) (e ∷ filter (ties (by_step bodies) x) es) (filter (ties (by_step bodies) x) es))
    by more (inl here) = mine_here bodies (step_of bodies x) e es fresh.0 here ∙ ap (λ (l : List Action). action_in bodies e.which ∷ l) more ∙ chosen true here
    by more (inr other) = mine_other bodies (step_of bodies x) e es other ∙ more ∙ chosen false other

-- an entry of a step, or the step has none
find_step : (bodies : List BodyCase) (step : ℕ) (es : List Entry) → (mine bodies step es ≡ []) ⊎ ((e : Entry) × (step_of bodies e ≡ step))
find_step bodies step [] = inl refl
find_step bodies step (e ∷ es) = by (cases_Bool (step_of bodies e == step)) (find_step bodies step es)
  where
    equal : (a s : ℕ) → (a == s) ≡ true → a ≡ s
    equal a s here = grind (arith, nat_tests)

    by : ((step_of bodies e == step) ≡ true) ⊎ ((step_of bodies e == step) ≡ false) → (mine bodies step es ≡ []) ⊎ ((x : Entry) × (step_of bodies x ≡ step))
        → (mine bodies step (e ∷ es) ≡ []) ⊎ ((x : Entry) × (step_of bodies x ≡ step))
    by (inl here) found = inr (e, equal (step_of bodies e) step here)
    by (inr other) (inl none) = inl (mine_other bodies step e es other ∙ none)
    by (inr other) (inr found) = inr found

-- ---- the two forms of what holds of each entry

pub all_each : (P : Entry → Type 0) (xs : List Entry) → AllByRecursion P xs → All P xs
all_each P [] all k d within = absurd (omega (arith, within))
all_each P (e ∷ xs) all zero d within = all.0
all_each P (e ∷ xs) all (suc k) d within = all_each P xs all.1 k d (omega (arith, within))

pub each_all : (P : Entry → Type 0) (xs : List Entry) → All P xs → AllByRecursion P xs
each_all P [] each = tt
each_all P (e ∷ xs) each = (each zero e (omega arith), each_all P xs (λ k d within. each (suc k) d (omega (arith, within))))

pub fresh_sorted : (xs ys : List Entry) → IsPermutation xs ys → AllByRecursion IsLeftHere xs → AllByRecursion IsLeftHere ys
fresh_sorted xs ys moved fresh = each_all IsLeftHere ys (All-permutation IsLeftHere xs ys moved (all_each IsLeftHere xs fresh))

first_precedes : (bodies : List BodyCase) (e : Entry) (es : List Entry) → ((j : ℕ) (d : Entry) → j < length es → step_of bodies e ≤ step_of bodies (get_or es j d)) → AllByRecursion IsLeftHere es → AllByRecursion (Precedes bodies e) es
first_precedes bodies e [] low fresh = tt
first_precedes bodies e (f ∷ es) low fresh =
    ((low zero f (omega arith), λ same taken. absurd (false≢true (sym fresh.0 ∙ taken))), first_precedes bodies e es (λ j d within. low (suc j) d (omega (arith, within))) fresh.1)

pub sorted_in_order : (bodies : List BodyCase) (xs : List Entry) → IsNonDecreasingBy (step_of bodies) xs → AllByRecursion IsLeftHere xs → InOrder bodies xs
sorted_in_order bodies [] rises fresh = tt
sorted_in_order bodies (e ∷ xs) rises fresh = (
  first_precedes bodies e xs (λ j d within. rises zero (suc j) d (omega arith) (omega (arith, within))) fresh.1,
  sorted_in_order bodies xs (λ i j d low within. rises (suc i) (suc j) d (omega (arith, low)) (omega (arith, within))) fresh.1,
)

pub sorted_left : (bodies : List BodyCase) (xs ys : List Entry) → map (λ (e : Entry). body_at bodies e.which) xs ≡ bodies → IsStableByKey (step_of bodies) nat_cmp xs ys
    → AllByRecursion IsLeftHere xs → AllByRecursion IsLeftHere ys → IsLeft (left_of bodies ys) (map body_of bodies) []
sorted_left bodies xs ys are stable fresh still more step = ap (λ (l : List Action). Some (at_or_last passing l (runs_of step more))) same
  where
    of_step : (x : Entry) → step_of bodies x ≡ step → mine bodies step ys ≡ mine bodies step xs
    of_step x is =
        subst (λ (s : ℕ). mine bodies s ys ≡ mine bodies s xs) is
        (mine_ties bodies x ys still ∙ ap (map (λ (e : Entry). action_in bodies e.which)) (stable x) ∙ sym (mine_ties bodies x xs fresh))

    sorted : (mine bodies step ys ≡ []) ⊎ ((x : Entry) × (step_of bodies x ≡ step)) → (mine bodies step xs ≡ []) ⊎ ((x : Entry) × (step_of bodies x ≡ step)) → mine bodies step ys ≡ mine bodies step xs
    sorted (inr found) other = of_step found.0 found.1
    sorted (inl none) (inr found) = of_step found.0 found.1
    sorted (inl none) (inl empty) = none ∙ sym empty

    same : bodies_of step (left_of bodies ys) ≡ bodies_of step (map body_of bodies)
    same = sorted (find_step bodies step ys) (find_step bodies step xs) ∙ ap (bodies_of step) (left_fresh bodies xs fresh ∙ ap (map body_of) are)
