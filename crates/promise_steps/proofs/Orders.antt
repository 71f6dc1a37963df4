-- Entries in order, and the one that a run takes.
use Rattle.std.proofs.Common.{◌≡◌, ◌⊎◌, ◌<◌, ◌≤◌, ◌||◌, ◌&&◌, ℕ, zero, suc, ◌+◌, List, [], ◌∷◌, ◌++◌, length, take, drop, get_or, Option, None, Some, Bool, true, false, ◌==◌, slice_set, refl, sym, ap, ◌∙◌, subst, inl, inr, arith, drop-cons}
use Rattle.std.specs.Prelude.{nat_lt, is_some}
use Rattle.std.specs.List.{AllByRecursion}
use Rattle.std.specs.List.Sorted.{IsPartitionedBy}
use Rattle.std.proofs.lemmas.Bool.{cases_Bool, cases_lt, false≢true}
use Rattle.std.proofs.lemmas.Bool.Decides.{nat_tests}
use Rattle.std.proofs.lemmas.List.{take-append-drop, take-set, drop-set}
use Rattle.kj_base.specs.Commands.{Action}
use Rattle.kj_base.specs.Record.{Run}
use Rattle.kj_base.specs.declared.outcomes.Outcome.{Outcome}
use Rattle.kj_model.specs.Log.{scripted, passing, at_or_last}
use Rattle.promise_commands.specs.Script.{Body as BodyCase}
use Rattle.promise_steps.specs.declared.order.Entry.{Entry}
use Rattle.promise_steps.specs.Order.{action_in, step_of, Precedes, InOrder, is_before, next_of, left_of, IsLeft}
use Rattle.promise_steps.proofs.Agreeing.{left_run}
use Rattle.promise_steps.proofs.Lefts.{mine, mine_taken, mine_other, mine_here, mine_past, none_comes, one_comes, before_taken}

abbrev pub AllBefore : List BodyCase → ℕ → List Entry → Type 0
AllBefore bodies step es = AllByRecursion (λ e. is_before bodies step e ≡ true) es

abbrev pub AllAfter : List BodyCase → ℕ → List Entry → Type 0
AllAfter bodies step es = AllByRecursion (λ e. is_before bodies step e ≡ false) es

-- ---- what the bisection asks, and what it gives

before_earlier : (s a b : ℕ) (t u : Bool) → a ≤ b → (a ≡ b → u ≡ true → t ≡ true) → (nat_lt b s || ((b == s) && u)) ≡ true → (nat_lt a s || ((a == s) && t)) ≡ true
before_earlier s a b t u low front before = by (cases_lt a s)
  where
    by : (a < s) ⊎ (s ≤ a) → (nat_lt a s || ((a == s) && t)) ≡ true
    by (inl lower) = let is : nat_lt a s ≡ true = grind (arith, nat_tests) in ap (λ (x : Bool). x || ((a == s) && t)) is
    by (inr high) =
        let here : (b == s) ≡ true = grind (arith, nat_tests) in
        let same : a ≡ b = grind (arith, nat_tests) in
        let is : (a == s) ≡ true = grind (arith, nat_tests) in
        let taken : t ≡ true = front same (before_taken b s u before here) in
        let not_lower : nat_lt a s ≡ false = grind (arith, nat_tests) in
        ap (λ (x : Bool). x || ((a == s) && t)) not_lower ∙ ap (λ (x : Bool). x && t) is ∙ taken

precedes_at : (bodies : List BodyCase) (e : Entry) (es : List Entry) (j : ℕ) (d : Entry) → AllByRecursion (Precedes bodies e) es → j < length es → Precedes bodies e (get_or es j d)
precedes_at bodies e [] j d all within = absurd (omega (arith, within))
precedes_at bodies e (f ∷ es) zero d all within = all.0
precedes_at bodies e (f ∷ es) (suc j) d all within = precedes_at bodies e es j d all.1 (omega (arith, within))

pub parted : (bodies : List BodyCase) (step : ℕ) (xs : List Entry) → InOrder bodies xs → IsPartitionedBy (is_before bodies step) xs
parted bodies step [] order i j d low within before = absurd (omega (arith, within))
parted bodies step (e ∷ xs) order zero zero d low within before = before
parted bodies step (e ∷ xs) order zero (suc j) d low within before =
    let first = precedes_at bodies e xs j d order.0 (omega (arith, within)) in
    before_earlier step (step_of bodies e) (step_of bodies (get_or xs j d)) e.taken (get_or xs j d).taken first.0 first.1 before
parted bodies step (e ∷ xs) order (suc i) zero d low within before = absurd (omega (arith, low))
parted bodies step (e ∷ xs) order (suc i) (suc j) d low within before = parted bodies step xs order.1 i j d (omega (arith, low)) (omega (arith, within)) before

pub all_taken : (P : Entry → Type 0) (xs : List Entry) (p : ℕ) → p ≤ length xs → ((k : ℕ) (d : Entry) → k < p → P (get_or xs k d)) → AllByRecursion P (take p xs)
all_taken P [] zero within each = tt
all_taken P [] (suc p) within each = absurd (omega (arith, within))
all_taken P (e ∷ xs) zero within each = tt
all_taken P (e ∷ xs) (suc p) within each = (each zero e (omega arith), all_taken P xs p (omega (arith, within)) (λ k d low. each (suc k) d (omega (arith, low))))

pub all_dropped : (P : Entry → Type 0) (xs : List Entry) (p : ℕ) → ((k : ℕ) (d : Entry) → p ≤ k → k < length xs → P (get_or xs k d)) → AllByRecursion P (drop p xs)
all_dropped P [] zero each = tt
all_dropped P [] (suc p) each = tt
all_dropped P (e ∷ xs) zero each = (each zero e (omega arith) (omega arith), all_dropped P xs zero (λ k d low within. each (suc k) d (omega arith) (omega (arith, within))))
all_dropped P (e ∷ xs) (suc p) each = all_dropped P xs p (λ k d low within. each (suc k) d (omega (arith, low)) (omega (arith, within)))

-- ---- what comes next

order_dropped : (bodies : List BodyCase) (p : ℕ) (xs : List Entry) → InOrder bodies xs → InOrder bodies (drop p xs)
order_dropped bodies zero [] order = order
order_dropped bodies zero (e ∷ xs) order = order
order_dropped bodies (suc p) [] order = tt
order_dropped bodies (suc p) (e ∷ xs) order = order_dropped bodies p xs order.1

after_dropped : (bodies : List BodyCase) (step : ℕ) (es : List Entry) → AllAfter bodies step es → AllAfter bodies step (drop 1 es)
after_dropped bodies step [] after = tt
after_dropped bodies step (e ∷ es) after = after.1

drop_suc : (p : ℕ) (xs : List Entry) → drop 1 (drop p xs) ≡ drop (suc p) xs
drop_suc zero [] = refl
drop_suc zero (e ∷ xs) = refl
drop_suc (suc p) [] = refl
drop_suc (suc p) (e ∷ xs) = drop_suc p xs

drop_one : (p : ℕ) (xs : List Entry) → drop 1 (drop p xs) ≡ drop (p + 1) xs
drop_one p xs = let same : suc p ≡ p + 1 = omega arith in drop_suc p xs ∙ ap (λ (k : ℕ). drop k xs) same

pub nothing_next : (bodies : List BodyCase) (step p : ℕ) (xs : List Entry) → InOrder bodies xs → AllBefore bodies step (take p xs) → AllAfter bodies step (drop p xs) → next_of bodies step (drop p xs) ≡ None → mine bodies step xs ≡ []
nothing_next bodies step p xs order before after none =
    ap (mine bodies step) (sym (take-append-drop p xs)) ∙ mine_past bodies step (take p xs) (drop p xs) before
    ∙ none_comes bodies step (drop p xs) (order_dropped bodies p xs order) after none

pub one_next : (bodies : List BodyCase) (step p : ℕ) (xs : List Entry) (body : ℕ) → AllBefore bodies step (take p xs) → AllAfter bodies step (drop p xs) → next_of bodies step (drop p xs) ≡ Some body
    → mine bodies step xs ≡ action_in bodies body ∷ mine bodies step (drop (p + 1) xs)
one_next bodies step p xs body before after some =
    ap (mine bodies step) (sym (take-append-drop p xs)) ∙ mine_past bodies step (take p xs) (drop p xs) before
    ∙ one_comes bodies step (drop p xs) body after some ∙ ap (λ (es : List Entry). action_in bodies body ∷ mine bodies step es) (drop_one p xs)

pub after_next : (bodies : List BodyCase) (step p : ℕ) (xs : List Entry) → AllAfter bodies step (drop p xs) → AllAfter bodies step (drop (p + 1) xs)
after_next bodies step p xs after = subst (AllAfter bodies step) (drop_one p xs) (after_dropped bodies step (drop p xs) after)

pub last_next : (bodies : List BodyCase) (step p : ℕ) (xs : List Entry) → InOrder bodies xs → AllAfter bodies step (drop p xs) → next_of bodies step (drop (p + 1) xs) ≡ None → mine bodies step (drop (p + 1) xs) ≡ []
last_next bodies step p xs order after none = none_comes bodies step (drop (p + 1) xs) (order_dropped bodies (p + 1) xs order) (after_next bodies step p xs after) none

-- ---- the answers of a step, and those after a run

pub gives_passing : (bodies : List BodyCase) (step : ℕ) (xs : List Entry) → mine bodies step xs ≡ [] → scripted (left_of bodies xs) [] step ≡ Some passing
gives_passing bodies step xs none = ap (λ (l : List Action). Some (at_or_last passing l 0)) none

pub gives_first : (bodies : List BodyCase) (step : ℕ) (xs : List Entry) (a : Action) (more : List Action) → mine bodies step xs ≡ a ∷ more → scripted (left_of bodies xs) [] step ≡ Some a
gives_first bodies step xs a more some = ap (λ (l : List Action). Some (at_or_last passing l 0)) some

pub left_passing : (bodies : List BodyCase) (step : ℕ) (xs : List Entry) → mine bodies step xs ≡ [] → (n : ℕ) (input : Outcome) → IsLeft (left_of bodies xs) (left_of bodies xs) (Run n step input passing ∷ [])
left_passing bodies step xs none n input = left_run (left_of bodies xs) (left_of bodies xs) step n input passing (λ other apart. refl) stays
  where
    stays : (k : ℕ) → at_or_last passing (mine bodies step xs) k ≡ at_or_last passing (mine bodies step xs) (suc k)
    stays k = ap (λ (l : List Action). at_or_last passing l k) none ∙ sym (ap (λ (l : List Action). at_or_last passing l (suc k)) none)

last_stays : (a : Action) (k : ℕ) → at_or_last passing (a ∷ []) k ≡ a
last_stays a zero = refl
last_stays a (suc k) = refl

pub left_last : (bodies : List BodyCase) (step : ℕ) (xs : List Entry) (a : Action) → mine bodies step xs ≡ a ∷ [] → (n : ℕ) (input : Outcome) → IsLeft (left_of bodies xs) (left_of bodies xs) (Run n step input a ∷ [])
left_last bodies step xs a last n input = left_run (left_of bodies xs) (left_of bodies xs) step n input a (λ other apart. refl) stays
  where
    stays : (k : ℕ) → at_or_last passing (mine bodies step xs) k ≡ at_or_last passing (mine bodies step xs) (suc k)
    stays k = ap (λ (l : List Action). at_or_last passing l k) last ∙ last_stays a k ∙ sym (ap (λ (l : List Action). at_or_last passing l (suc k)) last)

next_stays : (a b : Action) (more : List Action) (k : ℕ) → at_or_last passing (b ∷ more) k ≡ at_or_last passing (a ∷ b ∷ more) (suc k)
next_stays a b more zero = refl
next_stays a b more (suc k) = refl

pub left_more : (bodies : List BodyCase) (step : ℕ) (xs ys : List Entry) (a b : Action) (more : List Action)
    → mine bodies step xs ≡ a ∷ b ∷ more → mine bodies step ys ≡ b ∷ more → ((other : ℕ) → (step == other) ≡ false → mine bodies other ys ≡ mine bodies other xs)
    → (n : ℕ) (input : Outcome) → IsLeft (left_of bodies ys) (left_of bodies xs) (Run n step input a ∷ [])
left_more bodies step xs ys a b more was is others n input = left_run (left_of bodies ys) (left_of bodies xs) step n input a others stays
  where
    stays : (k : ℕ) → at_or_last passing (mine bodies step ys) k ≡ at_or_last passing (mine bodies step xs) (suc k)
    stays k = ap (λ (l : List Action). at_or_last passing l k) is ∙ next_stays a b more k ∙ sym (ap (λ (l : List Action). at_or_last passing l (suc k)) was)

-- ---- an entry is taken

pub set_split : (xs : List Entry) (p : ℕ) (e : Entry) → p < length xs → slice_set xs p e ≡ take p xs ++ e ∷ drop (p + 1) xs
set_split xs p e within =
    sym (take-append-drop p (slice_set xs p e)) ∙ ap (λ (l : List Entry). l ++ drop p (slice_set xs p e)) (take-set xs p e)
    ∙ ap (λ (l : List Entry). take p xs ++ l) (drop-set xs p e within)

mine_cons : (bodies : List BodyCase) (step : ℕ) (e : Entry) (xs ys : List Entry) → mine bodies step xs ≡ mine bodies step ys → mine bodies step (e ∷ xs) ≡ mine bodies step (e ∷ ys)
mine_cons bodies step e xs ys same = by (cases_Bool e.taken) (cases_Bool (step_of bodies e == step))
  where
    by : (e.taken ≡ true) ⊎ (e.taken ≡ false) → ((step_of bodies e == step) ≡ true) ⊎ ((step_of bodies e == step) ≡ false) → mine bodies step (e ∷ xs) ≡ mine bodies step (e ∷ ys)
    by (inl taken) here = mine_taken bodies step e xs taken ∙ same ∙ sym (mine_taken bodies step e ys taken)
    by (inr left) (inr other) = mine_other bodies step e xs other ∙ same ∙ sym (mine_other bodies step e ys other)
    by (inr left) (inl here) = mine_here bodies step e xs left here ∙ ap (λ (l : List Action). action_in bodies e.which ∷ l) same ∙ sym (mine_here bodies step e ys left here)

mine_front : (bodies : List BodyCase) (step : ℕ) (front xs ys : List Entry) → mine bodies step xs ≡ mine bodies step ys → mine bodies step (front ++ xs) ≡ mine bodies step (front ++ ys)
mine_front bodies step [] xs ys same = same
mine_front bodies step (e ∷ front) xs ys same = mine_cons bodies step e (front ++ xs) (front ++ ys) (mine_front bodies step front xs ys same)

abbrev pub done : Entry → Entry
done e = record { which = e.which; taken = true }

done_precedes : (bodies : List BodyCase) (e : Entry) (es : List Entry) → AllByRecursion (Precedes bodies e) es → AllByRecursion (Precedes bodies (done e)) es
done_precedes bodies e [] all = tt
done_precedes bodies e (f ∷ es) all = ((all.0.0, λ same taken. refl), done_precedes bodies e es all.1)

follows_done : (bodies : List BodyCase) (a : Entry) (front : List Entry) (e : Entry) (back : List Entry) → (step_of bodies a ≡ step_of bodies e → a.taken ≡ true)
    → AllByRecursion (Precedes bodies a) (front ++ e ∷ back) → AllByRecursion (Precedes bodies a) (front ++ done e ∷ back)
follows_done bodies a [] e back taken all = ((all.0.0, λ same t. taken same), all.1)
follows_done bodies a (f ∷ front) e back taken all = (all.0, follows_done bodies a front e back taken all.1)

pub order_done : (bodies : List BodyCase) (step : ℕ) (front : List Entry) (e : Entry) (back : List Entry) → step_of bodies e ≡ step → AllBefore bodies step front
    → InOrder bodies (front ++ e ∷ back) → InOrder bodies (front ++ done e ∷ back)
order_done bodies step [] e back here before order = (done_precedes bodies e back order.0, order.1)
order_done bodies step (a ∷ front) e back here before order =
    (follows_done bodies a front e back (λ same. before_taken (step_of bodies a) step a.taken before.0 (equal (same ∙ here))) order.0, order_done bodies step front e back here before.1 order.1)
  where
    equal : step_of bodies a ≡ step → (step_of bodies a == step) ≡ true
    equal same = grind (arith, nat_tests)

next_here : (bodies : List BodyCase) (step : ℕ) (e : Entry) (es : List Entry) (body : ℕ) → next_of bodies step (e ∷ es) ≡ Some body → step_of bodies e ≡ step
next_here bodies step e es body some = by (cases_Bool (step_of bodies e == step))
  where
    by : ((step_of bodies e == step) ≡ true) ⊎ ((step_of bodies e == step) ≡ false) → step_of bodies e ≡ step
    by (inl here) = grind (arith, nat_tests)
    by (inr other) = absurd (cc (some, other))

-- where a body of the step stands, there is an entry
pub next_within : (bodies : List BodyCase) (step p : ℕ) (xs : List Entry) (body : ℕ) → next_of bodies step (drop p xs) ≡ Some body → p < length xs
next_within bodies step zero [] body some = absurd (cc (some))
next_within bodies step (suc p) [] body some = absurd (cc (some))
next_within bodies step zero (e ∷ xs) body some = omega arith
next_within bodies step (suc p) (e ∷ xs) body some = omega (arith, next_within bodies step p xs body some)

pub entry_here : (p : ℕ) (xs : List Entry) (e : Entry) → p < length xs → e ≡ get_or xs p e → drop p xs ≡ e ∷ drop (p + 1) xs
entry_here p xs e within is =
    let same : suc p ≡ p + 1 = omega arith in
    drop-cons xs p e within ∙ ap (λ (x : Entry). x ∷ drop (suc p) xs) (sym is) ∙ ap (λ (k : ℕ). e ∷ drop k xs) same

pub none_there : (o : Option (ℕ)) → is_some o ≡ false → o ≡ None
none_there None none = refl
none_there (Some b) none = absurd (false≢true (sym none))

pub some_there : (o : Option (ℕ)) → is_some o ≡ true → (b : ℕ) × (o ≡ Some b)
some_there None some = absurd (false≢true some)
some_there (Some b) some = (b, refl)

-- the place of the next body, with that body taken
module _ (bodies : List BodyCase) (step p : ℕ) (xs : List Entry) (e : Entry) (body : ℕ)
    (within : p < length xs) (here : drop p xs ≡ e ∷ drop (p + 1) xs)
    (order : InOrder bodies xs) (before : AllBefore bodies step (take p xs)) (after : AllAfter bodies step (drop p xs))
    (some : next_of bodies step (drop p xs) ≡ Some body) where
  split : xs ≡ take p xs ++ e ∷ drop (p + 1) xs
  split = sym (take-append-drop p xs) ∙ ap (λ (l : List Entry). take p xs ++ l) here

  set : slice_set xs p (done e) ≡ take p xs ++ done e ∷ drop (p + 1) xs
  set = set_split xs p (done e) within

  is_of_step : step_of bodies e ≡ step
  is_of_step = next_here bodies step e (drop (p + 1) xs) body (subst (λ (l : List Entry). next_of bodies step l ≡ Some body) here some)

  pub done_in_order : InOrder bodies (slice_set xs p (done e))
  done_in_order =
      subst (InOrder bodies) (sym set) (order_done bodies step (take p xs) e (drop (p + 1) xs) is_of_step before (subst (InOrder bodies) split order))

  pub done_left : (second : ℕ) → next_of bodies step (drop (p + 1) xs) ≡ Some second
      → (n : ℕ) (input : Outcome) → IsLeft (left_of bodies (slice_set xs p (done e))) (left_of bodies xs) (Run n step input (action_in bodies body) ∷ [])
  done_left second more =
      left_more bodies step xs (slice_set xs p (done e)) (action_in bodies body) (action_in bodies second) (mine bodies step (drop 1 (drop (p + 1) xs)))
      (one_next bodies step p xs body before after some ∙ ap (λ (l : List Action). action_in bodies body ∷ l) rest)
      (ap (mine bodies step) set ∙ mine_past bodies step (take p xs) (done e ∷ drop (p + 1) xs) before ∙ mine_taken bodies step (done e) (drop (p + 1) xs) refl ∙ rest)
      others
    where
      rest : mine bodies step (drop (p + 1) xs) ≡ action_in bodies second ∷ mine bodies step (drop 1 (drop (p + 1) xs))
      rest = one_comes bodies step (drop (p + 1) xs) second (after_next bodies step p xs after) more

      others : (other : ℕ) → (step == other) ≡ false → mine bodies other (slice_set xs p (done e)) ≡ mine bodies other xs
      others other apart =
          let not_here : (step_of bodies e == other) ≡ false = subst (λ (s : ℕ). (s == other) ≡ false) (sym is_of_step) apart in
          ap (mine bodies other) set
          ∙ mine_front bodies other (take p xs) (done e ∷ drop (p + 1) xs) (e ∷ drop (p + 1) xs)
          (mine_other bodies other (done e) (drop (p + 1) xs) not_here ∙ sym (mine_other bodies other e (drop (p + 1) xs) not_here))
          ∙ ap (mine bodies other) (sym split)
