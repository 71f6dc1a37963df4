-- What entries leave for one step.
use Rattle.std.proofs.Common.{◌≡◌, ◌⊎◌, ◌<◌, ◌≤◌, ◌||◌, ◌&&◌, ℕ, List, [], ◌∷◌, ◌++◌, map, filter, cond, not, drop, None, Some, Bool, true, false, ◌==◌, refl, sym, ap, ◌∙◌, inl, inr, arith}
use Rattle.std.specs.Prelude.{nat_lt}
use Rattle.std.specs.List.{AllByRecursion}
use Rattle.std.proofs.lemmas.Bool.{cases_Bool}
use Rattle.std.proofs.lemmas.Bool.Decides.{nat_tests}
use Rattle.kj_base.specs.Commands.{Action}
use Rattle.kj_model.specs.Log.{Body, bodies_of}
use Rattle.promise_commands.specs.Script.{Body as BodyCase}
use Rattle.promise_steps.specs.declared.order.Entry.{Entry}
use Rattle.promise_steps.specs.Order.{action_in, body_in, step_of, Precedes, InOrder, is_before, next_of, left_of}

-- the actions of a step that are still to come
abbrev pub mine : List BodyCase → ℕ → List Entry → List Action
mine bodies step order = bodies_of step (left_of bodies order)

abbrev pub with_taken : List BodyCase → ℕ → Bool → Entry → List Entry → List Action
with_taken bodies step taken e es =
    let rest = filter (λ (x : Entry). not x.taken) es in
    bodies_of step (map (λ (x : Entry). body_in bodies x) (cond (not taken) (e ∷ rest) rest))

pub mine_taken : (bodies : List BodyCase) (step : ℕ) (e : Entry) (es : List Entry) → e.taken ≡ true → mine bodies step (e ∷ es) ≡ mine bodies step es
mine_taken bodies step e es taken = ap (λ (t : Bool). with_taken bodies step t e es) taken

untaken_other : (bodies : List BodyCase) (step : ℕ) (e : Entry) (es : List Entry) → e.taken ≡ false → (step_of bodies e == step) ≡ false → mine bodies step (e ∷ es) ≡ mine bodies step es
untaken_other bodies step e es left other =
    ap (λ (t : Bool). with_taken bodies step t e es) left
    ∙ ap (λ (b : Bool). map (λ (x : Body). x.action) (cond b (body_in bodies e ∷ filter (λ (x : Body). x.step == step) (left_of bodies es)) (filter (λ (x : Body). x.step == step) (left_of bodies es)))) other

pub mine_other : (bodies : List BodyCase) (step : ℕ) (e : Entry) (es : List Entry) → (step_of bodies e == step) ≡ false → mine bodies step (e ∷ es) ≡ mine bodies step es
mine_other bodies step e es other = by (cases_Bool e.taken)
  where
    by : (e.taken ≡ true) ⊎ (e.taken ≡ false) → mine bodies step (e ∷ es) ≡ mine bodies step es
    by (inl taken) = mine_taken bodies step e es taken
    by (inr left) = untaken_other bodies step e es left other

pub mine_here : (bodies : List BodyCase) (step : ℕ) (e : Entry) (es : List Entry) → e.taken ≡ false → (step_of bodies e == step) ≡ true → mine bodies step (e ∷ es) ≡ action_in bodies e.which ∷ mine bodies step es
mine_here bodies step e es left here =
    ap (λ (t : Bool). with_taken bodies step t e es) left
    ∙ ap (λ (b : Bool). map (λ (x : Body). x.action) (cond b (body_in bodies e ∷ filter (λ (x : Body). x.step == step) (left_of bodies es)) (filter (λ (x : Body). x.step == step) (left_of bodies es)))) here

-- ---- before and behind the next body of a step

pub before_taken : (a s : ℕ) (t : Bool) → (nat_lt a s || ((a == s) && t)) ≡ true → (a == s) ≡ true → t ≡ true
before_taken a s true before here = refl
before_taken a s false before here = absurd (grind (arith, nat_tests))

after_left : (a s : ℕ) (t : Bool) → (nat_lt a s || ((a == s) && t)) ≡ false → (a == s) ≡ true → t ≡ false
after_left a s false after here = refl
after_left a s true after here = absurd (grind (arith, nat_tests))

pub after_le : (a s : ℕ) (t : Bool) → (nat_lt a s || ((a == s) && t)) ≡ false → s ≤ a
after_le a s true after = grind (arith, nat_tests)
after_le a s false after = grind (arith, nat_tests)

pub mine_before : (bodies : List BodyCase) (step : ℕ) (e : Entry) (es : List Entry) → is_before bodies step e ≡ true → mine bodies step (e ∷ es) ≡ mine bodies step es
mine_before bodies step e es before = by (cases_Bool (step_of bodies e == step))
  where
    by : ((step_of bodies e == step) ≡ true) ⊎ ((step_of bodies e == step) ≡ false) → mine bodies step (e ∷ es) ≡ mine bodies step es
    by (inl here) = mine_taken bodies step e es (before_taken (step_of bodies e) step e.taken before here)
    by (inr other) = mine_other bodies step e es other

pub mine_past : (bodies : List BodyCase) (step : ℕ) (front back : List Entry) → AllByRecursion (λ e. is_before bodies step e ≡ true) front → mine bodies step (front ++ back) ≡ mine bodies step back
mine_past bodies step [] back before = refl
mine_past bodies step (e ∷ front) back before = mine_before bodies step e (front ++ back) before.0 ∙ mine_past bodies step front back before.1

none_above : (bodies : List BodyCase) (step : ℕ) (es : List Entry) → AllByRecursion (λ e. step < step_of bodies e) es → mine bodies step es ≡ []
none_above bodies step [] above = refl
none_above bodies step (e ∷ es) above =
    let other : (step_of bodies e == step) ≡ false = grind (arith, nat_tests, above.0) in
    (mine_other bodies) step e es other ∙ none_above bodies step es above.1

all_above : (bodies : List BodyCase) (step : ℕ) (e : Entry) (es : List Entry) → step < step_of bodies e → AllByRecursion (Precedes bodies e) es → AllByRecursion (λ f. step < step_of bodies f) es
all_above bodies step e [] above precedes = tt
all_above bodies step e (f ∷ es) above precedes = (omega (arith, above, precedes.0.0), all_above bodies step e es above precedes.1)

-- where no body of the step stands first, none is to come
pub none_comes : (bodies : List BodyCase) (step : ℕ) (es : List Entry) → InOrder bodies es → AllByRecursion (λ e. is_before bodies step e ≡ false) es → next_of bodies step es ≡ None → mine bodies step es ≡ []
none_comes bodies step [] order after none = refl
none_comes bodies step (e ∷ es) order after none = by (cases_Bool (step_of bodies e == step))
  where
    by : ((step_of bodies e == step) ≡ true) ⊎ ((step_of bodies e == step) ≡ false) → mine bodies step (e ∷ es) ≡ []
    by (inl here) = absurd (cc (none, here))
    by (inr other) =
        let low : step ≤ step_of bodies e = after_le (step_of bodies e) step e.taken after.0 in
        let above : step < step_of bodies e = grind (arith, nat_tests, low, other) in
        (none_above bodies) step (e ∷ es) (above, all_above bodies step e es above order.0)

-- the body of the step that stands first comes next
pub one_comes : (bodies : List BodyCase) (step : ℕ) (es : List Entry) (body : ℕ) → AllByRecursion (λ e. is_before bodies step e ≡ false) es → next_of bodies step es ≡ Some body
    → mine bodies step es ≡ action_in bodies body ∷ mine bodies step (drop 1 es)
one_comes bodies step [] body after some = absurd (cc (some))
one_comes bodies step (e ∷ es) body after some = by (cases_Bool (step_of bodies e == step))
  where
    by : ((step_of bodies e == step) ≡ true) ⊎ ((step_of bodies e == step) ≡ false) → mine bodies step (e ∷ es) ≡ action_in bodies body ∷ mine bodies step es
    by (inl here) =
        let found : Some e.which ≡ Some body = sym (ap (λ (b : Bool). cond b (Some e.which) None) here) ∙ some in
        let is : e.which ≡ body = cc (found) in
        (mine_here bodies) step e es (after_left (step_of bodies e) step e.taken after.0 here) here ∙ ap (λ (b : ℕ). action_in bodies b ∷ mine bodies step es) is
    by (inr other) = absurd (cc (some, other))
