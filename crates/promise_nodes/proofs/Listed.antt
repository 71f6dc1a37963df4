-- Members of lists, as the definitions change them.
use Rattle.std.proofs.Common.{◌≡◌, ◌∙◌, ℕ, List, [], ◌∷◌, ◌++◌, Option, None, Some, Bool, true, false, cond, not, arith, refl, sym, ap, inl, inr}
use Rattle.std.specs.Prelude.{◌==◌, ◌||◌, nat_lt, if◌then◌else◌}
use Rattle.std.proofs.lemmas.Bool.{cases_Bool, false≢true}
use Rattle.std.proofs.lemmas.Bool.Decides.{nat_tests}
use Rattle.kj_model.specs.Nodes.{dropped, is_in}
use Rattle.kj_model.specs.World.{World, Named, Held, Group, Canceler, held_at}
use Rattle.kj_model.specs.Changes.{named, unnamed, with_new, without_name}
use Rattle.kj_model.specs.Effects.{added_in, wrapped_in}
use Rattle.kj_model.specs.Fire.{without_task}
use Rattle.kj_model.specs.Free.{without_wrap_in}
use Rattle.kj_model.proofs.Counts.{held_without}
use Rattle.promise_nodes.specs.Members.{members_of, lists_in, with_member, without_member, without_members}

-- ---- what names hold

first_held : (c : ℕ) (y : Named) (ys : List Named) (b : Bool) → (y.name == c) ≡ b → held_at c (y ∷ ys) ≡ cond b (Some y.held) (held_at c ys)
first_held c y ys true e = rw e refl
first_held c y ys false e = rw e refl

module _ (c d : ℕ) (h : Held) where
  new : Named
  new = record { name = d; held = h }

  placed_more : (b e : Bool) (y : Named) (ys : List Named) → nat_lt d y.name ≡ b → (d == c) ≡ e → (y.name == d) ≡ false
      → held_at c (with_new new ys) ≡ cond e (Some h) (held_at c ys) → held_at c (with_new new (y ∷ ys)) ≡ cond e (Some h) (held_at c (y ∷ ys))
  unfolding new
  placed_more true true y ys l e n ih = grind (arith, nat_tests)
  placed_more true false y ys l e n ih = grind (arith, nat_tests)
  placed_more false true y ys l e n ih = grind (arith, nat_tests)
  placed_more false false y ys l e n ih = grind (arith, nat_tests)

  same_case : (e : Bool) (y : Named) (ys zs : List Named) → (d == c) ≡ e → (y.name == d) ≡ true → held_at c (with_new new zs) ≡ cond e (Some h) (held_at c ys)
      → held_at c (with_new new (cond (not (y.name == d)) (y ∷ zs) zs)) ≡ cond e (Some h) (held_at c (y ∷ ys))
  unfolding new
  same_case true y ys zs e s ih = ap (λ (b : Bool). held_at c (with_new new (cond (not b) (y ∷ zs) zs))) s ∙ ih
  same_case false y ys zs e s ih =
      ap (λ (b : Bool). held_at c (with_new new (cond (not b) (y ∷ zs) zs))) s ∙ ih
      ∙ sym (first_held c y ys false (let t : y.name ≡ d = grind (arith, nat_tests, s) in ap (λ (i : ℕ). i == c) t ∙ e))

  other_case : (e : Bool) (y : Named) (ys : List Named) → (d == c) ≡ e → (y.name == d) ≡ false → held_at c (with_new new (without_name d ys)) ≡ cond e (Some h) (held_at c ys)
      → held_at c (with_new new (y ∷ without_name d ys)) ≡ cond e (Some h) (held_at c (y ∷ ys))
  unfolding new
  other_case true y ys e n ih = placed_more (nat_lt d y.name) true y (without_name d ys) refl e n ih
  other_case false y ys e n ih =
      let rest = held_without c d ys e in
      placed_more (nat_lt d y.name) false y (without_name d ys) refl e n (ih ∙ sym rest)
      ∙ first_held c y (without_name d ys) (y.name == c) refl
      ∙ ap (λ (o : Option Held). cond (y.name == c) (Some y.held) o) rest
      ∙ sym (first_held c y ys (y.name == c) refl)

  held_in : (ys : List Named) → held_at c (with_new new (without_name d ys)) ≡ cond (d == c) (Some h) (held_at c ys)
  unfolding new
  held_in [] = first_held c new [] (d == c) refl
  held_in (y ∷ ys) = elim (cases_Bool (y.name == d)) [
    | inl s ↦ same_case (d == c) y ys (without_name d ys) refl s (held_in ys)
    | inr n ↦ ap (λ (b : Bool). held_at c (with_new new (cond (not b) (y ∷ without_name d ys) (without_name d ys)))) n ∙ other_case (d == c) y ys refl n (held_in ys)
  ]

  -- a name holds this now, and the others what they held
  pub held_named : (w : World) → held_at c (named d h w).names ≡ cond (d == c) (Some h) (held_at c w.names)
  unfolding new
  held_named w = held_in w.names

gone_case : (b : Bool) (c d : ℕ) (ys : List Named) → (d == c) ≡ b → held_at c (without_name d ys) ≡ cond b None (held_at c ys)
gone_case false c d ys e = held_without c d ys e
gone_case true c d [] e = refl
gone_case true c d (y ∷ ys) e = by_name (y.name == d) refl (gone_case true c d ys e)
  where
    by_name : (b : Bool) → (y.name == d) ≡ b → held_at c (without_name d ys) ≡ None → held_at c (without_name d (y ∷ ys)) ≡ None
    by_name true s ih = ap (λ (t : Bool). held_at c (cond (not t) (y ∷ without_name d ys) (without_name d ys))) s ∙ ih
    by_name false s ih =
        ap (λ (t : Bool). held_at c (cond (not t) (y ∷ without_name d ys) (without_name d ys))) s
        ∙ first_held c y (without_name d ys) false (let t : d ≡ c = grind (arith, nat_tests, e) in ap (λ (i : ℕ). y.name == i) (sym t) ∙ s)
        ∙ ih

-- ---- lists

swapped : (a b : ℕ) → (a == b) ≡ (b == a)
swapped a b = grind (arith, nat_tests)

named_case : (b : Bool) (h : Held) (o : Option Held) → members_of (cond b (Some h) o) ≡ (if b then members_of (Some h) else members_of o)
named_case true h o = refl
named_case false h o = refl

-- a list's name holds this now
pub lists_named : (d : ℕ) (h : Held) (w : World) (l : ℕ) → lists_in (named d h w) l ≡ (if l == d then members_of (Some h) else lists_in w l)
lists_named d h w l =
    ap members_of (held_named l d h w)
    ∙ named_case (d == l) h (held_at l w.names)
    ∙ ap (λ (b : Bool). if b then members_of (Some h) else lists_in w l) (swapped d l)

unnamed_case : (b : Bool) (o : Option Held) → members_of (cond b None o) ≡ (if b then [] else members_of o)
unnamed_case true o = refl
unnamed_case false o = refl

-- a list's name goes
pub lists_unnamed : (d : ℕ) (w : World) (l : ℕ) → lists_in (unnamed d w) l ≡ without_members d (lists_in w) l
lists_unnamed d w l =
    ap members_of (gone_case (d == l) l d w.names refl)
    ∙ unnamed_case (d == l) (held_at l w.names)
    ∙ ap (λ (b : Bool). if b then [] else lists_in w l) (swapped d l)

here_case : (b : Bool) (l d : ℕ) (f : List ℕ → List ℕ) (w : World) (o : Option Held) → (l == d) ≡ b → held_at d w.names ≡ o → (if b then f (members_of o) else lists_in w l) ≡ (if b then f (lists_in w l) else lists_in w l)
here_case true l d f w o e at = let same : l ≡ d = grind (arith, nat_tests, e) in ap f (sym (ap members_of at) ∙ ap (lists_in w) (sym same))
here_case false l d f w o e at = refl

-- a Task is the newest of a set
pub lists_added : (group task : ℕ) (error empty : Option ℕ) (tasks : List ℕ) (w : World) → held_at group w.names ≡ Some (Group error tasks empty)
    → (l : ℕ) → lists_in (added_in group task (Some (Group error tasks empty)) w) l ≡ with_member group task (lists_in w) l
lists_added group task error empty tasks w at l =
    lists_named group (Group error (tasks ++ task ∷ []) empty) w l
    ∙ here_case (l == group) l group (λ ns. ns ++ task ∷ []) w (Some (Group error tasks empty)) refl at

-- a Wrap is the newest of a canceler
pub lists_wrapped : (canceler wrap : ℕ) (wraps : List ℕ) (w : World) → held_at canceler w.names ≡ Some (Canceler wraps)
    → (l : ℕ) → lists_in (wrapped_in canceler wrap (Some (Canceler wraps)) w) l ≡ with_member canceler wrap (lists_in w) l
lists_wrapped canceler wrap wraps w at l =
    lists_named canceler (Canceler (wraps ++ wrap ∷ [])) w l
    ∙ here_case (l == canceler) l canceler (λ ns. ns ++ wrap ∷ []) w (Some (Canceler wraps)) refl at

-- a Task leaves its set
pub lists_left : (group task : ℕ) (error empty : Option ℕ) (tasks : List ℕ) (w : World) → held_at group w.names ≡ Some (Group error tasks empty)
    → (l : ℕ) → lists_in (named group (without_task task (Group error tasks empty)) w) l ≡ without_member group task (lists_in w) l
lists_left group task error empty tasks w at l =
    lists_named group (Group error (dropped task tasks) empty) w l
    ∙ here_case (l == group) l group (dropped task) w (Some (Group error tasks empty)) refl at

-- the tasks of a set go
pub lists_cleared : (group : ℕ) (error empty : Option ℕ) (w : World) (l : ℕ) → lists_in (named group (Group error [] empty) w) l ≡ without_members group (lists_in w) l
lists_cleared group error empty w l = lists_named group (Group error [] empty) w l

kept_case : (b c : Bool) (x : ℕ) (xs ys : List ℕ) → (b || c) ≡ false → (c ≡ false → ys ≡ xs) → cond (not b) (x ∷ ys) ys ≡ x ∷ xs
kept_case true c x xs ys e h = absurd (false≢true (sym e))
kept_case false c x xs ys e h = ap (λ (l : List ℕ). x ∷ l) (h e)

-- what isn't there doesn't leave
pub dropped_none : (n : ℕ) (xs : List ℕ) → is_in n xs ≡ false → dropped n xs ≡ xs
dropped_none n [] h = refl
dropped_none n (x ∷ xs) h = kept_case (x == n) (is_in n xs) x xs (dropped n xs) h (dropped_none n xs)

nothing_case : (b : Bool) (l d n : ℕ) (w : World) → (l == d) ≡ b → is_in n (lists_in w d) ≡ false → lists_in w l ≡ (if b then dropped n (lists_in w l) else lists_in w l)
nothing_case true l d n w e none =
    let same : l ≡ d = grind (arith, nat_tests, e) in
    sym (dropped_none n (lists_in w l) (ap (λ (i : ℕ). is_in n (lists_in w i)) same ∙ none))
nothing_case false l d n w e none = refl

-- a Wrap leaves its canceler; what has a canceler's name and is none has no Wrap
pub lists_unwrapped : (n canceler : ℕ) (o : Option Held) (w : World) → held_at canceler w.names ≡ o → ((error empty : Option ℕ) (tasks : List ℕ) → o ≡ Some (Group error tasks empty) → is_in n tasks ≡ false)
    → (l : ℕ) → lists_in (without_wrap_in n canceler o w) l ≡ without_member canceler n (lists_in w) l
lists_unwrapped n canceler (Some (Canceler wraps)) w at none l =
    lists_named canceler (Canceler (dropped n wraps)) w l
    ∙ here_case (l == canceler) l canceler (dropped n) w (Some (Canceler wraps)) refl at
lists_unwrapped n canceler (Some (Group error tasks empty)) w at none l = nothing_case (l == canceler) l canceler n w refl (ap (λ (o : Option Held). is_in n (members_of o)) at ∙ none error empty tasks refl)
lists_unwrapped n canceler None w at none l = nothing_case (l == canceler) l canceler n w refl (ap (λ (o : Option Held). is_in n (members_of o)) at)
lists_unwrapped n canceler (Some _) w at none l = nothing_case (l == canceler) l canceler n w refl (ap (λ (o : Option Held). is_in n (members_of o)) at)
