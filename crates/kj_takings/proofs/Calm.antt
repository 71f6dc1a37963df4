-- Changes of states that keep them alike, put together.
use Rattle.std.proofs.lemmas.Bool.{false≢true}
use Rattle.kj_model.proofs.Growing.{stays, quiet}
use Rattle.std.proofs.Common.{◌≡◌, ◌∙◌, refl, sym, ap, subst, append_assoc, ℕ, ◌+◌, ◌≤◌, List, [], ◌∷◌, ◌++◌, Bool, true, false, ◌&&◌, arith}
use Rattle.kj_base.specs.Record.{Item, Run, Free}
use Rattle.kj_model.specs.World.{World, State}
use Rattle.kj_model.specs.Changes.{silent, gone, gone_world}
use Rattle.kj_model.specs.Grown.{Grows}
use Rattle.kj_takings.specs.Alike.{Lists, with_lists}
use Rattle.kj_takings.specs.Spared.{names_in, spared_in, all_spare}
use Rattle.kj_takings.proofs.Worlds.{Near, Keeps, blind, less_room, read_alike}

-- states that are alike, with room for so many names more
pub record Same (loose : ℕ → Bool) (k : ℕ) (s t : State) : Type 0 where
  pub world : Near loose k s.world t.world
  pub past : t.past ≡ s.past

-- a change that keeps states alike, where no step runs in it
abbrev pub Tame : (ℕ → Bool) → (State → State) → Type 0
Tame loose f = (k : ℕ) (s t : State) → Same loose k s t → Same loose k (f s) (f t)

pub tame_none : (loose : ℕ → Bool) → Tame loose (λ s. s)
tame_none loose k s t r = r

pub tame_then : (loose : ℕ → Bool) (f g : State → State) → Tame loose f → Tame loose g → Tame loose (λ s. g (f s))
tame_then loose f g c d k s t r = d k (f s) (f t) (c k s t r)

pub tame_read : {A : Type 0} (loose : ℕ → Bool) (r : World → A) (op : A → State → State) → ((l : Lists) (u : World) → r (with_lists l u) ≡ r u) → ((a : A) → Tame loose (op a)) → Tame loose (λ s. op (r s.world) s)
tame_read loose r op same h k s t x = subst (λ a. Same loose k (op (r s.world) s) (op a t)) (read_alike loose k r s.world t.world same x.world) (h (r s.world) k s t x)

pub tame_world : (loose : ℕ → Bool) (op : World → World) → Keeps loose op → Tame loose (silent op)
tame_world loose op h k s t r = record { world = h k s.world t.world r.world; past = r.past }

gone_near : (loose : ℕ → Bool) (n : ℕ) → Keeps loose (gone_world n)
gone_near loose n = blind loose (gone_world n) (λ l w. refl) (λ w. record { names = refl; limits = refl; awaited = refl })

pub tame_gone : (loose : ℕ → Bool) (n : ℕ) → Tame loose (gone n)
tame_gone loose n k s t r = record { world = gone_near loose n k s.world t.world r.world; past = ap (λ l. l ++ Free n ∷ []) r.past }

pub less_same : (loose : ℕ → Bool) (j k : ℕ) (s t : State) → k ≤ j → Same loose j s t → Same loose k s t
less_same loose j k s t l r = record { world = less_room loose j k s.world t.world l r.world; past = r.past }

-- a change with an answer that only adds to the record, and keeps states alike, where the steps that ran in it spare the loose names and there is room for the names that they name and c more
pub record Calm {A : Type 0} (loose : ℕ → Bool) (c : ℕ) (f : State → State × A) : Type 0 where
  pub grows : (s : State) → Grows s (f s).0
  pub keeps : (s t : State) (k : ℕ) → spared_in loose (grows s).0 ≡ true → Same loose (names_in (grows s).0 + (c + k)) s t → Same loose k (f s).0 (f t).0 × ((f s).1 ≡ (f t).1)

-- a change without an answer
abbrev pub only : (State → State) → State → State × Unit {0}
only f s = (f s, tt)

abbrev pub CalmOnly : (ℕ → Bool) → ℕ → (State → State) → Type 0
CalmOnly loose c f = Calm loose c (only f)

names_append : (xs ys : List Item) → names_in (xs ++ ys) ≡ names_in xs + names_in ys
names_append [] ys = omega arith
names_append (Run n step input action ∷ xs) ys = let h = names_append xs ys in omega (arith, h)
names_append (Free n ∷ xs) ys = names_append xs ys

pub both_true : (a b : Bool) → a && b ≡ true → (a ≡ true) × (b ≡ true)
both_true true b e = (refl, e)
both_true false b e = absurd (false≢true e)

both_and : (a b : Bool) → a ≡ true → b ≡ true → a && b ≡ true
both_and a b e h = ap (λ c. c && b) e ∙ h

pub spared_split : (loose : ℕ → Bool) (xs ys : List Item) → spared_in loose (xs ++ ys) ≡ true → (spared_in loose xs ≡ true) × (spared_in loose ys ≡ true)
spared_split loose [] ys e = (refl, e)
spared_split loose (Run n step input action ∷ xs) ys e =
    let p = both_true (all_spare loose action.commands) (spared_in loose (xs ++ ys)) e in
    let q = spared_split loose xs ys p.1 in
    (both_and (all_spare loose action.commands) (spared_in loose xs) p.0 q.0, q.1)
spared_split loose (Free n ∷ xs) ys e = spared_split loose xs ys e

-- more room than is taken
pub calm_more : {A : Type 0} (loose : ℕ → Bool) (c d : ℕ) (f : State → State × A) → c ≤ d → Calm loose c f → Calm loose d f
calm_more loose c d f l h = record {
  grows = h.grows;
  keeps = λ s t k e r. h.keeps s t k e (less_same loose (names_in (h.grows s).0 + (d + k)) (names_in (h.grows s).0 + (c + k)) s t (omega (arith, l)) r);
}

-- one in which no step runs
pub calm_moves : {A : Type 0} (loose : ℕ → Bool) (c : ℕ) (f : State → State × A) → ((s : State) → Grows s (f s).0) → ((k : ℕ) (s t : State) → Same loose (c + k) s t → Same loose k (f s).0 (f t).0 × ((f s).1 ≡ (f t).1)) → Calm loose c f
calm_moves loose c f g h = record {
  grows = g;
  keeps = λ s t k e r. h k s t (less_same loose (names_in (g s).0 + (c + k)) (c + k) s t (omega arith) r);
}

pub calm_tame : (loose : ℕ → Bool) (f : State → State) → ((s : State) → Grows s (f s)) → Tame loose f → CalmOnly loose 0 f
calm_tame loose f g h = calm_moves loose 0 (only f) g (λ k s t r. (h k s t (less_same loose (0 + k) k s t (omega arith) r), refl))

pub pure : {A : Type 0} (loose : ℕ → Bool) (a : A) → Calm loose 0 (λ s. (s, a))
pure loose a = calm_moves loose 0 (λ s. (s, a)) stays (λ k s t r. (less_same loose (0 + k) k s t (omega arith) r, refl))

-- one change, and then another by its answer
pub bind : {A B : Type 0} (loose : ℕ → Bool) (c d : ℕ) (f : State → State × A) (g : A → State → State × B) → Calm loose c f → ((a : A) → Calm loose d (g a)) → Calm loose (c + d) (λ s. g (f s).1 (f s).0)
bind loose c d f g x y = record {
  grows = λ s.
      let a = x.grows s in
      let b = (y (f s).1).grows (f s).0 in
      (a.0 ++ b.0, b.1 ∙ ap (λ l. l ++ b.0) a.1 ∙ append_assoc s.past a.0 b.0);
  keeps = λ s t k e r.
      let a = x.grows s in
      let b = (y (f s).1).grows (f s).0 in
      let p = spared_split loose a.0 b.0 e in
      let sum = names_append a.0 b.0 in
      let first = x.keeps s t (names_in b.0 + (d + k)) p.0 (less_same loose (names_in (a.0 ++ b.0) + (c + d + k)) (names_in a.0 + (c + (names_in b.0 + (d + k)))) s t (omega (arith, sum)) r) in
      let second = (y (f s).1).keeps (f s).0 (f t).0 k p.1 first.0 in
      subst (λ z. Same loose k (g (f s).1 (f s).0).0 (g z (f t).0).0 × ((g (f s).1 (f s).0).1 ≡ (g z (f t).0).1)) first.1 second;
}

pub then_calm : (loose : ℕ → Bool) (f g : State → State) → CalmOnly loose 0 f → CalmOnly loose 0 g → CalmOnly loose 0 (λ s. g (f s))
then_calm loose f g c d = bind loose 0 0 (only f) (λ a. only g) c (λ a. d)

-- what is read off both
pub reads : {A : Type 0} (loose : ℕ → Bool) (r : State → A) → ((s t : State) (k : ℕ) → Same loose k s t → r s ≡ r t) → Calm loose 0 (λ s. (s, r s))
reads loose r h = calm_moves loose 0 (λ s. (s, r s)) stays (λ k s t x. (less_same loose (0 + k) k s t (omega arith) x, h s t (0 + k) x))

pub reads_world : {A : Type 0} (loose : ℕ → Bool) (r : World → A) → ((l : Lists) (u : World) → r (with_lists l u) ≡ r u) → Calm loose 0 (λ s. (s, r s.world))
reads_world loose r h = reads loose (λ s. r s.world) (λ s t k x. read_alike loose k r s.world t.world h x.world)

pub quietly : (loose : ℕ → Bool) (op : World → World) → Keeps loose op → CalmOnly loose 0 (silent op)
quietly loose op h = calm_tame loose (silent op) (quiet op) (tame_world loose op h)

pub gone_calm : (loose : ℕ → Bool) (n : ℕ) → CalmOnly loose 0 (gone n)
gone_calm loose n = calm_tame loose (gone n) (λ s. (Free n ∷ [], refl)) (tame_gone loose n)

-- the same change
pub calm_as : {A : Type 0} (loose : ℕ → Bool) (c : ℕ) (f g : State → State × A) → ((s : State) → f s ≡ g s) → Calm loose c f → Calm loose c g
calm_as {A = A} loose c f g h x = record {
  grows = λ s. let a = x.grows s in (a.0, ap (λ (r : State × A). r.0.past) (sym (h s)) ∙ a.1);
  keeps = λ s t k e r.
      let y = x.keeps s t k e r in
      (subst (λ (u : State × A). Same loose k u.0 (g t).0) (h s) (subst (λ (u : State × A). Same loose k (f s).0 u.0) (h t) y.0), ap (λ (u : State × A). u.1) (sym (h s)) ∙ y.1 ∙ ap (λ (u : State × A). u.1) (h t));
}
