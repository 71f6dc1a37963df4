-- A root whose name goes.
use Rattle.std.proofs.Common.{◌≡◌, ◌∙◌, sym, ap, subst, ℕ, Option, None, Some, Bool, true, false, refl, arith}
use Rattle.std.specs.Prelude.{nat_eq}
use Rattle.std.proofs.lemmas.Bool.{false≢true}
use Rattle.std.proofs.lemmas.Bool.Decides.{nat_tests}
use Rattle.kj_model.specs.Changes.{silent, unnamed}
use Rattle.kj_model.specs.Value.{Given, Took, holds_firing, promise_taken, took_if}
use Rattle.kj_model.specs.World.{World, State, Held, Promise}
use Rattle.promise_eval.specs.Done.{IsDone}
use Rattle.promise_names.specs.Held.{AreApart, HasRoot}

none_some : (n : ℕ) → ◌≡◌ {A = Option ℕ} None (Some n) → ⊥
none_some n e = cc

same_is : (a b : ℕ) → nat_eq a b ≡ true → a ≡ b
same_is a b h = grind (arith, nat_tests)

not_same : (a b : ℕ) → nat_eq a b ≡ false → a ≡ b → ⊥
not_same a b h e = let t : nat_eq a b ≡ true = grind (arith, nat_tests) in absurd (false≢true (sym h ∙ t))

unnamed_case : (old new : ℕ → Option ℕ) (name root other : ℕ) (b : Bool) → nat_eq other name ≡ b → AreApart old → HasRoot old new name None → old name ≡ Some root → new other ≡ Some root → ⊥
unnamed_case old new name root other true e apart has at h = none_some root (sym has.0 ∙ ap new (sym (same_is other name e)) ∙ h)
unnamed_case old new name root other false e apart has at h =
    let differs = not_same other name e in
    differs (apart other name root (sym (has.1 other differs) ∙ h) at)

-- no name promises it any more
pub unnamed_then : (old new : ℕ → Option ℕ) (name root : ℕ) → AreApart old → HasRoot old new name None → old name ≡ Some root → (other : ℕ) → new other ≡ Some root → ⊥
unnamed_then old new name root apart has at other h = unnamed_case old new name root other (nat_eq other name) refl apart has at h

-- a promise whose tree doesn't hold the node whose event fires leaves its name
pub taken_done : (New : World → Type 0) (name root : ℕ) (o : Option Held) (s : State)
    → o ≡ Some (Promise root) → holds_firing s.world.firing root s.world ≡ false → New (unnamed name s.world)
    → IsDone New s.past (Took root) (promise_taken name o s)
taken_done New name root o s is apart stands =
    let same : promise_taken name o s ≡ (silent (unnamed name) s, Took root) =
    ap (λ (x : Option Held). promise_taken name x s) is ∙ ap (λ (b : Bool). took_if b name root s) apart in
    subst (λ (r : State × Given). IsDone New s.past (Took root) r) (sym same)
    (record { answer_is = refl; stands = stands; past_is = refl })
