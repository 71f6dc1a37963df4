-- The roots that names promise, when one more name comes.
use Rattle.std.proofs.Common.{◌≡◌, ℕ, ◌+◌, ◌<◌, Option, Some, Bool, true, false, refl, sym, ◌∙◌, ap, arith, subst}
use Rattle.std.specs.Prelude.{nat_eq}
use Rattle.std.proofs.lemmas.Bool.{false≢true}
use Rattle.std.proofs.lemmas.Bool.Decides.{nat_tests}
use Rattle.promise_nodes.specs.Kept.{OnlyFalls}
use Rattle.promise_names.specs.Held.{AreFree, HasRoot}

some_same : (a b : ℕ) → ◌≡◌ {A = Option ℕ} (Some a) (Some b) → a ≡ b
some_same a b e = cc

fallen : (b : Bool) (old : Bool) → old ≡ false → (b ≡ true → old ≡ true) → b ≡ false
fallen true old h f = absurd (false≢true (sym h ∙ f refl))
fallen false old h f = refl

not_same : (a b : ℕ) → nat_eq a b ≡ false → a ≡ b → ⊥
not_same a b h e = let t : nat_eq a b ≡ true = grind (arith, nat_tests) in absurd (false≢true (sym h ∙ t))

same_is : (a b : ℕ) → nat_eq a b ≡ true → a ≡ b
same_is a b h = grind (arith, nat_tests)

low : (a b : ℕ) → a ≡ b → a < b → ⊥
low a b e h = omega (arith, e, h)

untaken_case : (roots roots' : ℕ → Option ℕ) (taken taken' : ℕ → Bool) (next name : ℕ) → AreFree roots taken next → HasRoot roots roots' name (Some next) → OnlyFalls taken taken' → taken' next ≡ false
    → (b : Bool) (n root : ℕ) → nat_eq n name ≡ b → roots' n ≡ Some root → taken' root ≡ false
untaken_case roots roots' taken taken' next name free has falls new true n root e h =
    let same : root ≡ next = some_same root next (sym h ∙ ap roots' (same_is n name e) ∙ has.0) in
    subst (λ (r : ℕ). taken' r ≡ false) (sym same) new
untaken_case roots roots' taken taken' next name free has falls new false n root e h =
    fallen (taken' root) (taken root) (free.untaken n root (sym (has.1 n (not_same n name e)) ∙ h)) (falls root)

built_case : (roots roots' : ℕ → Option ℕ) (taken : ℕ → Bool) (next name : ℕ) → AreFree roots taken next → HasRoot roots roots' name (Some next)
    → (b : Bool) (n root : ℕ) → nat_eq n name ≡ b → roots' n ≡ Some root → root < next + 1
built_case roots roots' taken next name free has true n root e h =
    let same : root ≡ next = some_same root next (sym h ∙ ap roots' (same_is n name e) ∙ has.0) in omega (arith, same)
built_case roots roots' taken next name free has false n root e h =
    let below = free.built n root (sym (has.1 n (not_same n name e)) ∙ h) in omega (arith, below)

apart_case : (roots roots' : ℕ → Option ℕ) (taken : ℕ → Bool) (next name : ℕ) → AreFree roots taken next → HasRoot roots roots' name (Some next)
    → (a b : Bool) (n m root : ℕ) → nat_eq n name ≡ a → nat_eq m name ≡ b → roots' n ≡ Some root → roots' m ≡ Some root → n ≡ m
apart_case roots roots' taken next name free has true true n m root e f h k = same_is n name e ∙ sym (same_is m name f)
apart_case roots roots' taken next name free has true false n m root e f h k =
    let same : root ≡ next = some_same root next (sym h ∙ ap roots' (same_is n name e) ∙ has.0) in
    absurd (low root next same (free.built m root (sym (has.1 m (not_same m name f)) ∙ k)))
apart_case roots roots' taken next name free has false true n m root e f h k =
    let same : root ≡ next = some_same root next (sym k ∙ ap roots' (same_is m name f) ∙ has.0) in
    absurd (low root next same (free.built n root (sym (has.1 n (not_same n name e)) ∙ h)))
apart_case roots roots' taken next name free has false false n m root e f h k =
    free.apart n m root (sym (has.1 n (not_same n name e)) ∙ h) (sym (has.1 m (not_same m name f)) ∙ k)

-- a name promises the next node, which nobody took
pub free_more : (roots roots' : ℕ → Option ℕ) (taken taken' : ℕ → Bool) (next name : ℕ) → AreFree roots taken next → HasRoot roots roots' name (Some next) → OnlyFalls taken taken' → taken' next ≡ false → AreFree roots' taken' (next + 1)
free_more roots roots' taken taken' next name free has falls new = record {
  untaken = λ n root h. untaken_case roots roots' taken taken' next name free has falls new (nat_eq n name) n root refl h;
  built = λ n root h. built_case roots roots' taken next name free has (nat_eq n name) n root refl h;
  apart = λ n m root h k. apart_case roots roots' taken next name free has (nat_eq n name) (nat_eq m name) n m root refl refl h k;
}
