-- A pass that was never split made every entry that it has seen.
use Rattle.std.proofs.Common.{◌≡◌, ℕ, ◌^◌, ◌<◌, ◌≤◌, List, [], ◌∷◌, sym, refl, ap, ◌∙◌, subst, arith, Bool, cond, eq-eqb, ne_eqb}
use mathlib.Core.Logic.{dite}
use native.Mathlib.Decide.{ℕ_discrete}
use Rattle.std.proofs.lemmas.List.Elements.{All-head, All-tail}
use Rattle.count_lock.specs.Rule.{of, Authored}

module _ {E : Type 0} (by : E → ℕ) where
  of_here : (k : ℕ) (e : E) (es : List E) → by e ≡ k → of by k (e ∷ es) ≡ e ∷ of by k es
  of_here k e es is = subst (λ (b : Bool). cond b (e ∷ of by k es) (of by k es) ≡ e ∷ of by k es) (sym (eq-eqb (by e) k is)) refl

  of_tail : (k : ℕ) (e : E) (es : List E) → of by k (e ∷ es) ≡ [] → of by k es ≡ []
  of_tail k e es none = dite (ℕ_discrete (by e) k)
      (λ is. let z : e ∷ of by k es ≡ [] = sym (of_here k e es is) ∙ none in absurd cc)
      (λ no. subst (λ (b : Bool). cond b (e ∷ of by k es) (of by k es) ≡ [] → of by k es ≡ []) (sym (ne_eqb (by e) k no)) (λ h. h) none)

  pub all_mine : (es : List E) → Authored by es → ((n : ℕ) → 1 ≤ n → n < 4294967296 → of by n es ≡ []) → of by 0 es ≡ es
  all_mine [] a s = refl
  all_mine (e ∷ es) a s = let low : by e < 2 ^ 32 = All-head (λ (x : E). by x < 2 ^ 32) e es a in dite (ℕ_discrete (by e) 0)
      (λ is. of_here 0 e es is ∙ ap (λ (l : List E). e ∷ l) (all_mine es (All-tail (λ (x : E). by x < 2 ^ 32) e es a) (λ n l h. of_tail n e es (s n l h))))
      (λ no. let z : e ∷ of by (by e) es ≡ [] = sym (of_here (by e) e es refl) ∙ s (by e) (omega arith) (omega arith) in absurd cc)
