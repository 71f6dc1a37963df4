-- One name alone promises no tree that another promises.
use Rattle.std.proofs.Common.{◌≡◌, ℕ, Bool, true, false, Option, None, Some, refl, sym, ◌∙◌, arith}
use Rattle.std.specs.Prelude.{nat_eq}
use Rattle.std.proofs.lemmas.Bool.{false≢true}
use Rattle.std.proofs.lemmas.Bool.Decides.{nat_tests}
use Rattle.promise_names.specs.Held.{HasRoot, AreApart}
use Rattle.name_table.proofs.Ranks.{same_is}

none_some : (a : ℕ) → ◌≡◌ {A = Option ℕ} None (Some a) → ⊥
none_some a k = cc

pub unequal : (a b : ℕ) → nat_eq a b ≡ false → a ≡ b → ⊥
unequal a b t same = absurd (false≢true (sym t ∙ grind (arith, nat_tests)))

here : (old new : ℕ → Option ℕ) (n : ℕ) (r : Option ℕ) → ((m : ℕ) → old m ≡ None) → HasRoot old new n r → (m root : ℕ) → new m ≡ Some root → (b : Bool) → nat_eq m n ≡ b → m ≡ n
here old new n r none has m root is true t = same_is m n t
here old new n r none has m root is false t = absurd (none_some root (sym (has.1 m (unequal m n t) ∙ none m) ∙ is))

pub alone_apart : (old new : ℕ → Option ℕ) (n : ℕ) (r : Option ℕ) → ((m : ℕ) → old m ≡ None) → HasRoot old new n r → AreApart new
alone_apart old new n r none has name other root is too =
    here old new n r none has name root is (nat_eq name n) refl ∙ sym (here old new n r none has other root too (nat_eq other n) refl)
