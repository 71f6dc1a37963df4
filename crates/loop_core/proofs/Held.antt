-- Roots of a promise that leaves its name to be awaited, or has it again.
use Rattle.std.proofs.Common.{◌≡◌, ◌∙◌, ◌<◌, ℕ, Option, None, Some, Bool, true, false, refl, sym, ap, subst, arith}
use Rattle.std.specs.Prelude.{nat_eq}
use Rattle.std.proofs.lemmas.Bool.{false≢true}
use Rattle.std.proofs.lemmas.Bool.Decides.{nat_tests}
use Rattle.promise_names.specs.Held.{AreFree, HasRoot}
use Rattle.promise_nodes.specs.Kept.{OnlyFalls}

none_some : (n : ℕ) → ◌≡◌ {A = Option ℕ} None (Some n) → ⊥
none_some n e = cc

some_same : (m n : ℕ) → ◌≡◌ {A = Option ℕ} (Some m) (Some n) → m ≡ n
some_same m n e = cc

same_is : (a b : ℕ) → nat_eq a b ≡ true → a ≡ b
same_is a b h = grind (arith, nat_tests)

not_same : (a b : ℕ) → nat_eq a b ≡ false → a ≡ b → ⊥
not_same a b h e = let t : nat_eq a b ≡ true = grind (arith, nat_tests) in absurd (false≢true (sym h ∙ t))

-- a key whose root is another's
gone_case : (old new : ℕ → Option ℕ) (from n root : ℕ) (b : Bool) → nat_eq n from ≡ b → HasRoot old new from None → new n ≡ Some root → (n ≡ from → ⊥) × (old n ≡ Some root)
gone_case old new from n root true e has is = absurd (none_some root (sym has.0 ∙ ap new (sym (same_is n from e)) ∙ is))
gone_case old new from n root false e has is = (not_same n from e, sym (has.1 n (not_same n from e)) ∙ is)

gone_before : (old new : ℕ → Option ℕ) (from n root : ℕ) → HasRoot old new from None → new n ≡ Some root → (n ≡ from → ⊥) × (old n ≡ Some root)
gone_before old new from n root has is = gone_case old new from n root (nat_eq n from) refl has is

-- none is promised that wasn't
pub free_gone : (old new : ℕ → Option ℕ) (taken : ℕ → Bool) (next from : ℕ) → AreFree old taken next → HasRoot old new from None → AreFree new taken next
free_gone old new taken next from free has = record {
  untaken = λ n root is. free.untaken n root (gone_before old new from n root has is).1;
  built = λ n root is. free.built n root (gone_before old new from n root has is).1;
  apart = λ n m root is too. free.apart n m root (gone_before old new from n root has is).1 (gone_before old new from m root has too).1;
}

-- the same where what it holds now promises nothing
pub free_held : (old new : ℕ → Option ℕ) (taken : ℕ → Bool) (next name : ℕ) (root : Option ℕ) → AreFree old taken next → HasRoot old new name root → root ≡ None → AreFree new taken next
free_held old new taken next name root free has none = free_gone old new taken next name free (has.0 ∙ none, has.1)

-- where a root is promised: by the key that has it now, or by another than both
data Before (old : ℕ → Option ℕ) (from to r n root : ℕ) : Type 0 where
  Here : n ≡ to → root ≡ r → Before old from to r n root
  There : (n ≡ to → ⊥) → (n ≡ from → ⊥) → old n ≡ Some root → Before old from to r n root

before_case : (old mid new : ℕ → Option ℕ) (from to r n root : ℕ) (b : Bool) → nat_eq n to ≡ b → HasRoot old mid from None → HasRoot mid new to (Some r) → new n ≡ Some root → Before old from to r n root
before_case old mid new from to r n root true e left comes is =
    Here (same_is n to e) (some_same root r (sym is ∙ ap new (same_is n to e) ∙ comes.0))
before_case old mid new from to r n root false e left comes is =
    let h = gone_before old mid from n root left (sym (comes.1 n (not_same n to e)) ∙ is) in
    There (not_same n to e) h.0 h.1

before : (old mid new : ℕ → Option ℕ) (from to r n root : ℕ) → HasRoot old mid from None → HasRoot mid new to (Some r) → new n ≡ Some root → Before old from to r n root
before old mid new from to r n root left comes is = before_case old mid new from to r n root (nat_eq n to) refl left comes is

some_before : (old : ℕ → Option ℕ) (P : ℕ → Type 0) (from to r n root : ℕ) → ((m p : ℕ) → old m ≡ Some p → P p) → old from ≡ Some r → Before old from to r n root → P root
some_before old P from to r n root all had (Here at is) = subst P (sym is) (all from r had)
some_before old P from to r n root all had (There apart left is) = all n root is

apart_before : (old : ℕ → Option ℕ) (from to r n m root : ℕ) → ((a b p : ℕ) → old a ≡ Some p → old b ≡ Some p → a ≡ b) → old from ≡ Some r → Before old from to r n root → Before old from to r m root → n ≡ m
apart_before old from to r n m root all had (Here at is) (Here at2 is2) = at ∙ sym at2
apart_before old from to r n m root all had (Here at is) (There apart left is2) = absurd (left (all m from root is2 (had ∙ ap (λ (p : ℕ). Some p) (sym is))))
apart_before old from to r n m root all had (There apart left is) (Here at2 is2) = absurd (left (all n from root is (had ∙ ap (λ (p : ℕ). Some p) (sym is2))))
apart_before old from to r n m root all had (There apart left is) (There apart2 left2 is2) = all n m root is is2

-- the root of one key is another's
pub free_moved : (old mid new : ℕ → Option ℕ) (taken : ℕ → Bool) (next from to r : ℕ) → AreFree old taken next → old from ≡ Some r → HasRoot old mid from None → HasRoot mid new to (Some r) → AreFree new taken next
free_moved old mid new taken next from to r free had left comes = record {
  untaken = λ n root is. some_before old (λ p. taken p ≡ false) from to r n root (λ m p h. free.untaken m p h) had (before old mid new from to r n root left comes is);
  built = λ n root is. some_before old (λ p. p < next) from to r n root (λ m p h. free.built m p h) had (before old mid new from to r n root left comes is);
  apart = λ n m root is too. apart_before old from to r n m root free.apart had (before old mid new from to r n root left comes is) (before old mid new from to r m root left comes too);
}

falls_case : (old new : ℕ → Bool) (n : ℕ) (b : Bool) → new n ≡ b → OnlyFalls old new → old n ≡ false → new n ≡ false
falls_case old new n true e falls h = absurd (false≢true (sym h ∙ falls n e))
falls_case old new n false e falls h = e

-- no node is taken that wasn't
pub free_falls : (roots : ℕ → Option ℕ) (old new : ℕ → Bool) (next after : ℕ) → AreFree roots old next → OnlyFalls old new → after ≡ next → AreFree roots new after
free_falls roots old new next after free falls same = record {
  untaken = λ n root h. falls_case old new root (new root) refl falls (free.untaken n root h);
  built = λ n root h. subst (λ (m : ℕ). root < m) (sym same) (free.built n root h);
  apart = free.apart;
}

-- the same by other words
pub free_same : (old new : ℕ → Option ℕ) (taken : ℕ → Bool) (next : ℕ) → AreFree old taken next → ((n : ℕ) → new n ≡ old n) → AreFree new taken next
free_same old new taken next free same = record {
  untaken = λ n root h. free.untaken n root (sym (same n) ∙ h);
  built = λ n root h. free.built n root (sym (same n) ∙ h);
  apart = λ n m root h k. free.apart n m root (sym (same n) ∙ h) (sym (same m) ∙ k);
}
