-- Lists of rising names are one where each name holds the same.
use Rattle.std.proofs.Common.{◌≡◌, ℕ, ◌<◌, Bool, true, false, List, [], ◌∷◌, Option, None, Some, refl, sym, ap, ◌∙◌, subst}
use Rattle.std.specs.Prelude.{nat_eq, nat_lt}
use Rattle.promise_names.specs.declared.names.Held.{Held}
use Rattle.name_table.specs.declared.entries.Entry.{Entry}
use Rattle.name_table.specs.Entries.{IsRising, held_in}
use Rattle.name_table.proofs.Ranks.{AreAbove, above_lower, none_above, lower_is, other_is_above, same_is}
use Rattle.name_table.proofs.Rising.{equal, some_none}

held_first : (e : Entry) (es : List Entry) → held_in e.name.0 (e ∷ es) ≡ Some e.held
held_first e es = rw (equal e.name.0) refl

-- a name below the first of the others is not among them
not_below : (x y : Entry) (xs ys : List Entry) → IsRising (y ∷ ys) → ((n : ℕ) → held_in n (x ∷ xs) ≡ held_in n (y ∷ ys)) → x.name.0 < y.name.0 → ⊥
not_below x y xs ys r same less =
    let none : held_in x.name.0 (y ∷ ys) ≡ None = none_above x.name.0 (y ∷ ys) (less, above_lower x.name.0 y.name.0 ys less r.0) in
    some_none x.held (sym (held_first x xs) ∙ same x.name.0 ∙ none)

first_case : (x y : Entry) (b c : Bool) → nat_lt x.name.0 y.name.0 ≡ b → nat_eq x.name.0 y.name.0 ≡ c → (x.name.0 < y.name.0 → ⊥) → (y.name.0 < x.name.0 → ⊥) → x.name.0 ≡ y.name.0
first_case x y true c t u low high = absurd (low (lower_is x.name.0 y.name.0 t))
first_case x y false true t u low high = same_is x.name.0 y.name.0 u
first_case x y false false t u low high = absurd (high (other_is_above x.name.0 y.name.0 t u))

some_same : (a b : Held) → ◌≡◌ {A = Option Held} (Some a) (Some b) → a ≡ b
some_same a b e = cc

same_entry : (x y : Entry) → x.name.0 ≡ y.name.0 → x.held ≡ y.held → x ≡ y
same_entry x y names held = ap (λ (n : ℕ). entry_of n x.held) names ∙ ap (entry_of y.name.0) held
  where
    entry_of : ℕ → Held → Entry
    entry_of n h = record { name = record { 0 = n }; held = h }

rest_step : (x y : Entry) (xs ys : List Entry) (n : ℕ) (b : Bool) → nat_eq x.name.0 n ≡ b → x.name.0 ≡ y.name.0 → AreAbove x.name.0 xs → AreAbove y.name.0 ys
    → held_in n (x ∷ xs) ≡ held_in n (y ∷ ys) → held_in n xs ≡ held_in n ys
rest_step x y xs ys n true t names ax ay is =
    let n_is : x.name.0 ≡ n = same_is x.name.0 n t in
    none_above n xs (subst (λ (m : ℕ). AreAbove m xs) n_is ax) ∙ sym (none_above n ys (subst (λ (m : ℕ). AreAbove m ys) (sym names ∙ n_is) ay))
rest_step x y xs ys n false t names ax ay is =
    let u : nat_eq y.name.0 n ≡ false = subst (λ (m : ℕ). nat_eq m n ≡ false) names t in
    rw (t, u) at is

pub same_rising : (xs ys : List Entry) → IsRising xs → IsRising ys → ((n : ℕ) → held_in n xs ≡ held_in n ys) → xs ≡ ys
same_rising [] [] rx ry same = refl
same_rising [] (y ∷ ys) rx ry same = absurd (some_none y.held (sym (held_first y ys) ∙ sym (same y.name.0)))
same_rising (x ∷ xs) [] rx ry same = absurd (some_none x.held (sym (held_first x xs) ∙ same x.name.0))
same_rising (x ∷ xs) (y ∷ ys) rx ry same =
    let names : x.name.0 ≡ y.name.0 = first_case x y (nat_lt x.name.0 y.name.0) (nat_eq x.name.0 y.name.0) refl refl (not_below x y xs ys ry same) (not_below y x ys xs rx (λ n. sym (same n))) in
    let held : x.held ≡ y.held = some_same x.held y.held (sym (held_first x xs) ∙ same x.name.0 ∙ subst (λ (m : ℕ). held_in m (y ∷ ys) ≡ Some y.held) (sym names) (held_first y ys)) in
    let rest : xs ≡ ys = same_rising xs ys rx.1 ry.1 (λ n. rest_step x y xs ys n (nat_eq x.name.0 n) refl names rx.0 ry.0 (same n)) in
    ap (λ (e : Entry). e ∷ xs) (same_entry x y names held) ∙ ap (λ (l : List Entry). y ∷ l) rest
