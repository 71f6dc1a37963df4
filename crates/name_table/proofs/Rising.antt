-- Names rise on, and each holds what it is to hold.
use Rattle.std.proofs.Common.{◌≡◌, ℕ, ◌<◌, cond, Bool, true, false, List, [], ◌∷◌, Option, None, Some, refl, ◌∙◌, arith}
use Rattle.std.specs.Prelude.{nat_lt, nat_eq}
use Rattle.std.specs.List.{AllByRecursion}
use Rattle.std.proofs.lemmas.Bool.Decides.{nat_tests}
use Rattle.promise_names.specs.declared.names.Held.{Held}
use Rattle.name_table.specs.declared.entries.Entry.{Entry}
use Rattle.name_table.specs.Entries.{IsRising, held_in, without_entry, with_entry, entered}
use Rattle.name_table.proofs.Ranks.{AreAbove, above_lower, lower_is, other_is_above, same_is}

pub swapped : (a b : ℕ) (c : Bool) → nat_eq a b ≡ c → nat_eq b a ≡ c
swapped a b true h = grind (arith, nat_tests)
swapped a b false h = grind (arith, nat_tests)

differ_case : (a b : ℕ) (c : Bool) → nat_eq a b ≡ c → (a ≡ b → ⊥) → nat_eq a b ≡ false
differ_case a b true t h = absurd (h (same_is a b t))
differ_case a b false t h = t

pub differ : (a b : ℕ) → (a ≡ b → ⊥) → nat_eq a b ≡ false
differ a b h = differ_case a b (nat_eq a b) refl h

pub equal : (n : ℕ) → nat_eq n n ≡ true
equal n = grind (arith, nat_tests)

pub some_none : (a : Held) → ◌≡◌ {A = Option Held} (Some a) None → ⊥
some_none a k = cc

-- ---- a name goes

all_without_step : (P : Entry → Type 0) (n : ℕ) (e : Entry) (es : List Entry) (b : Bool) → nat_eq e.name.0 n ≡ b → P e → AllByRecursion P (without_entry n es) → AllByRecursion P (without_entry n (e ∷ es))
all_without_step P n e es true t p ps = rw t ps
all_without_step P n e es false t p ps = rw t (p, ps)

pub all_without : (P : Entry → Type 0) (n : ℕ) (es : List Entry) → AllByRecursion P es → AllByRecursion P (without_entry n es)
all_without P n [] all = tt
all_without P n (e ∷ es) all = all_without_step P n e es (nat_eq e.name.0 n) refl all.0 (all_without P n es all.1)

rising_without_step : (n : ℕ) (e : Entry) (es : List Entry) (b : Bool) → nat_eq e.name.0 n ≡ b → AreAbove e.name.0 (without_entry n es) → IsRising (without_entry n es) → IsRising (without_entry n (e ∷ es))
rising_without_step n e es true t above r = rw t r
rising_without_step n e es false t above r = rw t (above, r)

pub rising_without : (n : ℕ) (es : List Entry) → IsRising es → IsRising (without_entry n es)
rising_without n [] r = tt
rising_without n (e ∷ es) r = rising_without_step n e es (nat_eq e.name.0 n) refl (all_without (λ (later : Entry). e.name.0 < later.name.0) n es r.0) (rising_without n es r.1)

gone_step : (n : ℕ) (e : Entry) (es : List Entry) (b : Bool) → nat_eq e.name.0 n ≡ b → held_in n (without_entry n es) ≡ None → held_in n (without_entry n (e ∷ es)) ≡ None
gone_step n e es true t ih = rw t ih
gone_step n e es false t ih = rw (t, t) ih

pub held_gone : (n : ℕ) (es : List Entry) → held_in n (without_entry n es) ≡ None
held_gone n [] = refl
held_gone n (e ∷ es) = gone_step n e es (nat_eq e.name.0 n) refl (held_gone n es)

pub if_here : (b : Bool) (h : Held) (o p : Option Held) → o ≡ p → ◌≡◌ {A = Option Held} (cond b (Some h) o) (cond b (Some h) p)
if_here true h o p e = refl
if_here false h o p e = e

kept_step : (n m : ℕ) (e : Entry) (es : List Entry) (b : Bool) → nat_eq e.name.0 n ≡ b → nat_eq m n ≡ false → held_in m (without_entry n es) ≡ held_in m es → held_in m (without_entry n (e ∷ es)) ≡ held_in m (e ∷ es)
kept_step n m e es true t other ih =
    let apart : nat_eq e.name.0 m ≡ false = grind (arith, nat_tests, same_is) in
    rw (t, apart) ih
kept_step n m e es false t other ih = rw t (if_here (nat_eq e.name.0 m) e.held (held_in m (without_entry n es)) (held_in m es) ih)

pub held_kept : (n m : ℕ) (es : List Entry) → nat_eq m n ≡ false → held_in m (without_entry n es) ≡ held_in m es
held_kept n m [] other = refl
held_kept n m (e ∷ es) other = kept_step n m e es (nat_eq e.name.0 n) refl other (held_kept n m es other)

-- ---- a name comes

all_with_step : (P : Entry → Type 0) (x e : Entry) (es : List Entry) (b : Bool) → nat_lt x.name.0 e.name.0 ≡ b → P x → P e → AllByRecursion P es → AllByRecursion P (with_entry x es) → AllByRecursion P (with_entry x (e ∷ es))
all_with_step P x e es true t px pe ps ih = rw t (px, (pe, ps))
all_with_step P x e es false t px pe ps ih = rw t (pe, ih)

pub all_with : (P : Entry → Type 0) (x : Entry) (es : List Entry) → P x → AllByRecursion P es → AllByRecursion P (with_entry x es)
all_with P x [] px all = (px, tt)
all_with P x (e ∷ es) px all = all_with_step P x e es (nat_lt x.name.0 e.name.0) refl px all.0 all.1 (all_with P x es px all.1)

apart_case : (x e : Entry) (es : List Entry) (b : Bool) → nat_eq e.name.0 x.name.0 ≡ b → held_in x.name.0 (e ∷ es) ≡ None → (nat_eq e.name.0 x.name.0 ≡ false) × (held_in x.name.0 es ≡ None)
apart_case x e es true t h = absurd (some_none e.held (rw t at h))
apart_case x e es false t h = (t, rw t at h)

apart : (x e : Entry) (es : List Entry) → held_in x.name.0 (e ∷ es) ≡ None → (nat_eq e.name.0 x.name.0 ≡ false) × (held_in x.name.0 es ≡ None)
apart x e es h = apart_case x e es (nat_eq e.name.0 x.name.0) refl h

rising_with_step : (x e : Entry) (es : List Entry) (b : Bool) → nat_lt x.name.0 e.name.0 ≡ b → nat_eq e.name.0 x.name.0 ≡ false → IsRising (e ∷ es) → IsRising (with_entry x es) → IsRising (with_entry x (e ∷ es))
rising_with_step x e es true t other r ih =
    let less : x.name.0 < e.name.0 = lower_is x.name.0 e.name.0 t in
    rw t ((less, above_lower x.name.0 e.name.0 es less r.0), r)
rising_with_step x e es false t other r ih =
    let less : e.name.0 < x.name.0 = other_is_above x.name.0 e.name.0 t (swapped e.name.0 x.name.0 false other) in
    rw t (all_with (λ (later : Entry). e.name.0 < later.name.0) x es less r.0, ih)

pub rising_with : (x : Entry) (es : List Entry) → IsRising es → held_in x.name.0 es ≡ None → IsRising (with_entry x es)
rising_with x [] r none = (tt, tt)
rising_with x (e ∷ es) r none =
    let p = apart x e es none in
    rising_with_step x e es (nat_lt x.name.0 e.name.0) refl p.0 r (rising_with x es r.1 p.1)

with_self_step : (x e : Entry) (es : List Entry) (b : Bool) → nat_lt x.name.0 e.name.0 ≡ b → nat_eq e.name.0 x.name.0 ≡ false → held_in x.name.0 (with_entry x es) ≡ Some x.held → held_in x.name.0 (with_entry x (e ∷ es)) ≡ Some x.held
with_self_step x e es true t other ih = rw (t, equal x.name.0) refl
with_self_step x e es false t other ih = rw (t, other) ih

pub held_with : (x : Entry) (es : List Entry) → held_in x.name.0 es ≡ None → held_in x.name.0 (with_entry x es) ≡ Some x.held
held_with x [] none = rw (equal x.name.0) refl
held_with x (e ∷ es) none =
    let p = apart x e es none in
    with_self_step x e es (nat_lt x.name.0 e.name.0) refl p.0 (held_with x es p.1)

with_other_step : (x e : Entry) (m : ℕ) (es : List Entry) (b : Bool) → nat_lt x.name.0 e.name.0 ≡ b → nat_eq x.name.0 m ≡ false → held_in m (with_entry x es) ≡ held_in m es → held_in m (with_entry x (e ∷ es)) ≡ held_in m (e ∷ es)
with_other_step x e m es true t other ih = rw (t, other) refl
with_other_step x e m es false t other ih = rw t (if_here (nat_eq e.name.0 m) e.held (held_in m (with_entry x es)) (held_in m es) ih)

pub held_other : (x : Entry) (m : ℕ) (es : List Entry) → nat_eq x.name.0 m ≡ false → held_in m (with_entry x es) ≡ held_in m es
held_other x m [] other = rw other refl
held_other x m (e ∷ es) other = with_other_step x e m es (nat_lt x.name.0 e.name.0) refl other (held_other x m es other)

-- ---- a name holds this now

pub rising_entered : (x : Entry) (es : List Entry) → IsRising es → IsRising (entered x es)
rising_entered x es r = rising_with x (without_entry x.name.0 es) (rising_without x.name.0 es r) (held_gone x.name.0 es)

pub all_entered : (P : Entry → Type 0) (x : Entry) (es : List Entry) → P x → AllByRecursion P es → AllByRecursion P (entered x es)
all_entered P x es px all = all_with P x (without_entry x.name.0 es) px (all_without P x.name.0 es all)

pub entered_self : (x : Entry) (es : List Entry) → held_in x.name.0 (entered x es) ≡ Some x.held
entered_self x es = held_with x (without_entry x.name.0 es) (held_gone x.name.0 es)

pub entered_other : (x : Entry) (m : ℕ) (es : List Entry) → (m ≡ x.name.0 → ⊥) → held_in m (entered x es) ≡ held_in m es
entered_other x m es h =
    let other : nat_eq m x.name.0 ≡ false = differ m x.name.0 h in
    held_other x m (without_entry x.name.0 es) (swapped m x.name.0 false other) ∙ held_kept x.name.0 m es other

pub gone_other : (n m : ℕ) (es : List Entry) → (m ≡ n → ⊥) → held_in m (without_entry n es) ≡ held_in m es
gone_other n m es h = held_kept n m es (differ m n h)
