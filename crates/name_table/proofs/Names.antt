-- The entries as the definitions see them.
use Rattle.std.proofs.Common.{◌≡◌, ℕ, suc, Bool, true, false, List, [], ◌∷◌, length, refl, ap, ◌∙◌}
use Rattle.std.specs.Prelude.{nat_lt, nat_eq}
use Rattle.kj_base.specs.declared.numbers.Name.{Name}
use Rattle.kj_model.specs.World.{Named}
use Rattle.kj_model.specs.Changes.{without_name, with_new}
use Rattle.promise_names.specs.Held.{held_shown, IsCounted}
use Rattle.promise_names.specs.declared.names.Held.{Held}
use Rattle.name_table.specs.declared.entries.Entry.{Entry}
use Rattle.name_table.specs.Entries.{without_entry, with_entry, entered, IsSeen, AreSeen}

-- there are as many
pub as_many : (es : List Entry) (xs : List Named) → AreSeen es xs → length xs ≡ length es
as_many [] [] s = refl
as_many [] (x ∷ xs) s = absurd s
as_many (e ∷ es) [] s = absurd s
as_many (e ∷ es) (x ∷ xs) s = ap (λ (n : ℕ). suc n) (as_many es xs s.1)

-- ---- a name goes

without_step : (n : ℕ) (e : Entry) (x : Named) (es : List Entry) (xs : List Named) (b : Bool)
    → nat_eq e.name.0 n ≡ b → IsSeen e x → AreSeen (without_entry n es) (without_name n xs)
    → AreSeen (without_entry n (e ∷ es)) (without_name n (x ∷ xs))
without_step n e x es xs true t s ih =
    let u : nat_eq x.name n ≡ true = ap (λ (m : ℕ). nat_eq m n) s.name ∙ t in rw (t, u) ih
without_step n e x es xs false t s ih =
    let u : nat_eq x.name n ≡ false = ap (λ (m : ℕ). nat_eq m n) s.name ∙ t in rw (t, u) (s, ih)

pub seen_without : (n : ℕ) (es : List Entry) (xs : List Named) → AreSeen es xs
    → AreSeen (without_entry n es) (without_name n xs)
seen_without n [] [] s = tt
seen_without n [] (x ∷ xs) s = absurd s
seen_without n (e ∷ es) [] s = absurd s
seen_without n (e ∷ es) (x ∷ xs) s =
    without_step n e x es xs (nat_eq e.name.0 n) refl s.0 (seen_without n es xs s.1)

-- ---- a name comes

before_is : (e d : Entry) (x y : Named) (b : Bool) → IsSeen e x → IsSeen d y
    → nat_lt e.name.0 d.name.0 ≡ b → nat_lt x.name y.name ≡ b
before_is e d x y b s r t =
    ap (λ (m : ℕ). nat_lt m y.name) s.name ∙ ap (λ (m : ℕ). nat_lt e.name.0 m) r.name ∙ t

with_step : (e d : Entry) (x y : Named) (es : List Entry) (xs : List Named) (b : Bool)
    → nat_lt e.name.0 d.name.0 ≡ b → IsSeen e x → AreSeen (d ∷ es) (y ∷ xs)
    → AreSeen (with_entry e es) (with_new x xs)
    → AreSeen (with_entry e (d ∷ es)) (with_new x (y ∷ xs))
with_step e d x y es xs true t s all ih = rw (t, before_is e d x y true s all.0 t) (s, all)
with_step e d x y es xs false t s all ih = rw (t, before_is e d x y false s all.0 t) (all.0, ih)

seen_with : (e : Entry) (x : Named) (es : List Entry) (xs : List Named) → IsSeen e x → AreSeen es xs
    → AreSeen (with_entry e es) (with_new x xs)
seen_with e x [] [] s all = (s, tt)
seen_with e x [] (y ∷ ys) s all = absurd all
seen_with e x (d ∷ es) [] s all = absurd all
seen_with e x (d ∷ es) (y ∷ xs) s all =
    with_step e d x y es xs (nat_lt e.name.0 d.name.0) refl s all (seen_with e x es xs s all.1)

-- ---- a name holds this now

-- the entry that it has
abbrev pub entry_as : Name → Held → Entry
entry_as name held = record { name = name; held = held }

-- what is seen of it
abbrev pub named_as : ℕ → List ℕ → Held → Named
named_as name members held = record { name = name; held = held_shown members held }

pub seen_named : (name : Name) (held : Held) (members : List ℕ) (es : List Entry) (xs : List Named)
    → IsCounted members held → AreSeen es xs
    → AreSeen (entered (entry_as name held) es)
    (with_new (named_as name.0 members held) (without_name name.0 xs))
seen_named name held members es xs counted s =
    let here : IsSeen (entry_as name held) (named_as name.0 members held) = record {
      name = refl;
      held = record { members = members; counted = counted; is = refl };
    } in
    seen_with (entry_as name held) (named_as name.0 members held) (without_entry name.0 es)
    (without_name name.0 xs) here (seen_without name.0 es xs s)
