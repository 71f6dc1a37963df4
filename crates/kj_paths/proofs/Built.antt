-- A node is built.
use Rattle.std.proofs.Common.{◌≡◌, ◌⊎◌, inl, inr, ℕ, ◌+◌, ◌-◌, ◌≤◌, ◌<◌, List, [], ◌∷◌, ◌++◌, Bool, true, false, Option, None, Some, arith, refl, sym, ap, ◌∙◌, subst, cond}
use Rattle.std.specs.Prelude.{nat_eq, nat_lt, is_some, map}
use Rattle.std.proofs.lemmas.Bool.Decides.{nat_tests}
use Rattle.kj_base.specs.Places.{Spot, spot_of, spot_anew, spot_before}
use Rattle.kj_model.specs.Nodes.{Form, form_at, parts_of, parts_found, is_in}
use Rattle.kj_model.specs.World.{World}
use Rattle.kj_model.specs.Places.{built, numbered, placed_anew, placed_if, placed_over}
use Rattle.kj_model.specs.Framed.{times}
use Rattle.kj_model.proofs.Spared.{same_number}
use Rattle.kj_model.proofs.Once.{false_by}
use Rattle.kj_model.proofs.Counts.{times_app}
use Rattle.kj_ownership.specs.Owners.{is_live, owns, is_hub_form}
use Rattle.kj_ownership.specs.Standing.{one_if}
use Rattle.kj_ownership.proofs.Moves.{grown, app_other, app_new, root_out, root_here, root_other}
use Rattle.kj_ownership.proofs.Stays.{in_times, out_times}
use Rattle.kj_model.proofs.Members.{in_none}
use Rattle.std.proofs.lemmas.List.{map-append}
use Rattle.kj_paths.proofs.Laid.{stands, IsBefore, Laid}

-- the spot of a new node: in a new arena, or one place before a node that it owns
abbrev pub Fits : List ℕ → Spot → ℕ → World → Type 0
Fits parts x key w = ((x.key ≡ w.next_key) × (x.place ≡ 7) × (key ≡ w.next_key + 1)) ⊎ ((t : ℕ) × (y : Spot) × (is_in t parts ≡ true) × (spot_of t w.spots ≡ Some y) × (x.key ≡ y.key) × (x.place + 1 ≡ y.place) × (key ≡ w.next_key))

-- where a node goes
pub record Grows (before : Option ℕ) (form : Form) (w : World) : Type 0 where
  pub spot : Spot
  pub key : ℕ
  pub number : spot.number ≡ w.next
  pub same : built before form w ≡ grown form spot key w
  pub fits : Fits (parts_of form) spot key w

abbrev pub GoesBefore : Option ℕ → Form → Type 0
GoesBefore None form = Unit {0}
GoesBefore (Some t) form = is_in t (parts_of form) ≡ true

less_one : (p : ℕ) → 0 < p → p - 1 + 1 ≡ p
less_one p h = omega (arith, h)

lt_of : (p : ℕ) → nat_lt 0 p ≡ true → 0 < p
lt_of p h = grind (arith, nat_tests)

pub grows : (before : Option ℕ) (form : Form) (w : World) → GoesBefore before form → Grows before form w
grows None form w g = record { spot = spot_anew w.next w.next_key; key = w.next_key + 1; number = refl; same = refl; fits = inl (refl, refl, refl) }
grows (Some t) form w g = over (spot_of t w.spots) refl
  where
    anew : (o : Option Spot) → placed_over o w ≡ placed_anew w → (x : Spot) × (k : ℕ) × (x.number ≡ w.next) × (numbered form (placed_over o w) ≡ grown form x k w) × Fits (parts_of form) x k w
    anew o e = (spot_anew w.next w.next_key, w.next_key + 1, refl, ap (numbered form) e, inl (refl, refl, refl))

    if_place : (y : Spot) (b : Bool) → nat_lt 0 y.place ≡ b → spot_of t w.spots ≡ Some y → (x : Spot) × (k : ℕ) × (x.number ≡ w.next) × (numbered form (placed_over (Some y) w) ≡ grown form x k w) × Fits (parts_of form) x k w
    if_place y true e at = (spot_before w.next y, w.next_key, refl, ap (λ b. numbered form (placed_if b y w)) e, inr (t, y, g, at, refl, less_one y.place (lt_of y.place e), refl))
    if_place y false e at = anew (Some y) (ap (λ b. placed_if b y w) e)

    spots : (o : Option Spot) → spot_of t w.spots ≡ o → (x : Spot) × (k : ℕ) × (x.number ≡ w.next) × (numbered form (placed_over o w) ≡ grown form x k w) × Fits (parts_of form) x k w
    spots None at = anew None refl
    spots (Some y) at = if_place y (nat_lt 0 y.place) refl at

    over : (o : Option Spot) → spot_of t w.spots ≡ o → Grows (Some t) form w
    over o at =
        let r = spots o at in
        record { spot = r.0; key = r.1; number = r.2; same = ap (λ (a : Option Spot). numbered form (placed_over a w)) at ∙ r.3; fits = r.4 }

-- spots with one more
spot_app_other : (m : ℕ) (x : Spot) (xs : List Spot) → nat_eq x.number m ≡ false → spot_of m (xs ++ x ∷ []) ≡ spot_of m xs
spot_app_other m x [] d = grind (arith, nat_tests)
spot_app_other m x (y ∷ ys) d = more (spot_app_other m x ys d)
  where
    more : spot_of m (ys ++ x ∷ []) ≡ spot_of m ys → spot_of m ((y ∷ ys) ++ x ∷ []) ≡ spot_of m (y ∷ ys)
    more h = grind (arith, nat_tests)

some_same : (x y : Spot) → ◌≡◌ {A = Option Spot} (Some x) (Some y) → x ≡ y
some_same x y e = cc

spot_app_new : (x : Spot) (xs : List Spot) → ((y : Spot) → spot_of x.number xs ≡ Some y → ⊥) → spot_of x.number (xs ++ x ∷ []) ≡ Some x
spot_app_new x [] h = grind (arith, nat_tests)
spot_app_new x (y ∷ ys) h = decide (nat_eq y.number x.number) refl (λ k. spot_app_new x ys k)
  where
    here : nat_eq y.number x.number ≡ true → spot_of x.number (y ∷ ys) ≡ Some y
    here e = grind (arith, nat_tests)

    skip : nat_eq y.number x.number ≡ false → spot_of x.number (y ∷ ys) ≡ spot_of x.number ys
    skip e = grind (arith, nat_tests)

    skip_app : nat_eq y.number x.number ≡ false → spot_of x.number ((y ∷ ys) ++ x ∷ []) ≡ spot_of x.number (ys ++ x ∷ [])
    skip_app e = grind (arith, nat_tests)

    decide : (b : Bool) → nat_eq y.number x.number ≡ b → (((z : Spot) → spot_of x.number ys ≡ Some z → ⊥) → spot_of x.number (ys ++ x ∷ []) ≡ Some x) → spot_of x.number ((y ∷ ys) ++ x ∷ []) ≡ Some x
    decide true e ih = absurd (h y (here e))
    decide false e ih = skip_app e ∙ ih (λ z at. h z (skip e ∙ at))

-- one more spot, of a number that has none
one_most : (b : Bool) → cond b 1 0 ≤ 1
one_most true = omega arith
one_most false = omega arith

once_more : (n : ℕ) (x : Spot) (xs : List Spot) → times n (map (λ (y : Spot). y.number) xs) ≤ 1 → (n ≡ x.number → times n (map (λ (y : Spot). y.number) xs) ≡ 0) → times n (map (λ (y : Spot). y.number) (xs ++ x ∷ [])) ≤ 1
once_more n x xs h none =
    let a : times n (map (λ (y : Spot). y.number) (xs ++ x ∷ [])) ≡ times n (map (λ (y : Spot). y.number) xs) + times n (x.number ∷ []) = ap (times n) (map-append (λ (y : Spot). y.number) xs (x ∷ [])) ∙ times_app n (map (λ (y : Spot). y.number) xs) (x.number ∷ []) in
    by_number (nat_eq x.number n) refl a
  where
    none_here : nat_eq x.number n ≡ false → times n (x.number ∷ []) ≡ 0
    none_here e = grind (arith, nat_tests)

    by_number : (b : Bool) → nat_eq x.number n ≡ b → times n (map (λ (y : Spot). y.number) (xs ++ x ∷ [])) ≡ times n (map (λ (y : Spot). y.number) xs) + times n (x.number ∷ []) → times n (map (λ (y : Spot). y.number) (xs ++ x ∷ [])) ≤ 1
    by_number true e a = let z = none (same_number x.number n e) in let o = one_most (nat_eq x.number n) in omega (arith, a, z, o)
    by_number false e a = let z = none_here e in omega (arith, a, z, h)

-- a number among those of spots has a spot
pub number_spot : (n : ℕ) (xs : List Spot) → is_in n (map (λ (x : Spot). x.number) xs) ≡ true → (x : Spot) × (spot_of n xs ≡ Some x)
number_spot n [] i = absurd (in_none n i)
number_spot n (y ∷ ys) i = decide (nat_eq y.number n) refl (λ j. number_spot n ys j)
  where
    here : nat_eq y.number n ≡ true → spot_of n (y ∷ ys) ≡ Some y
    here e = grind (arith, nat_tests)

    skip : nat_eq y.number n ≡ false → spot_of n (y ∷ ys) ≡ spot_of n ys
    skip e = grind (arith, nat_tests)

    rest : nat_eq y.number n ≡ false → is_in n (map (λ (x : Spot). x.number) ys) ≡ true
    rest e = grind (arith, nat_tests)

    decide : (b : Bool) → nat_eq y.number n ≡ b → (is_in n (map (λ (x : Spot). x.number) ys) ≡ true → (x : Spot) × (spot_of n ys ≡ Some x)) → (x : Spot) × (spot_of n (y ∷ ys) ≡ Some x)
    decide true e ih = (y, here e)
    decide false e ih = let r = ih (rest e) in (r.0, skip e ∙ r.1)

no_number : (n : ℕ) (xs : List Spot) → ((x : Spot) → spot_of n xs ≡ Some x → ⊥) → times n (map (λ (x : Spot). x.number) xs) ≡ 0
no_number n xs h = out_times n (map (λ (x : Spot). x.number) xs) (false_by (is_in n (map (λ (x : Spot). x.number) xs)) (λ i. (let r = number_spot n xs i in h r.0 r.1)))

-- where the new node stands
differs : (m n : ℕ) → m < n → nat_eq m n ≡ false
differs m n h = grind (arith, nat_tests)

-- which of two places is the lower
pub lower : (a b : ℕ) → (a < b) ⊎ ((a ≡ b) ⊎ (b < a))
lower a b = decide (nat_lt a b) (nat_lt b a) refl refl
  where
    decide : (c d : Bool) → nat_lt a b ≡ c → nat_lt b a ≡ d → (a < b) ⊎ ((a ≡ b) ⊎ (b < a))
    decide true d e f = inl (grind (arith, nat_tests))
    decide false true e f = inr (inr (grind (arith, nat_tests)))
    decide false false e f = inr (inl (grind (arith, nat_tests)))

module _ (form : Form) (rest : List ℕ) (x : Spot) (key : ℕ) (w : World) (g : Laid (parts_of form ++ rest) w) (number : x.number ≡ w.next) (fits : Fits (parts_of form) x key w) where
  next_dead : is_live w.next w.nodes ≡ false
  next_dead = false_by (is_live w.next w.nodes) (λ l. g.fresh_live w.next (omega arith) l)

  at_next : form_at w.next (grown form x key w).nodes ≡ Some form
  at_next = app_new (record { number = w.next; form = form }) w.nodes next_dead

  at_other : (m : ℕ) → nat_eq w.next m ≡ false → form_at m (grown form x key w).nodes ≡ form_at m w.nodes
  at_other m d = app_other m (record { number = w.next; form = form }) w.nodes d

  spot_next : spot_of w.next (grown form x key w).spots ≡ Some x
  spot_next = subst (λ (k : ℕ). spot_of k (w.spots ++ x ∷ []) ≡ Some x) number (spot_app_new x w.spots (λ y at. g.fresh_spot x.number y (let n = number in omega (arith, n)) at))

  spot_other : (m : ℕ) → nat_eq w.next m ≡ false → spot_of m (grown form x key w).spots ≡ spot_of m w.spots
  spot_other m d = spot_app_other m x w.spots (ap (λ k. nat_eq k m) number ∙ d)

  owner_cases : (q m : ℕ) → owns q m (grown form x key w).nodes ≡ true → ((q ≡ w.next) × (is_in m (parts_of form) ≡ true)) ⊎ ((nat_eq w.next q ≡ false) × (owns q m w.nodes ≡ true))
  owner_cases q m o = decide (nat_eq w.next q) refl
    where
      decide : (b : Bool) → nat_eq w.next q ≡ b → ((q ≡ w.next) × (is_in m (parts_of form) ≡ true)) ⊎ ((nat_eq w.next q ≡ false) × (owns q m w.nodes ≡ true))
      decide true e = let same = same_number w.next q e in inl (same, sym (ap (λ (a : Option Form). is_in m (parts_found a)) (subst (λ (y : ℕ). form_at y (grown form x key w).nodes ≡ Some form) (sym same) at_next)) ∙ o)
      decide false e = inr (e, sym (ap (λ (a : Option Form). is_in m (parts_found a)) (at_other q e)) ∙ o)

  spot_cases : (m : ℕ) (y : Spot) → spot_of m (grown form x key w).spots ≡ Some y → ((m ≡ w.next) × (y ≡ x)) ⊎ ((nat_eq w.next m ≡ false) × (spot_of m w.spots ≡ Some y))
  spot_cases m y at = decide (nat_eq w.next m) refl
    where
      decide : (b : Bool) → nat_eq w.next m ≡ b → ((m ≡ w.next) × (y ≡ x)) ⊎ ((nat_eq w.next m ≡ false) × (spot_of m w.spots ≡ Some y))
      decide true e = let same = same_number w.next m e in inl (same, some_same y x (sym at ∙ subst (λ (k : ℕ). spot_of k (grown form x key w).spots ≡ Some x) (sym same) spot_next))
      decide false e = inr (e, sym (spot_other m e) ∙ at)

  stands_other : (m : ℕ) → nat_eq w.next m ≡ false → stands (root_out w.next (Some form) ++ rest) (grown form x key w) m + times m (parts_of form) ≡ stands (parts_of form ++ rest) w m
  stands_other m d =
      let a = times_app m (root_out w.next (Some form)) rest in
      let b = root_other w.next m (Some form) d in
      let c = times_app m (parts_of form) rest in
      let h : one_if (is_hub_form (form_at m (grown form x key w).nodes)) ≡ one_if (is_hub_form (form_at m w.nodes)) = ap (λ (o : Option Form). one_if (is_hub_form o)) (at_other m d) in
      omega (arith, a, b, c, h)

  stands_next : (m : ℕ) → m ≡ w.next → stands (root_out w.next (Some form) ++ rest) (grown form x key w) m ≡ 1
  stands_next m e =
      let a = times_app m (root_out w.next (Some form)) rest in
      let b = root_here w.next m (Some form) e in
      let c = times_app m (parts_of form) rest in
      let f = g.fresh m (omega (arith, e)) in
      let h : one_if (is_hub_form (form_at m (grown form x key w).nodes)) ≡ one_if (is_hub_form (Some form)) = ap (λ (o : Option Form). one_if (is_hub_form o)) (subst (λ (y : ℕ). form_at y (grown form x key w).nodes ≡ Some form) (sym e) at_next) in
      omega (arith, a, b, c, f, h)

  part_stands : (m : ℕ) → is_in m (parts_of form) ≡ true → 1 ≤ stands (parts_of form ++ rest) w m
  part_stands m i = let a = in_times m (parts_of form) i in let b = times_app m (parts_of form) rest in omega (arith, a, b)

  -- the new node is the first of its arena
  behind : (n : ℕ) (z : Spot) → spot_of n w.spots ≡ Some z → z.key ≡ x.key → (t : ℕ) × (y : Spot) × (is_in t (parts_of form) ≡ true) × (spot_of t w.spots ≡ Some y) × (x.key ≡ y.key) × (x.place + 1 ≡ y.place) × ((y.place < z.place) ⊎ (t ≡ n))
  behind n z at k = elim fits [
    | inl a ↦ absurd (let b = g.key n z at in (let c = a.0 in none k b c))
    | inr f ↦ (
      f.0,
      f.1,
      f.2,
      f.3,
      f.4,
      f.5,
      elim (lower f.1.place z.place) [
        | inl p ↦ inl p
        | inr r ↦ elim r [
          | inl e ↦ inr (g.alone f.0 n f.1 z f.3 at (sym f.4 ∙ sym k) e)
          | inr p ↦ absurd (let a = g.root n f.0 z f.1 at f.3 (k ∙ f.4) p in let b = part_stands f.0 f.2 in omega (arith, a, b))
        ]
      ],
    )
  ]
    where
      none : z.key ≡ x.key → z.key < w.next_key → x.key ≡ w.next_key → ⊥
      none k b c = omega (arith, k, b, c)

  grown_laid : Laid (root_out w.next (Some form) ++ rest) (grown form x key w)
  grown_laid = record {
    names = g.names;
    once = λ m. once_at m (nat_eq w.next m) refl;
    unowned = λ m q h o. unowned_at m q h (nat_eq w.next m) refl (owner_cases q m o);
    fresh = λ m h. (let d = differs w.next m (omega (arith, h)) in let a = stands_other m d in let f = g.fresh m (omega (arith, h)) in omega (arith, a, f));
    fresh_owner = λ m q h o. elim (owner_cases q m o) [
      | inl a ↦ (let p = part_stands m a.1 in let f = g.fresh m (omega (arith, h)) in omega (arith, p, f))
      | inr b ↦ g.fresh_owner m q (omega (arith, h)) b.1
    ];
    fresh_live = λ m h l. g.fresh_live m (omega (arith, h)) (sym (ap is_some (at_other m (differs w.next m (omega (arith, h))))) ∙ l);
    fresh_spot = λ m y h at. g.fresh_spot m y (omega (arith, h)) (sym (spot_other m (differs w.next m (omega (arith, h)))) ∙ at);
    apart = λ n. once_more n x w.spots (g.apart n) (λ e. no_number n w.spots (λ y at. g.fresh_spot n y (let k = number in omega (arith, e, k)) at));
    place = λ m y at. elim (spot_cases m y at) [ inl a ↦ subst (λ (z : Spot). z.place < 8) (sym a.1) place_next | inr b ↦ g.place m y b.1 ];
    key = λ m y at. elim (spot_cases m y at) [ inl a ↦ subst (λ (z : Spot). z.key < key) (sym a.1) key_next | inr b ↦ key_more y (g.key m y b.1) ];
    alone = λ m n y z at bt k p. alone_at m n y z k p (spot_cases m y at) (spot_cases n z bt);
    root = λ m n y z at bt k p. root_at m n y z k p (spot_cases m y at) (spot_cases n z bt);
    owner = λ m n y z q at bt k p o. owner_at m n y z q k p (spot_cases m y at) (spot_cases n z bt) (owner_cases q n o);
  }
    where
      once_at : (m : ℕ) (b : Bool) → nat_eq w.next m ≡ b → stands (root_out w.next (Some form) ++ rest) (grown form x key w) m ≤ 1
      once_at m true e = let a = stands_next m (same_number w.next m e) in omega (arith, a)
      once_at m false e = let a = stands_other m e in let b = g.once m in omega (arith, a, b)

      unowned_at : (m q : ℕ) → 1 ≤ stands (root_out w.next (Some form) ++ rest) (grown form x key w) m → (b : Bool) → nat_eq w.next m ≡ b → ((q ≡ w.next) × (is_in m (parts_of form) ≡ true)) ⊎ ((nat_eq w.next q ≡ false) × (owns q m w.nodes ≡ true)) → ⊥
      unowned_at m q h true e (inl a) = let p = part_stands m a.1 in let f = g.fresh m (let s = same_number w.next m e in omega (arith, s)) in omega (arith, p, f)
      unowned_at m q h true e (inr o) = g.fresh_owner m q (let s = same_number w.next m e in omega (arith, s)) o.1
      unowned_at m q h false e (inl a) = let p = in_times m (parts_of form) a.1 in let c = stands_other m e in let f = g.once m in omega (arith, p, c, f, h)
      unowned_at m q h false e (inr o) = g.unowned m q (let c = stands_other m e in omega (arith, c, h)) o.1

      place_next : x.place < 8
      place_next = elim fits [ inl a ↦ (let e = a.1 in omega (arith, e)) | inr f ↦ (let a = g.place f.0 f.1 f.3 in let e = f.5 in omega (arith, a, e)) ]

      key_next : x.key < key
      key_next = elim fits [ inl a ↦ (let e = a.0 in let d = a.2 in omega (arith, e, d)) | inr f ↦ (let a = g.key f.0 f.1 f.3 in let e = f.4 in let d = f.6 in omega (arith, a, e, d)) ]

      key_more : (y : Spot) → y.key < w.next_key → y.key < key
      key_more y h = elim fits [ inl a ↦ (let d = a.2 in omega (arith, d, h)) | inr f ↦ (let d = f.6 in omega (arith, d, h)) ]

      At : ℕ → Spot → Type 0
      At m y = ((m ≡ w.next) × (y ≡ x)) ⊎ ((nat_eq w.next m ≡ false) × (spot_of m w.spots ≡ Some y))

      -- the new node's place is the lowest of its arena
      above : (n : ℕ) (z : Spot) → spot_of n w.spots ≡ Some z → z.key ≡ x.key → x.place < z.place
      above n z at k =
          let b = behind n z at k in
          let e = b.5 in
          elim b.6 [
            | inl p ↦ omega (arith, e, p)
            | inr s ↦ (let same : b.1 ≡ z = some_same b.1 z (sym b.3 ∙ subst (λ (i : ℕ). spot_of i w.spots ≡ Some z) (sym s) at) in let p : b.1.place ≡ z.place = ap (λ (y : Spot). y.place) same in omega (arith, e, p))
          ]

      alone_at : (m n : ℕ) (y z : Spot) → y.key ≡ z.key → y.place ≡ z.place → ((m ≡ w.next) × (y ≡ x)) ⊎ ((nat_eq w.next m ≡ false) × (spot_of m w.spots ≡ Some y)) → ((n ≡ w.next) × (z ≡ x)) ⊎ ((nat_eq w.next n ≡ false) × (spot_of n w.spots ≡ Some z)) → m ≡ n
      alone_at m n y z k p (inl a) (inl b) = a.0 ∙ sym b.0
      alone_at m n y z k p (inl a) (inr b) = absurd (let ka : y.key ≡ x.key = ap (λ (s : Spot). s.key) a.1 in let pa : y.place ≡ x.place = ap (λ (s : Spot). s.place) a.1 in let q = above n z b.1 (sym k ∙ ka) in omega (arith, p, pa, q))
      alone_at m n y z k p (inr a) (inl b) = absurd (let kb : z.key ≡ x.key = ap (λ (s : Spot). s.key) b.1 in let pb : z.place ≡ x.place = ap (λ (s : Spot). s.place) b.1 in let q = above m y a.1 (k ∙ kb) in omega (arith, p, pb, q))
      alone_at m n y z k p (inr a) (inr b) = g.alone m n y z a.1 b.1 k p

      root_at : (m n : ℕ) (y z : Spot) → y.key ≡ z.key → y.place < z.place → ((m ≡ w.next) × (y ≡ x)) ⊎ ((nat_eq w.next m ≡ false) × (spot_of m w.spots ≡ Some y)) → ((n ≡ w.next) × (z ≡ x)) ⊎ ((nat_eq w.next n ≡ false) × (spot_of n w.spots ≡ Some z)) → stands (root_out w.next (Some form) ++ rest) (grown form x key w) n ≡ 0
      root_at m n y z k p (inl a) (inl b) = absurd (let pa : y.place ≡ x.place = ap (λ (s : Spot). s.place) a.1 in let pb : z.place ≡ x.place = ap (λ (s : Spot). s.place) b.1 in omega (arith, p, pa, pb))
      root_at m n y z k p (inl a) (inr b) =
          let ka : y.key ≡ x.key = ap (λ (s : Spot). s.key) a.1 in
          let h = behind n z b.1 (sym k ∙ ka) in
          let so = stands_other n b.0 in
          elim h.6 [
            | inl q ↦ (let r = g.root h.0 n h.1 z h.3 b.1 (sym h.4 ∙ sym ka ∙ k) q in omega (arith, r, so))
            | inr s ↦ (let i = in_times n (parts_of form) (subst (λ (j : ℕ). is_in j (parts_of form) ≡ true) s h.2) in let r = g.once n in omega (arith, r, so, i))
          ]
      root_at m n y z k p (inr a) (inl b) = absurd (let kb : z.key ≡ x.key = ap (λ (s : Spot). s.key) b.1 in let pb : z.place ≡ x.place = ap (λ (s : Spot). s.place) b.1 in let q = above m y a.1 (k ∙ kb) in omega (arith, p, pb, q))
      root_at m n y z k p (inr a) (inr b) = let r = g.root m n y z a.1 b.1 k p in let so = stands_other n b.0 in omega (arith, r, so)

      old_before : (q : ℕ) (z : Spot) → nat_eq w.next q ≡ false → IsBefore q z w → IsBefore q z (grown form x key w)
      old_before q z d b = record { spot = b.spot; placed = spot_other q d ∙ b.placed; key = b.key; place = b.place }

      owner_at : (m n : ℕ) (y z : Spot) (q : ℕ) → y.key ≡ z.key → y.place < z.place → ((m ≡ w.next) × (y ≡ x)) ⊎ ((nat_eq w.next m ≡ false) × (spot_of m w.spots ≡ Some y)) → ((n ≡ w.next) × (z ≡ x)) ⊎ ((nat_eq w.next n ≡ false) × (spot_of n w.spots ≡ Some z)) → ((q ≡ w.next) × (is_in n (parts_of form) ≡ true)) ⊎ ((nat_eq w.next q ≡ false) × (owns q n w.nodes ≡ true)) → IsBefore q z (grown form x key w)
      owner_at m n y z q k p (inl a) (inl b) o = absurd (let pa : y.place ≡ x.place = ap (λ (s : Spot). s.place) a.1 in let pb : z.place ≡ x.place = ap (λ (s : Spot). s.place) b.1 in omega (arith, p, pa, pb))
      owner_at m n y z q k p (inr a) (inl b) o = absurd (let kb : z.key ≡ x.key = ap (λ (s : Spot). s.key) b.1 in let pb : z.place ≡ x.place = ap (λ (s : Spot). s.place) b.1 in let r = above m y a.1 (k ∙ kb) in omega (arith, p, pb, r))
      owner_at m n y z q k p (inr a) (inr b) (inl o) = absurd (let r = g.root m n y z a.1 b.1 k p in let i = part_stands n o.1 in omega (arith, r, i))
      owner_at m n y z q k p (inr a) (inr b) (inr o) = old_before q z o.0 (g.owner m n y z q a.1 b.1 k p o.1)
      owner_at m n y z q k p (inl a) (inr b) o =
          let ka : y.key ≡ x.key = ap (λ (s : Spot). s.key) a.1 in
          let h = behind n z b.1 (sym k ∙ ka) in
          elim h.6 [
            | inl l ↦ elim o [
              | inl c ↦ absurd (let r = g.root h.0 n h.1 z h.3 b.1 (sym h.4 ∙ sym ka ∙ k) l in let i = part_stands n c.1 in omega (arith, r, i))
              | inr c ↦ old_before q z c.0 (g.owner h.0 n h.1 z q h.3 b.1 (sym h.4 ∙ sym ka ∙ k) l c.1)
            ]
            | inr s ↦ elim o [
              | inl c ↦ (let same : h.1 ≡ z = some_same h.1 z (sym h.3 ∙ subst (λ (i : ℕ). spot_of i w.spots ≡ Some z) (sym s) b.1) in record { spot = x; placed = subst (λ (i : ℕ). spot_of i (grown form x key w).spots ≡ Some x) (sym c.0) spot_next; key = sym ka ∙ k; place = h.5 ∙ ap (λ (i : Spot). i.place) same })
              | inr c ↦ absurd (g.unowned n q (part_stands n (subst (λ (j : ℕ). is_in j (parts_of form) ≡ true) s h.2)) c.1)
            ]
          ]

-- a node is built over loose nodes
pub built_laid : (before : Option ℕ) (form : Form) (rest : List ℕ) (w : World) → GoesBefore before form → Laid (parts_of form ++ rest) w → Laid (root_out w.next (Some form) ++ rest) (built before form w)
built_laid before form rest w b g =
    let r = grows before form w b in
    subst (Laid (root_out w.next (Some form) ++ rest)) (sym r.same) (grown_laid form rest r.spot r.key w g r.number r.fits)
