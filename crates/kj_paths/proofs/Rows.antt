-- Where arenas are enough there are slots enough.
use Rattle.std.proofs.Common.{zero, suc, ◌≡◌, ◌⊎◌, inl, inr, ℕ, ◌+◌, ◌-◌, ◌*◌, ◌/◌, ◌≤◌, ◌<◌, List, [], ◌∷◌, ◌++◌, Bool, true, false, cond, Option, None, Some, arith, refl, sym, ap, ◌∙◌, subst, length, length-append, ◌==◌}
use Rattle.std.specs.Prelude.{nat_eq, nat_lt, nat_le, map, sum}
use Rattle.std.proofs.lemmas.Bool.{false≢true}
use Rattle.std.proofs.lemmas.Bool.Decides.{nat_tests}
use Rattle.std.proofs.lemmas.List.Sums.{sum-map, sum_by-cons}
use Rattle.kj_base.specs.Places.{Spot, Row, spot_of, counts, needs_over, needs_at, needs, arenas, arenas_fit}
use Rattle.kj_base.specs.Store.{is_named}
use Rattle.kj_model.specs.Nodes.{is_in}
use Rattle.kj_model.specs.World.{World}
use Rattle.kj_model.specs.Trees.{AreApart}
use Rattle.kj_model.specs.Framed.{times}
use Rattle.kj_model.proofs.Members.{Within, in_either, in_left, in_right, in_none}
use Rattle.kj_model.proofs.Once.{both_ways, false_by, apart_join}
use Rattle.kj_ownership.proofs.Flat.{few}
use Rattle.kj_ownership.proofs.Stays.{in_times}
use Rattle.kj_paths.specs.Paths.{Paths, is_used}
use Rattle.kj_paths.specs.Rows.{IsFirst, GoesAlone, GoApart}
use Rattle.kj_paths.proofs.Laid.{Once}
use Rattle.kj_paths.proofs.Built.{lower}
use Rattle.kj_paths.proofs.Paths.{spot_number, spot_used}

-- the cells of arenas, by number
abbrev cell : Spot → ℕ
cell x = 8 * x.key + x.place

abbrev cells : List Spot → List ℕ
cells spots = map cell spots

-- so many cells of an arena, from this place on
abbrev cells_from : ℕ → ℕ → ℕ → List ℕ
cells_from key base zero = []
cells_from key base (suc n) = (8 * key + (base + n)) ∷ cells_from key base n

cells_count : (key base n : ℕ) → length (cells_from key base n) ≡ n
cells_count key base zero = refl
cells_count key base (suc n) = let h = cells_count key base n in omega (arith, h)

here_or_later : (m x : ℕ) (xs : List ℕ) → is_in m (x ∷ xs) ≡ true → (m ≡ x) ⊎ (is_in m xs ≡ true)
here_or_later m x xs i = decide (nat_eq x m) refl
  where
    decide : (b : Bool) → nat_eq x m ≡ b → (m ≡ x) ⊎ (is_in m xs ≡ true)
    decide true e = inl (grind (arith, nat_tests))
    decide false e = inr (grind (arith, nat_tests))

first_in : (m x : ℕ) (xs : List ℕ) → m ≡ x → is_in m (x ∷ xs) ≡ true
first_in m x xs e = grind (arith, nat_tests)

later_in : (m x : ℕ) (xs : List ℕ) → is_in m xs ≡ true → is_in m (x ∷ xs) ≡ true
later_in m x xs i = grind (arith, nat_tests)

in_cells_from : (key base n p : ℕ) → base ≤ p → p < base + n → is_in (8 * key + p) (cells_from key base n) ≡ true
in_cells_from key base zero p h k = absurd (omega (arith, h, k))
in_cells_from key base (suc n) p h k = elim (lower p (base + n)) [
  | inl l ↦ later_in (8 * key + p) (8 * key + (base + n)) (cells_from key base n) (in_cells_from key base n p h l)
  | inr r ↦ elim r [
    | inl e ↦ first_in (8 * key + p) (8 * key + (base + n)) (cells_from key base n) (omega (arith, e))
    | inr l ↦ absurd (omega (arith, l, k))
  ]
]

record PlaceOf (m key base n : ℕ) : Type 0 where
  place : ℕ
  is : m ≡ 8 * key + place
  from : base ≤ place
  below : place < base + n

of_cells_from : (m key base n : ℕ) → is_in m (cells_from key base n) ≡ true → PlaceOf m key base n
of_cells_from m key base zero i = absurd (in_none m i)
of_cells_from m key base (suc n) i = elim (here_or_later m (8 * key + (base + n)) (cells_from key base n) i) [
  | inl e ↦ record { place = base + n; is = e; from = omega arith; below = omega arith }
  | inr j ↦ (let r = of_cells_from m key base n j in let b = r.below in record { place = r.place; is = r.is; from = r.from; below = omega (arith, b) })
]

cells_apart : (key base n : ℕ) → AreApart (cells_from key base n)
cells_apart key base zero = tt
cells_apart key base (suc n) = (false_by (is_in (8 * key + (base + n)) (cells_from key base n)) (λ i. (let r = of_cells_from (8 * key + (base + n)) key base n i in let e = r.is in let b = r.below in omega (arith, e, b))), cells_apart key base n)

-- a cell is of one arena, at one place
same_key : (k l p q : ℕ) → p < 8 → q < 8 → 8 * k + p ≡ 8 * l + q → k ≡ l
same_key k l p q h i e = omega (arith, h, i, e)

same_place : (k l p q : ℕ) → p < 8 → q < 8 → 8 * k + p ≡ 8 * l + q → p ≡ q
same_place k l p q h i e = omega (arith, h, i, e)

-- all cells of the arenas in use
abbrev eight_unless : Bool → ℕ → List ℕ
eight_unless true key = []
eight_unless false key = cells_from key 0 8

abbrev all_cells : List Spot → List ℕ
all_cells [] = []
all_cells (x ∷ xs) = eight_unless (is_used x.key xs) x.key ++ all_cells xs

arenas_more : (x : Spot) (xs : List Spot) (b : Bool) → is_used x.key xs ≡ b → arenas (x ∷ xs) ≡ cond b 0 1 + arenas xs
arenas_more x xs true e = grind arith
arenas_more x xs false e = grind arith

all_count : (xs : List Spot) → length (all_cells xs) ≡ 8 * arenas xs
all_count [] = refl
all_count (x ∷ xs) = decide (is_used x.key xs) refl (all_count xs)
  where
    decide : (b : Bool) → is_used x.key xs ≡ b → length (all_cells xs) ≡ 8 * arenas xs → length (eight_unless b x.key ++ all_cells xs) ≡ 8 * arenas (x ∷ xs)
    decide true e h = let a = arenas_more x xs true e in omega (arith, a, h)
    decide false e h =
        let a = arenas_more x xs false e in
        let b = length-append (cells_from x.key 0 8) (all_cells xs) in
        let c = cells_count x.key 0 8 in
        omega (arith, a, h, b, c)

in_all : (key p : ℕ) (xs : List Spot) → is_used key xs ≡ true → p < 8 → is_in (8 * key + p) (all_cells xs) ≡ true
in_all key p [] u h = absurd (false≢true u)
in_all key p (x ∷ xs) u h = decide (nat_eq x.key key) refl (λ v. in_all key p xs v h)
  where
    same : nat_eq x.key key ≡ true → x.key ≡ key
    same e = grind (arith, nat_tests)

    more : nat_eq x.key key ≡ false → is_used key xs ≡ true
    more e = grind (arith, nat_tests)

    first : (b : Bool) → is_used x.key xs ≡ b → x.key ≡ key → (is_used key xs ≡ true → is_in (8 * key + p) (all_cells xs) ≡ true) → is_in (8 * key + p) (eight_unless b x.key ++ all_cells xs) ≡ true
    first true v e ih = ih (subst (λ (k : ℕ). is_used k xs ≡ true) e v)
    first false v e ih = in_left (8 * key + p) (cells_from x.key 0 8) (all_cells xs) (subst (λ (k : ℕ). is_in (8 * k + p) (cells_from x.key 0 8) ≡ true) e (in_cells_from x.key 0 8 p (omega arith) (omega (arith, h))))

    decide : (b : Bool) → nat_eq x.key key ≡ b → (is_used key xs ≡ true → is_in (8 * key + p) (all_cells xs) ≡ true) → is_in (8 * key + p) (all_cells (x ∷ xs)) ≡ true
    decide true e ih = first (is_used x.key xs) refl (same e) ih
    decide false e ih = in_right (8 * key + p) (eight_unless (is_used x.key xs) x.key) (all_cells xs) (ih (more e))

-- live nodes are in different cells
record InCell (m : ℕ) (xs : List Spot) : Type 0 where
  spot : Spot
  placed : spot_of spot.number xs ≡ Some spot
  is : cell spot ≡ m
  listed : is_in spot.number (map (λ (x : Spot). x.number) xs) ≡ true

once_less : (x : Spot) (xs : List Spot) → Once (x ∷ xs) → Once xs
once_less x xs a n = let k = a n in omega (arith, k)

twice : (c t : ℕ) → c ≡ 1 → c + t ≤ 1 → 1 ≤ t → ⊥
twice c t e h k = omega (arith, e, h, k)

not_first : (x : Spot) (xs : List Spot) (n : ℕ) → Once (x ∷ xs) → is_in n (map (λ (y : Spot). y.number) xs) ≡ true → nat_eq x.number n ≡ false
not_first x xs n a i = false_by (nat_eq x.number n) (λ e. twice (cond (x.number == n) 1 0) (times n (map (λ (y : Spot). y.number) xs)) (ap (λ b. cond b 1 0) e) (a n) (in_times n (map (λ (y : Spot). y.number) xs) i))

skip_first : (x : Spot) (xs : List Spot) (n : ℕ) → nat_eq x.number n ≡ false → spot_of n (x ∷ xs) ≡ spot_of n xs
skip_first x xs n e = grind (arith, nat_tests)

at_first : (x : Spot) (xs : List Spot) → spot_of x.number (x ∷ xs) ≡ Some x
at_first x xs = grind (arith, nat_tests)

number_first : (x : Spot) (xs : List Spot) → is_in x.number (map (λ (y : Spot). y.number) (x ∷ xs)) ≡ true
number_first x xs = grind (arith, nat_tests)

in_cell : (m : ℕ) (xs : List Spot) → Once xs → is_in m (cells xs) ≡ true → InCell m xs
in_cell m [] a i = absurd (in_none m i)
in_cell m (x ∷ xs) a i = elim (here_or_later m (cell x) (cells xs) i) [
  | inl e ↦ record { spot = x; placed = at_first x xs; is = sym e; listed = number_first x xs }
  | inr j ↦ (let r = in_cell m xs (once_less x xs a) j in record { spot = r.spot; placed = skip_first x xs r.spot.number (not_first x xs r.spot.number a r.listed) ∙ r.placed; is = r.is; listed = later_in r.spot.number x.number (map (λ (y : Spot). y.number) xs) r.listed })
]

-- what is asked of spots
pub record Apart (xs : List Spot) : Type 0 where
  pub once : Once xs
  pub places : (n : ℕ) (x : Spot) → spot_of n xs ≡ Some x → x.place < 8
  pub alone : (m n : ℕ) (x y : Spot) → spot_of m xs ≡ Some x → spot_of n xs ≡ Some y → x.key ≡ y.key → x.place ≡ y.place → m ≡ n

there : (n : ℕ) (x : Spot) (xs : List Spot) → spot_of n xs ≡ Some x → is_in n (map (λ (y : Spot). y.number) xs) ≡ true
there n x xs at = spot_number n x xs at

apart_less : (x : Spot) (xs : List Spot) → Apart (x ∷ xs) → Apart xs
apart_less x xs a = record {
  once = once_less x xs a.once;
  places = λ n y at. a.places n y (later n y at);
  alone = λ m n y z at bt. a.alone m n y z (later m y at) (later n z bt);
}
  where
    later : (n : ℕ) (y : Spot) → spot_of n xs ≡ Some y → spot_of n (x ∷ xs) ≡ Some y
    later n y at = skip_first x xs n (not_first x xs n a.once (there n y xs at)) ∙ at

number_same : (m n : ℕ) → m ≡ n → nat_eq m n ≡ true
number_same m n e = grind (arith, nat_tests)

spots_apart : (xs : List Spot) → Apart xs → AreApart (cells xs)
spots_apart [] a = tt
spots_apart (x ∷ xs) a = (
  false_by (is_in (cell x) (cells xs)) (λ i.
      (let r = in_cell (cell x) xs (once_less x xs a.once) i in
      let d = not_first x xs r.spot.number a.once r.listed in
      let at = skip_first x xs r.spot.number d ∙ r.placed in
      let p = a.places x.number x (at_first x xs) in
      let q = a.places r.spot.number r.spot at in
      both_ways (nat_eq x.number r.spot.number) (number_same x.number r.spot.number (a.alone x.number r.spot.number x r.spot (at_first x xs) at (same_key x.key r.spot.key x.place r.spot.place p q (sym r.is)) (same_place x.key r.spot.key x.place r.spot.place p q (sym r.is)))) d)),
  spots_apart xs (apart_less x xs a),
)

-- the cells of the nodes of rows that need no arena
abbrev cells_over : ℕ → Option Spot → List ℕ
cells_over count None = []
cells_over count (Some x) = cond (nat_lt x.place count) [] (cells_from x.key (x.place - count) count)

abbrev cells_at : List Spot → ℕ → Option ℕ → List ℕ
cells_at spots count None = []
cells_at spots count (Some n) = cells_over count (spot_of n spots)

abbrev rows_cells : List Spot → List Row → List ℕ
rows_cells spots [] = []
rows_cells spots (r ∷ rows) = cells_at spots r.count r.before ++ rows_cells spots rows

-- a row needs an arena, or its nodes have cells
over_count : (count : ℕ) (o : Option Spot) → count ≤ 8 → count ≤ length (cells_over count o) + 8 * needs_over count o
over_count count None h = omega (arith, h)
over_count count (Some x) h = decide (nat_lt x.place count) refl
  where
    decide : (b : Bool) → nat_lt x.place count ≡ b → count ≤ length (cells_over count (Some x)) + 8 * needs_over count (Some x)
    decide true e = grind (arith, nat_tests)
    decide false e =
        let a : length (cells_over count (Some x)) ≡ count = ap (λ b. length (cond b [] (cells_from x.key (x.place - count) count))) e ∙ cells_count x.key (x.place - count) count in
        omega (arith, a)

at_count : (spots : List Spot) (count : ℕ) (before : Option ℕ) → count ≤ 8 → count ≤ length (cells_at spots count before) + 8 * needs_at spots count before
at_count spots count None h = omega (arith, h)
at_count spots count (Some n) h = over_count count (spot_of n spots) h

counts_more : (r : Row) (rows : List Row) → counts (r ∷ rows) ≡ r.count + counts rows
counts_more r rows = sum-map (λ (x : Row). x.count) (r ∷ rows) ∙ sum_by-cons (λ (x : Row). x.count) r rows ∙ ap (λ k. r.count + k) (sym (sum-map (λ (x : Row). x.count) rows))

needs_more : (spots : List Spot) (r : Row) (rows : List Row) → sum (map (needs spots) (r ∷ rows)) ≡ needs spots r + sum (map (needs spots) rows)
needs_more spots r rows = sum-map (needs spots) (r ∷ rows) ∙ sum_by-cons (needs spots) r rows ∙ ap (λ k. needs spots r + k) (sym (sum-map (needs spots) rows))

rows_count : (w : World) (rows : List Row) → GoApart w rows → counts rows ≤ length (rows_cells w.spots rows) + 8 * sum (map (needs w.spots) rows)
rows_count w [] g = omega arith
rows_count w (r ∷ rows) g =
    let a = at_count w.spots r.count r.before g.0 in
    let h = rows_count w rows g.2 in
    let b = counts_more r rows in
    let c = needs_more w.spots r rows in
    let d = length-append (cells_at w.spots r.count r.before) (rows_cells w.spots rows) in
    omega (arith, a, h, b, c, d)

-- whose cell it is
record CellOf (m : ℕ) (spots : List Spot) (n : ℕ) : Type 0 where
  spot : Spot
  placed : spot_of n spots ≡ Some spot
  place : ℕ
  is : m ≡ 8 * spot.key + place
  below : place < spot.place

lt_of : (a b : ℕ) → nat_lt a b ≡ false → b ≤ a
lt_of a b e = grind (arith, nat_tests)

of_over : (m n count : ℕ) (spots : List Spot) (o : Option Spot) → spot_of n spots ≡ o → is_in m (cells_over count o) ≡ true → CellOf m spots n
of_over m n count spots None at i = absurd (in_none m i)
of_over m n count spots (Some x) at i = decide (nat_lt x.place count) refl i
  where
    decide : (b : Bool) → nat_lt x.place count ≡ b → is_in m (cond b [] (cells_from x.key (x.place - count) count)) ≡ true → CellOf m spots n
    decide true e j = absurd (in_none m j)
    decide false e j = let r = of_cells_from m x.key (x.place - count) count j in let l = lt_of x.place count e in let b = r.below in record { spot = x; placed = at; place = r.place; is = r.is; below = omega (arith, l, b) }

record RowCell (m : ℕ) (w : World) (rows : List Row) : Type 0 where
  number : ℕ
  of : CellOf m w.spots number
  first : (x : Spot) → spot_of number w.spots ≡ Some x → IsFirst x w
  named : is_named number rows ≡ true

of_rows : (m : ℕ) (w : World) (rows : List Row) → GoApart w rows → is_in m (rows_cells w.spots rows) ≡ true → RowCell m w rows
of_rows m w [] g i = absurd (in_none m i)
of_rows m w (r ∷ rows) g i = elim (in_either m (cells_at w.spots r.count r.before) (rows_cells w.spots rows) i) [
  | inl a ↦ first r.before refl g.1 a
  | inr b ↦ (let c = of_rows m w rows g.2 b in record { number = c.number; of = c.of; first = c.first; named = more c.number c.named })
]
  where
    more : (n : ℕ) → is_named n rows ≡ true → is_named n (r ∷ rows) ≡ true
    more n h = grind (arith, nat_tests)

    here : (n : ℕ) → r.before ≡ Some n → is_named n (r ∷ rows) ≡ true
    here n e = grind (arith, nat_tests)

    first : (o : Option ℕ) → r.before ≡ o → GoesAlone w o rows → is_in m (cells_at w.spots r.count o) ≡ true → RowCell m w (r ∷ rows)
    first None e h j = absurd (in_none m j)
    first (Some n) e h j = record { number = n; of = of_over m n r.count w.spots (spot_of n w.spots) refl j; first = λ x at. (h x at).0; named = here n e }

module _ (w : World) (p : Apart w.spots) where
  place_below : (m n : ℕ) (c : CellOf m w.spots n) → c.place < 8
  place_below m n c = let a = p.places n c.spot c.placed in let b = c.below in omega (arith, a, b)

  rows_off : (m : ℕ) (rows : List Row) → GoApart w rows → is_in m (rows_cells w.spots rows) ≡ true → is_in m (cells w.spots) ≡ false
  rows_off m rows g i = false_by (is_in m (cells w.spots)) (λ j.
      (let r = of_rows m w rows g i in
      let c = r.of in
      let y = in_cell m w.spots p.once j in
      let h = p.places y.spot.number y.spot y.placed in
      let e = y.is ∙ c.is in
      let k = same_key y.spot.key c.spot.key y.spot.place c.place h (place_below m r.number c) e in
      let l = same_place y.spot.key c.spot.key y.spot.place c.place h (place_below m r.number c) e in
      let b = c.below in
      r.first c.spot c.placed y.spot.number y.spot y.placed k (omega (arith, l, b))))

  over_apart : (count : ℕ) (o : Option Spot) → AreApart (cells_over count o)
  over_apart count None = tt
  over_apart count (Some x) = decide (nat_lt x.place count)
    where
      decide : (b : Bool) → AreApart (cond b [] (cells_from x.key (x.place - count) count))
      decide true = tt
      decide false = cells_apart x.key (x.place - count) count

  at_apart : (count : ℕ) (before : Option ℕ) → AreApart (cells_at w.spots count before)
  at_apart count None = tt
  at_apart count (Some n) = over_apart count (spot_of n w.spots)

  two_apart : (m n : ℕ) (rows : List Row) → GoesAlone w (Some n) rows → CellOf m w.spots n → RowCell m w rows → ⊥
  two_apart m n rows g c r =
      let d = r.of in
      let e = sym c.is ∙ d.is in
      let k = same_key c.spot.key d.spot.key c.place d.place (place_below m n c) (place_below m r.number d) e in
      let u = g c.spot c.placed in
      elim (lower c.spot.place d.spot.place) [
        | inl l ↦ r.first d.spot d.placed n c.spot c.placed k l
        | inr o ↦ elim o [
          | inl s ↦ both_ways (is_named n rows) (subst (λ (i : ℕ). is_named i rows ≡ true) (sym (p.alone n r.number c.spot d.spot c.placed d.placed k s)) r.named) u.1
          | inr l ↦ u.0 r.number d.spot d.placed (sym k) l
        ]
      ]

  rows_apart : (rows : List Row) → GoApart w rows → AreApart (rows_cells w.spots rows)
  rows_apart [] g = tt
  rows_apart (r ∷ rows) g = apart_join (cells_at w.spots r.count r.before) (rows_cells w.spots rows) (at_apart r.count r.before) (rows_apart rows g.2) (λ m i. off r.before g.1 m i)
    where
      off : (o : Option ℕ) → GoesAlone w o rows → (m : ℕ) → is_in m (rows_cells w.spots rows) ≡ true → is_in m (cells_at w.spots r.count o) ≡ false
      off None h m i = refl
      off (Some n) h m i = false_by (is_in m (cells_at w.spots r.count (Some n))) (λ j. two_apart m n rows h (of_over m n r.count w.spots (spot_of n w.spots) refl j) (of_rows m w rows g.2 i))

  cells_within : (rows : List Row) → GoApart w rows → Within (cells w.spots ++ rows_cells w.spots rows) (all_cells w.spots)
  cells_within rows g m i = elim (in_either m (cells w.spots) (rows_cells w.spots rows) i) [
    | inl a ↦ (let y = in_cell m w.spots p.once a in subst (λ (k : ℕ). is_in k (all_cells w.spots) ≡ true) y.is (in_all y.spot.key y.spot.place w.spots (spot_used y.spot.number y.spot y.spot.key w.spots y.placed refl) (p.places y.spot.number y.spot y.placed)))
    | inr b ↦ (let r = of_rows m w rows g b in let c = r.of in subst (λ (k : ℕ). is_in k (all_cells w.spots) ≡ true) (sym c.is) (in_all c.spot.key c.place w.spots (spot_used r.number c.spot c.spot.key w.spots c.placed refl) (place_below m r.number c)))
  ]

  few_cells : (rows : List Row) → GoApart w rows → length w.spots + length (rows_cells w.spots rows) ≤ 8 * arenas w.spots
  few_cells rows g =
      let a = few (cells w.spots ++ rows_cells w.spots rows) (all_cells w.spots) (apart_join (cells w.spots) (rows_cells w.spots rows) (spots_apart w.spots p) (rows_apart rows g) (λ m i. rows_off m rows g i)) (cells_within rows g) in
      let b = length-append (cells w.spots) (rows_cells w.spots rows) in
      let c = cells_length w.spots in
      let d = all_count w.spots in
      omega (arith, a, b, c, d)
    where
      cells_length : (xs : List Spot) → length (cells xs) ≡ length xs
      cells_length [] = refl
      cells_length (x ∷ xs) = let h = cells_length xs in omega (arith, h)

-- where rows before different roots fit into arenas, there are slots for the live nodes and for theirs
pub le_of : (a b : ℕ) → nat_le a b ≡ true → a ≤ b
le_of a b h = grind (arith, nat_tests)

enough : (slots s c k a n : ℕ) → s + c ≤ 8 * a → k ≤ c + 8 * n → n + a ≤ slots / 8 → s + k ≤ slots
enough slots s c k a n h i j = omega (arith, h, i, j)

pub enough_apart : (slots : ℕ) (w : World) (rows : List Row) → Apart w.spots → GoApart w rows → arenas_fit slots w.spots rows ≡ true → length w.spots + counts rows ≤ slots
enough_apart slots w rows p g h = enough slots (length w.spots) (length (rows_cells w.spots rows)) (counts rows) (arenas w.spots) (sum (map (needs w.spots) rows)) (few_cells w p rows g) (rows_count w rows g) (le_of (sum (map (needs w.spots) rows) + arenas w.spots) (slots / 8) h)

pub slots_enough : (slots : ℕ) (w : World) (rows : List Row) → Paths w → GoApart w rows → arenas_fit slots w.spots rows ≡ true → length w.spots + counts rows ≤ slots
slots_enough slots w rows p g h = enough_apart slots w rows (record { once = p.once; places = p.places; alone = p.alone }) g h
