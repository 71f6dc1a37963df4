-- Lists of spots and of free arenas.
use Rattle.std.proofs.Common.{◌≡◌, ◌∙◌, ℕ, ◌+◌, ◌<◌, List, [], ◌∷◌, ◌++◌, Bool, true, false, Some, length, refl, sym, ap, arith, inl, inr}
use Rattle.std.specs.Prelude.{nat_eq, ◌==◌, ◌||◌}
use Rattle.std.specs.List.{AllByRecursion, IsDistinct}
use Rattle.std.proofs.lemmas.Bool.{false≢true, cases_Bool, or_parts, eqb-true, eqb-false, ne_eqb, eq-eqb}
use Rattle.kj_base.specs.Places.{Spot, arenas, spot_of, spots_without}
use Rattle.kj_base.specs.Store.{AreBelow}
use Rattle.node_table.specs.NodeTable.{is_at, AreApart}
use Rattle.node_table.proofs.Standing.{kept_all, at_same}
use Rattle.node_arena.specs.Arenas.{is_in}
use Rattle.node_arena.specs.Laws.{if_new, has_key, arenas_cons}

-- what holds of each number that has a spot holds of each spot's number
pub all_at : (P : ℕ → Type 0) (spots : List Spot) → ((n : ℕ) → is_at n spots ≡ true → P n) → AllByRecursion (λ (x : Spot). P x.number) spots
all_at P [] h = tt
all_at P (x ∷ xs) h =
    (h x.number (let s = eq-eqb x.number x.number refl in rw s refl), all_at P xs (λ n i. h n (later n x xs i)))
  where
    later : (n : ℕ) (x : Spot) (xs : List Spot) → is_at n xs ≡ true → is_at n (x ∷ xs) ≡ true
    later n x xs i = elim (cases_Bool (nat_eq x.number n)) [ inl s ↦ rw s refl | inr s ↦ rw s i ]

pub all_with : (P Q R : Spot → Type 0) (spots : List Spot) → ((x : Spot) → P x → Q x → R x) → AllByRecursion P spots → AllByRecursion Q spots → AllByRecursion R spots
all_with P Q R [] f p q = tt
all_with P Q R (x ∷ xs) f p q = (f x p.0 q.0, all_with P Q R xs f p.1 q.1)

pub all_push : (P : Spot → Type 0) (spots : List Spot) (x : Spot) → AllByRecursion P spots → P x → AllByRecursion P (spots ++ x ∷ [])
all_push P [] x h p = (p, tt)
all_push P (y ∷ ys) x h p = (h.0, all_push P ys x h.1 p)

pub all_without : (P : Spot → Type 0) (n : ℕ) (spots : List Spot) → AllByRecursion P spots → AllByRecursion P (spots_without n spots)
all_without P n [] h = tt
all_without P n (x ∷ xs) h = elim (cases_Bool (nat_eq x.number n)) [ inl e ↦ rw e (all_without P n xs h.1) | inr e ↦ rw e (h.0, all_without P n xs h.1) ]

-- a spot that is found
pub record IsFound (P : Spot → Type 0) (n : ℕ) (spots : List Spot) : Type 0 where
  pub spot : Spot
  pub is : spot_of n spots ≡ Some spot
  pub number : spot.number ≡ n
  pub has : P spot
  pub key : has_key spot.key spots ≡ true

pub found : (P : Spot → Type 0) (n : ℕ) (spots : List Spot) → AllByRecursion P spots → is_at n spots ≡ true → IsFound P n spots
found P n [] h i = absurd (false≢true i)
found P n (x ∷ xs) h i = elim (cases_Bool (nat_eq x.number n)) [
  | inl e ↦ record { spot = x; is = rw e refl; number = eqb-true x.number n e; has = h.0; key = let s = eq-eqb x.key x.key refl in rw s refl }
  | inr e ↦
      let f = found P n xs h.1 (let j : is_at n xs ≡ true = rw e at i in j) in
      record { spot = f.spot; is = rw e f.is; number = f.number; has = f.has; key = let k = f.key in key_later f.spot.key x xs k }
]
  where
    key_later : (key : ℕ) (x : Spot) (xs : List Spot) → has_key key xs ≡ true → has_key key (x ∷ xs) ≡ true
    key_later key x xs k = elim (cases_Bool (nat_eq x.key key)) [ inl s ↦ rw s refl | inr s ↦ rw s k ]

-- a key that is above all others is new
pub new_key : (key : ℕ) (spots : List Spot) → AreBelow key spots → has_key key spots ≡ false
new_key key [] h = refl
new_key key (x ∷ xs) h = let l = h.0 in rw (ne_eqb x.key key (λ e. absurd (omega arith))) (new_key key xs h.1)

left_true : (a b : Bool) → a ≡ false → (a || b) ≡ true → b ≡ true
left_true false b e t = t
left_true true b e t = absurd (false≢true (sym e))

-- one spot fewer where a number goes
pub length_without : (n : ℕ) (spots : List Spot) → AreApart spots → is_at n spots ≡ true → length (spots_without n spots) + 1 ≡ length spots
length_without n [] a t = absurd (false≢true t)
length_without n (x ∷ xs) a t = elim (cases_Bool (nat_eq x.number n)) [
  | inl e ↦ let k = ap length (kept_all n xs (at_same x.number n xs e a.0)) in rw e (omega arith)
  | inr e ↦ let k = length_without n xs a.1 (left_true (nat_eq x.number n) (is_at n xs) e t) in rw e (omega arith)
]

key_push : (key : ℕ) (spots : List Spot) (x : Spot) → has_key key (spots ++ x ∷ []) ≡ (has_key key spots || (x.key == key))
key_push key [] x = elim (cases_Bool (nat_eq x.key key)) [ inl e ↦ rw e refl | inr e ↦ rw e refl ]
key_push key (y ∷ ys) x = elim (cases_Bool (nat_eq y.key key)) [ inl e ↦ rw e refl | inr e ↦ rw e (key_push key ys x) ]

-- one more spot is one more arena where its key is new
pub arenas_push : (spots : List Spot) (x : Spot) → arenas (spots ++ x ∷ []) ≡ arenas spots + if_new (has_key x.key spots)
arenas_push [] x = arenas_cons x []
arenas_push (y ∷ ys) x =
    let k = arenas_push ys x in
    let a = arenas_cons y (ys ++ x ∷ []) in
    let b = arenas_cons y ys in
    elim (cases_Bool (nat_eq x.key y.key)) [
      | inl e ↦
          let s = eqb-true x.key y.key e in
          let t : has_key y.key (ys ++ x ∷ []) ≡ true = key_push y.key ys x ∙ both_true (has_key y.key ys) (x.key == y.key) e in
          let m : if_new (has_key y.key (ys ++ x ∷ [])) ≡ 0 = ap if_new t in
          let u : if_new (has_key x.key ys) ≡ if_new (has_key y.key ys) = ap (λ z. if_new (has_key z ys)) s in
          let v : if_new (has_key x.key (y ∷ ys)) ≡ 0 = let w = eq-eqb y.key x.key (sym s) in rw w refl in
          omega arith
      | inr e ↦
          let d : nat_eq y.key x.key ≡ false = ne_eqb y.key x.key (λ s. eqb-false x.key y.key e (sym s)) in
          let t : if_new (has_key y.key (ys ++ x ∷ [])) ≡ if_new (has_key y.key ys) = ap if_new (key_push y.key ys x ∙ rw e (or_nothing (has_key y.key ys))) in
          let v : if_new (has_key x.key (y ∷ ys)) ≡ if_new (has_key x.key ys) = rw d refl in
          omega arith
    ]
  where
    both_true : (a b : Bool) → b ≡ true → (a || b) ≡ true
    both_true true b h = refl
    both_true false b h = h

    or_nothing : (a : Bool) → (a || false) ≡ a
    or_nothing true = refl
    or_nothing false = refl

key_without : (key n : ℕ) (K : ℕ) (spots : List Spot) → AllByRecursion (λ (x : Spot). x.number ≡ n → x.key ≡ K) spots → nat_eq K key ≡ false → has_key key (spots_without n spots) ≡ has_key key spots
key_without key n K [] h d = refl
key_without key n K (x ∷ xs) h d = elim (cases_Bool (nat_eq x.number n)) [
  | inl e ↦ let s : nat_eq x.key key ≡ false = rw (h.0 (eqb-true x.number n e)) d in rw (e, s) (key_without key n K xs h.1 d)
  | inr e ↦ rw e (ap (λ b. (x.key == key) || b) (key_without key n K xs h.1 d))
]

key_there : (n K : ℕ) (spots : List Spot) → AllByRecursion (λ (x : Spot). x.number ≡ n → x.key ≡ K) spots → is_at n spots ≡ true → has_key K spots ≡ true
key_there n K [] h i = absurd (false≢true i)
key_there n K (x ∷ xs) h i = elim (cases_Bool (nat_eq x.number n)) [
  | inl e ↦ rw (eq-eqb x.key K (h.0 (eqb-true x.number n e))) refl
  | inr e ↦ let j : is_at n xs ≡ true = rw e at i in let r = key_there n K xs h.1 j in elim (cases_Bool (nat_eq x.key K)) [ inl s ↦ rw s refl | inr s ↦ rw s r ]
]

-- one spot fewer is one arena fewer where no other one has its key
pub arenas_without : (n K : ℕ) (spots : List Spot) → AreApart spots → AllByRecursion (λ (x : Spot). x.number ≡ n → x.key ≡ K) spots → is_at n spots ≡ true → arenas (spots_without n spots) + if_new (has_key K (spots_without n spots)) ≡ arenas spots
arenas_without n K [] a h i = absurd (false≢true i)
arenas_without n K (x ∷ xs) a h i = elim (cases_Bool (nat_eq x.number n)) [
  | inl e ↦
      let same = h.0 (eqb-true x.number n e) in
      let gone : spots_without n (x ∷ xs) ≡ xs = rw e (kept_all n xs (at_same x.number n xs e a.0)) in
      let c = arenas_cons x xs in
      let k : if_new (has_key x.key xs) ≡ if_new (has_key K xs) = ap (λ z. if_new (has_key z xs)) same in
      ap (λ ys. arenas ys + if_new (has_key K ys)) gone ∙ (omega arith)
  | inr e ↦
      let j : is_at n xs ≡ true = rw e at i in
      let kept : spots_without n (x ∷ xs) ≡ x ∷ spots_without n xs = rw e refl in
      let r = arenas_without n K xs a.1 h.1 j in
      let c = arenas_cons x xs in
      let d = arenas_cons x (spots_without n xs) in
      ap (λ ys. arenas ys + if_new (has_key K ys)) kept
      ∙ (elim (cases_Bool (nat_eq x.key K)) [
        | inl s ↦
            let same = eqb-true x.key K s in
            let m : if_new (has_key K (x ∷ spots_without n xs)) ≡ 0 = rw s refl in
            let u : if_new (has_key x.key xs) ≡ 0 = ap if_new (ap (λ z. has_key z xs) same ∙ key_there n K xs h.1 j) in
            let v : if_new (has_key x.key (spots_without n xs)) ≡ if_new (has_key K (spots_without n xs)) = ap (λ z. if_new (has_key z (spots_without n xs))) same in
            omega arith
        | inr s ↦
            let other : nat_eq K x.key ≡ false = ne_eqb K x.key (λ t. eqb-false x.key K s (sym t)) in
            let m : if_new (has_key K (x ∷ spots_without n xs)) ≡ if_new (has_key K (spots_without n xs)) = rw s refl in
            let v : if_new (has_key x.key (spots_without n xs)) ≡ if_new (has_key x.key xs) = ap if_new (key_without x.key n K xs h.1 other) in
            omega arith
      ])
]

-- a list of numbers that are apart, without its last
pub front_below : (P : ℕ → Type 0) (xs : List ℕ) (a : ℕ) → AllByRecursion P (xs ++ a ∷ []) → AllByRecursion P xs × P a
front_below P [] a h = (tt, h.0)
front_below P (x ∷ xs) a h = let r = front_below P xs a h.1 in ((h.0, r.0), r.1)

pub front_apart : (xs : List ℕ) (a : ℕ) → IsDistinct nat_eq (xs ++ a ∷ []) → IsDistinct nat_eq xs × (is_in a xs ≡ false)
unfolding IsDistinct
front_apart [] a h = (tt, refl)
front_apart (x ∷ xs) a h =
    let r = front_apart xs a h.1 in
    let p = front_below (λ y. nat_eq x y ≡ false) xs a h.0 in
    ((p.0, r.0), rw p.1 r.1)

pub in_push : (e : ℕ) (xs : List ℕ) (a : ℕ) → is_in e (xs ++ a ∷ []) ≡ (is_in e xs || (a == e))
in_push e [] a = elim (cases_Bool (nat_eq a e)) [ inl s ↦ rw s refl | inr s ↦ rw s refl ]
in_push e (x ∷ xs) a = elim (cases_Bool (nat_eq x e)) [ inl s ↦ rw s refl | inr s ↦ rw s (in_push e xs a) ]

all_push_number : (P : ℕ → Type 0) (xs : List ℕ) (a : ℕ) → AllByRecursion P xs → P a → AllByRecursion P (xs ++ a ∷ [])
all_push_number P [] a h p = (p, tt)
all_push_number P (x ∷ xs) a h p = (h.0, all_push_number P xs a h.1 p)

pub below_push : (n a : ℕ) (xs : List ℕ) → AllByRecursion (λ x. x < n) xs → a < n → AllByRecursion (λ x. x < n) (xs ++ a ∷ [])
below_push n a xs h l = all_push_number (λ x. x < n) xs a h l

pub apart_push_number : (xs : List ℕ) (a : ℕ) → IsDistinct nat_eq xs → is_in a xs ≡ false → IsDistinct nat_eq (xs ++ a ∷ [])
unfolding IsDistinct
apart_push_number [] a h n = (tt, tt)
apart_push_number (x ∷ xs) a h n =
    let p = or_parts (nat_eq x a) (is_in a xs) n in
    (all_push_number (λ y. nat_eq x y ≡ false) xs a h.0 p.0, apart_push_number xs a h.1 p.1)
