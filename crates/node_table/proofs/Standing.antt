-- Spots when a node is placed or freed.
use Rattle.std.proofs.Common.{◌≡◌, ◌≢◌, ℕ, ◌+◌, ◌-◌, ◌<◌, ◌≤◌, List, [], ◌∷◌, ◌++◌, Bool, true, false, Option, None, Some, IsTrue, IsSome, length, refl, sym, ◌∙◌, ap, arith, length-append}
use Rattle.std.specs.Prelude.{nat_lt, nat_le, nat_eq, is_some, ◌==◌, ◌||◌, slice_index_or, cond}
use Rattle.std.proofs.lemmas.Bool.{or_parts, false≢true}
use Rattle.std.proofs.lemmas.Bool.Decides.{nat_tests}
use Rattle.std.proofs.lemmas.List.Folds.{list_any-append}
use Rattle.kj_base.specs.Places.{Spot, Row, row, counts, spot_of, spot_if, spot_over, spot_placed, spots_without}
use Rattle.kj_base.specs.Store.{rows_after}
use Rattle.node_table.specs.declared.Cell.{Cell}
use Rattle.node_table.specs.Laws.{counts_cons}
use Rattle.node_table.specs.NodeTable.{Table, node_in, cell_if, cell_at, live_count, has_room, is_at, AreApart, Stands, covered_if, covered_by}

-- the number of a spot is that of its node
number_if : (b : Bool) (number key : ℕ) (x : Spot) → (spot_if b number key x).number ≡ number
number_if true number key x = refl
number_if false number key x = refl

number_over : (number key : ℕ) (o : Option Spot) → (spot_over number key o).number ≡ number
number_over number key None = refl
number_over number key (Some x) = number_if (nat_lt 0 x.place) number key x

number_placed : (number key : ℕ) (before : Option ℕ) (spots : List Spot) → (spot_placed number key before spots).number ≡ number
number_placed number key None spots = refl
number_placed number key (Some n) spots = number_over number key (spot_of n spots)

swapped : (a b : ℕ) → nat_eq a b ≡ false → nat_eq b a ≡ false
swapped a b h = grind (arith, nat_tests)

same : (a : ℕ) → nat_eq a a ≡ true
same a = grind (arith, nat_tests)

pub at_push : (slot : ℕ) (spots : List Spot) (x : Spot) → is_at slot (spots ++ x ∷ []) ≡ (is_at slot spots || (nat_eq x.number slot || false))
at_push slot spots x = list_any-append (λ (y : Spot). y.number == slot) spots (x ∷ [])

pub apart_push : (spots : List Spot) (x : Spot) → AreApart spots → is_at x.number spots ≡ false → AreApart (spots ++ x ∷ [])
apart_push [] x h n = (refl, tt)
apart_push (y ∷ ys) x h n = let p = or_parts (nat_eq y.number x.number) (is_at x.number ys) n in
    (rw (at_push y.number ys x, h.0, swapped y.number x.number p.0) refl, apart_push ys x h.1 p.1)

pub kept_all : (n : ℕ) (spots : List Spot) → is_at n spots ≡ false → spots_without n spots ≡ spots
kept_all n [] h = refl
kept_all n (x ∷ xs) h = let p = or_parts (nat_eq x.number n) (is_at n xs) h in rw p.0 (ap (λ ys. x ∷ ys) (kept_all n xs p.1))

-- a spot with the number that another one has
pub at_same : (m n : ℕ) (spots : List Spot) → nat_eq m n ≡ true → is_at m spots ≡ false → is_at n spots ≡ false
at_same m n spots e h = let k : m ≡ n = grind (arith, nat_tests) in rw (← k) h

left_true : (a b : Bool) → a ≡ false → (a || b) ≡ true → b ≡ true
left_true false b e t = t
left_true true b e t = absurd (false≢true (sym e))

-- one of them goes
gone_one : (b : Bool) (n : ℕ) (x : Spot) (xs : List Spot) → nat_eq x.number n ≡ b → AreApart (x ∷ xs) → is_at n (x ∷ xs) ≡ true → (AreApart xs → is_at n xs ≡ true → length (spots_without n xs) + 1 ≡ length xs) → length (spots_without n (x ∷ xs)) + 1 ≡ length (x ∷ xs)
gone_one true n x xs e h t rest = rw (e, kept_all n xs (at_same x.number n xs e h.0)) (omega arith)
gone_one false n x xs e h t rest = rw e (let k = rest h.1 (left_true (nat_eq x.number n) (is_at n xs) e t) in omega (arith, k))

length_without : (n : ℕ) (spots : List Spot) → AreApart spots → is_at n spots ≡ true → length (spots_without n spots) + 1 ≡ length spots
length_without n [] h t = absurd (false≢true t)
length_without n (x ∷ xs) h t = gone_one (nat_eq x.number n) n x xs refl h t (length_without n xs)

-- what isn't there isn't among the others
less_one : (b : Bool) (n slot : ℕ) (x : Spot) (xs : List Spot) → nat_eq x.number n ≡ b → nat_eq x.number slot ≡ false → is_at slot (spots_without n xs) ≡ false → is_at slot (spots_without n (x ∷ xs)) ≡ false
less_one true n slot x xs e a h = rw e h
less_one false n slot x xs e a h = rw (e, a) h

at_less : (n slot : ℕ) (spots : List Spot) → is_at slot spots ≡ false → is_at slot (spots_without n spots) ≡ false
at_less n slot [] h = refl
at_less n slot (x ∷ xs) h = let p = or_parts (nat_eq x.number slot) (is_at slot xs) h in less_one (nat_eq x.number n) n slot x xs refl p.0 (at_less n slot xs p.1)

apart_one : (b : Bool) (n : ℕ) (x : Spot) (xs : List Spot) → nat_eq x.number n ≡ b → is_at x.number xs ≡ false → AreApart (spots_without n xs) → AreApart (spots_without n (x ∷ xs))
apart_one true n x xs e a h = rw e h
apart_one false n x xs e a h = rw e (at_less n x.number xs a, h)

pub apart_without : (n : ℕ) (spots : List Spot) → AreApart spots → AreApart (spots_without n spots)
apart_without n [] h = tt
apart_without n (x ∷ xs) h = apart_one (nat_eq x.number n) n x xs refl h.0 (apart_without n xs h.1)

-- the others keep their spots
same_one : (b : Bool) (n slot : ℕ) (x : Spot) (xs : List Spot) → nat_eq x.number n ≡ b → nat_eq slot n ≡ false → is_at slot (spots_without n xs) ≡ is_at slot xs → is_at slot (spots_without n (x ∷ xs)) ≡ is_at slot (x ∷ xs)
same_one true n slot x xs e d h = let k : nat_eq x.number slot ≡ false = grind (arith, nat_tests) in rw (e, k) h
same_one false n slot x xs e d h = rw (e, h) refl

pub at_others : (n slot : ℕ) (spots : List Spot) → nat_eq slot n ≡ false → is_at slot (spots_without n spots) ≡ is_at slot spots
at_others n slot [] d = refl
at_others n slot (x ∷ xs) d = same_one (nat_eq x.number n) n slot x xs refl d (at_others n slot xs d)

none_one : (b : Bool) (n : ℕ) (x : Spot) (xs : List Spot) → nat_eq x.number n ≡ b → is_at n (spots_without n xs) ≡ false → is_at n (spots_without n (x ∷ xs)) ≡ false
none_one true n x xs e h = rw e h
none_one false n x xs e h = rw (e, e) h

pub none_at : (n : ℕ) (spots : List Spot) → is_at n (spots_without n spots) ≡ false
none_at n [] = refl
none_at n (x ∷ xs) = none_one (nat_eq x.number n) n x xs refl (none_at n xs)

-- what is left of the rows when the first node of the first was placed
rest_if : (b : Bool) (slot live slots count : ℕ) (before : Option ℕ) (more : List Row) → nat_lt 1 count ≡ b → 0 < count → IsTrue (nat_le (live + counts (row before count ∷ more)) slots) → IsTrue (nat_le (live + 1 + counts (cond b (row (Some slot) (count - 1) ∷ more) more)) slots)
rest_if true slot live slots count before more h p t = let k = counts_cons (row before count) more in let l = counts_cons (row (Some slot) (count - 1)) more in grind (arith, nat_tests)
rest_if false slot live slots count before more h p t = let k = counts_cons (row before count) more in grind (arith, nat_tests)

pub rest_fits : (old new : Table) (slot count : ℕ) (before : Option ℕ) (more : List Row) → live_count new ≡ live_count old + 1 → new.slots ≡ old.slots → 0 < count → IsTrue (has_room old (row before count ∷ more)) → IsTrue (has_room new (rows_after slot count more))
rest_fits old new slot count before more l s p t = rw (l, s) (rest_if (nat_lt 1 count) slot (live_count old) old.slots count before more refl p t)

-- whether a slot is live stays when a node is placed before it
live_if : (b : Bool) (cell : Option Cell) → is_some (covered_if b cell) ≡ is_some cell
live_if true None = refl
live_if true (Some cell) = refl
live_if false cell = refl

live_by : (before : Option ℕ) (slot : ℕ) (cell : Option Cell) → is_some (covered_by before slot cell) ≡ is_some cell
live_by None slot cell = refl
live_by (Some n) slot cell = live_if (nat_eq n slot) cell

live_below : (b : Bool) (old new : Option Cell) → is_some new ≡ is_some old → is_some (cell_if b new) ≡ is_some (cell_if b old)
live_below true old new h = h
live_below false old new h = refl

none_live : (cell : Option Cell) → cell ≡ None → is_some cell ≡ false
none_live None h = refl
none_live (Some cell) h = cc

not_live : (b : Bool) (cell : Option Cell) → is_some cell ≡ false → is_some (cell_if b cell) ≡ false
not_live true cell h = h
not_live false cell h = refl

-- a node was placed in a slot that wasn't live
pub record IsPlaced (old new : Table) (before : Option ℕ) (slot : ℕ) : Type 0 where
  pub was_free : covered_by before slot (slice_index_or old.cells slot None) ≡ None
  pub placed : is_some (slice_index_or new.cells slot None) ≡ true
  pub others : (other : ℕ) → other ≢ slot → slice_index_or new.cells other None ≡ covered_by before other (slice_index_or old.cells other None)
  pub live : live_count new ≡ live_count old + 1
  pub few : live_count new ≤ new.slots
  pub below : slot < old.slots
  pub slots : new.slots ≡ old.slots

was_not_live : (old new : Table) (before : Option ℕ) (slot : ℕ) → IsPlaced old new before slot → is_some (cell_at old slot) ≡ false
was_not_live old new before slot p = not_live (nat_lt slot old.slots) (slice_index_or old.cells slot None) (sym (live_by before slot (slice_index_or old.cells slot None)) ∙ none_live _ p.was_free)

now_live : (slots slot : ℕ) (cell : Option Cell) → slot < slots → is_some cell ≡ true → is_some (cell_if (nat_lt slot slots) cell) ≡ true
now_live slots slot cell h s = let t : nat_lt slot slots ≡ true = grind (arith, nat_tests) in rw t s

or_false : (b : Bool) → (b || false) ≡ b
or_false true = refl
or_false false = refl

others_live : (old new : Table) (other : ℕ) → new.slots ≡ old.slots → is_some (slice_index_or new.cells other None) ≡ is_some (slice_index_or old.cells other None) → is_some (cell_at old other) ≡ is_some (cell_at new other)
others_live old new other s h = rw s (sym (live_below (nat_lt other old.slots) (slice_index_or old.cells other None) (slice_index_or new.cells other None) h))

differ : (a b : ℕ) → nat_eq a b ≡ false → b ≢ a
differ a b e q = let t : nat_eq a b ≡ true = rw q (same a) in absurd (false≢true (sym e ∙ t))

each_push : (b : Bool) (old new : Table) (before : Option ℕ) (slot : ℕ) (spots : List Spot) (other : ℕ) → nat_eq slot other ≡ b → IsPlaced old new before slot → is_at other spots ≡ is_some (cell_at old other) → (is_at other spots || (b || false)) ≡ is_some (cell_at new other)
each_push true old new before slot spots other e p h =
    let k : slot ≡ other = grind (arith, nat_tests) in
    let a : is_at slot spots ≡ is_some (cell_at old slot) = rw k h in
    let b : is_at slot spots ≡ false = a ∙ was_not_live old new before slot p in
    let l : is_some (cell_at new slot) ≡ true = rw p.slots (now_live old.slots slot (slice_index_or new.cells slot None) p.below p.placed) in
    rw (← k) (rw (b, l) refl)
each_push false old new before slot spots other e p h =
    let m : is_some (slice_index_or new.cells other None) ≡ is_some (slice_index_or old.cells other None) = rw (p.others other (differ slot other e)) (live_by before other (slice_index_or old.cells other None)) in
    rw (or_false (is_at other spots)) (h ∙ others_live old new other p.slots m)

pub placed_stands : (old new : Table) (before : Option ℕ) (slot key : ℕ) (spots : List Spot) → IsPlaced old new before slot → Stands old spots → Stands new (spots ++ spot_placed slot key before spots ∷ [])
placed_stands old new before slot key spots p s =
    let x = spot_placed slot key before spots in
    let n : x.number ≡ slot = number_placed slot key before spots in
    let f : is_at slot spots ≡ false = s.each slot ∙ was_not_live old new before slot p in
    record {
      all = let l = length-append spots (x ∷ []) in let a = s.all in let k = p.live in omega (arith, l, a, k);
      apart = apart_push spots x s.apart (rw n f);
      each = λ other. rw (at_push other spots x, n) (each_push (nat_eq slot other) old new before slot spots other refl p (s.each other));
      few = p.few;
    }

-- the node of a live slot went
pub record IsFreed (old new : Table) (slot : ℕ) : Type 0 where
  pub was_live : is_some (cell_at old slot) ≡ true
  pub freed : slice_index_or new.cells slot None ≡ None
  pub others : (other : ℕ) → other ≢ slot → slice_index_or new.cells other None ≡ slice_index_or old.cells other None
  pub live : live_count new + 1 ≡ live_count old
  pub slots : new.slots ≡ old.slots

each_less : (b : Bool) (old new : Table) (slot : ℕ) (spots : List Spot) (other : ℕ) → nat_eq slot other ≡ b → IsFreed old new slot → is_at other spots ≡ is_some (cell_at old other) → is_at other (spots_without slot spots) ≡ is_some (cell_at new other)
each_less true old new slot spots other e p h =
    let k : slot ≡ other = grind (arith, nat_tests) in
    rw (← k) (none_at slot spots ∙ sym (not_live (nat_lt slot new.slots) (slice_index_or new.cells slot None) (none_live _ p.freed)))
each_less false old new slot spots other e p h =
    let m : is_some (slice_index_or new.cells other None) ≡ is_some (slice_index_or old.cells other None) = ap is_some (p.others other (differ slot other e)) in
    at_others slot other spots (swapped slot other e) ∙ h ∙ others_live old new other p.slots m

pub freed_stands : (old new : Table) (slot : ℕ) (spots : List Spot) → IsFreed old new slot → Stands old spots → Stands new (spots_without slot spots)
freed_stands old new slot spots p s = record {
  all = let l = length_without slot spots s.apart (s.each slot ∙ p.was_live) in let a = s.all in let k = p.live in omega (arith, l, a, k);
  apart = apart_without slot spots s.apart;
  each = λ other. each_less (nat_eq slot other) old new slot spots other refl p (s.each other);
  few = let a = s.few in let k = p.live in let l = p.slots in omega (arith, a, k, l);
}

pub has_node : (cell : Option Cell) → IsSome (node_in cell) → is_some cell ≡ true
has_node None h = absurd (false≢true h)
has_node (Some cell) h = refl

-- where one more node fits, it is within the slots
pub few_placed : (t : Table) (before : Option ℕ) (live : ℕ) → IsTrue (has_room t (row before 1 ∷ [])) → live ≡ live_count t + 1 → live ≤ t.slots
few_placed t before live h e = grind (arith, nat_tests)
