-- The laws of a store, for the plain table.
use Rattle.std.proofs.Common.{◌≡◌, ◌∙◌, ℕ, ◌+◌, ◌<◌, ◌≤◌, List, [], ◌∷◌, ◌++◌, Bool, true, false, Option, None, Some, IsSome, IsTrue, length, map, refl, sym, ap, arith}
use Rattle.std.specs.Prelude.{nat_lt, nat_le, slice_index_or, fold}
use Rattle.std.proofs.lemmas.Bool.{false≢true}
use Rattle.std.proofs.lemmas.Bool.Decides.{nat_tests}
use Rattle.kj_base.specs.Places.{Spot, Row, row, counts, table_fits, spot_of, spot_as, row_as, IsOneToOne}
use Rattle.kj_base.specs.Store.{is_named}
use Rattle.node_table.specs.declared.Cell.{Cell}
use Rattle.node_table.specs.NodeTable.{Table, cell_if, cell_at, node_in, node_of, bare_in, bare_at, live_count, has_room, Stands}

below_if : (b : Bool) (cell : Option Cell) (slot n : ℕ) → nat_lt slot n ≡ b → IsSome (node_in (cell_if b cell)) → slot < n
below_if true cell slot n h s = grind (arith, nat_tests)
below_if false cell slot n h s = absurd (false≢true s)

-- a live slot is below the number of slots
pub table_live_below : (t : Table) (slot : ℕ) → IsSome (node_of t slot) → slot < t.slots
table_live_below t slot s = below_if (nat_lt slot t.slots) (slice_index_or t.cells slot None) slot t.slots refl s

live_in : (cell : Option Cell) → bare_in cell ≡ true → IsSome (node_in cell)
live_in None h = cc
live_in (Some cell) h = refl

-- a bare slot is live
pub table_bare_live : (t : Table) (slot : ℕ) → bare_at t slot ≡ true → IsSome (node_of t slot)
table_bare_live t slot h = live_in (cell_at t slot) h

sum_from : (a : ℕ) (xs : List ℕ) → fold (λ (m n : ℕ). m + n) a xs ≡ a + fold (λ (m n : ℕ). m + n) 0 xs
sum_from a [] = omega arith
sum_from a (x ∷ xs) = let h = sum_from (a + x) xs in let k = sum_from (0 + x) xs in omega (arith, h, k)

pub counts_cons : (r : Row) (rows : List Row) → counts (r ∷ rows) ≡ r.count + counts rows
counts_cons r rows = let h = sum_from (0 + r.count) (map (λ (x : Row). x.count) rows) in omega (arith, h)

counts_append : (front back : List Row) → counts (front ++ back) ≡ counts front + counts back
counts_append [] back = omega arith
counts_append (r ∷ front) back = let h = counts_append front back in omega (arith, h, counts_cons r front, counts_cons r (front ++ back))

fewer : (a b n : ℕ) → a ≤ b → IsTrue (nat_le b n) → IsTrue (nat_le a n)
fewer a b n h t = grind (arith, nat_tests)

-- there are no more live slots than slots
pub table_few : (t : Table) (spots : List Spot) → Stands t spots → length spots ≤ t.slots
table_few t spots s = let a = s.all in let b = s.few in omega (arith, a, b)

-- rows may be left out
pub table_left_out : (t : Table) (front : List Row) (left : Row) (back : List Row) → IsTrue (has_room t (front ++ left ∷ back)) → IsTrue (has_room t (front ++ back))
table_left_out t front left back h = fewer _ (live_count t + counts (front ++ left ∷ back)) t.slots (omega (arith, counts_append front (left ∷ back), counts_append front back, counts_cons left back)) h

-- a row of two may become a row of one
pub table_one_of_two : (t : Table) (front : List Row) (before : Option ℕ) (back : List Row) → IsTrue (has_room t (front ++ row before 2 ∷ back)) → IsTrue (has_room t (front ++ row before 1 ∷ back))
table_one_of_two t front before back h = fewer _ (live_count t + counts (front ++ row before 2 ∷ back)) t.slots (omega (arith, counts_append front (row before 2 ∷ back), counts_append front (row before 1 ∷ back), counts_cons (row before 2) back, counts_cons (row before 1) back)) h

-- a row that goes anew may go before a bare slot
pub table_before_bare : (t : Table) (front : List Row) (slot count : ℕ) (back : List Row) → bare_at t slot ≡ true → is_named slot (front ++ back) ≡ false → IsTrue (has_room t (front ++ row None count ∷ back)) → IsTrue (has_room t (front ++ row (Some slot) count ∷ back))
table_before_bare t front slot count back bare named h = fewer _ (live_count t + counts (front ++ row None count ∷ back)) t.slots (omega (arith, counts_append front (row None count ∷ back), counts_append front (row (Some slot) count ∷ back), counts_cons (row None count) back, counts_cons (row (Some slot) count) back)) h

-- what fits is known from the number of spots
pub table_ruled : (t : Table) (spots : List Spot) (rows : List Row) → Stands t spots → has_room t rows ≡ table_fits t.slots spots rows
table_ruled t spots rows s = rw s.all refl

length_as : (rename : ℕ → ℕ) (spots : List Spot) → length (map (spot_as rename) spots) ≡ length spots
length_as rename [] = refl
length_as rename (x ∷ xs) = let h = length_as rename xs in omega (arith, h)

counts_as : (rename : ℕ → ℕ) (rows : List Row) → counts (map (row_as rename) rows) ≡ counts rows
counts_as rename [] = refl
counts_as rename (r ∷ rs) = let h = counts_as rename rs in omega (arith, h, counts_cons r rs, counts_cons (row_as rename r) (map (row_as rename) rs))

-- numbers don't matter
pub table_renamed : (slot_count : ℕ) (rename : ℕ → ℕ) (spots : List Spot) (rows : List Row) → IsOneToOne rename → table_fits slot_count (map (spot_as rename) spots) (map (row_as rename) rows) ≡ table_fits slot_count spots rows
table_renamed slot_count rename spots rows one = rw (length_as rename spots, counts_as rename rows) refl

-- a row before a node that isn't there is one anew
pub table_unplaced : (slot_count : ℕ) (spots : List Spot) (front : List Row) (number count : ℕ) (back : List Row) → spot_of number spots ≡ None → table_fits slot_count spots (front ++ row (Some number) count ∷ back) ≡ table_fits slot_count spots (front ++ row None count ∷ back)
table_unplaced slot_count spots front number count back h =
    ap (λ n. nat_le (length spots + n) slot_count)
    (counts_append front (row (Some number) count ∷ back)
    ∙ ap (λ n. counts front + n) (counts_cons (row (Some number) count) back ∙ sym (counts_cons (row None count) back))
    ∙ sym (counts_append front (row None count ∷ back)))
