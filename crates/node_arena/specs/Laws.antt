-- The laws of a store, for arenas.
use Rattle.std.proofs.Common.{◌≡◌, ◌∙◌, ℕ, ◌+◌, ◌-◌, ◌/◌, ◌%◌, ◌<◌, ◌≤◌, List, [], ◌∷◌, ◌++◌, Bool, true, false, Option, None, Some, IsSome, IsTrue, length, map, refl, sym, ap, arith, inl, inr, slice_get}
use Rattle.std.specs.Prelude.{nat_lt, nat_le, nat_eq, ◌==◌, ◌||◌, ◌&&◌, fold, sum, if◌then◌else◌}
use Rattle.std.specs.List.{list_any, AllByRecursion, IsDistinct}
use Rattle.std.proofs.lemmas.Bool.{false≢true, cases_Bool, cases_lt, or_parts, and_parts, and_from, eqb-true, eqb-false, ne_eqb, eq-eqb}
use Rattle.std.proofs.lemmas.Bool.Decides.{nat_tests}
use Rattle.std.proofs.lemmas.Option.{slice_get_past}
use Rattle.std.proofs.lemmas.List.Sums.{sum-map, sum_by-append}
use Rattle.std.proofs.lemmas.Map.Steps.{length-le_from_distinct_below}
use Rattle.kj_base.specs.declared.nodes.Node.{Node}
use Rattle.kj_base.specs.Places.{Spot, Row, row, arenas, needs, needs_at, needs_over, one_if, counts, arenas_fit, table_fits, spot_of, spot_as, row_as, before_as, IsOneToOne}
use Rattle.kj_base.specs.Store.{is_named}
use Rattle.node_table.specs.NodeTable.{is_at, AreApart}
use Rattle.node_table.specs.Laws.{counts_cons, table_renamed, table_unplaced}
use Rattle.node_arena.specs.declared.Cell.{Cell}
use Rattle.node_arena.specs.declared.State.{State}
use Rattle.node_arena.specs.declared.State.TheVariants.{Free, Bare, Covered}
use Rattle.node_arena.specs.Needs.{beyond, beyond_at, needed, place_in, place_before, row_needs, needs_fit, places_fit, AreShort}
use Rattle.node_arena.specs.Arenas.{Arenas, has_node, is_bare_state, node_if, node_in, bare_in, live_at, node_of, slot_count, is_bare, place_of_live, place_before_slot, slot_needs, has_room, IsSpot, Stands}

none_past : (cells : List Cell) (slot : ℕ) → length cells ≤ slot → IsSome (node_in (slice_get cells slot)) → slot < length cells
none_past cells slot l s = let e = slice_get_past cells slot l in let n : IsSome (node_in None) = rw e at s in absurd (false≢true n)

-- a live slot is below the number of slots
pub arena_live_below : (t : Arenas) (slot : ℕ) → IsSome (node_of t slot) → slot < slot_count t
arena_live_below t slot s = elim (cases_lt slot (length t.cells)) [ inl l ↦ l | inr l ↦ none_past t.cells slot l s ]

bare_has : (state : State) (node : Node) → is_bare_state state ≡ true → IsSome (node_if (has_node state) node)
bare_has Free node h = absurd (false≢true h)
bare_has Bare node h = refl
bare_has Covered node h = absurd (false≢true h)

bare_cell : (cell : Option Cell) → bare_in cell ≡ true → IsSome (node_in cell)
bare_cell None h = absurd (false≢true h)
bare_cell (Some cell) h = bare_has cell.state cell.node h

-- a bare slot is live
pub arena_bare_live : (t : Arenas) (slot : ℕ) → is_bare t slot ≡ true → IsSome (node_of t slot)
arena_bare_live t slot h = bare_cell (slice_get t.cells slot) h

abbrev numbers : List Spot → List ℕ
numbers spots = map (λ (x : Spot). x.number) spots

apart_numbers : (n : ℕ) (spots : List Spot) → is_at n spots ≡ false → AllByRecursion (λ y. nat_eq n y ≡ false) (numbers spots)
apart_numbers n [] h = tt
apart_numbers n (x ∷ xs) h = let p = or_parts (nat_eq x.number n) (is_at n xs) h in ((let q = p.0 in grind (arith, nat_tests)), apart_numbers n xs p.1)

distinct_numbers : (spots : List Spot) → AreApart spots → IsDistinct nat_eq (numbers spots)
unfolding IsDistinct
distinct_numbers [] h = tt
distinct_numbers (x ∷ xs) h = (apart_numbers x.number xs h.0, distinct_numbers xs h.1)

any_number : (q : ℕ) (spots : List Spot) → list_any (nat_eq q) (numbers spots) ≡ is_at q spots
any_number q [] = refl
any_number q (x ∷ xs) = let s : nat_eq q x.number ≡ nat_eq x.number q = grind (arith, nat_tests) in rw (s, any_number q xs) refl

live_below : (cells : List Cell) (slot : ℕ) → live_at cells slot ≡ true → slot < length cells
live_below cells slot h = elim (cases_lt slot (length cells)) [
  | inl l ↦ l
  | inr l ↦ let e = slice_get_past cells slot l in let n : false ≡ true = rw e at h in absurd (false≢true n)
]

length_numbers : (spots : List Spot) → length (numbers spots) ≡ length spots
length_numbers [] = refl
length_numbers (x ∷ xs) = let h = length_numbers xs in omega arith

-- there are no more live slots than slots
pub arena_few : (t : Arenas) (spots : List Spot) → Stands t spots → length spots ≤ slot_count t
arena_few t spots s =
    let few = length-le_from_distinct_below (numbers spots) (length t.cells) (distinct_numbers spots s.apart) (λ q e. live_below t.cells q (sym (s.each q) ∙ sym (any_number q spots) ∙ e)) in
    let l = length_numbers spots in
    omega arith

needed_append : (each : Row → ℕ) (front back : List Row) → needed each (front ++ back) ≡ needed each front + needed each back
needed_append each [] back = omega arith
needed_append each (r ∷ front) back = let h = needed_append each front back in omega arith

counts_append : (front back : List Row) → counts (front ++ back) ≡ counts front + counts back
counts_append front back =
    let f = λ (r : Row). r.count in
    omega (arith, sum-map f (front ++ back), sum_by-append f front back, sum-map f front, sum-map f back)

less : (a b n : ℕ) → a ≤ b → nat_le b n ≡ true → nat_le a n ≡ true
less a b n h t = grind (arith, nat_tests)

-- fewer needs and fewer nodes
fewer : (a b n c d m : ℕ) → a ≤ b → c ≤ d → IsTrue (nat_le b n && nat_le d m) → IsTrue (nat_le a n && nat_le c m)
fewer a b n c d m h k t =
    let p = and_parts (nat_le b n) (nat_le d m) t in
    and_from (nat_le a n) (nat_le c m) (less a b n h p.0) (less c d m k p.1)

-- rows may be left out
pub arena_left_out : (t : Arenas) (front : List Row) (left : Row) (back : List Row) → IsTrue (has_room t (front ++ left ∷ back)) → IsTrue (has_room t (front ++ back))
arena_left_out t front left back h =
    let f = slot_needs t.cells in
    fewer _ (needed f (front ++ left ∷ back)) (length t.free) _ (t.live + counts (front ++ left ∷ back)) (length t.cells)
    (omega (arith, needed_append f front (left ∷ back), needed_append f front back))
    (omega (arith, counts_append front (left ∷ back), counts_append front back, counts_cons left back)) h

less_for_one : (place : ℕ) → beyond 1 place ≤ beyond 2 place
less_for_one place = grind (arith, nat_tests)

less_one_at : (place : Option ℕ) → beyond_at 1 place ≤ beyond_at 2 place
less_one_at None = less_for_one 0
less_one_at (Some place) = less_for_one place

-- a row of two may become a row of one
pub arena_one_of_two : (t : Arenas) (front : List Row) (before : Option ℕ) (back : List Row) → IsTrue (has_room t (front ++ row before 2 ∷ back)) → IsTrue (has_room t (front ++ row before 1 ∷ back))
arena_one_of_two t front before back h =
    let f = slot_needs t.cells in
    fewer _ (needed f (front ++ row before 2 ∷ back)) (length t.free) _ (t.live + counts (front ++ row before 2 ∷ back)) (length t.cells)
    (omega (arith, needed_append f front (row before 2 ∷ back), needed_append f front (row before 1 ∷ back), less_one_at (place_before_slot t.cells before)))
    (omega (arith, counts_append front (row before 2 ∷ back), counts_append front (row before 1 ∷ back), counts_cons (row before 2) back, counts_cons (row before 1) back)) h

pub less_above : (count place : ℕ) → beyond count place ≤ beyond count 0
less_above count place = grind (arith, nat_tests)

pub less_than_anew : (count : ℕ) (place : Option ℕ) → beyond_at count place ≤ beyond_at count None
less_than_anew count None = omega arith
less_than_anew count (Some place) = less_above count place

-- a row that goes anew may go before a bare slot
pub arena_before_bare : (t : Arenas) (front : List Row) (slot count : ℕ) (back : List Row) → is_bare t slot ≡ true → is_named slot (front ++ back) ≡ false → IsTrue (has_room t (front ++ row None count ∷ back)) → IsTrue (has_room t (front ++ row (Some slot) count ∷ back))
arena_before_bare t front slot count back bare named h =
    let f = slot_needs t.cells in
    fewer _ (needed f (front ++ row None count ∷ back)) (length t.free) _ (t.live + counts (front ++ row None count ∷ back)) (length t.cells)
    (omega (arith, needed_append f front (row None count ∷ back), needed_append f front (row (Some slot) count ∷ back), less_than_anew count (place_of_live t.cells slot)))
    (omega (arith, counts_append front (row None count ∷ back), counts_append front (row (Some slot) count ∷ back), counts_cons (row None count) back, counts_cons (row (Some slot) count) back)) h

place_found : (arena_of key_of : ℕ → ℕ) (n : ℕ) (spots : List Spot) → AllByRecursion (IsSpot arena_of key_of) spots → (if is_at n spots then Some (n % 8) else None) ≡ place_in (spot_of n spots)
place_found arena_of key_of n [] h = refl
place_found arena_of key_of n (x ∷ xs) h = elim (cases_Bool (nat_eq x.number n)) [
  | inl e ↦ rw e (ap Some (sym (h.0.place ∙ ap (λ k. k % 8) (eqb-true x.number n e))))
  | inr e ↦ rw e (place_found arena_of key_of n xs h.1)
]

same_place : (t : Arenas) (spots : List Spot) (before : Option ℕ) → Stands t spots → place_before_slot t.cells before ≡ place_before spots before
same_place t spots None s = refl
same_place t spots (Some n) s = ap (λ b. if b then Some (n % 8) else None) (sym (s.each n)) ∙ place_found s.arena_of s.key_of n spots s.spots_are

needed_same : (f g : Row → ℕ) (rows : List Row) → ((r : Row) → f r ≡ g r) → needed f rows ≡ needed g rows
needed_same f g [] h = refl
needed_same f g (r ∷ rows) h = let k = needed_same f g rows h in let e = h r in omega arith

moved_sum : (need free used all : ℕ) → free + used ≡ all → nat_le need free ≡ nat_le (need + used) all
moved_sum need free used all e = grind (arith, nat_tests)

needs_ruled : (t : Arenas) (spots : List Spot) (rows : List Row) → Stands t spots → nat_le (needed (slot_needs t.cells) rows) (length t.free) ≡ needs_fit (slot_count t) spots rows
needs_ruled t spots rows s =
    ap (λ n. nat_le n (length t.free)) (needed_same (slot_needs t.cells) (row_needs spots) rows (λ r. ap (beyond_at r.count) (same_place t spots r.before s)))
    ∙ moved_sum (needed (row_needs spots) rows) (length t.free) (arenas spots) (length t.cells / 8) s.all

-- what fits is known from the spots
pub arena_ruled : (t : Arenas) (spots : List Spot) (rows : List Row) → Stands t spots → has_room t rows ≡ places_fit (slot_count t) spots rows
arena_ruled t spots rows s =
    ap (λ b. b && nat_le (t.live + counts rows) (length t.cells)) (needs_ruled t spots rows s)
    ∙ ap (λ n. needs_fit (slot_count t) spots rows && nat_le (n + counts rows) (length t.cells)) (sym s.count)

-- where rows fit, there are slots for the live nodes and for theirs
pub arena_takes : (slots : ℕ) (spots : List Spot) (rows : List Row) → places_fit slots spots rows ≡ true → length spots + counts rows ≤ slots
arena_takes slots spots rows h = let p = and_parts (needs_fit slots spots rows) (table_fits slots spots rows) h in within (length spots + counts rows) slots p.1
  where
    within : (n slots : ℕ) → nat_le n slots ≡ true → n ≤ slots
    within n slots t = grind (arith, nat_tests)

-- one more arena where a key is new
abbrev pub if_new : Bool → ℕ
if_new true = 0
if_new false = 1

abbrev pub has_key : ℕ → List Spot → Bool
has_key key spots = list_any (λ (y : Spot). y.key == key) spots

pub arenas_cons : (x : Spot) (xs : List Spot) → arenas (x ∷ xs) ≡ if_new (has_key x.key xs) + arenas xs
arenas_cons x xs = elim (cases_Bool (has_key x.key xs)) [ inl e ↦ rw e refl | inr e ↦ rw e refl ]

key_as : (rename : ℕ → ℕ) (key : ℕ) (spots : List Spot) → has_key key (map (spot_as rename) spots) ≡ has_key key spots
key_as rename key [] = refl
key_as rename key (x ∷ xs) = ap (λ b. (x.key == key) || b) (key_as rename key xs)

arenas_as : (rename : ℕ → ℕ) (spots : List Spot) → arenas (map (spot_as rename) spots) ≡ arenas spots
arenas_as rename [] = refl
arenas_as rename (x ∷ xs) =
    arenas_cons (spot_as rename x) (map (spot_as rename) xs)
    ∙ ap (λ b. if_new b + arenas (map (spot_as rename) xs)) (key_as rename x.key xs)
    ∙ ap (λ n. if_new (has_key x.key xs) + n) (arenas_as rename xs)
    ∙ sym (arenas_cons x xs)

same_test : (rename : ℕ → ℕ) (a b : ℕ) → IsOneToOne rename → nat_eq (rename a) (rename b) ≡ nat_eq a b
same_test rename a b one = elim (cases_Bool (nat_eq a b)) [
  | inl e ↦ eq-eqb (rename a) (rename b) (ap rename (eqb-true a b e)) ∙ sym e
  | inr e ↦ ne_eqb (rename a) (rename b) (λ s. eqb-false a b e (one a b s)) ∙ sym e
]

spot_renamed : (rename : ℕ → ℕ) (n : ℕ) (spots : List Spot) → IsOneToOne rename → place_in (spot_of (rename n) (map (spot_as rename) spots)) ≡ place_in (spot_of n spots)
spot_renamed rename n [] one = refl
spot_renamed rename n (x ∷ xs) one = elim (cases_Bool (nat_eq x.number n)) [
  | inl e ↦ let f = same_test rename x.number n one ∙ e in rw (f, e) refl
  | inr e ↦ let f = same_test rename x.number n one ∙ e in rw (f, e) (spot_renamed rename n xs one)
]

before_renamed : (rename : ℕ → ℕ) (before : Option ℕ) (spots : List Spot) → IsOneToOne rename → place_before (map (spot_as rename) spots) (before_as rename before) ≡ place_before spots before
before_renamed rename None spots one = refl
before_renamed rename (Some n) spots one = spot_renamed rename n spots one

needed_renamed : (rename : ℕ → ℕ) (spots : List Spot) (rows : List Row) → IsOneToOne rename → needed (row_needs (map (spot_as rename) spots)) (map (row_as rename) rows) ≡ needed (row_needs spots) rows
needed_renamed rename spots [] one = refl
needed_renamed rename spots (r ∷ rows) one =
    let k = needed_renamed rename spots rows one in
    let e = ap (beyond_at r.count) (before_renamed rename r.before spots one) in
    omega (arith, k, e)

needs_renamed : (slot_count : ℕ) (rename : ℕ → ℕ) (spots : List Spot) (rows : List Row) → IsOneToOne rename → needs_fit slot_count (map (spot_as rename) spots) (map (row_as rename) rows) ≡ needs_fit slot_count spots rows
needs_renamed slot_count rename spots rows one =
    ap (λ n. nat_le (n + arenas (map (spot_as rename) spots)) (slot_count / 8)) (needed_renamed rename spots rows one)
    ∙ ap (λ n. nat_le (needed (row_needs spots) rows + n) (slot_count / 8)) (arenas_as rename spots)

-- numbers don't matter
pub arena_renamed : (slot_count : ℕ) (rename : ℕ → ℕ) (spots : List Spot) (rows : List Row) → IsOneToOne rename → places_fit slot_count (map (spot_as rename) spots) (map (row_as rename) rows) ≡ places_fit slot_count spots rows
arena_renamed slot_count rename spots rows one =
    ap (λ b. b && table_fits slot_count (map (spot_as rename) spots) (map (row_as rename) rows)) (needs_renamed slot_count rename spots rows one)
    ∙ ap (λ b. needs_fit slot_count spots rows && b) (table_renamed slot_count rename spots rows one)

sum_from : (a : ℕ) (xs : List ℕ) → fold (λ (m n : ℕ). m + n) a xs ≡ a + fold (λ (m n : ℕ). m + n) 0 xs
sum_from a [] = omega arith
sum_from a (x ∷ xs) = let h = sum_from (a + x) xs in let k = sum_from (0 + x) xs in omega (arith, h, k)

needed_is_sum : (f : Row → ℕ) (rows : List Row) → needed f rows ≡ sum (map f rows)
needed_is_sum f [] = refl
needed_is_sum f (r ∷ rows) = let h = sum_from (0 + f r) (map f rows) in let k = needed_is_sum f rows in omega (arith, h, k)

short_beyond : (count place : ℕ) → 0 < count → count ≤ 8 → beyond count place ≡ one_if (nat_lt place count)
short_beyond count place a b = elim (cases_Bool (nat_lt place count)) [ inl e ↦ rw e (let q : (count - place - 1) / 8 ≡ 0 = omega arith in omega arith) | inr e ↦ rw e refl ]

short_anew : (count : ℕ) → 0 < count → count ≤ 8 → beyond count 0 ≡ 1
short_anew count a b = let t : nat_lt 0 count ≡ true = grind (arith, nat_tests) in rw t (let q : (count - 0 - 1) / 8 ≡ 0 = omega arith in omega arith)

short_over : (count : ℕ) (x : Option Spot) → 0 < count → count ≤ 8 → beyond_at count (place_in x) ≡ needs_over count x
short_over count None a b = short_anew count a b
short_over count (Some x) a b = short_beyond count x.place a b

short_at : (spots : List Spot) (count : ℕ) (before : Option ℕ) → 0 < count → count ≤ 8 → beyond_at count (place_before spots before) ≡ needs_at spots count before
short_at spots count None a b = short_anew count a b
short_at spots count (Some n) a b = short_over count (spot_of n spots) a b

short_needed : (spots : List Spot) (rows : List Row) → AreShort rows → needed (row_needs spots) rows ≡ needed (needs spots) rows
short_needed spots [] h = refl
short_needed spots (r ∷ rows) h = let k = short_needed spots rows h.1 in let e = short_at spots r.count r.before h.0.0 h.0.1 in omega (arith, k, e)

-- rows of at most eight nodes fit as the arenas say, and the slots
pub short_rows_fit : (slots : ℕ) (spots : List Spot) (rows : List Row) → AreShort rows → places_fit slots spots rows ≡ (arenas_fit slots spots rows && table_fits slots spots rows)
short_rows_fit slots spots rows h = ap (λ n. nat_le (n + arenas spots) (slots / 8) && table_fits slots spots rows) (short_needed spots rows h ∙ needed_is_sum (needs spots) rows)

needed_unplaced : (spots : List Spot) (number count : ℕ) → spot_of number spots ≡ None → row_needs spots (row (Some number) count) ≡ row_needs spots (row None count)
needed_unplaced spots number count h = ap (λ x. beyond_at count (place_in x)) h

needs_unplaced : (slot_count : ℕ) (spots : List Spot) (front : List Row) (number count : ℕ) (back : List Row) → spot_of number spots ≡ None → needs_fit slot_count spots (front ++ row (Some number) count ∷ back) ≡ needs_fit slot_count spots (front ++ row None count ∷ back)
needs_unplaced slot_count spots front number count back h =
    let f = row_needs spots in
    ap (λ n. nat_le (n + arenas spots) (slot_count / 8))
    (needed_append f front (row (Some number) count ∷ back)
    ∙ ap (λ n. needed f front + (n + needed f back)) (needed_unplaced spots number count h)
    ∙ sym (needed_append f front (row None count ∷ back)))

-- a row before a node that isn't there is one anew
pub arena_unplaced : (slot_count : ℕ) (spots : List Spot) (front : List Row) (number count : ℕ) (back : List Row) → spot_of number spots ≡ None → places_fit slot_count spots (front ++ row (Some number) count ∷ back) ≡ places_fit slot_count spots (front ++ row None count ∷ back)
arena_unplaced slot_count spots front number count back h =
    ap (λ b. b && table_fits slot_count spots (front ++ row (Some number) count ∷ back)) (needs_unplaced slot_count spots front number count back h)
    ∙ ap (λ b. needs_fit slot_count spots (front ++ row None count ∷ back) && b) (table_unplaced slot_count spots front number count back h)
