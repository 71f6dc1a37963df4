-- What the calls keep of arenas.
use Rattle.std.proofs.Common.{◌≡◌, ◌≢◌, ◌∙◌, ℕ, ◌+◌, ◌-◌, ◌/◌, ◌%◌, ◌<◌, ◌≤◌, List, [], ◌∷◌, ◌++◌, Bool, true, false, Option, None, Some, IsTrue, length, refl, sym, ap, subst, arith, inl, inr, length-append, slice_get}
use Rattle.std.specs.Prelude.{nat_lt, nat_le, nat_eq, ◌||◌, if◌then◌else◌, vec_capacity}
use Rattle.std.specs.List.{AllByRecursion, IsDistinct}
use Rattle.std.proofs.lemmas.Bool.{false≢true, cases_Bool, cases_lt, eqb-true, eqb-false, ne_eqb, eq-eqb, lt-ltb, ltb-true, ltb-false, and_parts, and_from}
use Rattle.std.proofs.lemmas.Bool.Decides.{nat_tests}
use Rattle.std.proofs.lemmas.Option.{slice_get_past}
use Rattle.kj_base.specs.declared.nodes.Node.{Node}
use Rattle.kj_base.specs.Places.{Row, row, counts, one_if}
use Rattle.kj_base.specs.Store.{IsBareOrNone, rows_after}
use Rattle.node_arena.specs.declared.Cell.{Cell}
use Rattle.node_arena.specs.declared.State.{State}
use Rattle.node_arena.specs.declared.State.TheVariants.{Free, Bare, Covered}
use Rattle.node_arena.specs.declared.NodeArena.TheInside.{Inside}
use Rattle.node_arena.specs.Needs.{beyond, beyond_at, needed}
use Rattle.node_arena.specs.Arenas.{Arenas, view_of, has_node, is_bare_state, live_in, bare_in, live_at, bare_at, place_of_live, place_before_slot, slot_needs, has_room, IsUnused, is_in, IsKept, below_slot, IsChosen, in_state, covered_by, live_count}
use Rattle.node_arena.specs.Laws.{less_than_anew}
use Rattle.node_table.specs.Laws.{counts_cons}
use Rattle.node_arena.proofs.Counted.{count_changed, count_same}
use Rattle.node_arena.proofs.Lists.{front_below, front_apart, in_push}
use Rattle.node_arena.proofs.Standing.{IsPlaced}

pub live_below : (cells : List Cell) (slot : ℕ) → live_at cells slot ≡ true → slot < length cells
live_below cells slot h = elim (cases_lt slot (length cells)) [
  | inl l ↦ l
  | inr l ↦ let e = slice_get_past cells slot l in let n : false ≡ true = rw e at h in absurd (false≢true n)
]

bare_state_live : (state : State) → is_bare_state state ≡ true → has_node state ≡ true
bare_state_live Free h = absurd (false≢true h)
bare_state_live Bare h = refl
bare_state_live Covered h = absurd (false≢true h)

bare_cell_live : (cell : Option Cell) → bare_in cell ≡ true → live_in cell ≡ true
bare_cell_live None h = absurd (false≢true h)
bare_cell_live (Some cell) h = bare_state_live cell.state h

pub bare_live : (cells : List Cell) (slot : ℕ) → bare_at cells slot ≡ true → live_at cells slot ≡ true
bare_live cells slot h = bare_cell_live (slice_get cells slot) h

covered_live : (cell : Option Cell) → live_in cell ≡ true → live_in (in_state Covered cell) ≡ live_in cell
covered_live None h = refl
covered_live (Some cell) h = sym h

covered_not_bare : (cell : Option Cell) → bare_in (in_state Covered cell) ≡ false
covered_not_bare None = refl
covered_not_bare (Some cell) = refl

-- a node was written into a slot, before this one
pub record IsWritten (old new : List Cell) (before : Option ℕ) (slot : ℕ) (node : Node) : Type 0 where
  pub cell : slice_get new slot ≡ Some (record { state = Bare; node = node })
  pub others : (other : ℕ) → other ≢ slot → slice_get new other ≡ covered_by before other (slice_get old other)
  pub size : length new ≡ length old

live_covered : (before : Option ℕ) (cells : List Cell) (other : ℕ) → IsBareOrNone (bare_at cells) before → live_in (covered_by before other (slice_get cells other)) ≡ live_at cells other
live_covered None cells other b = refl
live_covered (Some n) cells other b = elim (cases_Bool (nat_eq n other)) [
  | inl e ↦ rw e (covered_live (slice_get cells other) (subst (λ k. live_at cells k ≡ true) (eqb-true n other e) (bare_live cells n b)))
  | inr e ↦ rw e refl
]

bare_covered : (before : Option ℕ) (cells : List Cell) (other : ℕ) → bare_in (covered_by before other (slice_get cells other)) ≡ true → (bare_at cells other ≡ true) × (before ≢ Some other)
bare_covered None cells other b = (b, λ e. cc)
bare_covered (Some n) cells other b = elim (cases_Bool (nat_eq n other)) [
  | inl e ↦ let c : bare_in (in_state Covered (slice_get cells other)) ≡ true = rw e at b in absurd (false≢true (sym (covered_not_bare (slice_get cells other)) ∙ c))
  | inr e ↦ (let c : bare_at cells other ≡ true = rw e at b in c, λ s. eqb-false n other e (let t : n ≡ other = cc in t))
]

-- a node is placed in arenas
pub record IsPut (old : Inside) (new : Arenas) (before : Option ℕ) (slot : ℕ) (node : Node) : Type 0 where
  pub written : IsWritten old.cells.items new.cells before slot node
  pub chosen : IsChosen (below_slot before) old.free.items new.free slot
  pub bare : IsBareOrNone (bare_at old.cells.items) before
  pub live : new.live ≡ old.live + 1

-- where it goes: before a bare slot, or into an unused arena
pub data Where (old : Inside) (new : Arenas) (before : Option ℕ) (slot : ℕ) : Type 0 where
  Anew : below_slot before ≡ None → old.free.items ≡ new.free ++ slot / 8 ∷ [] → slot % 8 ≡ 7 → Where old new before slot
  Below : (n : ℕ) → before ≡ Some n → slot ≡ n - 1 → 0 < n % 8 → bare_at old.cells.items n ≡ true → new.free ≡ old.free.items → Where old new before slot

where_some : (old : Inside) (new : Arenas) (n slot : ℕ) (b : Bool) → nat_lt 0 (n % 8) ≡ b → IsChosen (if b then Some (n - 1) else None) old.free.items new.free slot → below_slot (Some n) ≡ (if b then Some (n - 1) else None) → bare_at old.cells.items n ≡ true → Where old new (Some n) slot
where_some old new n slot true t c e bare = Below n refl c.0 (ltb-true 0 (n % 8) t) bare c.1
where_some old new n slot false t c e bare = Anew e c.0 c.1

where_is : (old : Inside) (new : Arenas) (before : Option ℕ) (slot : ℕ) → IsChosen (below_slot before) old.free.items new.free slot → IsBareOrNone (bare_at old.cells.items) before → Where old new before slot
where_is old new None slot c bare = Anew refl c.0 c.1
where_is old new (Some n) slot c bare = where_some old new n slot (nat_lt 0 (n % 8)) refl c refl bare

last_in : (xs : List ℕ) (a : ℕ) → is_in a (xs ++ a ∷ []) ≡ true
last_in xs a = in_push a xs a ∙ (let e = eq-eqb a a refl in rw e (or_true (is_in a xs)))
  where
    or_true : (b : Bool) → (b || true) ≡ true
    or_true true = refl
    or_true false = refl

module _ (old : Inside) (new : Arenas) (before : Option ℕ) (slot : ℕ) (node : Node) (kept : IsKept old) (p : IsPut old new before slot node) where
  there : Where old new before slot
  there = where_is old new before slot p.chosen p.bare

  unused_by : old.free.items ≡ new.free ++ slot / 8 ∷ [] → IsUnused old.cells.items (slot / 8)
  unused_by e = kept.unused (slot / 8) (ap (is_in (slot / 8)) e ∙ last_in new.free (slot / 8))

  pub was_free : live_at old.cells.items slot ≡ false
  was_free = elim there [
    | Anew none e s ↦ unused_by e slot refl
    | Below n is at low bare same ↦ kept.lowest n slot bare (omega arith) (omega arith)
  ]

  pub slot_below : slot < length old.cells.items
  slot_below = elim there [
    | Anew none e s ↦
        let f = front_below (λ a. a < length old.cells.items / 8) new.free (slot / 8) (subst (AllByRecursion (λ a. a < length old.cells.items / 8)) e kept.below) in
        let l = f.1 in
        let w = kept.whole in
        omega arith
    | Below n is at low bare same ↦ let l = live_below old.cells.items n (bare_live old.cells.items n bare) in omega arith
  ]

  now_live : live_at new.cells slot ≡ true
  now_live = ap live_in p.written.cell

  live_others : (other : ℕ) → other ≢ slot → live_at new.cells other ≡ live_at old.cells.items other
  live_others other d = ap live_in (p.written.others other d) ∙ live_covered before old.cells.items other p.bare

  before_live : (n : ℕ) → before ≡ Some n → live_at old.cells.items n ≡ true
  before_live n e = bare_live old.cells.items n (subst (IsBareOrNone (bare_at old.cells.items)) e p.bare)

  never_none : (n : ℕ) → 0 < n % 8 → below_slot (Some n) ≡ Some (n - 1)
  never_none n l = let t = lt-ltb 0 (n % 8) l in rw t refl

  unused : below_slot before ≡ None → IsUnused old.cells.items (slot / 8)
  unused none = elim there [
    | Anew n e s ↦ unused_by e
    | Below n is at low bare same ↦ absurd (let a = sym none ∙ ap below_slot is ∙ never_none n low in let b : ⊥ = cc in b)
  ]

  pub is_placed : IsPlaced (view_of old) new before slot
  is_placed = record { was_free = was_free; now_live = now_live; others = live_others; size = p.written.size; chosen = p.chosen; before_live = before_live; unused = unused; live = p.live }

  -- the free arenas stay free
  apart_from : (arena : ℕ) → is_in arena new.free ≡ true → (is_in arena old.free.items ≡ true) × (slot / 8 ≢ arena)
  apart_from arena i = elim there [
    | Anew none e s ↦
        let f = front_apart new.free (slot / 8) (subst (IsDistinct nat_eq) e kept.apart) in
        (ap (is_in arena) e ∙ in_push arena new.free (slot / 8) ∙ (rw i refl), λ t. false≢true (sym f.1 ∙ ap (λ k. is_in k new.free) t ∙ i))
    | Below n is at low bare same ↦
        let j = ap (is_in arena) (sym same) ∙ i in
        (j, λ t. false≢true (sym (kept.unused arena j n (let q : slot / 8 ≡ n / 8 = omega arith in sym q ∙ t)) ∙ bare_live old.cells.items n bare))
  ]

  new_unused : (arena : ℕ) → is_in arena new.free ≡ true → IsUnused new.cells arena
  new_unused arena i other e =
      let a = apart_from arena i in
      live_others other (λ s. a.1 (ap (λ k. k / 8) (sym s) ∙ e)) ∙ kept.unused arena a.0 other e

  old_unused : (arena : ℕ) → IsUnused new.cells arena → (slot / 8 ≢ arena) × IsUnused old.cells.items arena
  old_unused arena u =
      let d : slot / 8 ≢ arena = λ e. false≢true (sym (u slot e) ∙ now_live) in
      (d, λ other e. sym (live_others other (λ s. d (ap (λ k. k / 8) (sym s) ∙ e))) ∙ u other e)

  new_free : (arena : ℕ) → arena < length old.cells.items / 8 → IsUnused new.cells arena → is_in arena new.free ≡ true
  new_free arena l u =
      let o = old_unused arena u in
      let i = kept.free arena l o.1 in
      elim there [
        | Anew none e s ↦
            let d = ne_eqb (slot / 8) arena o.0 in
            let j : (is_in arena new.free || false) ≡ true = let h = sym (in_push arena new.free (slot / 8)) ∙ ap (is_in arena) (sym e) ∙ i in rw d at h in
            drop_false (is_in arena new.free) j
        | Below n is at low bare same ↦ ap (is_in arena) same ∙ i
      ]
    where
      drop_false : (b : Bool) → (b || false) ≡ true → b ≡ true
      drop_false true h = refl
      drop_false false h = h

  new_lowest : (s other : ℕ) → bare_at new.cells s ≡ true → other / 8 ≡ s / 8 → other < s → live_at new.cells other ≡ false
  new_lowest s other b e l = elim (cases_Bool (nat_eq s slot)) [
    | inl t ↦
        let same = eqb-true s slot t in
        live_others other (λ q. absurd (omega arith))
        ∙ (elim there [
          | Anew none f m ↦ unused_by f other (e ∙ ap (λ k. k / 8) same)
          | Below n is at low bare m ↦ kept.lowest n other bare (e ∙ ap (λ k. k / 8) same ∙ (omega arith)) (omega arith)
        ])
    | inr t ↦
        let d = eqb-false s slot t in
        let c = bare_covered before old.cells.items s (ap bare_in (sym (p.written.others s d)) ∙ b) in
        let apart : other ≢ slot = λ q. elim there [
          | Anew none f m ↦ false≢true (sym (unused_by f s (sym e ∙ ap (λ k. k / 8) q)) ∙ bare_live old.cells.items s c.0)
          | Below n is at low bare m ↦
              let far : n ≢ s = λ w. c.1 (is ∙ ap Some w) in
              false≢true (sym (kept.lowest s n c.0 (let a : n / 8 ≡ slot / 8 = omega arith in a ∙ ap (λ k. k / 8) (sym q) ∙ e) (omega arith)) ∙ bare_live old.cells.items n bare)
        ] in
        live_others other apart ∙ kept.lowest s other c.0 e l
  ]

  new_below : AllByRecursion (λ a. a < length old.cells.items / 8) new.free × IsDistinct nat_eq new.free
  new_below = elim there [
    | Anew none e s ↦ (
      (front_below (λ a. a < length old.cells.items / 8) new.free (slot / 8) (subst (AllByRecursion (λ a. a < length old.cells.items / 8)) e kept.below)).0,
      (front_apart new.free (slot / 8) (subst (IsDistinct nat_eq) e kept.apart)).0,
    )
    | Below n is at low bare same ↦ (subst (AllByRecursion (λ a. a < length old.cells.items / 8)) (sym same) kept.below, subst (IsDistinct nat_eq) (sym same) kept.apart)
  ]

  -- what fits afterwards
  less_needs : (r : Row) → slot_needs new.cells r ≤ slot_needs old.cells.items r
  less_needs r = less_at r.count r.before
    where
      less_at : (count : ℕ) (place : Option ℕ) → beyond_at count (place_before_slot new.cells place) ≤ beyond_at count (place_before_slot old.cells.items place)
      less_at count None = omega arith
      less_at count (Some k) = elim (cases_Bool (nat_eq k slot)) [
        | inl e ↦
            let f : live_at old.cells.items k ≡ false = ap (live_at old.cells.items) (eqb-true k slot e) ∙ was_free in
            let g : beyond_at count (place_of_live old.cells.items k) ≡ beyond_at count None = rw f refl in
            let h = less_than_anew count (place_of_live new.cells k) in
            omega arith
        | inr e ↦
            let f : beyond_at count (place_of_live new.cells k) ≡ beyond_at count (place_of_live old.cells.items k) = ap (λ b. beyond_at count (if b then Some (k % 8) else None)) (live_others k (eqb-false k slot e)) in
            omega arith
      ]

  less_needed : (rows : List Row) → needed (slot_needs new.cells) rows ≤ needed (slot_needs old.cells.items) rows
  less_needed [] = omega arith
  less_needed (r ∷ rows) = let h = less_needed rows in let k = less_needs r in omega arith

  -- what the rest of the first row needs
  rest_needs : (count : ℕ) → 0 < count → beyond (count - 1) (slot % 8) + length old.free.items ≤ beyond_at count (place_before_slot old.cells.items before) + length new.free
  rest_needs count l = elim there [
    | Anew none e s ↦
        let f = ap length e ∙ length-append new.free (slot / 8 ∷ []) in
        let g : beyond_at count (place_before_slot old.cells.items before) ≡ beyond count 0 = anew_place before none p.bare in
        let h = one_arena count l in
        let k = ap (beyond (count - 1)) s in
        omega arith
    | Below n is at low bare same ↦
        let f = ap length same in
        let g : beyond_at count (place_before_slot old.cells.items before) ≡ beyond count (n % 8) =
        ap (λ b. beyond_at count (place_before_slot old.cells.items b)) is ∙ (let v = bare_live old.cells.items n bare in rw v refl) in
        let h = one_lower count (n % 8) l low in
        let k : slot % 8 ≡ n % 8 - 1 = omega arith in
        let m = ap (beyond (count - 1)) k in
        omega arith
  ]
    where
      one_arena : (count : ℕ) → 0 < count → beyond (count - 1) 7 + 1 ≡ beyond count 0
      one_arena count l = grind (arith, nat_tests)

      one_lower : (count place : ℕ) → 0 < count → 0 < place → beyond (count - 1) (place - 1) ≡ beyond count place
      one_lower count place l m = grind (arith, nat_tests)

      anew_place : (place : Option ℕ) → below_slot place ≡ None → IsBareOrNone (bare_at old.cells.items) place → beyond_at count (place_before_slot old.cells.items place) ≡ beyond count 0
      anew_place None none bare = refl
      anew_place (Some n) none bare = elim (cases_Bool (nat_lt 0 (n % 8))) [
        | inl t ↦ absurd (let a : Some (n - 1) ≡ None = rw t at none in let b : ⊥ = cc in b)
        | inr t ↦ let v = bare_live old.cells.items n bare in let z : n % 8 ≡ 0 = let q = ltb-false 0 (n % 8) t in omega arith in rw (v, z) refl
      ]

  fits_by : (need free : ℕ) → need ≤ free → IsTrue (nat_le need free)
  fits_by need free l = grind (arith, nat_tests)

  within_by : (need free : ℕ) → IsTrue (nat_le need free) → need ≤ free
  within_by need free t = grind (arith, nat_tests)

  rest_needed : (more : List Row) (count : ℕ) → 0 < count → nat_le (needed (slot_needs old.cells.items) (row before count ∷ more)) (length old.free.items) ≡ true → nat_le (needed (slot_needs new.cells) (rows_after slot count more)) (length new.free) ≡ true
  rest_needed more count l t =
      let a = within_by (needed (slot_needs old.cells.items) (row before count ∷ more)) (length old.free.items) t in
      let b = rest_needs count l in
      let c = less_needed more in
      elim (cases_Bool (nat_lt 1 count)) [
        | inl e ↦
            let g : beyond_at (count - 1) (place_of_live new.cells slot) ≡ beyond (count - 1) (slot % 8) = let v = now_live in rw v refl in
            rw e (fits_by (needed (slot_needs new.cells) (row (Some slot) (count - 1) ∷ more)) (length new.free) (omega arith))
        | inr e ↦ rw e (fits_by (needed (slot_needs new.cells) more) (length new.free) (omega arith))
      ]

  -- the nodes of the rest have slots
  rest_counts : (more : List Row) (count : ℕ) → 0 < count → nat_le (old.live + counts (row before count ∷ more)) (length old.cells.items) ≡ true → nat_le (new.live + counts (rows_after slot count more)) (length new.cells) ≡ true
  rest_counts more count l t =
      let a = within_by (old.live + counts (row before count ∷ more)) (length old.cells.items) t in
      let b = counts_cons (row before count) more in
      let c = p.live in
      let s = p.written.size in
      elim (cases_Bool (nat_lt 1 count)) [
        | inl e ↦
            let k = counts_cons (row (Some slot) (count - 1)) more in
            rw e (fits_by (new.live + counts (row (Some slot) (count - 1) ∷ more)) (length new.cells) (omega arith))
        | inr e ↦ rw e (fits_by (new.live + counts more) (length new.cells) (omega arith))
      ]

  pub rest_fits : (more : List Row) (count : ℕ) → 0 < count → IsTrue (has_room (view_of old) (row before count ∷ more)) → IsTrue (has_room new (rows_after slot count more))
  rest_fits more count l t =
      let both = and_parts (nat_le (needed (slot_needs old.cells.items) (row before count ∷ more)) (length old.free.items)) (nat_le (old.live + counts (row before count ∷ more)) (length old.cells.items)) t in
      and_from (nat_le (needed (slot_needs new.cells) (rows_after slot count more)) (length new.free)) (nat_le (new.live + counts (rows_after slot count more)) (length new.cells))
      (rest_needed more count l both.0) (rest_counts more count l both.1)

count_put : (old : Inside) (new : Arenas) (before : Option ℕ) (slot : ℕ) (node : Node) → IsKept old → IsPut old new before slot node → new.live ≡ live_count new.cells
count_put old new before slot node k p =
    let a = count_changed old.cells.items new.cells slot p.written.size (live_others old new before slot node k p) in
    let b : one_if (live_at old.cells.items slot) ≡ 0 = ap one_if (was_free old new before slot node k p) in
    let c : one_if (live_at new.cells slot) ≡ 1 = ap one_if (now_live old new before slot node k p) in
    let d = k.counted in
    let e = p.live in
    omega arith

pub kept_put : (old new : Inside) (before : Option ℕ) (slot : ℕ) (node : Node) → IsKept old → IsPut old (view_of new) before slot node → vec_capacity old.free ≤ vec_capacity new.free → IsKept new
kept_put old new before slot node k p room =
    let size = p.written.size in
    let eighth : length new.cells.items / 8 ≡ length old.cells.items / 8 = ap (λ n. n / 8) size in
    let b = new_below old (view_of new) before slot node k p in
    record {
      whole = ap (λ n. n % 8) size ∙ k.whole;
      size = let z = k.size in omega arith;
      room = let z = k.room in omega arith;
      below = rw eighth b.0;
      apart = b.1;
      unused = new_unused old (view_of new) before slot node k p;
      free = λ arena l u. new_free old (view_of new) before slot node k p arena (omega arith) u;
      counted = count_put old (view_of new) before slot node k p;
      lowest = new_lowest old (view_of new) before slot node k p;
    }

-- a cell has another node
pub record IsSet (old new : List Cell) (slot : ℕ) : Type 0 where
  pub live : (other : ℕ) → live_at new other ≡ live_at old other
  pub bare : (other : ℕ) → bare_at new other ≡ bare_at old other
  pub size : length new ≡ length old

pub kept_set : (old new : Inside) (slot : ℕ) → IsKept old → IsSet old.cells.items new.cells.items slot → new.free ≡ old.free → new.live ≡ old.live → IsKept new
kept_set old new slot k s e n =
    let eighth : length new.cells.items / 8 ≡ length old.cells.items / 8 = ap (λ n. n / 8) s.size in
    record {
      whole = ap (λ n. n % 8) s.size ∙ k.whole;
      size = let z = k.size in let y = s.size in omega arith;
      room = rw (eighth, e) k.room;
      below = rw (eighth, e) k.below;
      apart = rw e k.apart;
      unused = λ arena i other t. s.live other ∙ k.unused arena (rw e at i) other t;
      free = λ arena l u. rw e (k.free arena (omega arith) (λ other t. sym (s.live other) ∙ u other t));
      counted = n ∙ k.counted ∙ sym (count_same old.cells.items new.cells.items s.size s.live);
      lowest = λ slot other b t l. s.live other ∙ k.lowest slot other (sym (s.bare slot) ∙ b) t l;
    }

pub needs_set : (old new : List Cell) (slot : ℕ) (rows : List Row) → IsSet old new slot → needed (slot_needs new) rows ≡ needed (slot_needs old) rows
needs_set old new slot [] s = refl
needs_set old new slot (r ∷ rows) s = let h = needs_set old new slot rows s in let k = needs_at r.count r.before in omega (arith, h, k)
  where
    needs_at : (count : ℕ) (before : Option ℕ) → beyond_at count (place_before_slot new before) ≡ beyond_at count (place_before_slot old before)
    needs_at count None = refl
    needs_at count (Some k) = ap (λ b. beyond_at count (if b then Some (k % 8) else None)) (s.live k)
