-- What a free keeps of arenas, what a new node is put into, and what a new store has.
use Rattle.std.proofs.Common.{zero, suc, ◌≡◌, ◌≢◌, ◌∙◌, ℕ, ◌+◌, ◌/◌, ◌%◌, ◌^◌, ◌<◌, ◌≤◌, List, [], ◌∷◌, ◌++◌, Bool, true, false, Option, None, Some, length, refl, sym, ap, subst, arith, inl, inr, slice_get, length-append, IsSome}
use Rattle.std.specs.Prelude.{nat_eq, ◌||◌, vec_capacity}
use Rattle.std.specs.List.{list_any, AllByRecursion, IsDistinct, range_with_len}
use Rattle.std.proofs.lemmas.Bool.{false≢true, cases_Bool, eqb-true, eqb-false, ne_eqb}
use Rattle.std.proofs.lemmas.List.FromFn.{length-range_with_len}
use Rattle.std.proofs.lemmas.Map.Steps.{length-le_from_distinct_below}
use Rattle.kj_base.specs.declared.nodes.Node.{Node}
use Rattle.node_arena.specs.declared.Cell.{Cell}
use Rattle.node_arena.specs.declared.State.TheVariants.{Free}
use Rattle.node_arena.specs.declared.NodeArena.TheInside.{Inside}
use Rattle.node_arena.specs.Arenas.{view_of, has_node, live_in, bare_in, node_if, node_in, node_of, live_at, bare_at, IsUnused, is_in, IsKept, Stands, in_state, with_node, live_count}
use Rattle.kj_base.specs.Places.{one_if}
use Rattle.node_arena.proofs.Counted.{count_changed, count_none, count_some, count_within}
use Rattle.node_arena.proofs.Lists.{in_push, below_push, apart_push_number}
use Rattle.node_arena.proofs.Standing.{IsFreed}
use Rattle.node_arena.proofs.Kept.{live_below, IsSet}

none_if : (b : Bool) (node : Node) → b ≡ false → node_if b node ≡ None
none_if b node h = rw h refl

-- a slot that isn't live has no node
pub no_node : (cell : Option Cell) → live_in cell ≡ false → node_in cell ≡ None
no_node None h = refl
no_node (Some cell) h = none_if (has_node cell.state) cell.node h

some_if : (b : Bool) (node : Node) → node_if b node ≡ None → b ≡ false
some_if true node h = cc
some_if false node h = refl

freed_live : (cell : Option Cell) → live_in (in_state Free cell) ≡ false
freed_live None = refl
freed_live (Some cell) = refl

freed_bare : (cell : Option Cell) → bare_in (in_state Free cell) ≡ false
freed_bare None = refl
freed_bare (Some cell) = refl

below_any : (xs : List ℕ) (n q : ℕ) → AllByRecursion (λ x. x < n) xs → list_any (nat_eq q) xs ≡ true → q < n
below_any [] n q h t = absurd (false≢true t)
below_any (x ∷ xs) n q h t = elim (cases_Bool (nat_eq q x)) [
  | inl e ↦ let k = eqb-true q x e in let l = h.0 in omega arith
  | inr e ↦ below_any xs n q h.1 (rw e at t)
]

module _ (old : Inside) (cells : List Cell) (slot : ℕ) (kept : IsKept old) (live : live_at old.cells.items slot ≡ true)
    (cell : slice_get cells slot ≡ in_state Free (slice_get old.cells.items slot)) (others : (other : ℕ) → other ≢ slot → slice_get cells other ≡ slice_get old.cells.items other)
    (size : length cells ≡ length old.cells.items) where
  gone : live_at cells slot ≡ false
  gone = ap live_in cell ∙ freed_live (slice_get old.cells.items slot)

  live_others : (other : ℕ) → other ≢ slot → live_at cells other ≡ live_at old.cells.items other
  live_others other d = ap live_in (others other d)

  not_more : (other : ℕ) → live_at old.cells.items other ≡ false → live_at cells other ≡ false
  not_more other h = elim (cases_Bool (nat_eq other slot)) [ inl e ↦ ap (live_at cells) (eqb-true other slot e) ∙ gone | inr e ↦ live_others other (eqb-false other slot e) ∙ h ]

  not_free : is_in (slot / 8) old.free.items ≡ false
  not_free = elim (cases_Bool (is_in (slot / 8) old.free.items)) [ inl i ↦ absurd (false≢true (sym (kept.unused (slot / 8) i slot refl) ∙ live)) | inr n ↦ n ]

  arena_below : slot / 8 < length old.cells.items / 8
  arena_below = let l = live_below old.cells.items slot live in let w = kept.whole in omega arith

  pub free_room : length old.free.items < vec_capacity old.free
  free_room =
      let xs = old.free.items ++ slot / 8 ∷ [] in
      let few = length-le_from_distinct_below xs (length old.cells.items / 8) (apart_push_number old.free.items (slot / 8) kept.apart not_free)
      (λ q e. below_any xs (length old.cells.items / 8) q (below_push (length old.cells.items / 8) (slot / 8) old.free.items kept.below arena_below) e) in
      let l = length-append old.free.items (slot / 8 ∷ []) in
      let r = kept.room in
      omega arith

  pub given : (free : List ℕ) (count : ℕ) → IsUnused cells (slot / 8) → free ≡ old.free.items ++ slot / 8 ∷ [] → count + 1 ≡ old.live → IsFreed (view_of old) (record { cells = cells; free = free; live = count }) slot
  given free count u e n = record {
    live = n;
    was_live = live;
    freed = gone;
    others = live_others;
    size = size;
    free = inl (u, ap length e ∙ length-append old.free.items (slot / 8 ∷ []));
  }

  pub not_given : (count : ℕ) → (IsUnused cells (slot / 8) → ⊥) → count + 1 ≡ old.live → IsFreed (view_of old) (record { cells = cells; free = old.free.items; live = count }) slot
  not_given count u n = record { live = n; was_live = live; freed = gone; others = live_others; size = size; free = inr (u, refl) }

  -- one slot fewer is live
  one_less : (count : ℕ) → count + 1 ≡ old.live → count ≡ live_count cells
  one_less count n =
      let a = count_changed old.cells.items cells slot size live_others in
      let b : one_if (live_at old.cells.items slot) ≡ 1 = ap one_if live in
      let c : one_if (live_at cells slot) ≡ 0 = ap one_if gone in
      let d = kept.counted in
      omega arith

  old_unused : (arena : ℕ) → slot / 8 ≢ arena → IsUnused cells arena → IsUnused old.cells.items arena
  old_unused arena d u other e = sym (live_others other (λ s. d (ap (λ k. k / 8) (sym s) ∙ e))) ∙ u other e

  lowest : (s other : ℕ) → bare_at cells s ≡ true → other / 8 ≡ s / 8 → other < s → live_at cells other ≡ false
  lowest s other b e l = elim (cases_Bool (nat_eq s slot)) [
    | inl t ↦ absurd (false≢true (sym (ap bare_in cell ∙ freed_bare (slice_get old.cells.items slot)) ∙ ap (bare_at cells) (sym (eqb-true s slot t)) ∙ b))
    | inr t ↦ not_more other (kept.lowest s other (ap bare_in (sym (others s (eqb-false s slot t))) ∙ b) e l)
  ]

pub kept_given : (old new : Inside) (slot : ℕ) → IsKept old → live_at old.cells.items slot ≡ true → slice_get new.cells.items slot ≡ in_state Free (slice_get old.cells.items slot) → ((other : ℕ) → other ≢ slot → slice_get new.cells.items other ≡ slice_get old.cells.items other)
    → length new.cells.items ≡ length old.cells.items → IsUnused new.cells.items (slot / 8) → new.free.items ≡ old.free.items ++ slot / 8 ∷ [] → vec_capacity old.free ≤ vec_capacity new.free → new.live + 1 ≡ old.live → IsKept new
kept_given old new slot k live cell others size u e room n =
    let cells = new.cells.items in
    let eighth : length cells / 8 ≡ length old.cells.items / 8 = ap (λ n. n / 8) size in
    record {
      whole = ap (λ n. n % 8) size ∙ k.whole;
      size = let z = k.size in omega arith;
      room = let z = k.room in omega arith;
      below = rw (e, eighth) (below_push (length old.cells.items / 8) (slot / 8) old.free.items k.below (arena_below old cells slot k live cell others size));
      apart = rw e (apart_push_number old.free.items (slot / 8) k.apart (not_free old cells slot k live cell others size));
      unused = λ arena i. elim (cases_Bool (nat_eq (slot / 8) arena)) [
        | inl s ↦ subst (IsUnused cells) (eqb-true (slot / 8) arena s) u
        | inr s ↦
            let j : is_in arena old.free.items ≡ true = drop_false (is_in arena old.free.items) (rw s at (sym (in_push arena old.free.items (slot / 8)) ∙ ap (is_in arena) (sym e) ∙ i)) in
            λ other t. not_more old cells slot k live cell others size other (k.unused arena j other t)
      ];
      free = λ arena l w. ap (is_in arena) e ∙ in_push arena old.free.items (slot / 8) ∙ (elim (cases_Bool (nat_eq (slot / 8) arena)) [
        | inl s ↦ rw s (or_true (is_in arena old.free.items))
        | inr s ↦
            let j : is_in arena old.free.items ≡ true = k.free arena (omega arith) (old_unused old cells slot k live cell others size arena (eqb-false (slot / 8) arena s) w) in
            rw (s, j) refl
      ]);
      lowest = lowest old cells slot k live cell others size;
      counted = one_less old cells slot k live cell others size new.live n;
    }
  where
    drop_false : (b : Bool) → (b || false) ≡ true → b ≡ true
    drop_false true h = refl
    drop_false false h = h

    or_true : (b : Bool) → (b || true) ≡ true
    or_true true = refl
    or_true false = refl

pub kept_same : (old new : Inside) (slot : ℕ) → IsKept old → live_at old.cells.items slot ≡ true → slice_get new.cells.items slot ≡ in_state Free (slice_get old.cells.items slot) → ((other : ℕ) → other ≢ slot → slice_get new.cells.items other ≡ slice_get old.cells.items other)
    → length new.cells.items ≡ length old.cells.items → (IsUnused new.cells.items (slot / 8) → ⊥) → new.free ≡ old.free → new.live + 1 ≡ old.live → IsKept new
kept_same old new slot k live cell others size u e n =
    let cells = new.cells.items in
    let eighth : length cells / 8 ≡ length old.cells.items / 8 = ap (λ n. n / 8) size in
    record {
      whole = ap (λ n. n % 8) size ∙ k.whole;
      size = let z = k.size in omega arith;
      room = rw (eighth, e) k.room;
      below = rw (eighth, e) k.below;
      apart = rw e k.apart;
      unused = λ arena i other t. not_more old cells slot k live cell others size other (k.unused arena (rw e at i) other t);
      free = λ arena l w. rw e (elim (cases_Bool (nat_eq (slot / 8) arena)) [
        | inl s ↦ absurd (u (subst (IsUnused cells) (sym (eqb-true (slot / 8) arena s)) w))
        | inr s ↦ k.free arena (omega arith) (old_unused old cells slot k live cell others size arena (eqb-false (slot / 8) arena s) w)
      ]);
      lowest = lowest old cells slot k live cell others size;
      counted = one_less old cells slot k live cell others size new.live n;
    }

-- another node in a cell
same_live : (node : Node) (cell : Option Cell) → live_in (with_node node cell) ≡ live_in cell
same_live node None = refl
same_live node (Some cell) = refl

same_bare : (node : Node) (cell : Option Cell) → bare_in (with_node node cell) ≡ bare_in cell
same_bare node None = refl
same_bare node (Some cell) = refl

pub is_set : (old new : List Cell) (slot : ℕ) (node : Node) → slice_get new slot ≡ with_node node (slice_get old slot) → ((other : ℕ) → other ≢ slot → slice_get new other ≡ slice_get old other) → length new ≡ length old → IsSet old new slot
is_set old new slot node cell others size = record {
  live = λ other. elim (cases_Bool (nat_eq other slot)) [
    | inl e ↦ let s = eqb-true other slot e in ap (live_at new) s ∙ ap live_in cell ∙ same_live node (slice_get old slot) ∙ ap (live_at old) (sym s)
    | inr e ↦ ap live_in (others other (eqb-false other slot e))
  ];
  bare = λ other. elim (cases_Bool (nat_eq other slot)) [
    | inl e ↦ let s = eqb-true other slot e in ap (bare_at new) s ∙ ap bare_in cell ∙ same_bare node (slice_get old slot) ∙ ap (bare_at old) (sym s)
    | inr e ↦ ap bare_in (others other (eqb-false other slot e))
  ];
  size = size;
}

-- a new store
range_below : (a n m : ℕ) → a + n ≤ m → AllByRecursion (λ x. x < m) (range_with_len a n)
range_below a zero m l = tt
range_below a (suc n) m l = (omega arith, range_below (a + 1) n m (omega arith))

range_above : (a n low : ℕ) → low < a → AllByRecursion (λ y. nat_eq low y ≡ false) (range_with_len a n)
range_above a zero low l = tt
range_above a (suc n) low l = (ne_eqb low a (λ e. absurd (omega arith)), range_above (a + 1) n low (omega arith))

range_apart : (a n : ℕ) → IsDistinct nat_eq (range_with_len a n)
unfolding IsDistinct
range_apart a zero = tt
range_apart a (suc n) = (range_above (a + 1) n a (omega arith), range_apart (a + 1) n)

range_in : (a n e : ℕ) → a ≤ e → e < a + n → is_in e (range_with_len a n) ≡ true
range_in a zero e l h = absurd (omega arith)
range_in a (suc n) e l h = elim (cases_Bool (nat_eq a e)) [ inl s ↦ rw s refl | inr s ↦ let d = eqb-false a e s in rw s (range_in (a + 1) n e (omega arith) (omega arith)) ]

pub range_more : (a n : ℕ) → range_with_len a (n + 1) ≡ range_with_len a n ++ (a + n) ∷ []
range_more a zero = let e : a + 0 ≡ a = omega arith in rw e refl
range_more a (suc n) =
    let e : a + 1 + n ≡ a + suc n = omega arith in
    let f : suc n + 1 ≡ suc (n + 1) = omega arith in
    ap (range_with_len a) f ∙ ap (λ xs. a ∷ xs) (range_more (a + 1) n ∙ ap (λ k. range_with_len (a + 1) n ++ k ∷ []) e)

pub kept_new : (new : Inside) (slots : ℕ) → ((slot : ℕ) → live_at new.cells.items slot ≡ false) → length new.cells.items ≡ slots → slots % 8 ≡ 0 → slots < 2 ^ 32 → new.free.items ≡ range_with_len 0 (slots / 8) → slots / 8 ≤ vec_capacity new.free → new.live ≡ 0 → IsKept new
kept_new new slots none size whole small free room zero_live =
    let eighth : length new.cells.items / 8 ≡ slots / 8 = ap (λ n. n / 8) size in
    record {
      whole = ap (λ n. n % 8) size ∙ whole;
      size = omega arith;
      room = omega arith;
      below = rw (free, eighth) (range_below 0 (slots / 8) (slots / 8) (omega arith));
      apart = rw free (range_apart 0 (slots / 8));
      unused = λ arena i slot e. none slot;
      free = λ arena l u. ap (is_in arena) free ∙ range_in 0 (slots / 8) arena (omega arith) (omega arith);
      counted = zero_live ∙ sym (count_none new.cells.items none);
      lowest = λ slot other b e l. none other;
    }

pub stands_new : (cells : List Cell) (free : List ℕ) (slots : ℕ) → ((slot : ℕ) → live_at cells slot ≡ false) → length cells ≡ slots → free ≡ range_with_len 0 (slots / 8) → Stands (record { cells = cells; free = free; live = 0 }) []
stands_new cells free slots none size is = record {
  arena_of = λ k. k;
  key_of = λ a. a;
  apart = tt;
  each = λ slot. sym (none slot);
  spots_are = tt;
  count = refl;
  all = let a = ap length is ∙ length-range_with_len 0 (slots / 8) in let b = ap (λ n. n / 8) size in omega arith;
}

has_some : (b : Bool) (node : Node) → IsSome (node_if b node) → b ≡ true
has_some true node h = refl
has_some false node h = absurd (false≢true h)

live_cell : (cell : Option Cell) → IsSome (node_in cell) → live_in cell ≡ true
live_cell None h = absurd (false≢true h)
live_cell (Some cell) h = has_some (has_node cell.state) cell.node h

-- a slot with a node is live
pub live_of : (t : Inside) (slot : ℕ) → IsSome (node_of (view_of t) slot) → live_at t.cells.items slot ≡ true
live_of t slot h = live_cell (slice_get t.cells.items slot) h

-- one is live at least where a slot is
pub some_live : (t : Inside) (slot : ℕ) → IsKept t → live_at t.cells.items slot ≡ true → 1 ≤ t.live
some_live t slot k h = let a = count_some t.cells.items slot h in let b = k.counted in omega arith

-- there are no more live slots than slots
pub live_within : (t : Inside) → IsKept t → t.live ≤ length t.cells.items
live_within t k = let a = count_within t.cells.items in let b = k.counted in omega arith
