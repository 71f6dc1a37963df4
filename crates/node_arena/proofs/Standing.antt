-- Spots when a node is placed or freed in its arena.
use Rattle.std.proofs.Common.{◌≡◌, ◌≢◌, ◌∙◌, ℕ, ◌+◌, ◌-◌, ◌/◌, ◌%◌, ◌<◌, ◌≤◌, List, [], ◌∷◌, ◌++◌, Bool, true, false, Option, None, Some, length, refl, sym, ap, subst, arith, inl, inr, ◌⊎◌, length-append}
use Rattle.std.specs.Prelude.{nat_lt, nat_eq, ◌==◌, ◌||◌, if◌then◌else◌}
use Rattle.std.specs.List.{AllByRecursion}
use Rattle.std.proofs.lemmas.Bool.{false≢true, cases_Bool, eqb-true, eqb-false, ne_eqb, eq-eqb, lt-ltb, le-ltb, ltb-true, ltb-false}
use Rattle.kj_base.specs.Places.{Spot, spot_of, spot_over, spot_placed, spot_anew, spot_before, spots_without}
use Rattle.kj_base.specs.Store.{AreBelow}
use Rattle.node_table.specs.NodeTable.{is_at}
use Rattle.node_table.proofs.Standing.{at_push, apart_push, apart_without, at_others, none_at}
use Rattle.node_arena.specs.Arenas.{Arenas, live_at, IsSpot, Stands, IsUnused, below_slot, IsChosen}
use Rattle.node_arena.specs.Laws.{if_new, has_key}
use Rattle.node_arena.proofs.Lists.{all_at, all_with, all_push, all_without, IsFound, found, new_key, arenas_push, arenas_without, length_without}

-- a node was placed in a slot that wasn't live: before a live one, or in an arena that was unused
pub record IsPlaced (old new : Arenas) (before : Option ℕ) (slot : ℕ) : Type 0 where
  pub was_free : live_at old.cells slot ≡ false
  pub now_live : live_at new.cells slot ≡ true
  pub others : (other : ℕ) → other ≢ slot → live_at new.cells other ≡ live_at old.cells other
  pub size : length new.cells ≡ length old.cells
  pub chosen : IsChosen (below_slot before) old.free new.free slot
  pub before_live : (n : ℕ) → before ≡ Some n → live_at old.cells n ≡ true
  pub unused : below_slot before ≡ None → IsUnused old.cells (slot / 8)
  pub live : new.live ≡ old.live + 1

or_true : (a : Bool) → (a || (true || false)) ≡ true
or_true true = refl
or_true false = refl

or_nothing : (a : Bool) → (a || (false || false)) ≡ a
or_nothing true = refl
or_nothing false = refl

-- the new slots that are live are the old ones and the new one
each_push : (old new : Arenas) (before : Option ℕ) (slot : ℕ) (spots : List Spot) (x : Spot) → IsPlaced old new before slot → x.number ≡ slot → ((other : ℕ) → is_at other spots ≡ live_at old.cells other) → (other : ℕ) → is_at other (spots ++ x ∷ []) ≡ live_at new.cells other
each_push old new before slot spots x p e h other = elim (cases_Bool (nat_eq x.number other)) [
  | inl s ↦ at_push other spots x ∙ rw s (or_true (is_at other spots) ∙ sym (ap (live_at new.cells) (sym (eqb-true x.number other s) ∙ e) ∙ p.now_live))
  | inr s ↦ at_push other spots x ∙ rw s (or_nothing (is_at other spots) ∙ h other ∙ sym (p.others other (λ t. eqb-false x.number other s (e ∙ sym t))))
]

count_push : (old new : Arenas) (before : Option ℕ) (slot : ℕ) (spots : List Spot) (x : Spot) → IsPlaced old new before slot → length spots ≡ old.live → length (spots ++ x ∷ []) ≡ new.live
count_push old new before slot spots x p h = let a = length-append spots (x ∷ []) in let b = p.live in omega arith

-- one that goes anew has a new key
stands_anew : (old new : Arenas) (before : Option ℕ) (slot key : ℕ) (spots : List Spot) → IsPlaced old new before slot → below_slot before ≡ None → Stands old spots → AreBelow key spots → Stands new (spots ++ spot_anew slot key ∷ [])
stands_anew old new before slot key spots p none s below =
    let x = spot_anew slot key in
    let c : IsChosen None old.free new.free slot = subst (λ b. IsChosen b old.free new.free slot) none p.chosen in
    let unused = p.unused none in
    let arena_of : ℕ → ℕ = λ k. if k == key then slot / 8 else s.arena_of k in
    let key_of : ℕ → ℕ = λ a. if a == slot / 8 then key else s.key_of a in
    let elsewhere : AllByRecursion (λ (y : Spot). y.number / 8 ≢ slot / 8) spots =
    all_at (λ n. n / 8 ≢ slot / 8) spots (λ n i e. false≢true (sym (unused n e) ∙ sym (s.each n) ∙ i)) in
    let kept : AllByRecursion (IsSpot arena_of key_of) spots =
    all_with (λ (y : Spot). (y.number / 8 ≢ slot / 8) × IsSpot s.arena_of s.key_of y) (λ (y : Spot). y.key < key) (IsSpot arena_of key_of) spots
    (λ y h l. record {
      place = h.1.place;
      arena = h.1.arena ∙ sym (let d = ne_eqb y.key key (λ e. absurd (omega arith)) in rw d refl);
      key = h.1.key ∙ sym (let d = ne_eqb (y.number / 8) (slot / 8) h.0 in rw d refl);
    })
    (all_with (λ (y : Spot). y.number / 8 ≢ slot / 8) (IsSpot s.arena_of s.key_of) (λ (y : Spot). (y.number / 8 ≢ slot / 8) × IsSpot s.arena_of s.key_of y) spots (λ y a b. (a, b)) elsewhere s.spots_are) below in
    record {
      arena_of = arena_of;
      key_of = key_of;
      apart = apart_push spots x s.apart (s.each slot ∙ p.was_free);
      each = each_push old new before slot spots x p refl s.each;
      spots_are = all_push (IsSpot arena_of key_of) spots x kept (record {
        place = sym c.1;
        arena = sym (let e = eq-eqb key key refl in rw e refl);
        key = sym (let e = eq-eqb (slot / 8) (slot / 8) refl in rw e refl);
      });
      all =
          let a = arenas_push spots x in
          let k : if_new (has_key key spots) ≡ 1 = ap if_new (new_key key spots below) in
          let l = ap length c.0 ∙ length-append new.free (slot / 8 ∷ []) in
          let f = s.all in
          let z = ap (λ n. n / 8) p.size in
          omega arith;
      count = count_push old new before slot spots x p s.count;
    }

-- one before another stands in its arena
stands_below : (old new : Arenas) (n slot : ℕ) (spots : List Spot) → IsPlaced old new (Some n) slot → below_slot (Some n) ≡ Some (n - 1) → 0 < n % 8 → (s : Stands old spots) → (f : IsFound (IsSpot s.arena_of s.key_of) n spots) → Stands new (spots ++ spot_before slot f.spot ∷ [])
stands_below old new n slot spots p some low s f =
    let y = f.spot in
    let x = spot_before slot y in
    let c : IsChosen (Some (n - 1)) old.free new.free slot = subst (λ b. IsChosen b old.free new.free slot) some p.chosen in
    let e : slot ≡ n - 1 = c.0 in
    let m : y.number ≡ n = f.number in
    let one : slot / 8 ≡ n / 8 = ap (λ k. k / 8) e ∙ (omega arith) in
    let there : slot / 8 ≡ y.number / 8 = one ∙ ap (λ k. k / 8) (sym m) in
    record {
      arena_of = s.arena_of;
      key_of = s.key_of;
      apart = apart_push spots x s.apart (s.each slot ∙ p.was_free);
      each = each_push old new (Some n) slot spots x p refl s.each;
      spots_are = all_push (IsSpot s.arena_of s.key_of) spots x s.spots_are (record {
        place = ap (λ k. k - 1) (f.has.place ∙ ap (λ k. k % 8) m) ∙ sym (ap (λ k. k % 8) e ∙ lower n low);
        arena = there ∙ f.has.arena;
        key = f.has.key ∙ ap s.key_of (sym there);
      });
      all =
          let a = arenas_push spots x in
          let k : if_new (has_key y.key spots) ≡ 0 = ap if_new f.key in
          let l : length new.free ≡ length old.free = ap length c.1 in
          let g = s.all in
          let z = ap (λ n. n / 8) p.size in
          omega arith;
      count = count_push old new (Some n) slot spots x p s.count;
    }
  where
    lower : (n : ℕ) → 0 < n % 8 → (n - 1) % 8 ≡ n % 8 - 1
    lower n l = omega arith

spot_is_anew : (slot key n : ℕ) (x : Option Spot) (y : Spot) → x ≡ Some y → y.place ≡ 0 → spot_over slot key x ≡ spot_anew slot key
spot_is_anew slot key n x y e z = ap (spot_over slot key) e ∙ (let t : nat_lt 0 y.place ≡ false = le-ltb 0 y.place (omega arith) in rw t refl)

spot_is_before : (slot key n : ℕ) (x : Option Spot) (y : Spot) → x ≡ Some y → 0 < y.place → spot_over slot key x ≡ spot_before slot y
spot_is_before slot key n x y e l = ap (spot_over slot key) e ∙ (let t : nat_lt 0 y.place ≡ true = lt-ltb 0 y.place l in rw t refl)

pub placed_stands : (old new : Arenas) (before : Option ℕ) (slot key : ℕ) (spots : List Spot) → IsPlaced old new before slot → Stands old spots → AreBelow key spots → Stands new (spots ++ spot_placed slot key before spots ∷ [])
placed_stands old new None slot key spots p s below = stands_anew old new None slot key spots p refl s below
placed_stands old new (Some n) slot key spots p s below =
    let f = found (IsSpot s.arena_of s.key_of) n spots s.spots_are (s.each n ∙ p.before_live n refl) in
    let at : f.spot.place ≡ n % 8 = f.has.place ∙ ap (λ k. k % 8) f.number in
    elim (cases_Bool (nat_lt 0 (n % 8))) [
      | inl t ↦
          let l : 0 < n % 8 = ltb-true 0 (n % 8) t in
          subst (λ x. Stands new (spots ++ x ∷ [])) (sym (spot_is_before slot key n (spot_of n spots) f.spot f.is (omega arith)))
          (stands_below old new n slot spots p (rw t refl) l s f)
      | inr t ↦
          let l : n % 8 ≤ 0 = ltb-false 0 (n % 8) t in
          subst (λ x. Stands new (spots ++ x ∷ [])) (sym (spot_is_anew slot key n (spot_of n spots) f.spot f.is (omega arith)))
          (stands_anew old new (Some n) slot key spots p (rw t refl) s below)
    ]

-- the node of a live slot went, and with the last one of its arena this is free
pub record IsFreed (old new : Arenas) (slot : ℕ) : Type 0 where
  pub was_live : live_at old.cells slot ≡ true
  pub freed : live_at new.cells slot ≡ false
  pub others : (other : ℕ) → other ≢ slot → live_at new.cells other ≡ live_at old.cells other
  pub size : length new.cells ≡ length old.cells
  pub free : (IsUnused new.cells (slot / 8) × (length new.free ≡ length old.free + 1)) ⊎ ((IsUnused new.cells (slot / 8) → ⊥) × (new.free ≡ old.free))
  pub live : new.live + 1 ≡ old.live

each_less : (old new : Arenas) (slot : ℕ) (spots : List Spot) → IsFreed old new slot → ((other : ℕ) → is_at other spots ≡ live_at old.cells other) → (other : ℕ) → is_at other (spots_without slot spots) ≡ live_at new.cells other
each_less old new slot spots p h other = elim (cases_Bool (nat_eq other slot)) [
  | inl e ↦ let k = eqb-true other slot e in ap (λ z. is_at z (spots_without slot spots)) k ∙ none_at slot spots ∙ sym (ap (live_at new.cells) k ∙ p.freed)
  | inr e ↦ at_others slot other spots e ∙ h other ∙ sym (p.others other (eqb-false other slot e))
]

has_no_key : (key : ℕ) (spots : List Spot) → AllByRecursion (λ (x : Spot). x.key ≢ key) spots → has_key key spots ≡ false
has_no_key key [] h = refl
has_no_key key (x ∷ xs) h = rw (ne_eqb x.key key h.0) (has_no_key key xs h.1)

pub freed_stands : (old new : Arenas) (slot : ℕ) (spots : List Spot) → IsFreed old new slot → Stands old spots → Stands new (spots_without slot spots)
freed_stands old new slot spots p s =
    let rest = spots_without slot spots in
    let each = each_less old new slot spots p s.each in
    let left = all_without (IsSpot s.arena_of s.key_of) slot spots s.spots_are in
    let K = s.key_of (slot / 8) in
    let there = s.each slot ∙ p.was_live in
    let mine = found (IsSpot s.arena_of s.key_of) slot spots s.spots_are there in
    let home : slot / 8 ≡ s.arena_of K = ap (λ k. k / 8) (sym mine.number) ∙ mine.has.arena ∙ ap s.arena_of (mine.has.key ∙ ap (λ k. s.key_of (k / 8)) mine.number) in
    let keys : AllByRecursion (λ (x : Spot). x.number ≡ slot → x.key ≡ K) spots =
    all_with (IsSpot s.arena_of s.key_of) (IsSpot s.arena_of s.key_of) (λ (x : Spot). x.number ≡ slot → x.key ≡ K) spots (λ x a b e. a.key ∙ ap (λ k. s.key_of (k / 8)) e) s.spots_are s.spots_are in
    let count = arenas_without slot K spots s.apart keys there in
    let z = ap (λ n. n / 8) p.size in
    let f = s.all in
    record {
      arena_of = s.arena_of;
      key_of = s.key_of;
      apart = apart_without slot spots s.apart;
      each = each;
      spots_are = left;
      all = elim p.free [
        | inl q ↦
            let away : AllByRecursion (λ (x : Spot). x.key ≢ K) rest =
            all_with (λ (x : Spot). live_at new.cells x.number ≡ true) (IsSpot s.arena_of s.key_of) (λ (x : Spot). x.key ≢ K) rest
            (λ x a b e. false≢true (sym (q.0 x.number (b.arena ∙ ap s.arena_of e ∙ sym home)) ∙ a))
            (all_at (λ n. live_at new.cells n ≡ true) rest (λ n i. sym (each n) ∙ i)) left in
            let k : if_new (has_key K rest) ≡ 1 = ap if_new (has_no_key K rest away) in
            let l = q.1 in
            omega arith
        | inr q ↦
            let k : if_new (has_key K rest) ≡ 0 = elim (cases_Bool (has_key K rest)) [
              | inl i ↦ ap if_new i
              | inr o ↦ absurd (q.0 (λ other e. elim (cases_Bool (live_at new.cells other)) [
                | inl i ↦
                    let m = found (IsSpot s.arena_of s.key_of) other rest left (each other ∙ i) in
                    let w : m.spot.key ≡ K = m.has.key ∙ ap (λ k. s.key_of (k / 8)) m.number ∙ ap s.key_of e in
                    absurd (false≢true (sym o ∙ ap (λ key. has_key key rest) (sym w) ∙ m.key))
                | inr i ↦ i
              ]))
            ] in
            let l : length new.free ≡ length old.free = ap length q.1 in
            omega arith
      ];
      count = let a = length_without slot spots s.apart there in let b = p.live in let d = s.count in omega arith;
    }
