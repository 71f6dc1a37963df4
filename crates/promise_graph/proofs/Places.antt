-- The spots of a world, by slot.
use Rattle.std.proofs.Common.{◌≡◌, ◌≢◌, ℕ, suc, ◌+◌, ◌<◌, List, [], ◌∷◌, Option, None, Some, Bool, true, false, cond, not, map, arith, refl, sym, ap, ◌∙◌, inl, inr, subst}
use Rattle.std.specs.Prelude.{◌==◌, filter, IsSome}
use Rattle.std.specs.List.{AllByRecursion}
use Rattle.std.proofs.lemmas.Bool.{cases_eq, false≢true}
use Rattle.kj_base.specs.Places.{Spot, spot_as, spots_without}
use Rattle.kj_base.specs.declared.nodes.Node.{Node}
use Rattle.promise_graph.specs.declared.fields.Marks.{Marks}
use Rattle.promise_graph.specs.Slots.{number_at, IsAbsent}
use Rattle.promise_graph.specs.Kept.{AreNumbered}
use Rattle.promise_graph.specs.Standing.{name_or, name_at, HasSpots}
use Rattle.promise_graph.proofs.Lists.{not_some, equal_yes, equal_not, not_equal, all_filter}
use Rattle.promise_graph.proofs.Renamed.{all_more}
use Rattle.promise_graph.proofs.Naming.{apart_events}

pub map_live : (f g : ℕ → ℕ) (xs : List Spot) → AllByRecursion (λ (x : Spot). g x.number ≡ f x.number) xs → map (spot_as f) xs ≡ map (spot_as g) xs
map_live f g [] h = refl
map_live f g (x ∷ xs) h = λ i. record x { number = sym h.0 i } ∷ map_live f g xs h.1 i

-- the same spots, where no number changes
pub spots_same : (at new : ℕ → Option Node) (sp sp' : List Spot → Type 0) (next key : ℕ) (spots : List Spot) → ((s : ℕ) → number_at new s ≡ number_at at s) → ((xs : List Spot) → sp xs → sp' xs) → HasSpots at sp next spots key → HasSpots new sp' next spots key
spots_same at new sp sp' next key spots same by h = record {
  by_slot = h.by_slot;
  by_store = by h.by_slot h.by_store;
  placed = h.placed ∙ map_live (name_at at next) (name_at new next) h.by_slot (all_more (λ (x : Spot). IsSome (number_at at x.number)) (λ (x : Spot). name_at new next x.number ≡ name_at at next x.number) (λ x l. ap (name_or (next + x.number)) (same x.number)) h.by_slot h.live);
  live = all_more (λ (x : Spot). IsSome (number_at at x.number)) (λ (x : Spot). IsSome (number_at new x.number)) (λ x l. subst (λ (o : Option ℕ). IsSome o) (sym (same x.number)) l) h.by_slot h.live;
  keys = h.keys;
}

absent_name : (at : ℕ → Option Node) (next n s : ℕ) → IsAbsent at n → IsSome (number_at at s) → name_at at next s ≢ n
absent_name at next n s a h = by_number (number_at at s) refl
  where
    by_number : (o : Option ℕ) → number_at at s ≡ o → name_or (next + s) (number_at at s) ≢ n
    by_number None e = absurd (not_some (number_at at s) e h)
    by_number (Some m) e = λ same. a s (e ∙ ap (λ (k : ℕ). Some k) (sym (ap (λ (o : Option ℕ). name_or (next + s) o) e) ∙ same))

spots_stay : (at : ℕ → Option Node) (next n : ℕ) → IsAbsent at n → (xs : List Spot) → AllByRecursion (λ (x : Spot). IsSome (number_at at x.number)) xs → filter (λ (x : Spot). not (x.number == n)) (map (spot_as (name_at at next)) xs) ≡ map (spot_as (name_at at next)) xs
spots_stay at next n a [] h = refl
spots_stay at next n a (x ∷ xs) h =
    ap (λ (b : Bool). cond (not b) (spot_as (name_at at next) x ∷ filter (λ (y : Spot). not (y.number == n)) (map (spot_as (name_at at next)) xs)) (filter (λ (y : Spot). not (y.number == n)) (map (spot_as (name_at at next)) xs))) (equal_not (name_at at next x.number) n (absent_name at next n x.number a h.0))
    ∙ ap (λ (l : List Spot). spot_as (name_at at next) x ∷ l) (spots_stay at next n a xs h.1)

-- no spot is of a node that isn't live
pub spots_absent : (at : ℕ → Option Node) (sp : List Spot → Type 0) (next n key : ℕ) (spots : List Spot) → IsAbsent at n → HasSpots at sp next spots key → HasSpots at sp next (filter (λ (x : Spot). not (x.number == n)) spots) key
spots_absent at sp next n key spots a h = record {
  by_slot = h.by_slot;
  by_store = h.by_store;
  placed = ap (λ (l : List Spot). filter (λ (x : Spot). not (x.number == n)) l) h.placed ∙ spots_stay at next n a h.by_slot h.live;
  live = h.live;
  keys = h.keys;
}

module _ (at new : ℕ → Option Node) (m : Marks) (slot n : ℕ) (k : AreNumbered at m) (live : number_at at slot ≡ Some n) (others : (s : ℕ) → s ≢ slot → number_at new s ≡ number_at at s) where
  same_name : (s : ℕ) → s ≢ slot → name_at new m.next s ≡ name_at at m.next s
  same_name s d = ap (name_or (m.next + s)) (others s d)

  its_name : name_at at m.next slot ≡ n
  its_name = ap (name_or (m.next + slot)) live

  pred_same : (s t : ℕ) → suc s ≡ suc t → s ≡ t
  pred_same s t h = omega (arith, h)

  name_test : (s : ℕ) → not (name_at at m.next s == n) ≡ not (s == slot)
  name_test s = elim (cases_eq s slot) [
    | inl p ↦ ap not (equal_yes (name_at at m.next s) n (ap (name_at at m.next) p ∙ its_name) ∙ sym (equal_yes s slot p))
    | inr d ↦ ap not (equal_not (name_at at m.next s) n (λ h. d (pred_same s slot (apart_events at m k (suc s) (suc slot) (h ∙ sym its_name)))) ∙ sym (equal_not s slot d))
  ]

  spots_case : (b c : Bool) (x : Spot) (xs : List Spot) (ys : List Spot) → b ≡ c → ys ≡ map (spot_as (name_at new m.next)) xs → (c ≡ true → spot_as (name_at at m.next) x ≡ spot_as (name_at new m.next) x)
      → cond b (spot_as (name_at at m.next) x ∷ ys) ys ≡ map (spot_as (name_at new m.next)) (cond c (x ∷ xs) xs)
  spots_case true true x xs ys e h f = λ i. f refl i ∷ h i
  spots_case true false x xs ys e h f = absurd (false≢true (sym e))
  spots_case false true x xs ys e h f = absurd (false≢true e)
  spots_case false false x xs ys e h f = h

  spots_gone : (xs : List Spot) → filter (λ (x : Spot). not (x.number == n)) (map (spot_as (name_at at m.next)) xs) ≡ map (spot_as (name_at new m.next)) (spots_without slot xs)
  spots_gone [] = refl
  spots_gone (x ∷ xs) = spots_case (not (name_at at m.next x.number == n)) (not (x.number == slot)) x (spots_without slot xs) (filter (λ (y : Spot). not (y.number == n)) (map (spot_as (name_at at m.next)) xs)) (name_test x.number) (spots_gone xs)
      (λ h. ap (λ (j : ℕ). record x { number = j }) (sym (same_name x.number (not_equal x.number slot h))))

  -- the spots of the other nodes stay
  pub spots_but : (sp sp' : List Spot → Type 0) (key : ℕ) (spots : List Spot) → ((xs : List Spot) → sp xs → sp' (spots_without slot xs)) → HasSpots at sp m.next spots key → HasSpots new sp' m.next (filter (λ (x : Spot). not (x.number == n)) spots) key
  spots_but sp sp' key spots by h = record {
    by_slot = spots_without slot h.by_slot;
    by_store = by h.by_slot h.by_store;
    placed = ap (λ (l : List Spot). filter (λ (x : Spot). not (x.number == n)) l) h.placed ∙ spots_gone h.by_slot;
    live = all_filter (λ (x : Spot). IsSome (number_at at x.number)) (λ (x : Spot). IsSome (number_at new x.number)) (λ (x : Spot). not (x.number == slot)) (λ x e l. subst (λ (o : Option ℕ). IsSome o) (sym (others x.number (not_equal x.number slot e))) l) h.by_slot h.live;
    keys = all_filter (λ (x : Spot). x.key < key) (λ (x : Spot). x.key < key) (λ (x : Spot). not (x.number == slot)) (λ x e l. l) h.by_slot h.keys;
  }
