-- The list of each number, before and after a change of links.
use Rattle.std.proofs.Common.{zero, suc, ◌≡◌, ◌≢◌, ◌∙◌, ℕ, ◌<◌, ◌≤◌, List, [], ◌∷◌, length, true, false, arith, refl, sym, ap, subst, inl, inr, map}
use Rattle.std.specs.Prelude.{nat_eq}
use Rattle.std.specs.List.{list_any, AllByRecursion, IsDistinct, range_with_len}
use Rattle.std.proofs.lemmas.Bool.{false≢true, eqb-true, eqb-false, ne_eqb, eq-eqb, cases_Bool, cases_lt}
use Rattle.std.proofs.lemmas.List.{get_or_past}
use Rattle.std.proofs.lemmas.List.FromFn.{get_or-map-range_with_len, length-map-range_with_len}
use Rattle.std.proofs.lemmas.Map.Steps.{length-le_from_distinct_below}
use Rattle.kj_base.proofs.QueueLemmas.{all_insert, apart_insert}
use Rattle.linked_lists.specs.declared.Link.{Link}
use Rattle.linked_lists.specs.Lists.{members, is_in, place_of, with_before, without, alone, next_of, list_of, walk, IsPath, IsRing}
use Rattle.linked_lists.proofs.Paths.{first_out, rest_out, apart_first, apart_rest, apart_cons, walk_is, comes_back, goes_back, without_alone, with_new, stays, shortened, cut, without_same, without_other}

below_any : (xs : List ℕ) (n q : ℕ) → AllByRecursion (λ x. x < n) xs → list_any (nat_eq q) xs ≡ true → q < n
below_any [] n q h t = absurd (false≢true t)
below_any (x ∷ xs) n q h t = elim (cases_Bool (nat_eq q x)) [
  | inl e ↦ let k = eqb-true q x e in let l = h.0 in omega arith
  | inr e ↦ below_any xs n q h.1 (rw e at t)
]

-- different numbers below the size are at most so many
few : (n : ℕ) (xs : List ℕ) → IsDistinct nat_eq xs → AllByRecursion (λ x. x < n) xs → length xs ≤ n
few n xs apart below = length-le_from_distinct_below xs n apart (λ q. below_any xs n q below)

-- the walk from a head takes its ring
pub ring_is : (next previous : ℕ → ℕ) (n head : ℕ) (xs : List ℕ) → IsRing next previous n head xs → walk next n (next head) head ≡ xs
ring_is next previous n head xs r = walk_is next previous n head head xs r.path (apart_first head xs r.apart) (few n xs (apart_rest head xs r.apart) r.below)

pub ring_at : (next previous : ℕ → ℕ) (n head : ℕ) (xs : List ℕ) → IsRing next previous n head xs → IsRing next previous n head (walk next n (next head) head)
ring_at next previous n head xs r = subst (IsRing next previous n head) (sym (ring_is next previous n head xs r)) r

pub ring_alone : (next previous : ℕ → ℕ) (n head : ℕ) → next head ≡ head → previous head ≡ head → IsRing next previous n head []
unfolding IsDistinct
ring_alone next previous n head p q = record { path = (p, q); apart = (tt, tt); below = tt }

all_without : (P : ℕ → Type 0) (m : ℕ) (xs : List ℕ) → AllByRecursion P xs → AllByRecursion P (without m xs)
all_without P m [] h = tt
all_without P m (x ∷ xs) h = elim (cases_Bool (nat_eq x m)) [
  | inl e ↦ rw (without_same x m xs e) (all_without P m xs h.1)
  | inr e ↦ rw (without_other x m xs e) (h.0, all_without P m xs h.1)
]

apart_without : (m : ℕ) (xs : List ℕ) → IsDistinct nat_eq xs → IsDistinct nat_eq (without m xs)
unfolding IsDistinct
apart_without m [] h = tt
apart_without m (x ∷ xs) h = elim (cases_Bool (nat_eq x m)) [
  | inl e ↦ rw (without_same x m xs e) (apart_without m xs h.1)
  | inr e ↦ rw (without_other x m xs e) (all_without (λ y. nat_eq x y ≡ false) m xs h.0, apart_without m xs h.1)
]

-- a number goes directly before another one
module _ (next previous next' previous' : ℕ → ℕ) (n place number : ℕ) (list : ℕ → List ℕ)
    (rings : (head : ℕ) → IsRing next previous n head (list head))
    (empty : list number ≡ []) (other : place ≢ number) (place_in : place < n) (number_in : number < n)
    (to_new : next' (previous place) ≡ number) (from_new : next' number ≡ place)
    (back_new : previous' number ≡ previous place) (back_place : previous' place ≡ number)
    (others_next : (x : ℕ) → x ≢ previous place → x ≢ number → next' x ≡ next x)
    (others_previous : (x : ℕ) → x ≢ place → x ≢ number → previous' x ≡ previous x) where
  round : next (previous place) ≡ place
  round = comes_back next previous place place (list place) (rings place).path

  path_alone : IsPath next previous number [] number
  path_alone = subst (λ xs. IsPath next previous number xs number) empty (rings number).path

  absent : (head : ℕ) → head ≢ number → is_in number (list head) ≡ false
  absent head d = without_alone next previous number head head (list head) path_alone.1 (rings head).path d

  pub ring_with : (head : ℕ) → head ≢ number → is_in place (head ∷ list head) ≡ true → IsRing next' previous' n head (with_before place number (list head))
  unfolding IsDistinct
  ring_with head d i =
      let r = rings head in
      record {
        path =
            with_new next previous next' previous' place number to_new from_new back_new back_place others_next others_previous round head head (list head) r.path
            (absent head d) d d r.apart.1 (apart_first head (list head) r.apart)
            (elim (cases_Bool (nat_eq head place)) [ inl e ↦ inl e | inr e ↦ inr (rw e at i) ]);
        apart = (
          all_insert (λ y. nat_eq head y ≡ false) (list head) (place_of place (list head)) number (ne_eqb head number d) r.apart.0,
          apart_insert (list head) (place_of place (list head)) number (absent head d) r.apart.1,
        );
        below = all_insert (λ y. y < n) (list head) (place_of place (list head)) number number_in r.below;
      }

  pub ring_other : (head : ℕ) → head ≢ number → is_in place (head ∷ list head) ≡ false → IsRing next' previous' n head (list head)
  ring_other head d o =
      let r = rings head in
      record {
        path =
            stays next previous next' previous' place number to_new from_new back_new back_place others_next others_previous round head head (list head) r.path
            (rest_out place head (list head) o) (eqb-false head place (first_out place head (list head) o)) (absent head d) d d;
        apart = r.apart;
        below = r.below;
      }

  pub ring_new : IsRing next' previous' n number (place ∷ list place)
  ring_new =
      let r = rings place in
      let d : place ≢ number = other in
      record {
        path = (
          from_new,
          back_place,
          shortened next previous next' previous' place number to_new from_new back_new back_place others_next others_previous round place (list place) r.path
              (apart_first place (list place) r.apart) (absent place d) d,
        );
        apart = apart_cons number (place ∷ list place) (rw (ne_eqb place number d) (absent place d)) r.apart;
        below = (place_in, r.below);
      }

  -- each number has its ring
  pub rings_with : (head : ℕ) → IsRing next' previous' n head (walk next' n (next' head) head)
  rings_with head = elim (cases_Bool (nat_eq head number)) [
    | inl e ↦ subst (λ h. IsRing next' previous' n h (walk next' n (next' h) h)) (sym (eqb-true head number e)) (ring_at next' previous' n number _ ring_new)
    | inr e ↦
        let d = eqb-false head number e in
        elim (cases_Bool (is_in place (head ∷ list head))) [
          | inl i ↦ ring_at next' previous' n head _ (ring_with head d i)
          | inr o ↦ ring_at next' previous' n head _ (ring_other head d o)
        ]
  ]

-- a number leaves
module _ (next previous next' previous' : ℕ → ℕ) (n m : ℕ) (list : ℕ → List ℕ)
    (rings : (head : ℕ) → IsRing next previous n head (list head))
    (over : previous m ≢ m → next' (previous m) ≡ next m) (back : next m ≢ m → previous' (next m) ≡ previous m)
    (alone_next : next' m ≡ m) (alone_previous : previous' m ≡ m)
    (others_next : (x : ℕ) → x ≢ previous m → x ≢ m → next' x ≡ next x)
    (others_previous : (x : ℕ) → x ≢ next m → x ≢ m → previous' x ≡ previous x) where
  pub ring_without : (head : ℕ) → head ≢ m → IsRing next' previous' n head (without m (list head))
  unfolding IsDistinct
  ring_without head d =
      let r = rings head in
      record {
        path =
            cut next previous next' previous' m over back others_next others_previous (comes_back next previous m m (list m) (rings m).path) (goes_back next previous m m (list m) (rings m).path)
            head head (list head) r.path d d;
        apart = (all_without (λ y. nat_eq head y ≡ false) m (list head) r.apart.0, apart_without m (list head) r.apart.1);
        below = all_without (λ y. y < n) m (list head) r.below;
      }

  pub rings_without : (head : ℕ) → IsRing next' previous' n head (walk next' n (next' head) head)
  rings_without head = elim (cases_Bool (nat_eq head m)) [
    | inl e ↦ subst (λ h. IsRing next' previous' n h (walk next' n (next' h) h)) (sym (eqb-true head m e)) (ring_at next' previous' n m [] (ring_alone next' previous' n m alone_next alone_previous))
    | inr e ↦ ring_at next' previous' n head _ (ring_without head (eqb-false head m e))
  ]

-- the list of a head, as it is seen
walk_none : (next : ℕ → ℕ) (k head : ℕ) → walk next k head head ≡ []
walk_none next zero head = refl
walk_none next (suc k) head = rw (eq-eqb head head refl) refl

past_end : (links : List Link) (head : ℕ) → length links ≤ head → list_of links head ≡ []
past_end links head l =
    ap (λ x. walk (next_of links) (length links) x head) (ap (λ (x : Link). x.next) (get_or_past links head (alone head) l)) ∙ walk_none (next_of links) (length links) head

pub seen : (links : List Link) (head : ℕ) → members (map (list_of links) (range_with_len 0 (length links))) head ≡ list_of links head
seen links head = elim (cases_lt head (length links)) [
  | inl l ↦ get_or-map-range_with_len (list_of links) 0 (length links) head head [] l (omega arith)
  | inr l ↦ get_or_past _ head [] (omega (arith, length-map-range_with_len (list_of links) 0 (length links))) ∙ sym (past_end links head l)
]
