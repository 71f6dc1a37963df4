-- Buckets of slots, as slots come and go.
use Rattle.std.proofs.Common.{◌≡◌, ◌≢◌, ◌∙◌, ℕ, ◌+◌, ◌<◌, ◌≤◌, List, [], ◌∷◌, Option, None, Some, Bool, true, false, cond, not, length, arith, refl, sym, ap, inl, inr}
use Rattle.std.specs.Prelude.{◌==◌, ◌||◌, ◌&&◌, filter, insert, if◌then◌else◌}
use Rattle.std.specs.List.{AllByRecursion}
use Rattle.std.proofs.lemmas.Bool.{cases_eq, false≢true}
use Rattle.std.proofs.lemmas.Bool.Decides.{nat_tests}
use Rattle.std.proofs.lemmas.Map.Views.{any-filter_same}
use Rattle.kj_base.specs.Queue.{first_of}
use Rattle.kj_base.specs.declared.numbers.Name.{Name}
use Rattle.kj_model.specs.Nodes.{is_in, dropped}
use Rattle.linked_lists.specs.Lists.{members, IsUnlisted, PutsBehind, KeepsOtherLists, TakesOut, place_of}
use Rattle.promise_graph.specs.declared.memberships.Memberships.{Memberships}
use Rattle.promise_graph.specs.Memberships.{bucket, list_at, is_list, slots_in, AreListed, HasJoined, HasLeft}
use Rattle.promise_graph.proofs.Lists.{none_some, some_same, equal_yes, equal_not}
use Rattle.promise_graph.proofs.Members.{filter_same, filter_swap}

pub same_number : (k n : ℕ) → (k == n) ≡ true → k ≡ n
same_number k n e = grind (arith, nat_tests)

pub in_filtered : (q : ℕ → Bool) (n : ℕ) (xs : List ℕ) → is_in n (filter q xs) ≡ (q n && is_in n xs)
in_filtered q n xs = any-filter_same (λ m. m == n) q (q n) (λ k e. ap q (same_number k n e)) xs

pub not_true : (b : Bool) → (b ≡ true → ⊥) → b ≡ false
not_true true h = absurd (h refl)
not_true false h = refl

first_false : (c d : Bool) → (c || d) ≡ false → c ≡ false
first_false true d h = absurd (false≢true (sym h))
first_false false d h = refl

rest_false : (c d : Bool) → (c || d) ≡ false → d ≡ false
rest_false true d h = absurd (false≢true (sym h))
rest_false false d h = h

pub or_true : (c d : Bool) → d ≡ true → (c || d) ≡ true
or_true true d h = refl
or_true false d h = h

and_true : (c d : Bool) → c ≡ true → d ≡ true → (c && d) ≡ true
and_true c d h k = rw (h, k) refl

pub and_first : (c d : Bool) → (c && d) ≡ true → c ≡ true
and_first true d h = refl
and_first false d h = h

pub and_second : (c d : Bool) → (c && d) ≡ true → d ≡ true
and_second true d h = h
and_second false d h = absurd (false≢true h)

-- what holds of each number but one holds of a list without it
pub all_but : (slot : ℕ) (P : ℕ → Type 0) → ((s : ℕ) → s ≢ slot → P s) → (xs : List ℕ) → is_in slot xs ≡ false → AllByRecursion P xs
all_but slot P f [] h = tt
all_but slot P f (x ∷ xs) h = (f x (λ e. false≢true (sym (first_false (x == slot) (is_in slot xs) h) ∙ equal_yes x slot e)), all_but slot P f xs (rest_false (x == slot) (is_in slot xs) h))

pub bucket_high : (slots list : ℕ) → slots ≤ bucket slots list
bucket_high slots list = omega arith

pub not_listed : (list : Name) → is_list list.0 (Some list) ≡ true
not_listed list = equal_yes list.0 list.0 refl

module _ (x y : Memberships) (slots slot : ℕ) (list : Name) (k : AreListed x slots) (within : slot < slots) (unlisted : IsUnlisted x.links slot)
    (puts : PutsBehind x.links y.links (bucket slots list.0) slot) (keeps : KeepsOtherLists x.links y.links (bucket slots list.0) slot)
    (size : length y.links ≡ length x.links) (sizes : length y.lists.items ≡ length x.lists.items)
    (here : list_at y slot ≡ Some list) (others : (s : ℕ) → s ≢ slot → list_at y s ≡ list_at x s) where
  high_apart : (place : ℕ) → slots ≤ place → place ≢ slot
  high_apart place high e = absurd (omega (arith, e, within, high))

  out : (place : ℕ) → slots ≤ place → is_in slot (members x.links place) ≡ false
  out place high = unlisted place (high_apart place high)

  at_bucket : members y.links (bucket slots list.0) ≡ slot ∷ members x.links (bucket slots list.0)
  at_bucket =
      let b = bucket slots list.0 in
      let self = equal_yes b b refl in
      puts b (ap (λ (t : Bool). t || is_in b (members x.links b)) self)
      ∙ ap (λ (t : Bool). if t then slot ∷ members x.links b else insert (members x.links b) (place_of b (members x.links b) + 1) slot) self

  not_in : (place : ℕ) → slots ≤ place → is_in (bucket slots list.0) (members x.links place) ≡ false
  not_in place high = not_true _ (λ t. absurd (omega (arith, k.low place (bucket slots list.0) high t, bucket_high slots list.0)))

  at_other : (place : ℕ) → slots ≤ place → place ≢ bucket slots list.0 → members y.links place ≡ members x.links place
  at_other place high d = keeps place (high_apart place high) (ap (λ (t : Bool). t || is_in (bucket slots list.0) (members x.links place)) (equal_not place (bucket slots list.0) d) ∙ not_in place high)

  same_test : (l : ℕ) → AllByRecursion (λ s. is_list l (list_at y s) ≡ is_list l (list_at x s)) (members x.links (bucket slots l))
  same_test l = all_but slot (λ s. is_list l (list_at y s) ≡ is_list l (list_at x s)) (λ s d. ap (is_list l) (others s d)) (members x.links (bucket slots l)) (out (bucket slots l) (bucket_high slots l))

  same_slots : (l : ℕ) → filter (λ s. is_list l (list_at y s)) (members x.links (bucket slots l)) ≡ slots_in x slots l
  same_slots l = filter_same (λ s. is_list l (list_at x s)) (λ s. is_list l (list_at y s)) (members x.links (bucket slots l)) (same_test l)

  first_is : (l : ℕ) (b : Bool) → is_list l (Some list) ≡ b → filter (λ s. is_list l (list_at y s)) (slot ∷ members x.links (bucket slots l)) ≡ cond b (slot ∷ slots_in x slots l) (slots_in x slots l)
  first_is l b e =
      ap (λ (t : Bool). cond t (slot ∷ filter (λ s. is_list l (list_at y s)) (members x.links (bucket slots l))) (filter (λ s. is_list l (list_at y s)) (members x.links (bucket slots l)))) (ap (is_list l) here ∙ e)
      ∙ ap (λ (xs : List ℕ). cond b (slot ∷ xs) xs) (same_slots l)

  slots_here : slots_in y slots list.0 ≡ slot ∷ slots_in x slots list.0
  slots_here = ap (filter (λ s. is_list list.0 (list_at y s))) at_bucket ∙ first_is list.0 true (not_listed list)

  slots_elsewhere : (other : ℕ) → other ≢ list.0 → slots_in y slots other ≡ slots_in x slots other
  slots_elsewhere other d = elim (cases_eq (bucket slots other) (bucket slots list.0)) [
    | inl e ↦
        ap (filter (λ s. is_list other (list_at y s))) (ap (members y.links) e ∙ at_bucket ∙ ap (λ (b : ℕ). slot ∷ members x.links b) (sym e))
        ∙ first_is other false (equal_not list.0 other (λ q. d (sym q)))
    | inr e ↦ ap (filter (λ s. is_list other (list_at y s))) (at_other (bucket slots other) (bucket_high slots other) e) ∙ same_slots other
  ]

  still_in : (place s : ℕ) → slots ≤ place → is_in s (members x.links place) ≡ true → is_in s (members y.links place) ≡ true
  still_in place s high h = elim (cases_eq place (bucket slots list.0)) [
    | inl e ↦ ap (is_in s) (ap (members y.links) e ∙ at_bucket) ∙ or_true (slot == s) (is_in s (members x.links (bucket slots list.0))) (ap (λ (b : ℕ). is_in s (members x.links b)) (sym e) ∙ h)
    | inr e ↦ ap (is_in s) (at_other place high e) ∙ h
  ]

  low_case : (s : ℕ) (b : Bool) → (slot == s) ≡ b → (b || is_in s (members x.links (bucket slots list.0))) ≡ true → s < slots
  low_case s true e h = absurd_or_low (same_number slot s e)
    where
      absurd_or_low : slot ≡ s → s < slots
      absurd_or_low q = omega (arith, q, within)
  low_case s false e h = k.low (bucket slots list.0) s (bucket_high slots list.0) h

  pub joined_kept : AreListed y slots
  joined_kept = record {
    all_links = size ∙ k.all_links;
    all_lists = sizes ∙ k.all_lists;
    low = λ place s high h. elim (cases_eq place (bucket slots list.0)) [
      | inl e ↦ low_case s (slot == s) refl (sym (ap (is_in s) (ap (members y.links) e ∙ at_bucket)) ∙ h)
      | inr e ↦ k.low place s high (sym (ap (is_in s) (at_other place high e)) ∙ h)
    ];
    alone = λ s low h. elim (cases_eq s slot) [
      | inl e ↦ absurd (none_some list (sym h ∙ ap (list_at y) e ∙ here))
      | inr d ↦
          let empty = k.alone s low (sym (others s d) ∙ h) in
          let apart : s ≢ bucket slots list.0 = λ e. absurd (omega (arith, e, low, bucket_high slots list.0)) in
          keeps s d (ap (λ (t : Bool). t || is_in (bucket slots list.0) (members x.links s)) (equal_not s (bucket slots list.0) apart) ∙ ap (is_in (bucket slots list.0)) empty) ∙ empty
    ];
    placed = λ s l h. elim (cases_eq s slot) [
      | inl e ↦
          let one : l ≡ list = some_same l list (sym h ∙ ap (list_at y) e ∙ here) in
          ap (λ (n : Name). is_in s (members y.links (bucket slots n.0))) one ∙ ap (is_in s) at_bucket ∙ ap (λ (t : Bool). t || is_in s (members x.links (bucket slots list.0))) (equal_yes slot s (sym e))
      | inr d ↦ still_in (bucket slots l.0) s (bucket_high slots l.0) (k.placed s l (sym (others s d) ∙ h))
    ];
  }

  pub has_joined : HasJoined x y slots slot list
  has_joined = record { here = slots_here; elsewhere = slots_elsewhere; list_is = here; lists = others }

module _ (x y : Memberships) (slots slot : ℕ) (k : AreListed x slots) (within : slot < slots) (empty : members y.links slot ≡ []) (takes : TakesOut x.links y.links slot)
    (size : length y.links ≡ length x.links) (sizes : length y.lists.items ≡ length x.lists.items)
    (gone : list_at y slot ≡ None) (others : (s : ℕ) → s ≢ slot → list_at y s ≡ list_at x s) where
  left_apart : (place : ℕ) → slots ≤ place → place ≢ slot
  left_apart place high e = absurd (omega (arith, e, within, high))

  left_at : (place : ℕ) → slots ≤ place → members y.links place ≡ dropped slot (members x.links place)
  left_at place high = takes place (left_apart place high)

  out_now : (xs : List ℕ) → is_in slot (dropped slot xs) ≡ false
  out_now xs = in_filtered (λ m. not (m == slot)) slot xs ∙ ap (λ (t : Bool). not t && is_in slot xs) (equal_yes slot slot refl)

  each_left : (l : ℕ) → slots_in y slots l ≡ dropped slot (slots_in x slots l)
  each_left l =
      let xs = members x.links (bucket slots l) in
      ap (filter (λ s. is_list l (list_at y s))) (left_at (bucket slots l) (bucket_high slots l))
      ∙ filter_same (λ s. is_list l (list_at x s)) (λ s. is_list l (list_at y s)) (dropped slot xs)
      (all_but slot (λ s. is_list l (list_at y s) ≡ is_list l (list_at x s)) (λ s d. ap (is_list l) (others s d)) (dropped slot xs) (out_now xs))
      ∙ filter_swap (λ s. is_list l (list_at x s)) (λ m. not (m == slot)) xs

  pub left_kept : AreListed y slots
  left_kept = record {
    all_links = size ∙ k.all_links;
    all_lists = sizes ∙ k.all_lists;
    low = λ place s high h. k.low place s high (and_second (not (s == slot)) (is_in s (members x.links place)) (sym (in_filtered (λ m. not (m == slot)) s (members x.links place)) ∙ sym (ap (is_in s) (left_at place high)) ∙ h));
    alone = λ s low h. elim (cases_eq s slot) [
      | inl e ↦ ap (members y.links) e ∙ empty
      | inr d ↦ takes s d ∙ ap (dropped slot) (k.alone s low (sym (others s d) ∙ h))
    ];
    placed = λ s l h. elim (cases_eq s slot) [
      | inl e ↦ absurd (none_some l (sym gone ∙ ap (list_at y) (sym e) ∙ h))
      | inr d ↦ ap (is_in s) (left_at (bucket slots l.0) (bucket_high slots l.0)) ∙ in_filtered (λ m. not (m == slot)) s (members x.links (bucket slots l.0))
          ∙ and_true (not (s == slot)) (is_in s (members x.links (bucket slots l.0))) (ap not (equal_not s slot d)) (k.placed s l (sym (others s d) ∙ h))
    ];
  }

  pub has_left : HasLeft x y slots slot
  has_left = record { each = each_left; gone = gone; lists = others }

-- ---- the newest slot of a list

pub first_in : (xs : List ℕ) (s : ℕ) → first_of xs ≡ Some s → is_in s xs ≡ true
first_in [] s h = absurd (none_some s h)
first_in (x ∷ xs) s h = ap (λ (t : Bool). t || is_in s xs) (equal_yes x s (some_same x s h))

pub none_first : (xs : List ℕ) → first_of xs ≡ None → xs ≡ []
none_first [] h = refl
none_first (x ∷ xs) h = absurd (none_some x (sym h))

short_case : (b : Bool) (x : ℕ) (xs ys : List ℕ) → length ys ≤ length xs → length (cond b (x ∷ ys) ys) ≤ length (x ∷ xs)
short_case true x xs ys h = omega arith
short_case false x xs ys h = omega arith

filter_short : (p : ℕ → Bool) (xs : List ℕ) → length (filter p xs) ≤ length xs
filter_short p [] = omega arith
filter_short p (x ∷ xs) = short_case (p x) x xs (filter p xs) (filter_short p xs)

pub dropped_short : (xs : List ℕ) (s : ℕ) → first_of xs ≡ Some s → length (dropped s xs) < length xs
dropped_short [] s h = absurd (none_some s h)
dropped_short (x ∷ xs) s h =
    let e = ap (λ (t : Bool). length (cond (not t) (x ∷ dropped s xs) (dropped s xs))) (equal_yes x s (some_same x s h)) in
    let l = filter_short (λ m. not (m == s)) xs in
    omega (arith, e, l)

kept_case : (b : Bool) (x : ℕ) (xs ys : List ℕ) → b ≡ false → ys ≡ xs → cond (not b) (x ∷ ys) ys ≡ x ∷ xs
kept_case true x xs ys e h = absurd (false≢true (sym e))
kept_case false x xs ys e h = ap (λ (l : List ℕ). x ∷ l) h

-- what isn't there doesn't leave
pub dropped_none : (n : ℕ) (xs : List ℕ) → is_in n xs ≡ false → dropped n xs ≡ xs
dropped_none n [] h = refl
dropped_none n (x ∷ xs) h = kept_case (x == n) x xs (dropped n xs) (first_false (x == n) (is_in n xs) h) (dropped_none n xs (rest_false (x == n) (is_in n xs) h))

module _ (x : Memberships) (slots list slot : ℕ) (k : AreListed x slots) (first : first_of (slots_in x slots list) ≡ Some slot) where
  in_bucket : (is_list list (list_at x slot) && is_in slot (members x.links (bucket slots list))) ≡ true
  in_bucket = sym (in_filtered (λ s. is_list list (list_at x s)) slot (members x.links (bucket slots list))) ∙ first_in (slots_in x slots list) slot first

  pub first_low : slot < slots
  first_low = k.low (bucket slots list) slot (bucket_high slots list) (and_second (is_list list (list_at x slot)) (is_in slot (members x.links (bucket slots list))) in_bucket)

  pub first_listed : is_list list (list_at x slot) ≡ true
  first_listed = and_first (is_list list (list_at x slot)) (is_in slot (members x.links (bucket slots list))) in_bucket

-- a slot is in one list
pub one_list : (o : Option Name) (a b : ℕ) → is_list a o ≡ true → b ≢ a → is_list b o ≡ false
one_list None a b h d = refl
one_list (Some name) a b h d = equal_not name.0 b (λ e. d (sym e ∙ same_number name.0 a h))

pub out_of_list : (x : Memberships) (slots l slot : ℕ) → is_list l (list_at x slot) ≡ false → is_in slot (slots_in x slots l) ≡ false
out_of_list x slots l slot h =
    in_filtered (λ s. is_list l (list_at x s)) slot (members x.links (bucket slots l))
    ∙ ap (λ (t : Bool). t && is_in slot (members x.links (bucket slots l))) h
