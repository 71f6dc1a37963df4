-- Lists of nodes, as nodes join and leave them, come and go.
use Rattle.std.proofs.Common.{◌≡◌, ◌≢◌, ◌∙◌, ℕ, ◌<◌, List, [], ◌∷◌, ◌++◌, Option, None, Some, Bool, true, false, cond, not, map, arith, refl, sym, ap, inl, inr, subst, append_assoc, ◌⊎◌}
use Rattle.std.specs.Prelude.{◌==◌, ◌||◌, ◌&&◌, filter, find, reverse, if◌then◌else◌, IsSome}
use Rattle.std.specs.List.{AllByRecursion}
use Rattle.std.proofs.lemmas.Bool.{cases_eq, false≢true}
use Rattle.std.proofs.lemmas.List.{reverse-append}
use Rattle.std.proofs.lemmas.Option.{slice_get-get_or}
use Rattle.promise_graph.proofs.Searching.{find_first, nil_more, head_same, tail_same}
use Rattle.std.proofs.lemmas.List.Elements.{filter-append}
use Rattle.std.proofs.lemmas.List.Folds.{list_any-append}
use Rattle.kj_base.specs.Queue.{first_of}
use Rattle.kj_base.specs.declared.nodes.Node.{Node}
use Rattle.kj_base.specs.declared.numbers.Name.{Name}
use Rattle.kj_model.specs.Nodes.{is_in, dropped}
use Rattle.linked_lists.specs.Lists.{members}
use Rattle.kj_model.proofs.Members.{in_one}
use Rattle.kj_model.proofs.Once.{apart_join}
use Rattle.promise_nodes.specs.Members.{AreEachOnce, IsNoMember, with_member, without_member, without_members}
use Rattle.promise_graph.specs.declared.fields.Marks.{Marks}
use Rattle.promise_graph.specs.declared.memberships.Memberships.{Memberships}
use Rattle.promise_graph.specs.Slots.{number_at, IsAbsent}
use Rattle.promise_graph.specs.Kept.{AreNumbered}
use Rattle.promise_graph.specs.Members.{is_given}
use Rattle.promise_graph.specs.Memberships.{bucket, list_at, is_list, slots_in, number_in, numbered_in, AreListed, HasJoined, HasLeft, HasCleared, HasLists, HasListsBut}
use Rattle.promise_graph.proofs.Lists.{equal_yes, equal_not, is_some_of}
use Rattle.promise_graph.proofs.Numbered.{one_slot}
use Rattle.promise_graph.proofs.Leaving.{map_dropped}
use Rattle.promise_graph.proofs.Renamed.{all_more}
use Rattle.promise_graph.proofs.Members.{filter_swap, filter_last, not_filtered, given_live, given_absent, number_is, number_there, number_test}
use Rattle.promise_graph.proofs.Buckets.{in_filtered, same_number, or_true, and_first, and_second, not_true, not_listed, dropped_none, one_list, out_of_list}

-- ---- lists of numbers

or_swap : (a b : Bool) → (a || (b || false)) ≡ (b || a)
or_swap true true = refl
or_swap true false = refl
or_swap false true = refl
or_swap false false = refl

pub reverse_first : (x : ℕ) (xs : List ℕ) → reverse (x ∷ xs) ≡ reverse xs ++ x ∷ []
reverse_first x xs = reverse-append (x ∷ []) xs

-- what is in a list is in the reverse one
pub in_reverse : (n : ℕ) (xs : List ℕ) → is_in n (reverse xs) ≡ is_in n xs
in_reverse n [] = refl
in_reverse n (x ∷ xs) =
    ap (is_in n) (reverse_first x xs)
    ∙ list_any-append (λ m. m == n) (reverse xs) (x ∷ [])
    ∙ or_swap (is_in n (reverse xs)) (x == n)
    ∙ ap (λ (b : Bool). (x == n) || b) (in_reverse n xs)

reverse_case : (b : Bool) (x : ℕ) (xs ys : List ℕ) → reverse ys ≡ xs → reverse (cond b (x ∷ ys) ys) ≡ xs ++ cond b (x ∷ []) []
reverse_case true x xs ys h = reverse_first x ys ∙ ap (λ (l : List ℕ). l ++ x ∷ []) h
reverse_case false x xs ys h = h ∙ sym (append_none xs)
  where
    append_none : (l : List ℕ) → l ++ [] ≡ l
    append_none [] = refl
    append_none (y ∷ ys) = ap (λ (l : List ℕ). y ∷ l) (append_none ys)

-- a filter of the reverse list
pub reverse_filter : (p : ℕ → Bool) (xs : List ℕ) → reverse (filter p xs) ≡ filter p (reverse xs)
reverse_filter p [] = refl
reverse_filter p (x ∷ xs) =
    reverse_case (p x) x (filter p (reverse xs)) (filter p xs) (reverse_filter p xs)
    ∙ sym (ap (filter p) (reverse_first x xs) ∙ filter-append p (reverse xs) (x ∷ []))

in_case : (f : ℕ → ℕ) (s x : ℕ) (xs : List ℕ) (b : Bool) → (x == s) ≡ b → (b || is_in s xs) ≡ true → (is_in s xs ≡ true → is_in (f s) (map f xs) ≡ true) → is_in (f s) (map f (x ∷ xs)) ≡ true
in_case f s x xs true e i r = ap (λ (t : Bool). t || is_in (f s) (map f xs)) (equal_yes (f x) (f s) (ap f (same_number x s e)))
in_case f s x xs false e i r = or_true (f x == f s) (is_in (f s) (map f xs)) (r i)

pub in_map : (f : ℕ → ℕ) (s : ℕ) (xs : List ℕ) → is_in s xs ≡ true → is_in (f s) (map f xs) ≡ true
in_map f s [] h = absurd (false≢true h)
in_map f s (x ∷ xs) h = in_case f s x xs (x == s) refl h (in_map f s xs)

out_case : (f : ℕ → ℕ) (n x : ℕ) (xs : List ℕ) (b : Bool) → (f x == n) ≡ b → (b || is_in n (map f xs)) ≡ true → ((is_in n (map f xs) ≡ true) → (s : ℕ) × (is_in s xs ≡ true) × (f s ≡ n)) → (s : ℕ) × (is_in s (x ∷ xs) ≡ true) × (f s ≡ n)
out_case f n x xs true e i r = (x, ap (λ (t : Bool). t || is_in x xs) (equal_yes x x refl), same_number (f x) n e)
out_case f n x xs false e i r = let q = r i in (q.0, or_true (x == q.0) (is_in q.0 xs) q.1, q.2)

-- what is in a mapped list comes from the list
pub out_map : (f : ℕ → ℕ) (n : ℕ) (xs : List ℕ) → is_in n (map f xs) ≡ true → (s : ℕ) × (is_in s xs ≡ true) × (f s ≡ n)
out_map f n [] h = absurd (false≢true h)
out_map f n (x ∷ xs) h = out_case f n x xs (f x == n) refl h (out_map f n xs)

pub map_same : (f g : ℕ → ℕ) (xs : List ℕ) → AllByRecursion (λ x. g x ≡ f x) xs → map f xs ≡ map g xs
map_same f g [] h = refl
map_same f g (x ∷ xs) h = λ i. sym h.0 i ∷ map_same f g xs h.1 i

each_one : (P : ℕ → Type 0) → ((x : ℕ) → P x) → (xs : List ℕ) → AllByRecursion P xs
each_one P f [] = tt
each_one P f (x ∷ xs) = (f x, each_one P f xs)

-- what holds of each member of a list holds of all
pub all_in : (P : ℕ → Type 0) (xs : List ℕ) → ((n : ℕ) → is_in n xs ≡ true → P n) → AllByRecursion P xs
all_in P [] f = tt
all_in P (x ∷ xs) f = (f x (ap (λ (t : Bool). t || is_in x xs) (equal_yes x x refl)), all_in P xs (λ n h. f n (or_true (x == n) (is_in n xs) h)))

-- a part of a mapped list comes from a part of the list
pub split_map : (f : ℕ → ℕ) (n : ℕ) (back xs front : List ℕ) → map f xs ≡ front ++ n ∷ back → (fs : List ℕ) × (bs : List ℕ) × (s : ℕ) × (xs ≡ fs ++ s ∷ bs) × (f s ≡ n) × (map f bs ≡ back)
split_map f n back [] front e = absurd (nil_more front n back e)
split_map f n back (x ∷ xs) [] e = ([], xs, x, refl, head_same (f x) n (map f xs) back e, tail_same (f x) n (map f xs) back e)
split_map f n back (x ∷ xs) (y ∷ ys) e =
    let r = split_map f n back xs ys (tail_same (f x) y (map f xs) (ys ++ n ∷ back) e) in
    (x ∷ r.0, r.1, r.2, ap (λ (l : List ℕ). x ∷ l) r.3, r.4, r.5)

all_behind : (P : ℕ → Type 0) (front : List ℕ) (s : ℕ) (back : List ℕ) → AllByRecursion P (front ++ s ∷ back) → AllByRecursion P back
all_behind P [] s back h = h.1
all_behind P (x ∷ xs) s back h = all_behind P xs s back h.1

pub in_middle : (front : List ℕ) (n : ℕ) (back : List ℕ) → is_in n (front ++ n ∷ back) ≡ true
in_middle [] n back = ap (λ (t : Bool). t || is_in n back) (equal_yes n n refl)
in_middle (x ∷ xs) n back = or_true (x == n) (is_in n (xs ++ n ∷ back)) (in_middle xs n back)

-- ---- the members of other lists

if_case : (b : Bool) (n j : ℕ) (xs : List ℕ) → is_in j (if b then dropped n xs else xs) ≡ true → is_in j xs ≡ true
if_case true n j xs h = and_second (not (j == n)) (is_in j xs) (sym (in_filtered (λ m. not (m == n)) j xs) ∙ h)
if_case false n j xs h = h

pub in_without : (list n : ℕ) (lists : ℕ → List ℕ) (l j : ℕ) → is_in j (without_member list n lists l) ≡ true → is_in j (lists l) ≡ true
in_without list n lists l j h = if_case (l == list) n j (lists l) h

none_case : (b : Bool) (j : ℕ) (xs : List ℕ) → is_in j (if b then [] else xs) ≡ true → is_in j xs ≡ true
none_case true j xs h = absurd (false≢true h)
none_case false j xs h = h

pub in_cleared : (list : ℕ) (lists : ℕ → List ℕ) (l j : ℕ) → is_in j (without_members list lists l) ≡ true → is_in j (lists l) ≡ true
in_cleared list lists l j h = none_case (l == list) j (lists l) h

last_case : (b : Bool) (n j : ℕ) (xs : List ℕ) → is_in j (if b then xs ++ n ∷ [] else xs) ≡ true → ((b ≡ true) × (j ≡ n)) ⊎ (is_in j xs ≡ true)
last_case true n j xs h = or_out (is_in j xs) (n == j) refl (sym (list_any-append (λ m. m == j) xs (n ∷ [])) ∙ h)
  where
    or_out : (c d : Bool) → (n == j) ≡ d → (c || (d || false)) ≡ true → ((true ≡ true) × (j ≡ n)) ⊎ (c ≡ true)
    or_out true d e t = inr refl
    or_out false true e t = inl (refl, sym (same_number n j e))
    or_out false false e t = absurd (false≢true t)
last_case false n j xs h = inr h

pub in_with : (list n : ℕ) (lists : ℕ → List ℕ) (l j : ℕ) → is_in j (with_member list n lists l) ≡ true → ((l ≡ list) × (j ≡ n)) ⊎ (is_in j (lists l) ≡ true)
in_with list n lists l j h = elim (last_case (l == list) n j (lists l) h) [ inl e ↦ inl (same_number l list e.0, e.1) | inr i ↦ inr i ]

pub some_list : (l : ℕ) (o : Option Name) → is_list l o ≡ true → IsSome o
some_list l None e = e
some_list l (Some name) e = refl

-- a slot of a list has that list
pub listed_slot : (x : Memberships) (slots l s : ℕ) → is_in s (slots_in x slots l) ≡ true → is_list l (list_at x s) ≡ true
listed_slot x slots l s i = and_first (is_list l (list_at x s)) (is_in s (members x.links (bucket slots l))) (sym (in_filtered (λ t. is_list l (list_at x t)) s (members x.links (bucket slots l))) ∙ i)

-- ---- lists without repeats

once_case : (b : Bool) (x : ℕ) (ys : List ℕ) → is_in x ys ≡ false → AreEachOnce ys → AreEachOnce (cond b (x ∷ ys) ys)
once_case true x ys out h = (out, h)
once_case false x ys out h = h

once_filtered : (p : ℕ → Bool) (xs : List ℕ) → AreEachOnce xs → AreEachOnce (filter p xs)
once_filtered p [] h = tt
once_filtered p (x ∷ xs) h = once_case (p x) x (filter p xs) (not_filtered x p xs h.0) (once_filtered p xs h.1)

once_with : (b : Bool) (n : ℕ) (xs : List ℕ) → is_in n xs ≡ false → AreEachOnce xs → AreEachOnce (if b then xs ++ n ∷ [] else xs)
once_with true n xs out h = apart_join xs (n ∷ []) h (refl, tt) (λ m i. subst (λ (j : ℕ). is_in j xs ≡ false) (in_one m n i) out)
once_with false n xs out h = h

once_without : (b : Bool) (n : ℕ) (xs : List ℕ) → AreEachOnce xs → AreEachOnce (if b then dropped n xs else xs)
once_without true n xs h = once_filtered (λ m. not (m == n)) xs h
once_without false n xs h = h

once_cleared : (b : Bool) (xs : List ℕ) → AreEachOnce xs → AreEachOnce (if b then [] else xs)
once_cleared true xs h = tt
once_cleared false xs h = h

-- ---- a graph's lists

module _ (at : ℕ → Option Node) (m : Marks) (k : AreNumbered at m) (x : Memberships) (kept : AreListed x m.slots) (lists : ℕ → List ℕ) (h : HasLists m x lists) where
  pub slot_in : (s : ℕ) (l : Name) → list_at x s ≡ Some l → is_in s (slots_in x m.slots l.0) ≡ true
  slot_in s l e =
      in_filtered (λ t. is_list l.0 (list_at x t)) s (members x.links (bucket m.slots l.0))
      ∙ ap (λ (t : Bool). t && is_in s (members x.links (bucket m.slots l.0))) (ap (is_list l.0) e ∙ not_listed l)
      ∙ kept.placed s l e

  -- the slots of a list have nodes
  pub slots_live : (l : ℕ) → AllByRecursion (λ s. 0 < number_in m.numbers.items s) (slots_in x m.slots l)
  slots_live l = all_in (λ s. 0 < number_in m.numbers.items s) (slots_in x m.slots l) (λ s i. h.live s (some_list l (list_at x s) (listed_slot x m.slots l s i)))

  numbered_first : (xs : List ℕ) → AllByRecursion (λ s. 0 < number_in m.numbers.items s) xs → numbered_in m.numbers.items (first_of xs) ≡ first_of (map (number_in m.numbers.items) xs)
  numbered_first [] a = refl
  numbered_first (s ∷ xs) a =
      let low = k.low s (is_some_of (number_at at s) _ (number_there at m k s a.0)) in
      slice_get-get_or m.numbers.items s 0 (let all = k.all in omega (arith, all, low))

  -- the newest member that lives
  pub newest_is : (l : ℕ) → numbered_in m.numbers.items (first_of (slots_in x m.slots l)) ≡ find (is_given m.numbers.items) (reverse (lists l))
  newest_is l = numbered_first (slots_in x m.slots l) (slots_live l) ∙ ap first_of (sym (h.named l)) ∙ sym (find_first (is_given m.numbers.items) (reverse (lists l)))

  module _ (slot n : ℕ) (live : number_at at slot ≡ Some n) where
    -- the node of a slot is a member of the slot's list
    pub listed_in : (l : Name) → list_at x slot ≡ Some l → is_in n (lists l.0) ≡ true
    listed_in l e =
        let there = in_map (number_in m.numbers.items) slot (slots_in x m.slots l.0) (slot_in slot l e) in
        let here : is_in n (map (number_in m.numbers.items) (slots_in x m.slots l.0)) ≡ true = ap (λ (j : ℕ). is_in j (map (number_in m.numbers.items) (slots_in x m.slots l.0))) (sym (number_is at m k slot n live)) ∙ there in
        sym (in_reverse n (lists l.0))
        ∙ and_second (is_given m.numbers.items n) (is_in n (reverse (lists l.0))) (sym (in_filtered (is_given m.numbers.items) n (reverse (lists l.0))) ∙ ap (is_in n) (h.named l.0) ∙ here)

    -- a slot stands in the list of which its node is a member
    pub in_listed : (l : ℕ) → is_in n (lists l) ≡ true → is_list l (list_at x slot) ≡ true
    in_listed l i =
        let there : is_in n (filter (is_given m.numbers.items) (reverse (lists l))) ≡ true = in_filtered (is_given m.numbers.items) n (reverse (lists l)) ∙ ap (λ (t : Bool). t && is_in n (reverse (lists l))) (given_live at m k slot n live) ∙ in_reverse n (lists l) ∙ i in
        let found = out_map (number_in m.numbers.items) n (slots_in x m.slots l) (sym (ap (is_in n) (h.named l)) ∙ there) in
        let positive : 0 < number_in m.numbers.items found.0 = (let p = (k.given slot n live).0 in let e = found.2 in omega (arith, p, e)) in
        let same = one_slot at m k found.0 slot n (number_there at m k found.0 positive ∙ ap (λ (j : ℕ). Some j) found.2) live in
        ap (λ (s : ℕ). is_list l (list_at x s)) (sym same) ∙ listed_slot x m.slots l found.0 found.1

    unlisted_none : list_at x slot ≡ None → IsNoMember n lists
    unlisted_none e l = not_true (is_in n (lists l)) (λ i. false≢true (sym (ap (is_list l) e) ∙ in_listed l i))

    -- a slot of no list has a node that is a member of none
    pub no_member : list_at x slot ≡ None → IsNoMember n lists
    no_member = unlisted_none

    list_number : (l : Name) (list : ℕ) → list_at x slot ≡ Some l → is_in n (lists list) ≡ true → l.0 ≡ list
    list_number l list e i = same_number l.0 list (ap (is_list list) (sym e) ∙ in_listed list i)

    parted : (front back : List ℕ) (list : ℕ) → lists list ≡ front ++ n ∷ back → map (number_in m.numbers.items) (slots_in x m.slots list) ≡ filter (is_given m.numbers.items) (reverse back) ++ n ∷ filter (is_given m.numbers.items) (reverse front)
    parted front back list e =
        sym (h.named list)
        ∙ ap (λ (ns : List ℕ). filter (is_given m.numbers.items) (reverse ns)) e
        ∙ ap (filter (is_given m.numbers.items)) (reverse-append front (n ∷ back) ∙ ap (λ (ns : List ℕ). ns ++ reverse front) (reverse_first n back))
        ∙ filter-append (is_given m.numbers.items) (reverse back ++ n ∷ []) (reverse front)
        ∙ ap (λ (ns : List ℕ). ns ++ filter (is_given m.numbers.items) (reverse front)) (filter_last (is_given m.numbers.items) (reverse back) n (given_live at m k slot n live))
        ∙ append_assoc (filter (is_given m.numbers.items) (reverse back)) (n ∷ []) (filter (is_given m.numbers.items) (reverse front))

    -- the newest of the members that are older and live
    pub older_is : (l : Name) (list : ℕ) (front back : List ℕ) (o : Option ℕ) → list_at x slot ≡ Some l → lists list ≡ front ++ n ∷ back → ((f b : List ℕ) → slots_in x m.slots l.0 ≡ f ++ slot ∷ b → o ≡ first_of b) → numbered_in m.numbers.items o ≡ find (is_given m.numbers.items) (reverse front)
    older_is l list front back o e are found =
        let there : is_in n (lists list) ≡ true = ap (is_in n) are ∙ in_middle front n back in
        let one = list_number l list e there in
        let parts = split_map (number_in m.numbers.items) n (filter (is_given m.numbers.items) (reverse front)) (slots_in x m.slots list) (filter (is_given m.numbers.items) (reverse back)) (parted front back list are) in
        let positive : 0 < number_in m.numbers.items parts.2 = (let p = (k.given slot n live).0 in let q = parts.4 in omega (arith, p, q)) in
        let same : parts.2 ≡ slot = one_slot at m k parts.2 slot n (number_there at m k parts.2 positive ∙ ap (λ (j : ℕ). Some j) parts.4) live in
        let at_slot : slots_in x m.slots l.0 ≡ parts.0 ++ slot ∷ parts.1 = ap (slots_in x m.slots) one ∙ parts.3 ∙ ap (λ (s : ℕ). parts.0 ++ s ∷ parts.1) same in
        ap (numbered_in m.numbers.items) (found parts.0 parts.1 at_slot)
        ∙ numbered_first parts.1 (all_behind (λ s. 0 < number_in m.numbers.items s) parts.0 parts.2 parts.1 (subst (λ (xs : List ℕ). AllByRecursion (λ s. 0 < number_in m.numbers.items s) xs) parts.3 (slots_live list)))
        ∙ ap first_of parts.5
        ∙ sym (find_first (is_given m.numbers.items) (reverse front))

    module _ (y : Memberships) where
      pub joined : (list : Name) → HasJoined x y m.slots slot list → IsNoMember n lists → HasLists m y (with_member list.0 n lists)
      joined list j none = record {
        named = λ l. elim (cases_eq l list.0) [
          | inl e ↦
              ap (λ (b : Bool). filter (is_given m.numbers.items) (reverse (if b then lists l ++ n ∷ [] else lists l))) (equal_yes l list.0 e)
              ∙ ap (filter (is_given m.numbers.items)) (reverse-append (lists l) (n ∷ []))
              ∙ ap (λ (b : Bool). cond b (n ∷ filter (is_given m.numbers.items) (reverse (lists l))) (filter (is_given m.numbers.items) (reverse (lists l)))) (given_live at m k slot n live)
              ∙ ap (λ (xs : List ℕ). n ∷ xs) (h.named l)
              ∙ ap (λ (i : ℕ). i ∷ map (number_in m.numbers.items) (slots_in x m.slots l)) (sym (number_is at m k slot n live))
              ∙ sym (ap (λ (i : ℕ). map (number_in m.numbers.items) (slots_in y m.slots i)) e ∙ ap (map (number_in m.numbers.items)) j.here ∙ ap (λ (i : ℕ). map (number_in m.numbers.items) (slot ∷ slots_in x m.slots i)) (sym e))
          | inr d ↦
              ap (λ (b : Bool). filter (is_given m.numbers.items) (reverse (if b then lists l ++ n ∷ [] else lists l))) (equal_not l list.0 d)
              ∙ h.named l
              ∙ sym (ap (map (number_in m.numbers.items)) (j.elsewhere l d))
        ];
        live = λ s i. elim (cases_eq s slot) [
          | inl e ↦ let p = (k.given slot n live).0 in let q = number_is at m k slot n live in let r : number_in m.numbers.items s ≡ number_in m.numbers.items slot = ap (number_in m.numbers.items) e in omega (arith, p, q, r)
          | inr d ↦ h.live s (subst (λ (o : Option Name). IsSome o) (j.lists s d) i)
        ];
        below = λ l q i. elim (in_with list.0 n lists l q i) [
          | inl e ↦ let low = (k.given slot n live).1 in let same = e.1 in omega (arith, low, same)
          | inr old ↦ h.below l q old
        ];
        apart = λ q a b i j. elim (in_with list.0 n lists a q i) [
          | inl e ↦ elim (in_with list.0 n lists b q j) [
            | inl f ↦ e.0 ∙ sym f.0
            | inr old ↦ absurd (false≢true (sym (none b) ∙ ap (λ (t : ℕ). is_in t (lists b)) (sym e.1) ∙ old))
          ]
          | inr old ↦ elim (in_with list.0 n lists b q j) [
            | inl f ↦ absurd (false≢true (sym (none a) ∙ ap (λ (t : ℕ). is_in t (lists a)) (sym f.1) ∙ old))
            | inr more ↦ h.apart q a b old more
          ]
        ];
        once = λ l. once_with (l == list.0) n (lists l) (none l) (h.once l);
      }

      left_named : HasLeft x y m.slots slot → (l : ℕ) → dropped n (filter (is_given m.numbers.items) (reverse (lists l))) ≡ map (number_in m.numbers.items) (slots_in y m.slots l)
      left_named j l =
          ap (dropped n) (h.named l)
          ∙ map_dropped (number_in m.numbers.items) slot n (slots_in x m.slots l) (all_more (λ s. 0 < number_in m.numbers.items s) (λ s. (number_in m.numbers.items s == n) ≡ (s == slot)) (number_test at m slot n k live) (slots_in x m.slots l) (slots_live l))
          ∙ sym (ap (map (number_in m.numbers.items)) (j.each l))

      left_live : HasLeft x y m.slots slot → (s : ℕ) → IsSome (list_at y s) → (s ≢ slot) × (0 < number_in m.numbers.items s)
      left_live j s i = elim (cases_eq s slot) [
        | inl e ↦ absurd (false≢true (subst (λ (o : Option Name). IsSome o) (ap (list_at y) e ∙ j.gone) i))
        | inr d ↦ (d, h.live s (subst (λ (o : Option Name). IsSome o) (j.lists s d) i))
      ]

      -- a node that goes has left its list
      pub left_but : HasLeft x y m.slots slot → HasListsBut n m y lists
      left_but j = record {
        named = left_named j;
        live = λ s i.
            let p = left_live j s i in
            (p.1, λ e. p.0 (one_slot at m k s slot n (number_there at m k s p.1 ∙ ap (λ (q : ℕ). Some q) e) live));
        below = h.below;
        apart = h.apart;
        once = h.once;
      }

      -- a node left its list
      pub left_list : (list : ℕ) → is_list list (list_at x slot) ≡ true → HasLeft x y m.slots slot → HasLists m y (without_member list n lists)
      left_list list is j = record {
        named = λ l. elim (cases_eq l list) [
          | inl e ↦
              ap (λ (b : Bool). filter (is_given m.numbers.items) (reverse (if b then dropped n (lists l) else lists l))) (equal_yes l list e)
              ∙ ap (filter (is_given m.numbers.items)) (reverse_filter (λ i. not (i == n)) (lists l))
              ∙ filter_swap (is_given m.numbers.items) (λ i. not (i == n)) (reverse (lists l))
              ∙ left_named j l
          | inr d ↦
              ap (λ (b : Bool). filter (is_given m.numbers.items) (reverse (if b then dropped n (lists l) else lists l))) (equal_not l list d)
              ∙ h.named l
              ∙ sym (ap (map (number_in m.numbers.items)) (j.each l ∙ dropped_none slot (slots_in x m.slots l) (out_of_list x m.slots l slot (one_list (list_at x slot) list l is d))))
        ];
        live = λ s i. (left_live j s i).1;
        below = λ l q i. h.below l q (in_without list n lists l q i);
        apart = λ q a b i t. h.apart q a b (in_without list n lists a q i) (in_without list n lists b q t);
        once = λ l. once_without (l == list) n (lists l) (h.once l);
      }

  -- nothing changes where a node that leaves is no member, or doesn't live
  pub not_there : (list n : ℕ) → is_in n (filter (is_given m.numbers.items) (reverse (lists list))) ≡ false → HasLists m x (without_member list n lists)
  not_there list n out = record {
    named = λ l. elim (cases_eq l list) [
      | inl e ↦
          ap (λ (b : Bool). filter (is_given m.numbers.items) (reverse (if b then dropped n (lists l) else lists l))) (equal_yes l list e)
          ∙ ap (filter (is_given m.numbers.items)) (reverse_filter (λ i. not (i == n)) (lists l))
          ∙ filter_swap (is_given m.numbers.items) (λ i. not (i == n)) (reverse (lists l))
          ∙ dropped_none n (filter (is_given m.numbers.items) (reverse (lists l))) (ap (λ (i : ℕ). is_in n (filter (is_given m.numbers.items) (reverse (lists i)))) e ∙ out)
          ∙ h.named l
      | inr d ↦ ap (λ (b : Bool). filter (is_given m.numbers.items) (reverse (if b then dropped n (lists l) else lists l))) (equal_not l list d) ∙ h.named l
    ];
    live = h.live;
    below = λ l q i. h.below l q (in_without list n lists l q i);
    apart = λ q a b i t. h.apart q a b (in_without list n lists a q i) (in_without list n lists b q t);
    once = λ l. once_without (l == list) n (lists l) (h.once l);
  }

  absent_out : (n : ℕ) → IsAbsent at n → (l : ℕ) → is_in n (filter (is_given m.numbers.items) (reverse (lists l))) ≡ false
  absent_out n a l = in_filtered (is_given m.numbers.items) n (reverse (lists l)) ∙ ap (λ (t : Bool). t && is_in n (reverse (lists l))) (given_absent at m k n a)

  pub absent_there : (list n : ℕ) → IsAbsent at n → HasLists m x (without_member list n lists)
  absent_there list n a = not_there list n (absent_out n a list)

  pub member_elsewhere : (list slot n : ℕ) → number_at at slot ≡ Some n → is_list list (list_at x slot) ≡ false → HasLists m x (without_member list n lists)
  member_elsewhere list slot n live other =
      not_there list n (not_filtered n (is_given m.numbers.items) (reverse (lists list)) (in_reverse n (lists list) ∙ not_true (is_in n (lists list)) (λ i. false≢true (sym other ∙ in_listed slot n live list i))))

  pub absent_but : (n : ℕ) → IsAbsent at n → HasListsBut n m x lists
  absent_but n a = record {
    named = λ l. dropped_none n (filter (is_given m.numbers.items) (reverse (lists l))) (absent_out n a l) ∙ h.named l;
    live = λ s i.
        let p = h.live s i in
        (p, λ e. a s (number_there at m k s p ∙ ap (λ (q : ℕ). Some q) e));
    below = h.below;
    apart = h.apart;
    once = h.once;
  }

  pub cleared_lists : (list : ℕ) (y : Memberships) → HasCleared x y m.slots list → HasLists m y (without_members list lists)
  cleared_lists list y j = record {
    named = λ l. elim (cases_eq l list) [
      | inl e ↦
          ap (λ (b : Bool). filter (is_given m.numbers.items) (reverse (if b then [] else lists l))) (equal_yes l list e)
          ∙ sym (ap (map (number_in m.numbers.items)) (ap (slots_in y m.slots) e ∙ j.here))
      | inr d ↦
          ap (λ (b : Bool). filter (is_given m.numbers.items) (reverse (if b then [] else lists l))) (equal_not l list d)
          ∙ h.named l
          ∙ sym (ap (map (number_in m.numbers.items)) (j.elsewhere l d))
    ];
    live = λ s i. h.live s (j.lists s i);
    below = λ l q i. h.below l q (in_cleared list lists l q i);
    apart = λ q a b i t. h.apart q a b (in_cleared list lists a q i) (in_cleared list lists b q t);
    once = λ l. once_cleared (l == list) (lists l) (h.once l);
  }
