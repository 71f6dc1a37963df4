-- Lists of nodes in rings, as nodes come and go.
use Rattle.std.proofs.Common.{◌≡◌, ◌≢◌, ℕ, ◌+◌, ◌<◌, List, [], ◌∷◌, ◌++◌, Option, None, Some, Bool, true, false, cond, not, map, arith, refl, sym, ap, ◌∙◌, inl, inr, subst}
use Rattle.std.specs.Prelude.{◌==◌, ◌&&◌, ◌||◌, filter, find, reverse, is_some, nat_lt, unwrap_or, slice_index_or, if◌then◌else◌}
use Rattle.std.specs.List.{AllByRecursion}
use Rattle.std.proofs.lemmas.Bool.{cases_eq, false≢true}
use Rattle.std.proofs.lemmas.Bool.Decides.{nat_tests}
use Rattle.std.proofs.lemmas.List.{reverse-append, append-nil}
use Rattle.kj_base.specs.declared.nodes.Node.{Node}
use Rattle.kj_model.specs.Nodes.{Form, Entry as Seen, form_at, dropped, is_in}
use Rattle.kj_base.specs.Queue.{first_of}
use Rattle.kj_model.specs.World.{World}
use Rattle.kj_model.specs.Calls.{hubs_of}
use Rattle.kj_model.specs.Fire.{branches_of}
use Rattle.promise_nodes.specs.Shown.{shown}
use Rattle.promise_nodes.specs.Kept.{is_live, newest_task}
use Rattle.promise_nodes.proofs.Hubs.{hubs_live}
use Rattle.promise_graph.specs.declared.fields.Marks.{Marks}
use Rattle.promise_graph.specs.declared.fields.Rings.{Rings}
use Rattle.promise_graph.specs.Slots.{number_of, number_at, IsAbsent, Finds, slot_of}
use Rattle.promise_graph.specs.Rings.{next_at, prev_at, IsPath, IsOut, ArePaired, IsCut, IsJoined, MayBeListed}
use Rattle.promise_graph.specs.Kept.{AreNumbered, is_there}
use Rattle.promise_graph.specs.Members.{is_given, HasMembers}
use Rattle.promise_graph.specs.Standing.{HasNodes}
use Rattle.promise_graph.proofs.Lists.{some_same, none_some, equal_yes, equal_not, not_equal, is_some_of, all_filter, all_append, map_append}
use Rattle.promise_graph.proofs.Numbered.{one_slot, slot_live, slot_absent, slot_is, live_found}
use Rattle.promise_graph.proofs.Renamed.{all_more}
use Rattle.promise_graph.proofs.Put.{node_of}
use Rattle.promise_graph.proofs.Cutting.{ring_without, named_same}
use Rattle.promise_graph.proofs.Leaving.{path_dropped, apart_dropped, map_dropped}
use Rattle.promise_graph.proofs.Joining.{path_joined, apart_more}

-- ---- filters

both_case : (b c d : Bool) (x : ℕ) (xs ys : List ℕ) (q : ℕ → Bool) → d ≡ (b && c) → q x ≡ c → xs ≡ filter q ys → cond d (x ∷ xs) xs ≡ filter q (cond b (x ∷ ys) ys)
both_case true true d x xs ys q e f h = ap (λ (t : Bool). cond t (x ∷ xs) xs) e ∙ ap (λ (l : List ℕ). x ∷ l) h ∙ sym (ap (λ (t : Bool). cond t (x ∷ filter q ys) (filter q ys)) f)
both_case true false d x xs ys q e f h = ap (λ (t : Bool). cond t (x ∷ xs) xs) e ∙ h ∙ sym (ap (λ (t : Bool). cond t (x ∷ filter q ys) (filter q ys)) f)
both_case false c d x xs ys q e f h = ap (λ (t : Bool). cond t (x ∷ xs) xs) e ∙ h

-- one filter for two
pub filter_both : (p q r : ℕ → Bool) → ((x : ℕ) → r x ≡ (p x && q x)) → (xs : List ℕ) → filter r xs ≡ filter q (filter p xs)
filter_both p q r h [] = refl
filter_both p q r h (x ∷ xs) = both_case (p x) (q x) (r x) x (filter r xs) (filter p xs) q (h x) refl (filter_both p q r h xs)

pub filter_same : (p r : ℕ → Bool) (xs : List ℕ) → AllByRecursion (λ x. r x ≡ p x) xs → filter r xs ≡ filter p xs
filter_same p r [] h = refl
filter_same p r (x ∷ xs) h = ap (λ (l : List ℕ). cond (r x) (x ∷ l) l) (filter_same p r xs h.1) ∙ ap (λ (b : Bool). cond b (x ∷ filter p xs) (filter p xs)) h.0

filter_last_case : (b : Bool) (p : ℕ → Bool) (x n : ℕ) (xs : List ℕ) (ys : List ℕ) → ys ≡ filter p xs ++ n ∷ [] → cond b (x ∷ ys) ys ≡ cond b (x ∷ filter p xs) (filter p xs) ++ n ∷ []
filter_last_case true p x n xs ys h = ap (λ (l : List ℕ). x ∷ l) h
filter_last_case false p x n xs ys h = h

pub filter_last : (p : ℕ → Bool) (xs : List ℕ) (n : ℕ) → p n ≡ true → filter p (xs ++ n ∷ []) ≡ filter p xs ++ n ∷ []
filter_last p [] n h = ap (λ (b : Bool). cond b (n ∷ []) []) h
filter_last p (x ∷ xs) n h = filter_last_case (p x) p x n xs (filter p (xs ++ n ∷ [])) (filter_last p xs n h)

swap_case : (b c : Bool) → (b && c) ≡ (c && b)
swap_case true true = refl
swap_case true false = refl
swap_case false true = refl
swap_case false false = refl

pub filter_swap : (p q : ℕ → Bool) (xs : List ℕ) → filter p (filter q xs) ≡ filter q (filter p xs)
filter_swap p q xs = sym (filter_both q p (λ x. p x && q x) (λ x. swap_case (p x) (q x)) xs) ∙ filter_both p q (λ x. p x && q x) (λ x. refl) xs

not_filtered_case : (b c d : Bool) (n x : ℕ) (xs : List ℕ) → (x == n) ≡ c → (c || d) ≡ false → is_in n xs ≡ false → is_in n (cond b (x ∷ xs) xs) ≡ false
not_filtered_case true true d n x xs e h k = absurd (false≢true (sym h))
not_filtered_case true false d n x xs e h k = ap (λ (t : Bool). t || is_in n xs) e ∙ k
not_filtered_case false c d n x xs e h k = k

rest_false : (c d : Bool) → (c || d) ≡ false → d ≡ false
rest_false true d h = absurd (false≢true (sym h))
rest_false false d h = h

-- what isn't in a list isn't in what is left of it
pub not_filtered : (n : ℕ) (p : ℕ → Bool) (xs : List ℕ) → is_in n xs ≡ false → is_in n (filter p xs) ≡ false
not_filtered n p [] h = refl
not_filtered n p (x ∷ xs) h = not_filtered_case (p x) (x == n) (is_in n xs) n x (filter p xs) refl h (not_filtered n p xs (rest_false (x == n) (is_in n xs) h))

-- ---- live numbers

pub given_live : (at : ℕ → Option Node) (m : Marks) → AreNumbered at m → (s n : ℕ) → number_at at s ≡ Some n → is_given m.numbers.items n ≡ true
given_live at m k s n h = ap is_there (slot_live at m k s n h)

pub given_absent : (at : ℕ → Option Node) (m : Marks) → AreNumbered at m → (n : ℕ) → IsAbsent at n → is_given m.numbers.items n ≡ false
given_absent at m k n h = ap is_there (slot_absent at m k n h)

pub number_is : (at : ℕ → Option Node) (m : Marks) → AreNumbered at m → (s n : ℕ) → number_at at s ≡ Some n → slice_index_or m.numbers.items s 0 ≡ n
number_is at m k s n h = k.each s (k.low s (is_some_of (number_at at s) n h)) ∙ ap (λ (o : Option ℕ). unwrap_or o 0) h

-- a place with a number is a live slot
pub number_there : (at : ℕ → Option Node) (m : Marks) → AreNumbered at m → (s : ℕ) → 0 < slice_index_or m.numbers.items s 0 → number_at at s ≡ Some (slice_index_or m.numbers.items s 0)
number_there at m k s h =
    let n = slice_index_or m.numbers.items s 0 in
    live_found at m.numbers.items n s m.slots k.all k.each (λ e. absurd (omega (arith, e, h))) (equal_yes n n refl)

module _ (at : ℕ → Option Node) (m : Marks) (slot n : ℕ) (k : AreNumbered at m) (live : number_at at slot ≡ Some n) where
  pub number_test : (x : ℕ) → 0 < slice_index_or m.numbers.items x 0 → (slice_index_or m.numbers.items x 0 == n) ≡ (x == slot)
  number_test x h = elim (cases_eq x slot) [
    | inl p ↦ equal_yes (slice_index_or m.numbers.items x 0) n (ap (λ (i : ℕ). slice_index_or m.numbers.items i 0) p ∙ number_is at m k slot n live) ∙ sym (equal_yes x slot p)
    | inr d ↦ equal_not (slice_index_or m.numbers.items x 0) n (λ e. d (one_slot at m k x slot n (number_there at m k x h ∙ ap (λ (j : ℕ). Some j) e) live)) ∙ sym (equal_not x slot d)
  ]

  pub head_apart : m.slots ≢ slot
  head_apart p = absurd (let low = k.low slot (is_some_of (number_at at slot) n live) in omega (arith, low, p))

  -- the task of a slot leaves the ring
  pub members_cut : (r0 r : Rings) (listed : List ℕ) → IsCut r0 r slot → ArePaired r0 (m.slots + 1) → (t : HasMembers m.numbers.items r0 m.slots m.next listed)
      → HasMembers m.numbers.items r m.slots m.next (dropped n listed)
  members_cut r0 r listed cut paired t =
      let low = k.low slot (is_some_of (number_at at slot) n live) in
      record {
        members = dropped slot t.members;
        ring = path_dropped r0 r slot (m.slots + 1) cut paired (omega (arith, low)) m.slots m.slots t.members t.ring head_apart head_apart t.apart;
        apart = apart_dropped slot m.slots t.members t.apart;
        each = all_filter (λ s. 0 < slice_index_or m.numbers.items s 0) (λ s. 0 < slice_index_or m.numbers.items s 0) (λ s. not (s == slot)) (λ s e h. h) t.members t.each;
        named = filter_swap (is_given m.numbers.items) (λ x. not (x == n)) listed ∙ ap (dropped n) t.named
            ∙ map_dropped (λ s. slice_index_or m.numbers.items s 0) slot n t.members (all_more (λ s. 0 < slice_index_or m.numbers.items s 0) (λ s. (slice_index_or m.numbers.items s 0 == n) ≡ (s == slot)) number_test t.members t.each);
        below = all_filter (λ x. x < m.next) (λ x. x < m.next) (λ x. not (x == n)) (λ x e h. h) listed t.below;
      }

  out_of : (xs : List ℕ) → is_in n (map (λ s. slice_index_or m.numbers.items s 0) xs) ≡ false → IsOut slot xs
  out_of [] h = tt
  out_of (x ∷ xs) h = out_case (slice_index_or m.numbers.items x 0 == n) (is_in n (map (λ s. slice_index_or m.numbers.items s 0) xs)) refl h (out_of xs)
    where
      out_case : (b c : Bool) → (slice_index_or m.numbers.items x 0 == n) ≡ b → (b || c) ≡ false → (c ≡ false → IsOut slot xs) → (slot ≢ x) × IsOut slot xs
      out_case true c e h f = absurd (false≢true (sym h))
      out_case false c e h f = ((λ p. false≢true (sym e ∙ equal_yes (slice_index_or m.numbers.items x 0) n (ap (λ (i : ℕ). slice_index_or m.numbers.items i 0) (sym p) ∙ number_is at m k slot n live))), f h)

  -- a live node that is no task is the newest
  pub members_listed : (r0 r r' : Rings) (listed : List ℕ) → IsCut r0 r slot → IsJoined r r' slot m.slots → ArePaired r0 (m.slots + 1) → is_in n listed ≡ false → HasMembers m.numbers.items r0 m.slots m.next listed
      → HasMembers m.numbers.items r' m.slots m.next (listed ++ n ∷ [])
  members_listed r0 r r' listed cut joined paired new t =
      let low = k.low slot (is_some_of (number_at at slot) n live) in
      let out : IsOut slot t.members = out_of t.members (ap (is_in n) (sym t.named) ∙ not_filtered n (is_given m.numbers.items) listed new) in
      let paired' : ArePaired r (m.slots + 1) = subst (λ (j : ℕ). ArePaired r j) paired.all_next cut.paired in
      let ring = ring_without r0 r slot (m.slots + 1) m.slots t.members cut paired (omega (arith, low)) t.ring (λ p. head_apart (sym p)) out in
      record {
        members = t.members ++ slot ∷ [];
        ring = path_joined r r' slot m.slots (m.slots + 1) joined paired' (omega arith) m.slots t.members ring head_apart out t.apart;
        apart = apart_more m.slots slot t.members t.apart head_apart out;
        each = all_append (λ s. 0 < slice_index_or m.numbers.items s 0) t.members (slot ∷ []) t.each (let p = (k.given slot n live).0 in let e = number_is at m k slot n live in omega (arith, p, e), tt);
        named = filter_last (is_given m.numbers.items) listed n (given_live at m k slot n live) ∙ ap (λ (l : List ℕ). l ++ n ∷ []) t.named
            ∙ ap (λ (j : ℕ). map (λ s. slice_index_or m.numbers.items s 0) t.members ++ j ∷ []) (sym (number_is at m k slot n live))
            ∙ sym (map_append (λ s. slice_index_or m.numbers.items s 0) t.members (slot ∷ []));
        below = all_append (λ x. x < m.next) listed (n ∷ []) t.below ((k.given slot n live).1, tt);
      }

-- a number that no node has leaves the list
pub members_without : (at : ℕ → Option Node) (m : Marks) (n : ℕ) (r0 : Rings) → AreNumbered at m → IsAbsent at n → (listed : List ℕ) → HasMembers m.numbers.items r0 m.slots m.next listed → HasMembers m.numbers.items r0 m.slots m.next (dropped n listed)
members_without at m n r0 k a listed t = record {
  members = t.members;
  ring = t.ring;
  apart = t.apart;
  each = t.each;
  named = sym (filter_both (λ x. not (x == n)) (is_given m.numbers.items) (is_given m.numbers.items) (λ x. not_it x) listed) ∙ t.named;
  below = all_filter (λ x. x < m.next) (λ x. x < m.next) (λ x. not (x == n)) (λ x e h. h) listed t.below;
}
  where
    not_it : (x : ℕ) → is_given m.numbers.items x ≡ (not (x == n) && is_given m.numbers.items x)
    not_it x = elim (cases_eq x n) [
      | inl p ↦ ap (is_given m.numbers.items) p ∙ given_absent at m k n a ∙ sym (ap (λ (b : Bool). not b && is_given m.numbers.items x) (equal_yes x n p))
      | inr d ↦ sym (ap (λ (b : Bool). not b && is_given m.numbers.items x) (equal_not x n d))
    ]

-- ---- a node goes

module _ (at new : ℕ → Option Node) (m m' : Marks) (slot n : ℕ) (k : AreNumbered at m) (k' : AreNumbered new m') (live : number_at at slot ≡ Some n) (gone : number_at new slot ≡ None) (others : (s : ℕ) → s ≢ slot → number_at new s ≡ number_at at s) where
  pub gone_absent : IsAbsent new n
  gone_absent s h = elim (cases_eq s slot) [
    | inl p ↦ none_some n (sym gone ∙ ap (number_at new) (sym p) ∙ h)
    | inr d ↦ d (one_slot at m k s slot n (sym (others s d) ∙ h) live)
  ]

  pub given_gone : (x : ℕ) → is_given m'.numbers.items x ≡ (is_given m.numbers.items x && not (x == n))
  given_gone x = elim (cases_eq x n) [
    | inl p ↦ ap (is_given m'.numbers.items) p ∙ given_absent new m' k' n gone_absent ∙ sym (ap (λ (b : Bool). is_given m.numbers.items x && not b) (equal_yes x n p) ∙ swap_case (is_given m.numbers.items x) false)
    | inr d ↦ by_slot (slot_of x m.numbers.items) (slot_is at m k x) d ∙ sym (ap (λ (b : Bool). is_given m.numbers.items x && not b) (equal_not x n d) ∙ swap_case (is_given m.numbers.items x) true)
  ]
    where
      by_slot : (o : Option ℕ) → Finds at x o → x ≢ n → is_given m'.numbers.items x ≡ is_given m.numbers.items x
      by_slot None a d = given_absent new m' k' x (λ s h. elim (cases_eq s slot) [
        | inl p ↦ none_some x (sym gone ∙ ap (number_at new) (sym p) ∙ h)
        | inr e ↦ a s (sym (others s e) ∙ h)
      ]) ∙ sym (given_absent at m k x a)
      by_slot (Some s) h d = given_live new m' k' s x (others s (λ p. d (some_same x n (sym h ∙ ap (number_at at) p ∙ live))) ∙ h) ∙ sym (given_live at m k s x h)

  pub number_still : (s : ℕ) → s ≢ slot → 0 < slice_index_or m.numbers.items s 0 → slice_index_or m'.numbers.items s 0 ≡ slice_index_or m.numbers.items s 0
  number_still s d h = number_is new m' k' s (slice_index_or m.numbers.items s 0) (others s d ∙ number_there at m k s h)

  pub members_gone : (r0 r : Rings) (listed : List ℕ) → IsCut r0 r slot → ArePaired r0 (m.slots + 1) → HasMembers m.numbers.items r0 m.slots m.next listed → HasMembers m'.numbers.items r m.slots m.next listed
  unfolding members_cut
  members_gone r0 r listed cut paired t =
      let c = members_cut at m slot n k live r0 r listed cut paired t in
      let there = stay t.members t.each in
      record {
        members = c.members;
        ring = c.ring;
        apart = c.apart;
        each = all_more (λ s. (0 < slice_index_or m.numbers.items s 0) × (slice_index_or m'.numbers.items s 0 ≡ slice_index_or m.numbers.items s 0)) (λ s. 0 < slice_index_or m'.numbers.items s 0) (λ s h. omega (arith, h.0, h.1)) c.members there;
        named = filter_both (is_given m.numbers.items) (λ x. not (x == n)) (is_given m'.numbers.items) given_gone listed ∙ filter_swap (λ x. not (x == n)) (is_given m.numbers.items) listed ∙ c.named
            ∙ named_same (λ s. slice_index_or m.numbers.items s 0) (λ s. slice_index_or m'.numbers.items s 0) c.members (all_more (λ s. (0 < slice_index_or m.numbers.items s 0) × (slice_index_or m'.numbers.items s 0 ≡ slice_index_or m.numbers.items s 0)) (λ s. slice_index_or m'.numbers.items s 0 ≡ slice_index_or m.numbers.items s 0) (λ s h. h.1) c.members there);
        below = t.below;
      }
    where
      stay : (xs : List ℕ) → AllByRecursion (λ s. 0 < slice_index_or m.numbers.items s 0) xs → AllByRecursion (λ s. (0 < slice_index_or m.numbers.items s 0) × (slice_index_or m'.numbers.items s 0 ≡ slice_index_or m.numbers.items s 0)) (dropped slot xs)
      stay xs h = all_filter (λ s. 0 < slice_index_or m.numbers.items s 0) (λ s. (0 < slice_index_or m.numbers.items s 0) × (slice_index_or m'.numbers.items s 0 ≡ slice_index_or m.numbers.items s 0)) (λ s. not (s == slot)) (λ s e p. (p, number_still s (not_equal s slot e) p)) xs h

-- ---- a node comes

module _ (at new : ℕ → Option Node) (m m' : Marks) (slot : ℕ) (k : AreNumbered at m) (k' : AreNumbered new m') (free : number_at at slot ≡ None) (here : number_at new slot ≡ Some m.next) (others : (s : ℕ) → s ≢ slot → number_at new s ≡ number_at at s) where
  pub given_still : (x : ℕ) → x < m.next → is_given m'.numbers.items x ≡ is_given m.numbers.items x
  given_still x low = by_slot (slot_of x m.numbers.items) (slot_is at m k x)
    where
      by_slot : (o : Option ℕ) → Finds at x o → is_given m'.numbers.items x ≡ is_given m.numbers.items x
      by_slot None a = given_absent new m' k' x (λ s h. elim (cases_eq s slot) [
        | inl p ↦ absurd (let e = some_same m.next x (sym here ∙ ap (number_at new) (sym p) ∙ h) in omega (arith, e, low))
        | inr e ↦ a s (sym (others s e) ∙ h)
      ]) ∙ sym (given_absent at m k x a)
      by_slot (Some s) h = given_live new m' k' s x (others s (λ p. none_some x (sym free ∙ ap (number_at at) (sym p) ∙ h)) ∙ h) ∙ sym (given_live at m k s x h)

  pub number_same : (s : ℕ) → 0 < slice_index_or m.numbers.items s 0 → slice_index_or m'.numbers.items s 0 ≡ slice_index_or m.numbers.items s 0
  number_same s h =
      let there = number_there at m k s h in
      number_is new m' k' s (slice_index_or m.numbers.items s 0) (others s (λ p. none_some _ (sym free ∙ ap (number_at at) (sym p) ∙ there)) ∙ there)

  pub members_built : (r0 : Rings) (listed : List ℕ) → HasMembers m.numbers.items r0 m.slots m.next listed → HasMembers m'.numbers.items r0 m.slots (m.next + 1) listed
  members_built r0 listed t = record {
    members = t.members;
    ring = t.ring;
    apart = t.apart;
    each = all_more (λ s. 0 < slice_index_or m.numbers.items s 0) (λ s. 0 < slice_index_or m'.numbers.items s 0) (λ s h. let e = number_same s h in omega (arith, h, e)) t.members t.each;
    named = filter_same (is_given m.numbers.items) (is_given m'.numbers.items) listed (all_more (λ x. x < m.next) (λ x. is_given m'.numbers.items x ≡ is_given m.numbers.items x) given_still listed t.below) ∙ t.named
        ∙ named_same (λ s. slice_index_or m.numbers.items s 0) (λ s. slice_index_or m'.numbers.items s 0) t.members (all_more (λ s. 0 < slice_index_or m.numbers.items s 0) (λ s. slice_index_or m'.numbers.items s 0 ≡ slice_index_or m.numbers.items s 0) number_same t.members t.each);
    below = all_more (λ x. x < m.next) (λ x. x < m.next + 1) (λ x h. omega (arith, h)) listed t.below;
  }

-- ---- the newest task

abbrev last_or : ℕ → List ℕ → ℕ
last_or a [] = a
last_or a (x ∷ xs) = last_or x xs

abbrev last_of : List ℕ → Option ℕ
last_of [] = None
last_of (x ∷ xs) = Some (last_or x xs)

abbrev or_else : Option ℕ → Option ℕ → Option ℕ
or_else None o = o
or_else (Some n) o = Some n

find_case : (b : Bool) (p : ℕ → Bool) (y : ℕ) (ys : List ℕ) (x : ℕ) → (find p (ys ++ x ∷ []) ≡ or_else (find p ys) (cond (p x) (Some x) None)) → cond b (Some y) (find p (ys ++ x ∷ [])) ≡ or_else (cond b (Some y) (find p ys)) (cond (p x) (Some x) None)
find_case true p y ys x h = refl
find_case false p y ys x h = h

find_last : (p : ℕ → Bool) (ys : List ℕ) (x : ℕ) → find p (ys ++ x ∷ []) ≡ or_else (find p ys) (cond (p x) (Some x) None)
find_last p [] x = refl
find_last p (y ∷ ys) x = find_case (p y) p y ys x (find_last p ys x)

last_case : (b : Bool) (x : ℕ) (xs : List ℕ) → or_else (last_of xs) (cond b (Some x) None) ≡ last_of (cond b (x ∷ xs) xs)
last_case true x [] = refl
last_case true x (y ∷ ys) = refl
last_case false x [] = refl
last_case false x (y ∷ ys) = refl

pub find_reverse : (p : ℕ → Bool) (xs : List ℕ) → find p (reverse xs) ≡ last_of (filter p xs)
find_reverse p [] = refl
find_reverse p (x ∷ xs) = ap (find p) (reverse-append (x ∷ []) xs) ∙ find_last p (reverse xs) x ∙ ap (λ (o : Option ℕ). or_else o (cond (p x) (Some x) None)) (find_reverse p xs) ∙ last_case (p x) x (filter p xs)

path_last : (next prev : ℕ → ℕ) (a b : ℕ) (xs : List ℕ) → IsPath next prev a xs b → prev b ≡ last_or a xs
path_last next prev a b [] p = p.1
path_last next prev a b (x ∷ xs) p = path_last next prev x b xs p.2

last_map : (f : ℕ → ℕ) (a : ℕ) (xs : List ℕ) → last_or (f a) (map f xs) ≡ f (last_or a xs)
last_map f a [] = refl
last_map f a (x ∷ xs) = last_map f x xs

last_all : (P : ℕ → Type 0) (a : ℕ) (xs : List ℕ) → P a → AllByRecursion P xs → P (last_or a xs)
last_all P a [] p h = p
last_all P a (x ∷ xs) p h = last_all P x xs h.0 h.1

pub live_given : (at : ℕ → Option Node) (m : Marks) (es : List Seen) → AreNumbered at m → HasNodes at m.rings es → (x : ℕ) → is_some (form_at x es) ≡ is_given m.numbers.items x
live_given at m es k has x = by_slot (slot_of x m.numbers.items) (slot_is at m k x)
  where
    by_slot : (o : Option ℕ) → Finds at x o → is_some (form_at x es) ≡ is_given m.numbers.items x
    by_slot None a = ap (λ (f : Option Form). is_some f) (has.absent x a) ∙ sym (given_absent at m k x a)
    by_slot (Some s) h =
        let node = node_of (at s) x h in
        let number : node.0.number.0 ≡ x = some_same node.0.number.0 x (sym (ap number_of node.1) ∙ h) in
        ap (λ (f : Option Form). is_some f) (subst (λ (j : ℕ). form_at j es ≡ Some (shown (branches_of (form_at j es)) node.0.form)) number (has.there s node.0 node.1)) ∙ sym (given_live at m k s x h)

module _ (at : ℕ → Option Node) (m : Marks) (k : AreNumbered at m) where
  last_place : (xs : List ℕ) → IsPath (next_at m.tasks) (prev_at m.tasks) m.slots xs m.slots → AllByRecursion (λ s. 0 < slice_index_or m.numbers.items s 0) xs
      → (if nat_lt (prev_at m.tasks m.slots) m.slots then Some (slice_index_or m.numbers.items (prev_at m.tasks m.slots) 0) else None) ≡ last_of (map (λ s. slice_index_or m.numbers.items s 0) xs)
  last_place [] p h =
      let here : nat_lt (prev_at m.tasks m.slots) m.slots ≡ false = (let e = p.1 in grind (arith, nat_tests)) in
      ap (λ (b : Bool). if b then Some (slice_index_or m.numbers.items (prev_at m.tasks m.slots) 0) else None) here
  last_place (x ∷ xs) p h =
      let last = last_or x xs in
      let is : prev_at m.tasks m.slots ≡ last = path_last (next_at m.tasks) (prev_at m.tasks) x m.slots xs p.2 in
      let there = number_there at m k last (last_all (λ s. 0 < slice_index_or m.numbers.items s 0) x xs h.0 h.1) in
      let low : last < m.slots = k.low last (is_some_of (number_at at last) _ there) in
      let here : nat_lt last m.slots ≡ true = grind (arith, nat_tests) in
      ap (λ (j : ℕ). if nat_lt j m.slots then Some (slice_index_or m.numbers.items j 0) else None) is
      ∙ ap (λ (b : Bool). if b then Some (slice_index_or m.numbers.items last 0) else None) here
      ∙ ap (λ (j : ℕ). Some j) (sym (last_map (λ s. slice_index_or m.numbers.items s 0) x xs))

  pub newest_is : (w : World) → HasNodes at m.rings w.nodes → HasMembers m.numbers.items m.tasks m.slots m.next w.detached
      → (if nat_lt (prev_at m.tasks m.slots) m.slots then Some (slice_index_or m.numbers.items (prev_at m.tasks m.slots) 0) else None) ≡ newest_task w
  newest_is w has t =
      last_place t.members t.ring t.each
      ∙ ap last_of (sym t.named)
      ∙ ap last_of (filter_same (is_live w) (is_given m.numbers.items) w.detached (any w.detached))
      ∙ sym (find_reverse (is_live w) w.detached)
    where
      any : (xs : List ℕ) → AllByRecursion (λ x. is_given m.numbers.items x ≡ is_live w x) xs
      any [] = tt
      any (x ∷ xs) = (sym (live_given at m w.nodes k has x), any xs)

-- ---- the oldest hub

all_kept : (p : ℕ → Bool) (xs : List ℕ) → AllByRecursion (λ x. p x ≡ true) xs → filter p xs ≡ xs
all_kept p [] h = refl
all_kept p (x ∷ xs) h = ap (λ (b : Bool). cond b (x ∷ filter p xs) (filter p xs)) h.0 ∙ ap (λ (l : List ℕ). x ∷ l) (all_kept p xs h.1)

module _ (at : ℕ → Option Node) (m : Marks) (k : AreNumbered at m) where
  first_place : (r : Rings) (xs : List ℕ) → IsPath (next_at r) (prev_at r) m.slots xs m.slots → AllByRecursion (λ s. 0 < slice_index_or m.numbers.items s 0) xs
      → (if nat_lt (next_at r m.slots) m.slots then Some (slice_index_or m.numbers.items (next_at r m.slots) 0) else None) ≡ first_of (map (λ s. slice_index_or m.numbers.items s 0) xs)
  first_place r [] p h =
      let here : nat_lt (next_at r m.slots) m.slots ≡ false = (let e = p.0 in grind (arith, nat_tests)) in
      ap (λ (b : Bool). if b then Some (slice_index_or m.numbers.items (next_at r m.slots) 0) else None) here
  first_place r (x ∷ xs) p h =
      let there = number_there at m k x h.0 in
      let low : x < m.slots = k.low x (is_some_of (number_at at x) _ there) in
      let here : nat_lt x m.slots ≡ true = grind (arith, nat_tests) in
      ap (λ (j : ℕ). if nat_lt j m.slots then Some (slice_index_or m.numbers.items j 0) else None) p.0
      ∙ ap (λ (b : Bool). if b then Some (slice_index_or m.numbers.items x 0) else None) here

  pub oldest_is : (es : List Seen) → HasNodes at m.rings es → HasMembers m.numbers.items m.hubs m.slots m.next (hubs_of es)
      → (if nat_lt (next_at m.hubs m.slots) m.slots then Some (slice_index_or m.numbers.items (next_at m.hubs m.slots) 0) else None) ≡ first_of (hubs_of es)
  oldest_is es has t =
      first_place m.hubs t.members t.ring t.each
      ∙ ap first_of (sym t.named)
      ∙ ap first_of (all_kept (is_given m.numbers.items) (hubs_of es)
      (all_more (λ x. is_some (form_at x es) ≡ true) (λ x. is_given m.numbers.items x ≡ true) (λ x h. sym (live_given at m es k has x) ∙ h) (hubs_of es) (hubs_live es)))

-- ---- a node that may be listed

pub paired_listed : (b : Bool) (old new : Rings) (m h slots : ℕ) → MayBeListed b old new m h → ArePaired old slots → ArePaired new slots
paired_listed true old new m h slots l p =
    let p' : ArePaired l.between slots = subst (λ (j : ℕ). ArePaired l.between j) p.all_next l.cut.paired in
    subst (λ (j : ℕ). ArePaired new j) p'.all_next l.joined.paired
paired_listed false old new m h slots l p = subst (λ (r : Rings). ArePaired r slots) (sym l) p

below_case : (b : Bool) (n x : ℕ) (xs : List ℕ) → (x == n) ≡ b → x < n → is_in n xs ≡ false → (b || is_in n xs) ≡ false
below_case true n x xs e low h = absurd (let same : x ≡ n = grind (arith, nat_tests) in omega (arith, same, low))
below_case false n x xs e low h = h

-- a number that wasn't given is in no list
pub below_out : (n : ℕ) (xs : List ℕ) → AllByRecursion (λ x. x < n) xs → is_in n xs ≡ false
below_out n [] h = refl
below_out n (x ∷ xs) h = below_case (x == n) n x xs refl h.0 (below_out n xs h.1)

module _ (at : ℕ → Option Node) (m : Marks) (slot n : ℕ) (k : AreNumbered at m) (live : number_at at slot ≡ Some n) where
  -- a live node that isn't in the list may be its last
  pub members_more : (b : Bool) (r0 r : Rings) (listed : List ℕ) → MayBeListed b r0 r slot m.slots → ArePaired r0 (m.slots + 1) → is_in n listed ≡ false → HasMembers m.numbers.items r0 m.slots m.next listed
      → HasMembers m.numbers.items r m.slots m.next (listed ++ cond b (n ∷ []) [])
  members_more true r0 r listed l paired new t = members_listed at m slot n k live r0 l.between r listed l.cut l.joined paired new t
  members_more false r0 r listed l paired new t =
      subst (λ (xs : List ℕ). HasMembers m.numbers.items r m.slots m.next xs) (sym (append-nil listed)) (subst (λ (x : Rings). HasMembers m.numbers.items x m.slots m.next listed) (sym l) t)
