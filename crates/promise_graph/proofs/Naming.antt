-- Numbers in place of slots, in the queue.
use Rattle.std.proofs.Common.{◌≡◌, ◌≢◌, ℕ, zero, suc, ◌+◌, ◌<◌, List, [], ◌∷◌, Option, None, Some, Bool, true, false, cond, not, length, map, arith, refl, sym, ap, ◌∙◌, subst}
use Rattle.std.specs.Prelude.{◌==◌, nat_lt, insert}
use Rattle.std.specs.List.{AllByRecursion, position_or_len}
use Rattle.std.proofs.lemmas.Bool.Decides.{nat_tests}
use Rattle.std.proofs.lemmas.List.{length-map}
use Rattle.kj_base.specs.Queue.{Events, Way, DepthFirst, BreadthFirst, AtLast, IsQueue, is_armed, armed, disarmed, taken, without_found, without_place, falls, head_of, first_of}
use Rattle.kj_base.proofs.QueueLemmas.{all_insert, all_remove}
use Rattle.kj_base.specs.declared.nodes.Node.{Node}
use Rattle.kj_model.specs.World.{World}
use Rattle.kj_model.specs.Changes.{with_queue}
use Rattle.kj_base.specs.Places.{Spot}
use Rattle.promise_graph.specs.declared.fields.Marks.{Marks}
use Rattle.promise_graph.specs.Slots.{number_at, IsAbsent}
use Rattle.promise_graph.specs.Kept.{AreNumbered, IsKept, IsArmable}
use Rattle.promise_graph.specs.Standing.{name_or, event_name, events_as, Stands}
use Rattle.promise_graph.proofs.Lists.{none_some, not_some, equal_not}
use Rattle.promise_graph.proofs.Numbered.{one_slot}
use Rattle.promise_graph.proofs.Renamed.{IsApart, all_more, any_by, insert_by, remove_by}

-- ---- different slots have different names

names_case : (at : ℕ → Option Node) (m : Marks) → AreNumbered at m → (s t : ℕ) → (o p : Option ℕ) → number_at at s ≡ o → number_at at t ≡ p → name_or (m.next + s) o ≡ name_or (m.next + t) p → s ≡ t
names_case at m k s t None None e f h = omega (arith, h)
names_case at m k s t None (Some n) e f h = let b = k.given t n f in absurd (omega (arith, b.1, h))
names_case at m k s t (Some n) None e f h = let b = k.given s n e in absurd (omega (arith, b.1, h))
names_case at m k s t (Some i) (Some j) e f h = one_slot at m k s t i e (f ∙ ap (λ (x : ℕ). Some x) (sym h))

name_positive : (at : ℕ → Option Node) (m : Marks) → AreNumbered at m → (s : ℕ) → (o : Option ℕ) → number_at at s ≡ o → 0 < name_or (m.next + s) o
name_positive at m k s None e = let p = k.first in omega (arith, p)
name_positive at m k s (Some n) e = (k.given s n e).0

pub apart_events : (at : ℕ → Option Node) (m : Marks) → AreNumbered at m → IsApart (event_name at m.next)
apart_events at m k zero zero h = refl
apart_events at m k zero (suc t) h = absurd (let p = name_positive at m k t (number_at at t) refl in omega (arith, h, p))
apart_events at m k (suc s) zero h = absurd (let p = name_positive at m k s (number_at at s) refl in omega (arith, h, p))
apart_events at m k (suc s) (suc t) h = ap (λ (i : ℕ). suc i) (names_case at m k s t (number_at at s) (number_at at t) refl refl h)

-- ---- arming goes by any numbers

armed_case : (f : ℕ → ℕ) (e : ℕ) (q : Events) (place depth breadth : ℕ) (b : Bool) → events_as f (cond b q (record { list = insert q.list place e; depth = depth; breadth = breadth })) ≡ cond b (events_as f q) (record { list = insert (map f q.list) place (f e); depth = depth; breadth = breadth })
armed_case f e q place depth breadth true = refl
armed_case f e q place depth breadth false = ap (λ l. record { list = l; depth = depth; breadth = breadth }) (insert_by f q.list place e)

armed_at : (f : ℕ → ℕ) → IsApart f → (e : ℕ) (q : Events) (place depth breadth : ℕ) → events_as f (cond (is_armed e q) q (record { list = insert q.list place e; depth = depth; breadth = breadth })) ≡ cond (is_armed (f e) (events_as f q)) (events_as f q) (record { list = insert (map f q.list) place (f e); depth = depth; breadth = breadth })
armed_at f one e q place depth breadth =
    armed_case f e q place depth breadth (is_armed e q)
    ∙ ap (λ (b : Bool). cond b (events_as f q) (record { list = insert (map f q.list) place (f e); depth = depth; breadth = breadth })) (sym (any_by f one e q.list))

pub armed_by : (f : ℕ → ℕ) → IsApart f → (way : Way) (e : ℕ) (q : Events) → events_as f (armed way e q) ≡ armed way (f e) (events_as f q)
armed_by f one DepthFirst e q = armed_at f one e q q.depth (q.depth + 1) (q.breadth + 1)
armed_by f one BreadthFirst e q = armed_at f one e q q.breadth q.depth (q.breadth + 1)
armed_by f one AtLast e q = armed_at f one e q q.breadth q.depth q.breadth

all_case : (P : ℕ → Type 0) (b : Bool) (q r : Events) → AllByRecursion P q.list → AllByRecursion P r.list → AllByRecursion P (cond b q r).list
all_case P true q r h k = h
all_case P false q r h k = k

pub armed_all : (P : ℕ → Type 0) (way : Way) (e : ℕ) (q : Events) → P e → AllByRecursion P q.list → AllByRecursion P (armed way e q).list
armed_all P DepthFirst e q p h = all_case P (is_armed e q) q (record { list = insert q.list q.depth e; depth = q.depth + 1; breadth = q.breadth + 1 }) h (all_insert P q.list q.depth e p h)
armed_all P BreadthFirst e q p h = all_case P (is_armed e q) q (record { list = insert q.list q.breadth e; depth = q.depth; breadth = q.breadth + 1 }) h (all_insert P q.list q.breadth e p h)
armed_all P AtLast e q p h = all_case P (is_armed e q) q (record { list = insert q.list q.breadth e; depth = q.depth; breadth = q.breadth }) h (all_insert P q.list q.breadth e p h)

-- ---- so does taking

taken_case : (f : ℕ → ℕ) (q : Events) (b : Bool) → events_as f (cond b (without_place 0 q) q) ≡ cond b (without_place 0 (events_as f q)) (events_as f q)
taken_case f q true = ap (λ l. record { list = l; depth = falls 0 q.depth; breadth = falls 0 q.breadth }) (remove_by f q.list 0)
taken_case f q false = refl

pub taken_by : (f : ℕ → ℕ) (q : Events) → events_as f (taken q) ≡ taken (events_as f q)
taken_by f q = taken_case f q (nat_lt 0 (length q.list)) ∙ ap (λ (n : ℕ). cond (nat_lt 0 n) (without_place 0 (events_as f q)) (events_as f q)) (sym (length-map q.list f))

pub taken_all : (P : ℕ → Type 0) (q : Events) → AllByRecursion P q.list → AllByRecursion P (taken q).list
taken_all P q h = all_case P (nat_lt 0 (length q.list)) (without_place 0 q) q (all_remove P q.list 0 h) h

first_all : (P : ℕ → Type 0) (xs : List ℕ) (e : ℕ) → AllByRecursion P xs → first_of xs ≡ Some e → P e
first_all P [] e h s = absurd (none_some e s)
first_all P (x ∷ xs) e h s = subst P (some_is x e s) h.0
  where
    some_is : (x e : ℕ) → ◌≡◌ {A = Option ℕ} (Some x) (Some e) → x ≡ e
    some_is x e s = cc

pub head_all : (P : ℕ → Type 0) (q : Events) (e : ℕ) → AllByRecursion P q.list → head_of q ≡ Some e → P e
head_all P q e h s = first_all P q.list e h s

first_by : (f : ℕ → ℕ) (xs : List ℕ) (e : ℕ) → first_of xs ≡ Some e → first_of (map f xs) ≡ Some (f e)
first_by f [] e s = absurd (none_some e s)
first_by f (x ∷ xs) e s = ap (λ (o : Option ℕ). named o) s
  where
    named : Option ℕ → Option ℕ
    named None = None
    named (Some y) = Some (f y)

pub head_by : (f : ℕ → ℕ) (q : Events) (e : ℕ) → head_of q ≡ Some e → head_of (events_as f q) ≡ Some (f e)
head_by f q e s = first_by f q.list e s

no_first : (f : ℕ → ℕ) (xs : List ℕ) → first_of xs ≡ None → first_of (map f xs) ≡ None
no_first f [] s = refl
no_first f (x ∷ xs) s = absurd (none_some x (sym s))

pub no_head : (f : ℕ → ℕ) (q : Events) → head_of q ≡ None → head_of (events_as f q) ≡ None
no_head f q s = no_first f q.list s

-- ---- another queue

pub kept_queue : (at : ℕ → Option Node) (bare : ℕ → Bool) (q r : Events) (slots size size' : ℕ) (m : Marks) → IsKept at bare q slots size m → size' ≡ size → AllByRecursion (IsArmable at) r.list → IsQueue r → IsKept at bare r slots size' m
kept_queue at bare q r slots size size' m k same armed queue = record {
  sound = record { store_is = k.sound.store_is; numbered = k.sound.numbered; events = record { size_is = same ∙ k.sound.events.size_is; armed = armed; queue = queue }; paired = k.sound.paired; single = k.sound.single; tasks_paired = k.sound.tasks_paired; hubs_paired = k.sound.hubs_paired };
  owned = k.owned;
}

pub stands_queue : (at : ℕ → Option Node) (q r e : Events) (sp : List Spot → Type 0) (m : Marks) (w : World) → e ≡ events_as (event_name at m.next) r → Stands at q sp m w → Stands at r sp m (with_queue e w)
stands_queue at q r e sp m w same st = record {
  seen = record { nodes = st.seen.nodes; queue = same; spots = st.seen.spots; next_is = st.seen.next_is; slots_are = st.seen.slots_are; firing_is = st.seen.firing_is; awaited_is = st.seen.awaited_is; tasks = st.seen.tasks; hubs = st.seen.hubs };
  owned = st.owned;
}

-- ---- the event of no node

absent_step : (at : ℕ → Option Node) (next n x : ℕ) → IsAbsent at n → n ≢ 0 → IsArmable at x → (event_name at next x == n) ≡ false
absent_step at next n zero a p h = equal_not 0 n (λ e. p (sym e))
absent_step at next n (suc s) a p h = by_number (number_at at s) refl
  where
    by_number : (o : Option ℕ) → number_at at s ≡ o → (name_or (next + s) (number_at at s) == n) ≡ false
    by_number None e = absurd (not_some (number_at at s) e h)
    by_number (Some m) e = ap (λ (o : Option ℕ). name_or (next + s) o == n) e ∙ equal_not m n (λ same. a s (e ∙ ap (λ (k : ℕ). Some k) same))

no_place : (n : ℕ) (xs : List ℕ) → AllByRecursion (λ x. (x == n) ≡ false) xs → position_or_len (λ x. x == n) xs ≡ length xs
no_place n [] h = refl
no_place n (x ∷ xs) h = ap (λ (b : Bool). cond (not b) (1 + position_or_len (λ y. y == n) xs) 0) h.0 ∙ (let k = no_place n xs h.1 in omega (arith, k))

unarmed : (n : ℕ) (q : Events) → AllByRecursion (λ x. (x == n) ≡ false) q.list → disarmed n q ≡ q
unarmed n q h =
    let t : nat_lt (length q.list) (length q.list) ≡ false = grind (arith, nat_tests) in
    ap (λ (i : ℕ). without_found (cond (nat_lt i (length q.list)) (Some i) None) q) (no_place n q.list h)
    ∙ ap (λ (b : Bool). without_found (cond b (Some (length q.list)) None) q) t

all_map : (P : ℕ → Type 0) (f : ℕ → ℕ) (xs : List ℕ) → AllByRecursion (λ x. P (f x)) xs → AllByRecursion P (map f xs)
all_map P f [] h = tt
all_map P f (x ∷ xs) h = (h.0, all_map P f xs h.1)

-- a node that isn't live isn't armed
pub absent_unarmed : (at : ℕ → Option Node) (next n : ℕ) (q : Events) → IsAbsent at n → n ≢ 0 → AllByRecursion (IsArmable at) q.list → disarmed n (events_as (event_name at next) q) ≡ events_as (event_name at next) q
absent_unarmed at next n q a p armed = unarmed n (events_as (event_name at next) q) (all_map (λ x. (x == n) ≡ false) (event_name at next) q.list (all_more (IsArmable at) (λ x. (event_name at next x == n) ≡ false) (λ x h. absent_step at next n x a p h) q.list armed))
