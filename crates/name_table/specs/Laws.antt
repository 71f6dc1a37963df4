-- The laws of a keeper of names, for the table.
use Rattle.std.proofs.Common.{◌≡◌, ℕ, ◌+◌, ◌<◌, Bool, true, false, List, [], ◌∷◌, Option, None, Some, refl, sym, subst, ap, ◌∙◌, arith}
use Rattle.std.specs.Prelude.{nat_eq, IsSome}
use Rattle.std.specs.List.{AllByRecursion}
use Rattle.std.proofs.lemmas.Bool.Decides.{nat_tests}
use Rattle.kj_model.specs.World.{World, Named, Held as Seen, Promise as PromiseSeen, RequestOf as RequestSeen, held_at}
use Rattle.kj_model.specs.Effects.{wraps_of}
use Rattle.promise_nodes.specs.Kept.{SameNames}
use Rattle.promise_names.specs.Once.{AreOnce, AreRising}
use Rattle.promise_names.specs.declared.names.Held.{Held}
use Rattle.promise_names.specs.declared.names.Held.TheVariants.{Promise, CellOf, AskCell, HubOf, Group, Canceler, RequestOf}
use Rattle.name_table.specs.declared.entries.Entry.{Entry}
use Rattle.promise_names.specs.Held.{awaited_key, held_shown, root_of, IsLoopsOwn, HasNoneListed, IsHeld, SeesHeld}
use Rattle.name_table.specs.Entries.{IsRising, held_in, IsSeen, AreSeen}
use Rattle.name_table.specs.Table.{Table, Stands, AreLoopsOwn, AreNames, trees, root_at}

-- nodes don't matter
pub table_nodes_free : (t : Table) (w v : World) → SameNames w v → Stands t w → Stands t v
table_nodes_free t w v same st = subst (Stands t) (sym same) (record { names = st.names; rising = st.rising; no_asks = st.no_asks; no_key = st.no_key; awaited = st.awaited; over = st.over; asks = st.asks; ended = st.ended; abandoned = st.abandoned; limit = st.limit; stopped = st.stopped })

-- the trees that are left over
pub table_over_is : (t : Table) (w : World) → Stands t w → w.left_over ≡ trees t.over
table_over_is t w st = st.over

-- ---- what a name holds is seen

same_test : (n : ℕ) (e : Entry) (x : Named) (b : Bool) → IsSeen e x → nat_eq e.name.0 n ≡ b
    → nat_eq x.name n ≡ b
same_test n e x b s t = ap (λ (m : ℕ). nat_eq m n) s.name ∙ t

sees_step : (n : ℕ) (e : Entry) (x : Named) (es : List Entry) (xs : List Named) (b : Bool)
    → nat_eq e.name.0 n ≡ b → IsSeen e x → SeesHeld (held_in n es) (held_at n xs)
    → SeesHeld (held_in n (e ∷ es)) (held_at n (x ∷ xs))
sees_step n e x es xs true t s ih = rw (t, same_test n e x true s t) s.held
sees_step n e x es xs false t s ih = rw (t, same_test n e x false s t) ih

pub sees : (n : ℕ) (es : List Entry) (xs : List Named) → AreSeen es xs
    → SeesHeld (held_in n es) (held_at n xs)
sees n [] [] s = tt
sees n [] (x ∷ xs) s = absurd s
sees n (e ∷ es) [] s = absurd s
sees n (e ∷ es) (x ∷ xs) s =
    sees_step n e x es xs (nat_eq e.name.0 n) refl s.0 (sees n es xs s.1)

some_seen : (o : Option Held) (seen : Seen) → SeesHeld o (Some seen) → IsSome o
some_seen None seen h = absurd h
some_seen (Some held) seen h = refl

-- ---- no canceler has a Wrap

wraps_case : (h : Held) (seen : Seen) → IsHeld h seen → wraps_of (Some seen) ≡ []
wraps_case (Promise root) seen h = ap (λ (s : Seen). wraps_of (Some s)) h.is
wraps_case (CellOf cell) seen h = ap (λ (s : Seen). wraps_of (Some s)) h.is
wraps_case (AskCell cell taken) seen h = ap (λ (s : Seen). wraps_of (Some s)) h.is
wraps_case (HubOf hub) seen h = ap (λ (s : Seen). wraps_of (Some s)) h.is
wraps_case (Group error tasks empty) seen h = ap (λ (s : Seen). wraps_of (Some s)) h.is
wraps_case Canceler seen h = ap (λ (s : Seen). wraps_of (Some s)) h.is ∙ h.counted
wraps_case (RequestOf request) seen h = ap (λ (s : Seen). wraps_of (Some s)) h.is

no_wraps : (o : Option Held) (s : Option Seen) → SeesHeld o s → wraps_of s ≡ []
no_wraps None None h = refl
no_wraps None (Some seen) h = absurd h
no_wraps (Some held) None h = absurd h
no_wraps (Some held) (Some seen) h = wraps_case held seen h

pub table_no_wraps : (t : Table) (w : World) (name : ℕ) → Stands t w
    → wraps_of (held_at name w.names) ≡ []
table_no_wraps t w name st =
    no_wraps (held_in name t.entries) (held_at name w.names) (sees name t.entries w.names st.names)

-- ---- names stand once, and rise

isnt : (a b : ℕ) → a < b → nat_eq b a ≡ false
isnt a b h = grind (arith, nat_tests)

not_later : (n : ℕ) (es : List Entry) (xs : List Named)
    → AllByRecursion (λ (later : Entry). n < later.name.0) es → AreSeen es xs → held_at n xs ≡ None
not_later n [] [] all s = refl
not_later n [] (x ∷ xs) all s = absurd s
not_later n (e ∷ es) [] all s = absurd s
not_later n (e ∷ es) (x ∷ xs) all s =
    rw (same_test n e x false s.0 (isnt n e.name.0 all.0)) (not_later n es xs all.1 s.1)

seen_once : (es : List Entry) (xs : List Named) → IsRising es → AreSeen es xs → AreOnce xs
seen_once [] [] r s = tt
seen_once [] (x ∷ xs) r s = absurd s
seen_once (e ∷ es) [] r s = absurd s
seen_once (e ∷ es) (x ∷ xs) r s = (
  subst (λ (n : ℕ). held_at n xs ≡ None) (sym s.0.name) (not_later e.name.0 es xs r.0 s.1),
  seen_once es xs r.1 s.1,
)

-- names stand once
pub table_once : (t : Table) (w : World) → Stands t w → AreOnce w.names
table_once t w st = seen_once t.entries w.names st.rising st.names

seen_below : (n : ℕ) (es : List Entry) (xs : List Named)
    → AllByRecursion (λ (later : Entry). n < later.name.0) es → AreSeen es xs
    → AllByRecursion (λ (later : Named). n < later.name) xs
seen_below n [] [] all s = tt
seen_below n [] (x ∷ xs) all s = absurd s
seen_below n (e ∷ es) [] all s = absurd s
seen_below n (e ∷ es) (x ∷ xs) all s =
    (subst (λ (m : ℕ). n < m) (sym s.0.name) all.0, seen_below n es xs all.1 s.1)

seen_rising : (es : List Entry) (xs : List Named) → IsRising es → AreSeen es xs → AreRising xs
seen_rising [] [] r s = tt
seen_rising [] (x ∷ xs) r s = absurd s
seen_rising (e ∷ es) [] r s = absurd s
seen_rising (e ∷ es) (x ∷ xs) r s = (
  subst (λ (n : ℕ). AllByRecursion (λ (later : Named). n < later.name) xs) (sym s.0.name)
      (seen_below e.name.0 es xs r.0 s.1),
  seen_rising es xs r.1 s.1,
)

-- names rise
pub table_rising : (t : Table) (w : World) → Stands t w → AreRising w.names
table_rising t w st = seen_rising t.entries w.names st.rising st.names

-- the limit is the world's
pub table_limit_is : (t : Table) (w : World) → Stands t w → w.limits.names + 1 ≡ t.limit + 1
table_limit_is t w st = ap (λ (n : ℕ). n + 1) st.limit

root_case : (root : ℕ) (members : List ℕ) (h : Held) → PromiseSeen root ≡ held_shown members h
    → root_of (Some h) ≡ Some root
root_case root members (Promise link) is = cc
root_case root members (CellOf cell) is = absurd cc
root_case root members (AskCell cell taken) is = absurd cc
root_case root members (HubOf hub) is = absurd cc
root_case root members (Group error tasks empty) is = absurd cc
root_case root members Canceler is = absurd cc
root_case root members (RequestOf request) is = absurd cc

root_seen : (root : ℕ) (o : Option Held) → SeesHeld o (Some (PromiseSeen root))
    → root_of o ≡ Some root
root_seen root None h = absurd h
root_seen root (Some held) h = root_case root h.members held h.is

isnt_key : (name : ℕ) → name < awaited_key → nat_eq name awaited_key ≡ false
isnt_key name low = grind (arith, nat_tests)

name_step : (name : ℕ) (e : Entry) (es : List Entry) (b : Bool) → nat_eq e.name.0 name ≡ b
    → AreNames (e ∷ es) → (AreNames es → IsSome (held_in name es) → name < awaited_key)
    → IsSome (held_in name (e ∷ es)) → name < awaited_key
name_step name e es true t low ih some =
    let at : e.name.0 < awaited_key = low.0 in
    let here : e.name.0 ≡ name = grind (arith, nat_tests) in
    omega (arith, at, here)
name_step name e es false t low ih some = ih low.1 (rw t at some)

-- a name that is there doesn't have the key of what is awaited
is_name : (name : ℕ) (es : List Entry) → AreNames es → IsSome (held_in name es) → name < awaited_key
is_name name [] low some = absurd cc
is_name name (e ∷ es) low some =
    name_step name e es (nat_eq e.name.0 name) refl low (is_name name es) some

-- each promise has its root
pub table_roots_are : (t : Table) (w : World) (name root : ℕ) → Stands t w
    → held_at name w.names ≡ Some (PromiseSeen root) → root_at t name ≡ Some root
table_roots_are t w name root st is =
    let held : Option Held = held_in name t.entries in
    let seen = subst (SeesHeld held) is (sees name t.entries w.names st.names) in
    let some = some_seen held (PromiseSeen root) seen in
    let low : name < awaited_key = is_name name t.entries st.no_key some in
    rw (isnt_key name low) (root_seen root held seen)

-- ---- no name is a request's

request_case : (node : Option ℕ) (members : List ℕ) (h : Held) → IsLoopsOwn h
    → RequestSeen node ≡ held_shown members h → ⊥
request_case request members (Promise link) own is = absurd cc
request_case request members (CellOf cell) own is = absurd cc
request_case request members (AskCell cell taken) own is = own
request_case request members (HubOf hub) own is = absurd cc
request_case request members (Group error tasks empty) own is = absurd cc
request_case request members Canceler own is = absurd cc
request_case request members (RequestOf held) own is = own

-- what is held is the loop's own
abbrev IsOwn : Option Held → Type 0
IsOwn None = Unit {0}
IsOwn (Some held) = IsLoopsOwn held

own_step : (name : ℕ) (e : Entry) (es : List Entry) (b : Bool) → nat_eq e.name.0 name ≡ b
    → IsLoopsOwn e.held → IsOwn (held_in name es) → IsOwn (held_in name (e ∷ es))
own_step name e es true t own ih = rw t own
own_step name e es false t own ih = rw t ih

own_held : (name : ℕ) (es : List Entry) → AreLoopsOwn es → IsOwn (held_in name es)
own_held name [] all = tt
own_held name (e ∷ es) all =
    own_step name e es (nat_eq e.name.0 name) refl all.0 (own_held name es all.1)

no_request : (request : Option ℕ) (o : Option Held) → IsOwn o
    → SeesHeld o (Some (RequestSeen request)) → ⊥
no_request request None own h = h
no_request request (Some held) own h = request_case request h.members held own h.is

pub table_no_requests : (t : Table) (w : World) (name : ℕ) (node : Option ℕ) → Stands t w
    → held_at name w.names ≡ Some (RequestSeen node) → ⊥
table_no_requests t w name node st is =
    let held : Option Held = held_in name t.entries in
    no_request node held (own_held name t.entries st.no_asks)
    (subst (SeesHeld held) is (sees name t.entries w.names st.names))

-- nothing is listed
pub table_none_listed : (t : Table) (w : World) → Stands t w → HasNoneListed w
table_none_listed t w st = record { asks = st.asks; ended = st.ended; abandoned = st.abandoned }
