-- A node is placed in a slot.
use Rattle.std.proofs.Common.{◌≡◌, ◌≢◌, ℕ, zero, suc, ◌+◌, ◌-◌, ◌<◌, ◌≤◌, List, [], ◌∷◌, ◌++◌, Option, None, Some, Bool, true, false, cond, length, map, arith, refl, sym, ap, ◌∙◌, inl, inr, subst}
use Rattle.std.specs.Prelude.{◌==◌, nat_lt, find, unwrap_or, slice_index_or, slice_set, IsSome}
use Rattle.std.specs.List.{AllByRecursion}
use Rattle.std.proofs.lemmas.Bool.{cases_eq, false≢true}
use Rattle.std.proofs.lemmas.List.{get_or-set_same, get_or-set_other}
use Rattle.kj_base.specs.Queue.{Events}
use Rattle.kj_base.specs.Places.{Spot, spot_as, spot_of, spot_over, spot_placed, spot_if}
use Rattle.kj_base.specs.Store.{KeepsOthers, AreBelow as KeysBelow}
use Rattle.kj_base.specs.declared.nodes.Node.{Node}
use Rattle.kj_base.specs.declared.nodes.Form.{Form as FormCase}
use Rattle.kj_model.specs.Nodes.{Form, Entry as Seen, form_at}
use Rattle.kj_model.specs.World.{World}
use Rattle.kj_model.specs.Fire.{branches_of}
use Rattle.kj_model.specs.Calls.{hubs_of}
use Rattle.kj_model.specs.Places.{placed, placed_over, placed_if, built}
use Rattle.kj_model.proofs.Placed.{placed_spots}
use Rattle.promise_nodes.specs.Shown.{shown, link_number}
use Rattle.promise_nodes.specs.Kept.{is_hub, awaited_root}
use Rattle.promise_graph.specs.declared.index.Entry.{Entry}
use Rattle.promise_graph.specs.declared.fields.Marks.{Marks}
use Rattle.promise_graph.specs.declared.fields.Rings.{Rings}
use Rattle.promise_graph.specs.Slots.{IsRising, slot_in, number_of, number_at, IsAbsent}
use Rattle.promise_graph.specs.Rings.{next_at, prev_at}
use Rattle.promise_graph.specs.Kept.{AreNumbered, IsArmable, hub_of}
use Rattle.promise_graph.specs.Members.{HasMembers}
use Rattle.promise_graph.specs.Standing.{name_or, name_at, event_name, events_as, HasNodes, HasRing, HasSpots, IsSeen}
use Rattle.promise_graph.specs.Rows.{name_before}
use Rattle.promise_graph.proofs.Lists.{some_same, none_some, equal_yes, equal_not, is_some_of, all_append, map_append}
use Rattle.promise_graph.proofs.Numbered.{slot_more, slot_new}
use Rattle.promise_graph.proofs.Renamed.{events_same, all_more}
use Rattle.promise_graph.proofs.Naming.{apart_events}
use Rattle.promise_graph.proofs.Places.{map_live}
use Rattle.promise_graph.proofs.Entries.{form_there, form_later, form_new, form_other, once_more}
use Rattle.promise_graph.proofs.Forms.{branches_shown, branches_hub}
use Rattle.promise_graph.proofs.Cutting.{named_same}

-- placing changes only spots and keys
placed_if_same : (b : Bool) (x : Spot) (w : World) → placed_if b x w ≡ record w { spots = (placed_if b x w).spots; next_key = (placed_if b x w).next_key }
placed_if_same true x w = refl
placed_if_same false x w = refl

placed_over_same : (o : Option Spot) (w : World) → placed_over o w ≡ record w { spots = (placed_over o w).spots; next_key = (placed_over o w).next_key }
placed_over_same None w = refl
placed_over_same (Some x) w = placed_if_same (nat_lt 0 x.place) x w

placed_same : (before : Option ℕ) (w : World) → placed before w ≡ record w { spots = (placed before w).spots; next_key = (placed before w).next_key }
placed_same None w = refl
placed_same (Some n) w = placed_over_same (spot_of n w.spots) w

-- the new key is free again
keys_if : (b : Bool) (number : ℕ) (x : Spot) (w : World) → x.key < w.next_key → (w.next_key ≤ (placed_if b x w).next_key) × ((spot_if b number w.next_key x).key < (placed_if b x w).next_key)
keys_if true number x w h = (omega arith, h)
keys_if false number x w h = (omega arith, omega arith)

keys_over : (o : Option Spot) (number : ℕ) (w : World) → ((x : Spot) → o ≡ Some x → x.key < w.next_key) → (w.next_key ≤ (placed_over o w).next_key) × ((spot_over number w.next_key o).key < (placed_over o w).next_key)
keys_over None number w h = (omega arith, omega arith)
keys_over (Some x) number w h = keys_if (nat_lt 0 x.place) number x w (h x refl)

number_if : (b : Bool) (slot key : ℕ) (x : Spot) → (spot_if b slot key x).number ≡ slot
number_if true slot key x = refl
number_if false slot key x = refl

number_over : (o : Option Spot) (slot key : ℕ) → (spot_over slot key o).number ≡ slot
number_over None slot key = refl
number_over (Some x) slot key = number_if (nat_lt 0 x.place) slot key x

spot_number : (before : Option ℕ) (slot key : ℕ) (xs : List Spot) → (spot_placed slot key before xs).number ≡ slot
spot_number None slot key xs = refl
spot_number (Some s) slot key xs = number_over (spot_of s xs) slot key

find_all : (P : Spot → Type 0) (p : Spot → Bool) (xs : List Spot) (y : Spot) → AllByRecursion P xs → find p xs ≡ Some y → P y
find_all P p [] y h e = absurd (none_some y e)
find_all P p (x ∷ xs) y h e = found_case (p x) x xs h e (find_all P p xs y h.1)
  where
    found_case : (b : Bool) (x : Spot) (xs : List Spot) → AllByRecursion P (x ∷ xs) → cond b (Some x) (find p xs) ≡ Some y → (find p xs ≡ Some y → P y) → P y
    found_case true x xs h e k = subst P (some_same x y e) h.0
    found_case false x xs h e k = k e

abbrev some_as : (ℕ → ℕ) → Option Spot → Option Spot
some_as f None = None
some_as f (Some x) = Some (spot_as f x)

spot_by : (f : ℕ → ℕ) (n s : ℕ) → ((t : ℕ) → (f t == n) ≡ (t == s)) → (xs : List Spot) → spot_of n (map (spot_as f) xs) ≡ some_as f (spot_of s xs)
spot_by f n s same [] = refl
spot_by f n s same (x ∷ xs) =
    ap (λ (b : Bool). cond b (Some (spot_as f x)) (spot_of n (map (spot_as f) xs))) (same x.number)
    ∙ ap (λ (o : Option Spot). cond (x.number == s) (Some (spot_as f x)) o) (spot_by f n s same xs)
    ∙ cond_as (x.number == s) f x (spot_of s xs)
  where
    cond_as : (b : Bool) (f : ℕ → ℕ) (x : Spot) (o : Option Spot) → cond b (Some (spot_as f x)) (some_as f o) ≡ some_as f (cond b (Some x) o)
    cond_as true f x o = refl
    cond_as false f x o = refl

if_as : (b : Bool) (f g : ℕ → ℕ) (slot next key : ℕ) (x : Spot) → g slot ≡ next → spot_if b next key (spot_as f x) ≡ spot_as g (spot_if b slot key x)
if_as true f g slot next key x e = ap (λ (k : ℕ). let y : Spot = record { number = k; key = x.key; place = x.place - 1 } in y) (sym e)
if_as false f g slot next key x e = ap (λ (k : ℕ). let y : Spot = record { number = k; key = key; place = 7 } in y) (sym e)

over_as : (o : Option Spot) (f g : ℕ → ℕ) (slot next key : ℕ) → g slot ≡ next → spot_over next key (some_as f o) ≡ spot_as g (spot_over slot key o)
over_as None f g slot next key e = ap (λ (k : ℕ). let y : Spot = record { number = k; key = key; place = 7 } in y) (sym e)
over_as (Some x) f g slot next key e = if_as (nat_lt 0 x.place) f g slot next key x e

keys_as : (f : ℕ → ℕ) (key : ℕ) (xs : List Spot) → KeysBelow key xs → KeysBelow key (map (spot_as f) xs)
keys_as f key [] h = tt
keys_as f key (x ∷ xs) h = (h.0, keys_as f key xs h.1)

keys_more : (a b : ℕ) → a ≤ b → (xs : List Spot) → KeysBelow a xs → KeysBelow b xs
keys_more a b l [] h = tt
keys_more a b l (x ∷ xs) h = (let k = h.0 in omega (arith, k), keys_more a b l xs h.1)

keys_placed : (before : Option ℕ) (number : ℕ) (w : World) → KeysBelow w.next_key w.spots → (w.next_key ≤ (placed before w).next_key) × ((spot_placed number w.next_key before w.spots).key < (placed before w).next_key)
keys_placed None number w h = (omega arith, omega arith)
keys_placed (Some n) number w h = keys_over (spot_of n w.spots) number w (λ x e. find_all (λ (y : Spot). y.key < w.next_key) (λ (y : Spot). y.number == n) w.spots x h e)

rising_more : (es : List Entry) (number slot : ℕ) → IsRising es → AllByRecursion (λ (e : Entry). e.number < number) es → IsRising (es ++ record { number = number; slot = slot } ∷ [])
rising_more [] number slot h k = (tt, tt)
rising_more (e ∷ es) number slot h k = (all_append (λ (f : Entry). e.number < f.number) es (record { number = number; slot = slot } ∷ []) h.0 (k.0, tt), rising_more es number slot h.1 k.1)

more_below : (next : ℕ) (e : Entry) → e.number < next → e.number < next + 1
more_below next e h = omega (arith, h)

pub index_rising : (next slot : ℕ) (es : List Entry) → IsRising es → AllByRecursion (λ (e : Entry). e.number < next) es → IsRising (es ++ record { number = next; slot = slot } ∷ [])
index_rising next slot es h k = rising_more es next slot h k

pub index_below : (next slot : ℕ) (es : List Entry) → AllByRecursion (λ (e : Entry). e.number < next) es → AllByRecursion (λ (e : Entry). e.number < next + 1) (es ++ record { number = next; slot = slot } ∷ [])
index_below next slot es k = all_append (λ (e : Entry). e.number < next + 1) es (record { number = next; slot = slot } ∷ []) (all_more (λ (e : Entry). e.number < next) (λ (e : Entry). e.number < next + 1) (more_below next) es k) (omega arith, tt)

pub index_above : (next slot : ℕ) (es : List Entry) → 0 < next → AllByRecursion (λ (e : Entry). 0 < e.number) es → AllByRecursion (λ (e : Entry). 0 < e.number) (es ++ record { number = next; slot = slot } ∷ [])
index_above next slot es p k = all_append (λ (e : Entry). 0 < e.number) es (record { number = next; slot = slot } ∷ []) k (p, tt)

module _ (at new : ℕ → Option Node) (m : Marks) (slot : ℕ) (form : FormCase) (k : AreNumbered at m) (free : at slot ≡ None) (here : new slot ≡ Some (record { number = record { 0 = m.next }; form = form })) (others : KeepsOthers at new slot) where
  pub number_here : number_at new slot ≡ Some m.next
  number_here = ap number_of here

  number_none : number_at at slot ≡ None
  number_none = ap number_of free

  pub other_number : (s : ℕ) → s ≢ slot → number_at new s ≡ number_at at s
  other_number s d = ap number_of (others s d)

  pub not_slot : (s : ℕ) → IsSome (number_at at s) → s ≢ slot
  not_slot s h p = false≢true (subst (λ (o : Option ℕ). IsSome o) (ap (number_at at) p ∙ number_none) h)

  some_still : (s : ℕ) → IsSome (number_at at s) → IsSome (number_at new s)
  some_still s h = subst (λ (o : Option ℕ). IsSome o) (sym (other_number s (not_slot s h))) h

  -- the new node has the next number
  pub is_next : (s n : ℕ) → s ≡ slot → number_at new s ≡ Some n → n ≡ m.next
  is_next s n p h = some_same n m.next (sym h ∙ ap (number_at new) p ∙ number_here)

  pub built_low : slot < m.slots → (s : ℕ) → IsSome (number_at new s) → s < m.slots
  built_low within s h = elim (cases_eq s slot) [
    | inl p ↦ omega (arith, p, within)
    | inr d ↦ k.low s (subst (λ (o : Option ℕ). IsSome o) (other_number s d) h)
  ]

  pub built_each : slot < length m.numbers.items → (s : ℕ) → s < m.slots → slice_index_or (slice_set m.numbers.items slot m.next) s 0 ≡ unwrap_or (number_at new s) 0
  built_each within s low = elim (cases_eq s slot) [
    | inl p ↦ ap (λ (j : ℕ). slice_index_or (slice_set m.numbers.items slot m.next) j 0) p ∙ get_or-set_same m.numbers.items slot m.next 0 within ∙ ap (λ (o : Option ℕ). unwrap_or o 0) (sym number_here ∙ ap (number_at new) (sym p))
    | inr d ↦ get_or-set_other m.numbers.items slot s m.next 0 d ∙ k.each s low ∙ ap (λ (o : Option ℕ). unwrap_or o 0) (sym (other_number s d))
  ]

  pub built_given : (s n : ℕ) → number_at new s ≡ Some n → (0 < n) × (n < m.next + 1)
  built_given s n h = elim (cases_eq s slot) [
    | inl p ↦ (let e = is_next s n p h in (let f = k.first in omega (arith, e, f), omega (arith, e)))
    | inr d ↦ (let b = k.given s n (sym (other_number s d) ∙ h) in (b.0, omega (arith, b.1)))
  ]

  pub built_indexed : (s n : ℕ) → number_at new s ≡ Some n → slot_in n (m.index.items ++ record { number = m.next; slot = slot } ∷ []) ≡ Some s
  built_indexed s n h = elim (cases_eq s slot) [
    | inl p ↦ ap (λ (j : ℕ). slot_in j (m.index.items ++ record { number = m.next; slot = slot } ∷ [])) (is_next s n p h) ∙ slot_new m.next slot m.index.items k.below ∙ ap (λ (j : ℕ). Some j) (sym p)
    | inr d ↦ slot_more n s m.index.items (record { number = m.next; slot = slot } ∷ []) (k.indexed s n (sym (other_number s d) ∙ h))
  ]

  armable_still : (x : ℕ) → IsArmable at x → IsArmable new x
  armable_still zero h = tt
  armable_still (suc s) h = some_still s h

  pub built_armed : (xs : List ℕ) → AllByRecursion (IsArmable at) xs → AllByRecursion (IsArmable new) xs
  built_armed xs h = all_more (IsArmable at) (IsArmable new) armable_still xs h

  name_live : (s : ℕ) (o : Option ℕ) → number_at at s ≡ o → IsSome o → name_or (m.next + 1 + s) o ≡ name_or (m.next + s) o
  name_live s None e h = absurd (false≢true h)
  name_live s (Some n) e h = refl

  name_still : (s : ℕ) → IsSome (number_at at s) → name_at new (m.next + 1) s ≡ name_at at m.next s
  name_still s h = ap (name_or (m.next + 1 + s)) (other_number s (not_slot s h)) ∙ name_live s (number_at at s) refl h

  event_still : (x : ℕ) → IsArmable at x → event_name new (m.next + 1) x ≡ event_name at m.next x
  event_still zero h = refl
  event_still (suc s) h = name_still s h

  its_name : name_at new (m.next + 1) slot ≡ m.next
  its_name = ap (name_or (m.next + 1 + slot)) number_here

  before_case : (s : ℕ) (o : Option ℕ) (key : ℕ) (xs : List Spot) → number_at at s ≡ o → IsSome o → spot_placed m.next key o (map (spot_as (name_at at m.next)) xs) ≡ spot_as (name_at new (m.next + 1)) (spot_placed slot key (Some s) xs)
  before_case s None key xs e h = absurd (false≢true h)
  before_case s (Some n) key xs e h =
      ap (spot_over m.next key) (spot_by (name_at at m.next) n s same xs)
      ∙ over_as (spot_of s xs) (name_at at m.next) (name_at new (m.next + 1)) slot m.next key its_name
    where
      named : name_at at m.next s ≡ n
      named = ap (name_or (m.next + s)) e

      down : (t : ℕ) → suc t ≡ suc s → t ≡ s
      down t h = omega (arith, h)

      same : (t : ℕ) → (name_at at m.next t == n) ≡ (t == s)
      same t = elim (cases_eq t s) [
        | inl p ↦ equal_yes (name_at at m.next t) n (ap (name_at at m.next) p ∙ named) ∙ sym (equal_yes t s p)
        | inr d ↦ equal_not (name_at at m.next t) n (λ q. d (down t (apart_events at m k (suc t) (suc s) (q ∙ sym named)))) ∙ sym (equal_not t s d)
      ]

  before_placed : (before : Option ℕ) (key : ℕ) (xs : List Spot) → ((s : ℕ) → before ≡ Some s → IsSome (number_at at s)) → spot_placed m.next key (name_before at before) (map (spot_as (name_at at m.next)) xs) ≡ spot_as (name_at new (m.next + 1)) (spot_placed slot key before xs)
  before_placed None key xs live = ap (λ (j : ℕ). let y : Spot = record { number = j; key = key; place = 7 } in y) (sym its_name)
  before_placed (Some s) key xs live = before_case s (number_at at s) key xs refl (live s refl)

  -- ---- the nodes

  -- what a slot has is the new node, or what it had
  pub slot_case : (P : ℕ → Node → Type 0) → P slot (record { number = record { 0 = m.next }; form = form }) → ((s : ℕ) (other : Node) → s ≢ slot → at s ≡ Some other → P s other) → (s : ℕ) (other : Node) → new s ≡ Some other → P s other
  slot_case P first elsewhere s other h = elim (cases_eq s slot) [
    | inl p ↦ subst (λ (i : ℕ). P i other) (sym p) (subst (λ (y : Node). P slot y) (some_same _ other (sym here ∙ ap new (sym p) ∙ h)) first)
    | inr d ↦ elsewhere s other d (sym (others s d) ∙ h)
  ]

  ring_more : (r : Rings) (h number : ℕ) (branches : List ℕ) → HasRing at r h number branches → HasRing new r h number branches
  ring_more r h number branches ring = record {
    members = ring.members;
    ring = ring.ring;
    apart = ring.apart;
    each = each_of ring.members ring.each;
    named = ring.named ∙ named_same (λ x. unwrap_or (number_at at x) 0) (λ x. unwrap_or (number_at new x) 0) ring.members (all_of ring.members ring.each);
  }
    where
      apart_of : (x : ℕ) → hub_of (at x) ≡ Some number → x ≢ slot
      apart_of x e p = none_some number (sym (ap hub_of free) ∙ ap (λ (i : ℕ). hub_of (at i)) (sym p) ∙ e)

      each_of : (xs : List ℕ) → AllByRecursion (λ x. hub_of (at x) ≡ Some number) xs → AllByRecursion (λ x. hub_of (new x) ≡ Some number) xs
      each_of [] a = tt
      each_of (x ∷ xs) a = (ap hub_of (others x (apart_of x a.0)) ∙ a.0, each_of xs a.1)

      all_of : (xs : List ℕ) → AllByRecursion (λ x. hub_of (at x) ≡ Some number) xs → AllByRecursion (λ x. unwrap_or (number_at new x) 0 ≡ unwrap_or (number_at at x) 0) xs
      all_of [] a = tt
      all_of (x ∷ xs) a = (ap (λ (o : Option ℕ). unwrap_or o 0) (other_number x (apart_of x a.0)), all_of xs a.1)

  pub fresh : IsAbsent at m.next
  fresh s h = let b = k.given s m.next h in absurd (omega (arith, b.1))

  form_same : (n : ℕ) (f : Form) (es fs : List Seen) → form_at n es ≡ Some f → form_at n (es ++ fs) ≡ form_at n es
  form_same n f es fs h = form_there n f es fs h ∙ sym h

  pub nodes_built : (es : List Seen) → next_at m.rings slot ≡ slot → prev_at m.rings slot ≡ slot → HasNodes at m.rings es → HasNodes new m.rings (es ++ record { number = m.next; form = shown [] form } ∷ [])
  nodes_built es alone_next alone_prev has =
      let f = shown [] form in
      let last = record { number = m.next; form = f } ∷ [] in
      let found : form_at m.next (es ++ last) ≡ Some f = form_later m.next es last (has.absent m.next fresh) ∙ form_new m.next f in
      record {
        there = slot_case (λ s other. form_at other.number.0 (es ++ last) ≡ Some (shown (branches_of (form_at other.number.0 (es ++ last))) other.form))
            (found ∙ ap (λ (x : Form). Some x) (sym (branches_shown [] form)) ∙ ap (λ (o : Option Form). Some (shown (branches_of o) form)) (sym found))
            (λ s other d before.
            let same = form_same other.number.0 _ es last (has.there s other before) in
            same ∙ has.there s other before ∙ ap (λ (o : Option Form). Some (shown (branches_of o) other.form)) (sym same));
        absent = λ n h.
            form_later n es last (has.absent n (λ s l. h s (other_number s (not_slot s (is_some_of (number_at at s) n l)) ∙ l)))
            ∙ form_other n m.next f (λ e. h slot (number_here ∙ ap (λ (j : ℕ). Some j) e));
        once = once_more m.next f es has.once (has.absent m.next fresh);
        rings = slot_case (λ s other. is_hub (shown [] other.form) ≡ true → HasRing new m.rings s other.number.0 (branches_of (form_at other.number.0 (es ++ last))))
            (λ t. record { members = []; ring = (alone_next, alone_prev); apart = tt; each = tt; named = ap branches_of found ∙ branches_hub [] form t })
            (λ s other d before t.
            let same = form_same other.number.0 _ es last (has.there s other before) in
            subst (λ (o : Option Form). HasRing new m.rings s other.number.0 (branches_of o)) (sym same) (ring_more m.rings s other.number.0 (branches_of (form_at other.number.0 es)) (has.rings s other before t)));
      }

  -- ---- all but who owns whom

  pub seen_built : (m' : Marks) (q : Events) (sp sp' : List Spot → Type 0) (before : Option ℕ) (w : World) → m'.rings ≡ m.rings → m'.next ≡ m.next + 1 → m'.slots ≡ m.slots → link_number m'.firing ≡ link_number m.firing → link_number m'.awaited ≡ link_number m.awaited
      → next_at m.rings slot ≡ slot → prev_at m.rings slot ≡ slot → ((s : ℕ) → before ≡ Some s → IsSome (number_at at s)) → AllByRecursion (IsArmable at) q.list
      → ((xs : List Spot) (key : ℕ) → sp xs → KeysBelow key xs → sp' (xs ++ spot_placed slot key before xs ∷ [])) → HasMembers m'.numbers.items m'.tasks m'.slots m'.next w.detached → HasMembers m'.numbers.items m'.hubs m'.slots m'.next (hubs_of (w.nodes ++ record { number = m.next; form = shown [] form } ∷ [])) → IsSeen at q sp m w → IsSeen new q sp' m' (built (name_before at before) (shown [] form) w)
  seen_built m' q sp sp' before w rings_are next_is slots_are firing_is awaited_is alone_next alone_prev live armed spots tasks hubs st =
      let f = shown [] form in
      let v = placed (name_before at before) w in
      let same = placed_same (name_before at before) w in
      let number : v.next ≡ m.next = ap (λ (u : World). u.next) same ∙ st.next_is in
      let nodes : (built (name_before at before) f w).nodes ≡ w.nodes ++ record { number = m.next; form = f } ∷ []
      = ap (λ (j : ℕ). v.nodes ++ record { number = j; form = f } ∷ []) number ∙ ap (λ (u : World). u.nodes ++ record { number = m.next; form = f } ∷ []) same in
      let xs = st.spots.by_slot in
      let x = spot_placed slot w.next_key before xs in
      let spots_are : spot_placed w.next w.next_key (name_before at before) w.spots ≡ spot_as (name_at new (m.next + 1)) x
      = ap (λ (j : ℕ). spot_placed j w.next_key (name_before at before) w.spots) st.next_is ∙ ap (λ (l : List Spot). spot_placed m.next w.next_key (name_before at before) l) st.spots.placed ∙ before_placed before w.next_key xs live in
      let keys = keys_placed (name_before at before) w.next w (subst (λ (l : List Spot). KeysBelow w.next_key l) (sym st.spots.placed) (keys_as (name_at at m.next) w.next_key xs st.spots.keys)) in
      record {
        nodes = subst (λ (r : Rings). HasNodes new r (built (name_before at before) f w).nodes) (sym rings_are) (subst (λ (es : List Seen). HasNodes new m.rings es) (sym nodes) (nodes_built w.nodes alone_next alone_prev st.nodes));
        queue = ap (λ (u : World). u.queue) same ∙ st.queue ∙ sym (events_same (event_name at m.next) (event_name new (m.next + 1)) q (all_more (IsArmable at) (λ y. event_name new (m.next + 1) y ≡ event_name at m.next y) event_still q.list armed))
            ∙ ap (λ (j : ℕ). events_as (event_name new j) q) (sym next_is);
        spots = subst (λ (j : ℕ). HasSpots new sp' j (built (name_before at before) f w).spots (built (name_before at before) f w).next_key) (sym next_is) (record {
          by_slot = xs ++ x ∷ [];
          by_store = spots xs w.next_key st.spots.by_store st.spots.keys;
          placed = placed_spots (name_before at before) w
              ∙ ap (λ (y : Spot). w.spots ++ y ∷ []) spots_are
              ∙ ap (λ (l : List Spot). l ++ spot_as (name_at new (m.next + 1)) x ∷ []) (st.spots.placed ∙ map_live (name_at at m.next) (name_at new (m.next + 1)) xs (all_more (λ (y : Spot). IsSome (number_at at y.number)) (λ (y : Spot). name_at new (m.next + 1) y.number ≡ name_at at m.next y.number) (λ y l. name_still y.number l) xs st.spots.live))
              ∙ sym (map_append (spot_as (name_at new (m.next + 1))) xs (x ∷ []));
          live = all_append (λ (y : Spot). IsSome (number_at new y.number)) xs (x ∷ []) (all_more (λ (y : Spot). IsSome (number_at at y.number)) (λ (y : Spot). IsSome (number_at new y.number)) (λ y l. some_still y.number l) xs st.spots.live)
              (is_some_of (number_at new x.number) m.next (ap (number_at new) (spot_number before slot w.next_key xs) ∙ number_here), tt);
          keys = all_append (λ (y : Spot). y.key < v.next_key) xs (x ∷ []) (keys_more w.next_key v.next_key keys.0 xs st.spots.keys) (omega (arith, keys.1, ap (λ (y : Spot). y.key) spots_are), tt);
        });
        next_is = ap (λ (j : ℕ). j + 1) number ∙ sym next_is;
        slots_are = ap (λ (u : World). u.limits.slots) same ∙ st.slots_are ∙ sym slots_are;
        firing_is = ap (λ (u : World). u.firing) same ∙ st.firing_is ∙ sym firing_is;
        awaited_is = ap (λ (u : World). awaited_root u.awaited) same ∙ st.awaited_is ∙ sym awaited_is;
        tasks = subst (λ (l : List ℕ). HasMembers m'.numbers.items m'.tasks m'.slots m'.next l) (ap (λ (u : World). u.detached) (sym same)) tasks;
        hubs = subst (λ (es : List Seen). HasMembers m'.numbers.items m'.hubs m'.slots m'.next (hubs_of es)) (sym nodes) hubs;
      }

live_case : (o : Option Node) → IsSome o → IsSome (number_of o)
live_case None h = absurd (false≢true h)
live_case (Some node) h = refl

pub number_live : (at : ℕ → Option Node) (s : ℕ) → IsSome (at s) → IsSome (number_at at s)
number_live at s h = live_case (at s) h
