-- What a world keeps it keeps over a free: hubs, the record, room, the queue and the spots.
use Rattle.std.proofs.Common.{◌≡◌, ℕ, ◌+◌, ◌<◌, ◌≤◌, List, [], ◌∷◌, ◌++◌, length, Bool, true, false, not, cond, Option, None, Some, arith, refl, sym, ap, ◌∙◌, subst, ◌&&◌, ◌==◌}
use Rattle.std.specs.Prelude.{map, filter, nat_eq, nat_lt, is_some}
use Rattle.std.proofs.lemmas.Bool.{false≢true, or_parts}
use Rattle.std.proofs.lemmas.Bool.Decides.{nat_tests}
use Rattle.kj_base.specs.Record.{Item, Free, Run}
use Rattle.kj_base.specs.Queue.{IsQueue, Events}
use Rattle.kj_base.specs.declared.numbers.Limits.{Limits}
use Rattle.kj_model.specs.Nodes.{Entry, Form, Content, Hub, form_at, parts_at, parts_found, is_in}
use Rattle.kj_model.specs.World.{State, Held, Spot}
use Rattle.kj_model.specs.Changes.{frees_in}
use Rattle.kj_model.specs.Free.{Guard, free_to}
use Rattle.kj_model.specs.Trees.{none_if, AreApart}
use Rattle.kj_ownership.specs.Owners.{is_live, owns, is_hub_form}
use Rattle.kj_model.specs.Falling.{is_branch_of, branches_staying, some_staying, falling}
use Rattle.std.specs.List.{list_any}
use Rattle.kj_model.specs.Owned.{numbers, is_hub_name, is_run_of, IsInOrder}
use Rattle.kj_model.specs.Framed.{times, total, NamesApart}
use Rattle.kj_ownership.specs.Standing.{one_if, owned_times, HubsCount, IsRecorded, is_event, Below, Standing}
use Rattle.kj_model.proofs.Freed.{or_false}
use Rattle.kj_model.proofs.Spared.{no_form, same_number}
use Rattle.kj_model.specs.Framed.{FreedBy}
use Rattle.kj_model.proofs.Falling.{node_frees, gone_freed}
use Rattle.kj_model.specs.Changes.{gone}
use Rattle.kj_model.proofs.Members.{in_one, in_self}
use Rattle.kj_model.proofs.Once.{both_ways, false_by}
use Rattle.kj_model.proofs.Counts.{times_app}
use Rattle.kj_ownership.proofs.Flat.{Goes, Open, Comes, node_goes, live_number}
use Rattle.kj_ownership.proofs.Events.{all_keep, all_in}
use Rattle.kj_ownership.proofs.Stays.{out_times, in_times, live_after, placed_stays, places_one, none_out, roots_stay, parts_after}

-- a filter and counts
times_cond : (m x : ℕ) (b : Bool) (xs ys : List ℕ) (p : Bool) → (nat_eq x m ≡ true → b ≡ p) → times m ys ≡ cond p (times m xs) 0 → times m (cond b (x ∷ ys) ys) ≡ cond p (times m (x ∷ xs)) 0
times_cond m x true xs ys true e h = omega (arith, h)
times_cond m x false xs ys false e h = h
times_cond m x true xs ys false e h = let d : nat_eq x m ≡ false = false_by (nat_eq x m) (λ i. false≢true (sym (e i))) in grind (arith, nat_tests)
times_cond m x false xs ys true e h = let d : nat_eq x m ≡ false = false_by (nat_eq x m) (λ i. false≢true (e i)) in grind (arith, nat_tests)

pub times_filter : (p : ℕ → Bool) (m : ℕ) (xs : List ℕ) → times m (filter p xs) ≡ cond (p m) (times m xs) 0
times_filter p m [] = nothing (p m)
  where
    nothing : (b : Bool) → ◌≡◌ {A = ℕ} 0 (cond b 0 0)
    nothing true = refl
    nothing false = refl
times_filter p m (x ∷ xs) = times_cond m x (p x) xs (filter p xs) (p m) (λ e. ap p (sym (same_number x m e))) (times_filter p m xs)

-- a hub that stays, before
pub record HubBefore (c : Bool) (out : ℕ → Bool) (h : ℕ) (nodes : List Entry) (o : Option Form) (content : Content) (is_named : Bool) (branches : List ℕ) : Type 0 where
  pub old : List ℕ
  pub stays : c ≡ false
  pub form : o ≡ Some (Hub content is_named old)
  pub less : branches ≡ branches_staying out h nodes old

abbrev branches_in : Option Form → List ℕ
branches_in (Some (Hub content is_named branches)) = branches
branches_in other = []

abbrev content_in : Option Form → Content → Content
content_in (Some (Hub content is_named branches)) d = content
content_in other d = d

abbrev named_in : Option Form → Bool
named_in (Some (Hub content is_named branches)) = is_named
named_in other = false

hub_before : (c : Bool) (out : ℕ → Bool) (h : ℕ) (nodes : List Entry) (o : Option Form) (content : Content) (is_named : Bool) (branches : List ℕ) → none_if c (some_staying out h nodes o) ≡ Some (Hub content is_named branches) → HubBefore c out h nodes o content is_named branches
hub_before true out h nodes o content is_named branches e = absurd (no_form (Hub content is_named branches) e)
hub_before false out h nodes None content is_named branches e = absurd (no_form (Hub content is_named branches) e)
hub_before false out h nodes (Some (Hub d n bs)) content is_named branches e = record {
  old = bs;
  stays = refl;
  form = (λ i. Some (Hub (content_in (e i) content) (named_in (e i)) bs));
  less = sym (ap branches_in e);
}
hub_before false out h nodes (Some _) content is_named branches e = absurd (false≢true (ap is_hub_form e))

branch_after : (c : Bool) (out : ℕ → Bool) (n h : ℕ) (nodes : List Entry) (o : Option Form) → is_branch_of h (none_if c (some_staying out n nodes o)) ≡ (not c && is_branch_of h o)
branch_after true out n h nodes o = refl
branch_after false out n h nodes None = refl
branch_after false out n h nodes (Some (Hub content is_named branches)) = refl
branch_after false out n h nodes (Some _) = refl

left_count : (c r : Bool) (t : ℕ) → t ≡ one_if r → cond (not (c && r)) t 0 ≡ one_if (not c && r)
left_count true true t e = refl
left_count true false t e = e
left_count false r t e = e

pub hubs_stay : (ns out : List ℕ) (s t : State) → FreedBy ns s t → NamesApart s.world.names → HubsCount out [] s.world → HubsCount out [] t.world
hubs_stay ns out s t f apart hubs = record {
  name = λ h content is_named branches at.
      let b = hub_before (is_in h ns) (λ b. is_in b ns) h s.world.nodes (form_at h s.world.nodes) content is_named branches (sym (f.forms h) ∙ at) in
      ap (λ k. k + times h out) (f.frame.held apart (λ (x : Held). one_if (is_hub_name h x)) (λ ws. refl)) ∙ hubs.name h content is_named b.old b.form;
  branches = λ h content is_named branches at m.
      let b = hub_before (is_in h ns) (λ b. is_in b ns) h s.world.nodes (form_at h s.world.nodes) content is_named branches (sym (f.forms h) ∙ at) in
      none_out (is_branch_of h (form_at m t.world.nodes)) (times m branches)
      ∙ ap (times m) b.less
      ∙ times_filter (λ x. not (is_in x ns && is_branch_of h (form_at x s.world.nodes))) m b.old
      ∙ left_count (is_in m ns) (is_branch_of h (form_at m s.world.nodes)) (times m b.old) (sym (none_out (is_branch_of h (form_at m s.world.nodes)) (times m b.old)) ∙ hubs.branches h content is_named b.old b.form m)
      ∙ ap one_if (sym (ap (is_branch_of h) (f.forms m) ∙ branch_after (is_in m ns) (λ x. is_in x ns) m h s.world.nodes (form_at m s.world.nodes)));
}

-- the record
frees_app : (xs : List Item) (ns : List ℕ) → frees_in (xs ++ map Free ns) ≡ frees_in xs ++ ns
frees_app [] [] = refl
frees_app [] (n ∷ ns) = ap (λ ms. n ∷ ms) (frees_app [] ns)
frees_app (Free n ∷ xs) ns = ap (λ ms. n ∷ ms) (frees_app xs ns)
frees_app (Run n step input action ∷ xs) ns = frees_app xs ns

apart_more : (m x : ℕ) (xs : List ℕ) → is_in x xs ≡ false → times m xs ≡ one_if (is_in m xs) → times m (x ∷ xs) ≡ one_if (is_in m (x ∷ xs))
apart_more m x xs a h = decide (nat_eq x m) refl
  where
    decide : (b : Bool) → nat_eq x m ≡ b → times m (x ∷ xs) ≡ one_if (is_in m (x ∷ xs))
    decide true e =
        let none : is_in m xs ≡ false = subst (λ (y : ℕ). is_in y xs ≡ false) (sym (same_number x m e)) a in
        let zero_times = out_times m xs none in
        grind (arith, nat_tests)
    decide false e = grind (arith, nat_tests)

pub apart_times : (m : ℕ) (ns : List ℕ) → AreApart ns → times m ns ≡ one_if (is_in m ns)
apart_times m [] a = refl
apart_times m (x ∷ xs) a = apart_more m x xs a.0 (apart_times m xs a.1)

count_moves : (b c : Bool) (a r : ℕ) → a + r ≡ one_if c → (b ≡ true → 1 ≤ a) → cond (not b) a 0 + (r + one_if b) ≡ one_if c
count_moves true true a r h k = let l = k refl in omega (arith, h, l)
count_moves true false a r h k = let l = k refl in omega (arith, h, l)
count_moves false true a r h k = omega (arith, h)
count_moves false false a r h k = omega (arith, h)

pub recorded_stays : (ns ts path : List ℕ) (s t : State) → FreedBy ns s t → Goes s.world path [] ts ns → IsRecorded s → IsRecorded t
recorded_stays ns ts path s t f g rec m =
    let a : times m (numbers t.world.nodes) ≡ cond (not (is_in m ns)) (times m (numbers s.world.nodes)) 0 = ap (times m) f.frame.numbers ∙ times_filter (λ n. not (is_in n ns)) m (numbers s.world.nodes) in
    let b : times m (frees_in t.past) ≡ times m (frees_in s.past) + one_if (is_in m ns) = ap (λ xs. times m (frees_in xs)) f.told ∙ ap (times m) (frees_app s.past ns) ∙ times_app m (frees_in s.past) ns ∙ ap (λ k. times m (frees_in s.past) + k) (apart_times m ns g.apart) in
    (λ i. a i + b i)
    ∙ count_moves (is_in m ns) (nat_lt 0 m && nat_lt m s.world.next) (times m (numbers s.world.nodes)) (times m (frees_in s.past)) (rec m) (λ i. in_times m (numbers s.world.nodes) (live_number m s.world.nodes (g.live m i)))
    ∙ ap (λ k. one_if (nat_lt 0 m && nat_lt m k)) (sym f.frame.same.next)

-- room
shorter_more : (x : ℕ) (b : Bool) (xs ys : List ℕ) → length ys ≤ length xs → length (cond b (x ∷ ys) ys) ≤ length (x ∷ xs)
shorter_more x true xs ys h = omega (arith, h)
shorter_more x false xs ys h = omega (arith, h)

shorter : (p : ℕ → Bool) (xs : List ℕ) → length (filter p xs) ≤ length xs
shorter p [] = omega arith
shorter p (x ∷ xs) = shorter_more x (p x) xs (filter p xs) (shorter p xs)

length_numbers : (es : List Entry) → length (numbers es) ≡ length es
length_numbers [] = refl
length_numbers (e ∷ es) = let h = length_numbers es in omega (arith, h)

pub room_stays : (ns : List ℕ) (s t : State) → FreedBy ns s t → length s.world.nodes ≤ s.world.limits.slots → length t.world.nodes ≤ t.world.limits.slots
room_stays ns s t f h =
    let a = length_numbers t.world.nodes in
    let b = length_numbers s.world.nodes in
    let c : length (numbers t.world.nodes) ≡ length (filter (λ n. not (is_in n ns)) (numbers s.world.nodes)) = ap length f.frame.numbers in
    let d = shorter (λ n. not (is_in n ns)) (numbers s.world.nodes) in
    let e : t.world.limits.slots ≡ s.world.limits.slots = ap (λ (l : Limits). l.slots) f.limits in
    omega (arith, a, b, c, d, e, h)

-- the queue
pub queued_stays : (ns : List ℕ) (s t : State) → FreedBy ns s t → IsQueue s.world.queue → ((e : ℕ) → is_in e s.world.queue.list ≡ true → is_event s.world e ≡ true) → (e : ℕ) → is_in e t.world.queue.list ≡ true → is_event t.world e ≡ true
queued_stays ns s t f q h e i =
    let r = all_in ns e s.world.queue q (subst (λ (xs : Events). is_in e xs.list ≡ true) f.frame.queue i) in
    stand (e == 0) r.1 (h e r.0)
  where
    stand : (b : Bool) → is_in e ns ≡ false → cond b (is_some s.world.awaited) (is_live e s.world.nodes) ≡ true → cond b (is_some t.world.awaited) (is_live e t.world.nodes) ≡ true
    stand true o m = ap is_some f.frame.same.awaited ∙ m
    stand false o m = live_after ns s t e f o m

pub spots_stay : (ns : List ℕ) (s t : State) → FreedBy ns s t → map (λ (x : Spot). x.number) s.world.spots ≡ numbers s.world.nodes → map (λ (x : Spot). x.number) t.world.spots ≡ numbers t.world.nodes
spots_stay ns s t f h = ap (map (λ (x : Spot). x.number)) f.frame.spots ∙ spot_numbers s.world.spots ∙ ap (filter (λ n. not (is_in n ns))) h ∙ sym f.frame.numbers
  where
    one_spot : (x : Spot) (b : Bool) (xs : List Spot) (ys : List ℕ) → map (λ (y : Spot). y.number) xs ≡ ys → map (λ (y : Spot). y.number) (cond b (x ∷ xs) xs) ≡ cond b (x.number ∷ ys) ys
    one_spot x true xs ys h = ap (λ zs. x.number ∷ zs) h
    one_spot x false xs ys h = h

    spot_numbers : (xs : List Spot) → map (λ (y : Spot). y.number) (filter (λ (x : Spot). not (is_in x.number ns)) xs) ≡ filter (λ n. not (is_in n ns)) (map (λ (y : Spot). y.number) xs)
    spot_numbers [] = refl
    spot_numbers (x ∷ xs) = one_spot x (not (is_in x.number ns)) (filter (λ (y : Spot). not (is_in y.number ns)) xs) (filter (λ n. not (is_in n ns)) (map (λ (y : Spot). y.number) xs)) (spot_numbers xs)

-- numbers from the next on
less_sum : (f g : ℕ → ℕ) (p : ℕ → Bool) (xs : List ℕ) → ((x : ℕ) → f x ≤ g x) → total f (filter p xs) ≤ total g xs
less_sum f g p [] h = omega arith
less_sum f g p (x ∷ xs) h = one_more (p x) (h x) (less_sum f g p xs h)
  where
    one_more : (b : Bool) → f x ≤ g x → total f (filter p xs) ≤ total g xs → total f (cond b (x ∷ filter p xs) (filter p xs)) ≤ total g (x ∷ xs)
    one_more true a c = omega (arith, a, c)
    one_more false a c = omega (arith, c)

less_times : (n : ℕ) (c : Bool) (o : Option Form) → times n (parts_found (none_if c o)) ≤ times n (parts_found o)
less_times n true o = omega arith
less_times n false o = omega arith

owned_less : (ns : List ℕ) (s t : State) (n : ℕ) → FreedBy ns s t → owned_times n t.world.nodes ≤ owned_times n s.world.nodes
owned_less ns s t n f =
    let a : owned_times n t.world.nodes ≡ total (λ q. times n (parts_at q t.world.nodes)) (filter (λ m. not (is_in m ns)) (numbers s.world.nodes)) = ap (total (λ q. times n (parts_at q t.world.nodes))) f.frame.numbers in
    let b = less_sum (λ q. times n (parts_at q t.world.nodes)) (λ q. times n (parts_at q s.world.nodes)) (λ m. not (is_in m ns)) (numbers s.world.nodes) (λ q. subst (λ (ps : List ℕ). times n ps ≤ times n (parts_at q s.world.nodes)) (sym (parts_after ns s t q f)) (less_times n (is_in q ns) (form_at q s.world.nodes))) in
    omega (arith, a, b)

and_false : (a b : Bool) → b ≡ false → (not a && b) ≡ false
and_false true b h = refl
and_false false b h = h

below_stays : (ns more loose out : List ℕ) (s t : State) → FreedBy ns s t → NamesApart s.world.names → ((m : ℕ) → times m loose ≤ times m more) → Below more out s.world → Below loose out t.world
below_stays ns more loose out s t f apart less b =
    let next = f.frame.same.next in
    record {
      positive = subst (λ k. 0 < k) (sym next) b.positive;
      places = λ n h.
          let k = subst (λ k. k ≤ n) next h in
          let p = b.places n k in
          let q = less n in
          let r = roots_stay ns s t n f apart in
          let o = owned_less ns s t n f in
          omega (arith, p, q, r, o);
      names = λ n h. ap (λ k. k + times n out) (f.frame.held apart (λ (x : Held). one_if (is_hub_name n x)) (λ ws. refl)) ∙ b.names n (subst (λ k. k ≤ n) next h);
      branches = λ n m h. ap (is_branch_of n) (f.forms m) ∙ branch_after (is_in m ns) (λ x. is_in x ns) m n s.world.nodes (form_at m s.world.nodes) ∙ and_false (is_in m ns) (is_branch_of n (form_at m s.world.nodes)) (b.branches n m (subst (λ k. k ≤ n) next h));
    }

-- the order of runs and frees
none_run : (n : ℕ) (xs : List Item) (ns : List ℕ) → list_any (is_run_of n) xs ≡ false → list_any (is_run_of n) (xs ++ map Free ns) ≡ false
none_run n [] [] h = refl
none_run n [] (m ∷ ns) h = none_run n [] ns h
none_run n (Free m ∷ xs) ns h = none_run n xs ns h
none_run n (Run m step input action ∷ xs) ns h = let p = or_parts (m == n) (list_any (is_run_of n) xs) h in or_false (m == n) (list_any (is_run_of n) (xs ++ map Free ns)) p.0 (none_run n xs ns p.1)

pub order_stays : (xs : List Item) (ns : List ℕ) → IsInOrder xs → IsInOrder (xs ++ map Free ns)
order_stays [] [] h = tt
order_stays [] (n ∷ ns) h = (none_run n [] ns refl, order_stays [] ns tt)
order_stays (Free n ∷ xs) ns h = (none_run n xs ns h.0, order_stays xs ns h.1)
order_stays (Run n step input action ∷ xs) ns h = order_stays xs ns h

-- all of it, over the free of a node whose owners stand on a path of nodes that stay
pub standing_frees : (guard : Guard) (k n : ℕ) (more loose out path : List ℕ) (s : State) → Standing more out [] s → Open guard s.world [] [] path → (is_live n s.world.nodes ≡ true → Comes guard s.world [] path n) → length s.world.nodes < k
    → ((m : ℕ) → (m ≡ n → ⊥) → times m more ≡ times m loose) → ((m : ℕ) → times m loose ≤ times m more) → Standing loose out [] (free_to guard k n s)
standing_frees guard k n more loose out path s st opens come fuel same less =
    let ns = falling guard s.world k [] [] n in
    let t = free_to guard k n s in
    let f = node_frees guard k n s in
    let g = node_goes guard s.world k (places_one more out s.world st.placed st.hubs) [] [] path n opens come (omega (arith, fuel)) in
    record {
      placed = placed_stays ns (n ∷ []) path more loose s t f g st.names (λ m off live. same m (λ e. both_ways (is_in m ns) (g.took m (subst (λ (y : ℕ). is_in y (n ∷ []) ≡ true) (sym e) (in_self n [])) live) off)) st.placed;
      names = λ c. let e = f.frame.names st.names c in let a = st.names c in omega (arith, e, a);
      hubs = hubs_stay ns out s t f st.names st.hubs;
      below = below_stays ns more loose out s t f st.names less st.below;
      recorded = recorded_stays ns (n ∷ []) path s t f g st.recorded;
      in_order = subst IsInOrder (sym f.told) (order_stays s.past ns st.in_order);
      room = room_stays ns s t f st.room;
      queue = subst IsQueue (sym f.frame.queue) (all_keep ns s.world.queue st.queue);
      queued = queued_stays ns s t f st.queue st.queued;
      spots = spots_stay ns s t f st.spots;
    }

-- the same, of any change that takes these nodes away
pub freed_standing : (ns ts path more loose out : List ℕ) (s t : State) → FreedBy ns s t → Goes s.world path [] ts ns → ((m : ℕ) → is_in m ns ≡ false → times m more ≡ times m loose) → ((m : ℕ) → times m loose ≤ times m more) → Standing more out [] s → Standing loose out [] t
freed_standing ns ts path more loose out s t f g same less st = record {
  placed = placed_stays ns ts path more loose s t f g st.names (λ m off live. same m off) st.placed;
  names = λ c. let e = f.frame.names st.names c in let a = st.names c in omega (arith, e, a);
  hubs = hubs_stay ns out s t f st.names st.hubs;
  below = below_stays ns more loose out s t f st.names less st.below;
  recorded = recorded_stays ns ts path s t f g st.recorded;
  in_order = subst IsInOrder (sym f.told) (order_stays s.past ns st.in_order);
  room = room_stays ns s t f st.room;
  queue = subst IsQueue (sym f.frame.queue) (all_keep ns s.world.queue st.queue);
  queued = queued_stays ns s t f st.queue st.queued;
  spots = spots_stay ns s t f st.spots;
}

-- one node goes that stands nowhere, none of whose parts lives
pub gone_standing : (n : ℕ) (loose out : List ℕ) (s : State) → ((m : ℕ) → is_branch_of m (form_at n s.world.nodes) ≡ false) → is_live n s.world.nodes ≡ true → ((p : ℕ) → owns n p s.world.nodes ≡ true → is_live p s.world.nodes ≡ false) → Standing (n ∷ loose) out [] s → Standing loose out [] (gone n s)
gone_standing n loose out s plain live dead st = freed_standing (n ∷ []) (n ∷ []) [] (n ∷ loose) loose out s (gone n s) (gone_freed n s plain)
    (record {
      apart = (refl, tt);
      new = λ m i. refl;
      fresh = λ m i. refl;
      live = λ m i. subst (λ (y : ℕ). is_live y s.world.nodes ≡ true) (in_one m n i) live;
      closed = λ q p i own p_live. absurd (both_ways (is_live p s.world.nodes) p_live (dead p (subst (λ (y : ℕ). owns y p s.world.nodes ≡ true) (sym (in_one q n i)) own)));
      took = λ m i l. i;
    })
    (λ m off. head_off m n (times m loose) off) (λ m. omega arith) st
  where
    head_off : (m n t : ℕ) → is_in m (n ∷ []) ≡ false → cond (n == m) 1 0 + t ≡ t
    head_off m n t e = grind (arith, nat_tests)
