-- Closing frees each live node, once.
use Rattle.std.proofs.Common.{◌≡◌, ◌⊎◌, inl, inr, ℕ, ◌+◌, ◌≤◌, List, [], ◌∷◌, ◌++◌, Bool, true, false, cond, Option, None, Some, arith, refl, sym, ap, ◌∙◌, subst, ◌&&◌, ◌==◌}
use Rattle.std.specs.Prelude.{nat_eq, nat_lt, is_some, reverse}
use Rattle.std.proofs.lemmas.Bool.{false≢true}
use Rattle.std.proofs.lemmas.Bool.Decides.{nat_tests}
use Rattle.kj_model.specs.Nodes.{Entry, Form, Hub, form_at, parts_at, is_in}
use Rattle.kj_model.specs.World.{World, State, Named, Held, Promise, CellOf, AskCell, HubOf, Group, Canceler, RequestOf, Awaited, held_at, depth_of}
use Rattle.kj_model.specs.Changes.{silent, unnamed, without_name, frees_in, put}
use Rattle.kj_model.specs.Free.{Guard, Holding, Every, free, free_to, each_freed, reference_gone, free_unreferenced, free_unless, is_guarded}
use Rattle.kj_model.specs.Effects.{hub_unnamed, hub_unnamed_in}
use Rattle.kj_model.specs.Calls.{close, hubs_closed, detached_closed, names_closed, left_over_closed, each_closed, closed_held, hubs_of}
use Rattle.kj_model.specs.Falling.{falling}
use Rattle.kj_model.specs.Owned.{numbers, held_roots, name_roots, awaited_roots, tree_roots}
use Rattle.kj_ownership.specs.Owners.{is_live, owns, is_hub_form}
use Rattle.kj_model.specs.Framed.{times, total, name_numbers, NamesApart, stripped}
use Rattle.kj_ownership.specs.Standing.{one_if, owned_times, Climbs, Standing, Owned}
use Rattle.kj_model.proofs.Spared.{same_number}
use Rattle.kj_model.proofs.Members.{in_either, in_left, in_right, in_one, in_self, in_none}
use Rattle.kj_model.proofs.Once.{both_ways, false_by}
use Rattle.kj_model.proofs.Falling.{node_frees}
use Rattle.kj_ownership.proofs.Flat.{Comes, live_number}
use Rattle.kj_ownership.proofs.Stays.{unowned, hub_unowned, live_before, roots_stay, hub_stays, roots_app, out_times, in_times, owner_live}
use Rattle.kj_ownership.proofs.Kept.{standing_frees}
use Rattle.kj_ownership.proofs.Climb.{none_open, root_goes}
use Rattle.kj_model.proofs.Counts.{times_app, without_times, held_without, none_first}
use Rattle.kj_ownership.proofs.Commands.{fuel_for, unnamed_hub, free_loose, each_loose}
use Rattle.std.proofs.lemmas.Grind.{reverse_onto}
use Rattle.kj_ownership.proofs.Changed.{unnamed_standing, held_hubs, at_put}
use Rattle.kj_ownership.proofs.Moves.{number_live}
use Rattle.kj_ownership.proofs.Hubs.{hub_unnamed_standing, reference_standing}

-- from one state to a later one of the closing: no node comes to life, hubs stay hubs, and no place but a name's is taken away
pub record Down (s t : State) : Type 0 where
  pub dead : (m : ℕ) → is_live m t.world.nodes ≡ true → is_live m s.world.nodes ≡ true
  pub hub : (m : ℕ) → is_live m t.world.nodes ≡ true → is_hub_form (form_at m t.world.nodes) ≡ is_hub_form (form_at m s.world.nodes)
  pub awaited : t.world.awaited ≡ s.world.awaited
  pub left_over : t.world.left_over ≡ s.world.left_over
  pub detached : t.world.detached ≡ s.world.detached
  pub next : t.world.next ≡ s.world.next

down_refl : (s : State) → Down s s
down_refl s = record { dead = λ m l. l; hub = λ m l. refl; awaited = refl; left_over = refl; detached = refl; next = refl }

down_both : (s t u : State) → Down s t → Down t u → Down s u
down_both s t u a b = record { dead = λ m l. a.dead m (b.dead m l); hub = λ m l. b.hub m l ∙ a.hub m (b.dead m l); awaited = b.awaited ∙ a.awaited; left_over = b.left_over ∙ a.left_over; detached = b.detached ∙ a.detached; next = b.next ∙ a.next }

down_free : (guard : Guard) (k n : ℕ) (s : State) → Down s (free_to guard k n s)
down_free guard k n s =
    let ns = falling guard s.world k [] [] n in
    let f = node_frees guard k n s in
    record {
      dead = λ m l. (live_before ns s (free_to guard k n s) m f l).1;
      hub = λ m l. ap is_hub_form (f.forms m) ∙ hub_stays (is_in m ns) (λ b. is_in b ns) m s.world.nodes (form_at m s.world.nodes) (live_before ns s (free_to guard k n s) m f l).0;
      awaited = f.frame.same.awaited;
      left_over = f.frame.same.left_over;
      detached = f.frame.same.detached;
      next = f.frame.same.next;
    }

-- a root in its place
placed_comes : (guard : Guard) (out : List ℕ) (s : State) (r : ℕ) → Standing [] out [] s → 1 ≤ times r (tree_roots s.world) → is_live r s.world.nodes ≡ true → Comes guard s.world [] [] r
placed_comes guard out s r st i live = record {
  off = refl;
  up = λ q own. absurd (both_ways (owns q r s.world.nodes) own (unowned [] s.world r q st.placed live (omega (arith, i))));
  lost = λ u. absurd (clash (times r (tree_roots s.world)) (one_if (is_hub_form (form_at r s.world.nodes))) (owned_times r s.world.nodes) i (st.placed.once r live) (ap one_if (unnamed_hub (form_at r s.world.nodes) u)));
}
  where
    clash : (b c d : ℕ) → 1 ≤ b → 0 + (b + (c + d)) ≡ 1 → c ≡ 1 → ⊥
    clash b c d e f g = omega (arith, e, f, g)

-- roots in their places, one after another
pub record EachWent (out ns : List ℕ) (s t : State) : Type 0 where
  pub standing : Standing [] out [] t
  pub down : Down s t
  pub went : (r : ℕ) → is_in r ns ≡ true → is_live r t.world.nodes ≡ false
  pub roots : (r : ℕ) → times r (tree_roots t.world) ≡ times r (tree_roots s.world)

pub each_placed : (guard : Guard) (out ns : List ℕ) (s : State) → Standing [] out [] s → ((r : ℕ) → is_in r ns ≡ true → 1 ≤ times r (tree_roots s.world)) → EachWent out ns s (each_freed (free guard) ns s)
each_placed guard out [] s st there = record { standing = st; down = down_refl s; went = λ r i. absurd (in_none r i); roots = λ r. refl }
each_placed guard out (n ∷ ns) s st there =
    let t = free guard n s in
    let d = depth_of s.world in
    let comes = placed_comes guard out s n st (there n (in_self n ns)) in
    let st2 : Standing [] out [] t = standing_frees guard d n [] [] out [] s st (none_open guard s.world) comes (fuel_for s st.room) (λ m e. refl) (λ m. omega arith) in
    let f = node_frees guard d n s in
    let gone = root_goes guard d n [] out [] s st (none_open guard s.world) comes (fuel_for s st.room) in
    let e = each_placed guard out ns t st2 (λ r i. subst (λ k. 1 ≤ k) (sym (roots_stay (falling guard s.world d [] [] n) s t r f st.names)) (there r (in_right r (n ∷ []) ns i))) in
    record {
      standing = e.standing;
      roots = λ r. e.roots r ∙ roots_stay (falling guard s.world d [] [] n) s t r f st.names;
      down = down_both s t (each_freed (free guard) ns t) (down_free guard d n s) e.down;
      went = λ r i. elim (in_either r (n ∷ []) ns i) [
        | inl a ↦ false_by (is_live r (each_freed (free guard) ns t).world.nodes) (λ l. both_ways (is_live n t.world.nodes) (subst (λ (y : ℕ). is_live y t.world.nodes ≡ true) (sym (in_one r n a)) (e.down.dead r l)) gone)
        | inr b ↦ e.went r b
      ];
    }

-- hubs, under the guard that keeps all others
each_hub : (hs : List ℕ) (s : State) → Standing [] [] [] s → ((h : ℕ) → is_in h hs ≡ true → is_live h s.world.nodes ≡ true → is_hub_form (form_at h s.world.nodes) ≡ true) → EachWent [] hs s (each_freed (free Every) hs s)
each_hub [] s st hubs = record { standing = st; down = down_refl s; went = λ r i. absurd (in_none r i); roots = λ r. refl }
each_hub (h ∷ hs) s st hubs =
    let t = free Every h s in
    let d = depth_of s.world in
    let comes : is_live h s.world.nodes ≡ true → Comes Every s.world [] [] h = λ live. record { off = refl; up = λ q own. absurd (both_ways (owns q h s.world.nodes) own (hub_unowned [] s.world h q st.placed (hubs h (in_self h hs) live))); lost = λ u. inr (λ gone. refl) } in
    let st2 : Standing [] [] [] t = standing_frees Every d h [] [] [] [] s st (none_open Every s.world) comes (fuel_for s st.room) (λ m e. refl) (λ m. omega arith) in
    let gone = root_goes Every d h [] [] [] s st (none_open Every s.world) comes (fuel_for s st.room) in
    let down = down_free Every d h s in
    let e = each_hub hs t st2 (λ g i live. down.hub g live ∙ hubs g (in_right g (h ∷ []) hs i) (down.dead g live)) in
    record {
      standing = e.standing;
      roots = λ r. e.roots r ∙ roots_stay (falling Every s.world d [] [] h) s t r (node_frees Every d h s) st.names;
      down = down_both s t (each_freed (free Every) hs t) down e.down;
      went = λ r i. elim (in_either r (h ∷ []) hs i) [
        | inl a ↦ false_by (is_live r (each_freed (free Every) hs t).world.nodes) (λ l. both_ways (is_live h t.world.nodes) (subst (λ (y : ℕ). is_live y t.world.nodes ≡ true) (sym (in_one r h a)) (e.down.dead r l)) gone)
        | inr b ↦ e.went r b
      ];
    }

-- all hubs are listed
form_hit : (h n : ℕ) (f : Form) (es : List Entry) → nat_eq n h ≡ true → form_at h (record { number = n; form = f } ∷ es) ≡ Some f
form_hit h n f es e = grind (arith, nat_tests)

form_skip : (h n : ℕ) (f : Form) (es : List Entry) → nat_eq n h ≡ false → form_at h (record { number = n; form = f } ∷ es) ≡ form_at h es
form_skip h n f es e = grind (arith, nat_tests)

plain_listed : (h n : ℕ) (f : Form) (es : List Entry) → is_hub_form (Some f) ≡ false → (is_hub_form (form_at h es) ≡ true → is_in h (hubs_of es) ≡ true) → is_hub_form (form_at h (record { number = n; form = f } ∷ es)) ≡ true → is_in h (hubs_of es) ≡ true
plain_listed h n f es plain ih i = decide (nat_eq n h) refl
  where
    decide : (d : Bool) → nat_eq n h ≡ d → is_in h (hubs_of es) ≡ true
    decide true e = absurd (both_ways (is_hub_form (Some f)) (sym (ap is_hub_form (form_hit h n f es e)) ∙ i) plain)
    decide false e = ih (sym (ap is_hub_form (form_skip h n f es e)) ∙ i)

hub_listed_here : (h n : ℕ) (f : Form) (es : List Entry) → (is_hub_form (form_at h es) ≡ true → is_in h (hubs_of es) ≡ true) → is_hub_form (form_at h (record { number = n; form = f } ∷ es)) ≡ true → is_in h (n ∷ hubs_of es) ≡ true
hub_listed_here h n f es ih i = decide (nat_eq n h) refl
  where
    decide : (d : Bool) → nat_eq n h ≡ d → is_in h (n ∷ hubs_of es) ≡ true
    decide true e = in_left h (n ∷ []) (hubs_of es) (subst (λ (y : ℕ). is_in y (n ∷ []) ≡ true) (sym (same_number n h e)) (in_self n []))
    decide false e = in_right h (n ∷ []) (hubs_of es) (ih (sym (ap is_hub_form (form_skip h n f es e)) ∙ i))

form_listed : (h n : ℕ) (f : Form) (es : List Entry) → (is_hub_form (form_at h es) ≡ true → is_in h (hubs_of es) ≡ true) → is_hub_form (form_at h (record { number = n; form = f } ∷ es)) ≡ true → is_in h (hubs_of (record { number = n; form = f } ∷ es)) ≡ true
form_listed h n (Hub content is_named branches) es ih i = hub_listed_here h n (Hub content is_named branches) es ih i
form_listed h n _ es ih i = plain_listed h n _ es refl ih i

pub hubs_listed : (h : ℕ) (es : List Entry) → is_hub_form (form_at h es) ≡ true → is_in h (hubs_of es) ≡ true
hubs_listed h [] i = absurd (false≢true i)
hubs_listed h (e ∷ es) i = form_listed h e.number e.form es (hubs_listed h es) i

in_hubs : (h n : ℕ) (f : Form) (es : List Entry) → is_in h (hubs_of (record { number = n; form = f } ∷ es)) ≡ true → (n ≡ h) × (is_hub_form (Some f) ≡ true) ⊎ (is_in h (hubs_of es) ≡ true)
in_hubs h n (Hub content is_named branches) es i = elim (in_either h (n ∷ []) (hubs_of es) i) [ inl a ↦ inl (in_one h n a, refl) | inr b ↦ inr b ]
in_hubs h n _ es i = inr i

-- where numbers stand once, a listed hub is one
rest_out : (m n : ℕ) (es : List Entry) → cond (n == m) 1 0 + times m (numbers es) ≤ 1 → n ≡ m → times m (numbers es) ≡ 0
rest_out m n es h e = let t : nat_eq n m ≡ true = grind (arith, nat_tests) in grind (arith, nat_tests)

listed_hub : (h : ℕ) (es : List Entry) → ((m : ℕ) → times m (numbers es) ≤ 1) → is_in h (hubs_of es) ≡ true → is_hub_form (form_at h es) ≡ true
listed_hub h [] apart i = absurd (in_none h i)
listed_hub h (e ∷ es) apart i = elim (in_hubs h e.number e.form es i) [
  | inl p ↦ ap is_hub_form (form_hit h e.number e.form es (same_is e.number h p.0)) ∙ p.1
  | inr q ↦ (let later = listed_hub h es (λ m. let a = apart m in omega (arith, a)) q in ap is_hub_form (form_skip h e.number e.form es (false_by (nat_eq e.number h) (λ t. twice (times h (numbers es)) (rest_out h e.number es (apart h) (sym (same_number e.number h t))) (in_times h (numbers es) (live_number h es (hub_is_live (form_at h es) later)))))) ∙ later)
]
  where
    same_is : (n h : ℕ) → n ≡ h → nat_eq n h ≡ true
    same_is n h p = grind (arith, nat_tests)

    twice : (t : ℕ) → t ≡ 0 → 1 ≤ t → ⊥
    twice t a b = omega (arith, a, b)

    hub_is_live : (o : Option Form) → is_hub_form o ≡ true → is_some o ≡ true
    hub_is_live None u = absurd (false≢true u)
    hub_is_live (Some f) u = refl

-- the top of a climb
pub climb_top : (w : World) (x : ℕ) (ys : List ℕ) → is_live x w.nodes ≡ true → Climbs w.nodes x ys → (r : ℕ) × (is_live r w.nodes ≡ true) × ((q : ℕ) → owns q r w.nodes ≡ false)
climb_top w x [] live c = (x, live, c)
climb_top w x (y ∷ ys) live c = climb_top w y ys (owner_live y x w.nodes c.0) c.1

pub total_none : (f : ℕ → ℕ) (xs : List ℕ) → ((x : ℕ) → f x ≡ 0) → total f xs ≡ 0
total_none f [] h = refl
total_none f (x ∷ xs) h = let a = h x in let b = total_none f xs h in omega (arith, a, b)

-- where no root and no hub lives, no node does
pub none_lives : (s : State) → Owned s → ((r : ℕ) → 1 ≤ times r (tree_roots s.world) → is_live r s.world.nodes ≡ false) → ((h : ℕ) → is_hub_form (form_at h s.world.nodes) ≡ false) → (m : ℕ) → is_live m s.world.nodes ≡ false
none_lives s o roots hubs m = false_by (is_live m s.world.nodes) (λ live.
    let c = o.placed.climbs m live in
    let t = climb_top s.world m c.0 live c.1 in
    let one = o.placed.once t.0 t.1 in
    let none : owned_times t.0 s.world.nodes ≡ 0 = total_none (λ q. times t.0 (parts_at q s.world.nodes)) (numbers s.world.nodes) (λ q. out_times t.0 (parts_at q s.world.nodes) (t.2 q)) in
    let no_hub : one_if (is_hub_form (form_at t.0 s.world.nodes)) ≡ 0 = ap one_if (hubs t.0) in
    both_ways (is_live t.0 s.world.nodes) t.1 (roots t.0 (is_root (times t.0 (tree_roots s.world)) (one_if (is_hub_form (form_at t.0 s.world.nodes))) (owned_times t.0 s.world.nodes) one no_hub none)))
  where
    is_root : (a b c : ℕ) → 0 + (a + (b + c)) ≡ 1 → b ≡ 0 → c ≡ 0 → 1 ≤ a
    is_root a b c e f g = omega (arith, e, f, g)

-- so each number that was built was freed once, and no other
numbers_none : (es : List Entry) → ((m : ℕ) → is_live m es ≡ false) → (m : ℕ) → times m (numbers es) ≡ 0
numbers_none es none m = out_times m (numbers es) (false_by (is_in m (numbers es)) (λ i. both_ways (is_live m es) (number_live m es i) (none m)))

pub all_freed : (s : State) → Owned s → ((m : ℕ) → is_live m s.world.nodes ≡ false) → (m : ℕ) → times m (frees_in s.past) ≡ one_if (nat_lt 0 m && nat_lt m s.world.next)
all_freed s o none m = let a = numbers_none s.world.nodes none m in let b = o.recorded m in sum (times m (numbers s.world.nodes)) (times m (frees_in s.past)) (one_if (nat_lt 0 m && nat_lt m s.world.next)) a b
  where
    sum : (a r c : ℕ) → a ≡ 0 → a + r ≡ c → r ≡ c
    sum a r c e f = omega (arith, e, f)

-- roots in another order
pub permuted : (l1 l2 out : List ℕ) (s : State) → ((m : ℕ) → times m l2 ≡ times m l1) → Standing l1 out [] s → Standing l2 out [] s
permuted l1 l2 out s same st = record {
  placed = record { once = λ m live. (let a = st.placed.once m live in let b = same m in omega (arith, a, b)); climbs = st.placed.climbs };
  names = st.names;
  hubs = st.hubs;
  below = record { positive = st.below.positive; places = λ m h. (let a = st.below.places m h in let b = same m in omega (arith, a, b)); names = st.below.names; branches = st.below.branches };
  recorded = st.recorded;
  in_order = st.in_order;
  room = st.room;
  queue = st.queue;
  queued = st.queued;
  spots = st.spots;
}

pub times_reverse : (m : ℕ) (xs : List ℕ) → times m (reverse xs) ≡ times m xs
times_reverse m [] = refl
times_reverse m (x ∷ xs) = ap (times m) (reverse_onto xs x []) ∙ (let a = times_app m (reverse xs) (x ∷ []) in let b = times_reverse m xs in omega (arith, a, b))

-- a change that leaves the names, but for what cancelers hold
pub record Quiet (s t : State) : Type 0 where
  pub down : Down s t
  pub count : (c : ℕ) → times c (name_numbers t.world.names) ≡ times c (name_numbers s.world.names)
  pub at : (c : ℕ) → stripped (held_at c t.world.names) ≡ stripped (held_at c s.world.names)

quiet_refl : (s : State) → Quiet s s
quiet_refl s = record { down = down_refl s; count = λ c. refl; at = λ c. refl }

quiet_both : (s t u : State) → Quiet s t → Quiet t u → Quiet s u
quiet_both s t u a b = record { down = down_both s t u a.down b.down; count = λ c. b.count c ∙ a.count c; at = λ c. b.at c ∙ a.at c }

quiet_free : (guard : Guard) (k n : ℕ) (s : State) → NamesApart s.world.names → Quiet s (free_to guard k n s)
quiet_free guard k n s apart = let f = node_frees guard k n s in record { down = down_free guard k n s; count = f.frame.names apart; at = f.frame.at }

quiet_each : (guard : Guard) (ns loose out : List ℕ) (s : State) → Standing (ns ++ loose) out [] s → Quiet s (each_freed (free guard) ns s)
quiet_each guard [] loose out s st = quiet_refl s
quiet_each guard (n ∷ ns) loose out s st = quiet_both s (free guard n s) (each_freed (free guard) ns (free guard n s)) (quiet_free guard (depth_of s.world) n s st.names) (quiet_each guard ns loose out (free guard n s) (free_loose guard n (ns ++ loose) out s st))

quiet_unnamed : (o : Option Form) (h : ℕ) (s : State) → form_at h s.world.nodes ≡ o → Quiet s (silent (hub_unnamed_in h o) s)
quiet_unnamed (Some (Hub content is_named branches)) h s at = record {
  down = record { dead = λ m l. sym (same_put m Bool is_some refl) ∙ l; hub = λ m l. same_put m Bool is_hub_form refl; awaited = refl; left_over = refl; detached = refl; next = refl };
  count = λ c. refl;
  at = λ c. refl;
}
  where
    same_put : (m : ℕ) (A : Type 0) (f : Option Form → A) → f (Some (Hub content false branches)) ≡ f (Some (Hub content is_named branches)) → f (form_at m (put h (Hub content false branches) s.world).nodes) ≡ f (form_at m s.world.nodes)
    same_put m A f e = at_put h m (Hub content false branches) (Hub content is_named branches) s.world.nodes A f at e
quiet_unnamed None h s at = quiet_refl s
quiet_unnamed (Some _) h s at = quiet_refl s

quiet_unless : (b : Bool) (guard : Guard) (h : ℕ) (s : State) → NamesApart s.world.names → Quiet s (free_unless b (free guard) h s)
quiet_unless true guard h s apart = quiet_refl s
quiet_unless false guard h s apart = quiet_free guard (depth_of s.world) h s apart

quiet_reference : (o : Option Form) (guard : Guard) (h : ℕ) (s : State) → NamesApart s.world.names → Quiet s (free_unreferenced guard (free guard) h o s)
quiet_reference (Some (Hub content false [])) guard h s apart = quiet_unless (is_guarded guard h s.world) guard h s apart
quiet_reference (Some (Hub content false (b ∷ bs))) guard h s apart = quiet_refl s
quiet_reference (Some (Hub content true bs)) guard h s apart = quiet_refl s
quiet_reference None guard h s apart = quiet_refl s
quiet_reference (Some _) guard h s apart = quiet_refl s

is_canceler : Option Held → Bool
is_canceler (Some (Canceler wraps)) = true
is_canceler other = false

unstrip : (o : Option Held) (x : Held) → is_canceler (Some x) ≡ false → stripped o ≡ Some x → o ≡ Some x
unfolding is_canceler
unstrip None x n e = e
unstrip (Some (Canceler ws)) x n e = absurd (both_ways (is_canceler (Some x)) (sym (ap is_canceler e)) n)
unstrip (Some _) x n e = e

some_held : (x y : Held) → ◌≡◌ {A = Option Held} (Some x) (Some y) → x ≡ y
some_held x y e = cc

-- what a name held goes
same_held : (x h : Held) (s : State) → is_canceler (Some x) ≡ false → stripped (Some h) ≡ Some x → Standing (held_roots h ++ []) (held_hubs h ++ []) [] s → Standing (held_roots x ++ []) (held_hubs x ++ []) [] s
same_held x h s n e st = subst (λ (y : Held). Standing (held_roots y ++ []) (held_hubs y ++ []) [] s) (some_held h x (unstrip (Some h) x n e)) st

closed_one : (x h : Held) (s : State) → stripped (Some h) ≡ stripped (Some x) → Standing (held_roots h ++ []) (held_hubs h ++ []) [] s → Owned (closed_held x s) × Quiet s (closed_held x s)
unfolding is_canceler
closed_one (Promise root) h s e st = let st2 = same_held (Promise root) h s refl e st in (free_loose (Holding []) root [] [] s st2, quiet_free (Holding []) (depth_of s.world) root s st.names)
closed_one (CellOf cell) h s e st = (same_held (CellOf cell) h s refl e st, quiet_refl s)
closed_one (AskCell cell is_taken) h s e st = (same_held (AskCell cell is_taken) h s refl e st, quiet_refl s)
closed_one (HubOf hub) h s e st =
    let st2 : Standing [] (hub ∷ []) [] s = same_held (HubOf hub) h s refl e st in
    let s2 = silent (hub_unnamed hub) s in
    let st3 = hub_unnamed_standing hub [] [] s st2 in
    (reference_standing (Holding []) hub [] [] s2 st3, quiet_both s s2 (reference_gone (Holding []) (free (Holding [])) hub s2) (quiet_unnamed (form_at hub s.world.nodes) hub s refl) (quiet_reference (form_at hub s2.world.nodes) (Holding []) hub s2 st3.names))
closed_one (Group error tasks empty) h s e st =
    let st2 : Standing (tasks ++ []) [] [] s = same_held (Group error tasks empty) h s refl e st in
    let st3 = permuted (tasks ++ []) (reverse tasks ++ []) [] s (λ m. (let a = times_app m (reverse tasks) [] in let b = times_app m tasks [] in let c = times_reverse m tasks in omega (arith, a, b, c))) st2 in
    (each_loose (Holding []) (reverse tasks) [] [] s st3, quiet_each (Holding []) (reverse tasks) [] [] s st3)
closed_one (Canceler wraps) h s e st = (bare h (ap is_canceler e) st, quiet_refl s)
  where
    bare : (h : Held) → is_canceler (stripped (Some h)) ≡ true → Standing (held_roots h ++ []) (held_hubs h ++ []) [] s → Owned s
    bare (Canceler ws) n st = st
    bare (Promise r) n st = absurd (false≢true n)
    bare (CellOf r) n st = absurd (false≢true n)
    bare (AskCell r t) n st = absurd (false≢true n)
    bare (HubOf r) n st = absurd (false≢true n)
    bare (Group a b c) n st = absurd (false≢true n)
    bare (RequestOf r) n st = absurd (false≢true n)
closed_one (RequestOf None) h s e st = (same_held (RequestOf None) h s refl e st, quiet_refl s)
closed_one (RequestOf (Some n)) h s e st = let st2 = same_held (RequestOf (Some n)) h s refl e st in (free_loose (Holding []) n [] [] s st2, quiet_free (Holding []) (depth_of s.world) n s st.names)

-- the names that are left
pub record NamesAre (xs : List Named) (s : State) : Type 0 where
  pub count : (c : ℕ) → times c (name_numbers s.world.names) ≡ times c (name_numbers xs)
  pub at : (c : ℕ) → stripped (held_at c s.world.names) ≡ stripped (held_at c xs)

absent_more : (c : ℕ) (y : Named) (ys : List Named) → nat_eq y.name c ≡ false → held_at c ys ≡ None → held_at c (y ∷ ys) ≡ None
absent_more c y ys d h = grind (arith, nat_tests)

absent_none : (c : ℕ) (ys : List Named) → times c (name_numbers ys) ≡ 0 → held_at c ys ≡ None
absent_none c [] h = refl
absent_none c (y ∷ ys) h = let p = none_first c y ys h in absent_more c y ys p.0 (absent_none c ys p.1)

first_held : (x : Named) (xs : List Named) → held_at x.name (x ∷ xs) ≡ Some x.held
first_held x xs = grind (arith, nat_tests)

later_held : (c : ℕ) (x : Named) (xs : List Named) → nat_eq x.name c ≡ false → held_at c (x ∷ xs) ≡ held_at c xs
later_held c x xs d = grind (arith, nat_tests)

got : (o : Option Held) (x : Held) → stripped o ≡ stripped (Some x) → (h : Held) × (o ≡ Some h)
got None (Canceler ws) e = absurd (none_held (Canceler []) e)
  where
    none_held : (h : Held) → ◌≡◌ {A = Option Held} None (Some h) → ⊥
    none_held h e = cc
got None x e = absurd (none_strip x e)
  where
    none_strip : (x : Held) → ◌≡◌ {A = Option Held} None (stripped (Some x)) → ⊥
    none_strip (Canceler ws) e = cc
    none_strip _ e = cc
got (Some h) x e = (h, refl)

names_left : (x : Named) (xs : List Named) (s t : State) → NamesApart (x ∷ xs) → NamesAre (x ∷ xs) s → Quiet (silent (unnamed x.name) s) t → NamesAre xs t
names_left x xs s t apart are q = record {
  count = λ c. q.count c ∙ without_times c x.name s.world.names ∙ counted (x.name == c) (times c (name_numbers s.world.names)) (times c (name_numbers xs)) (are.count c) (apart c);
  at = λ c. q.at c ∙ at_name c (nat_eq x.name c) refl;
}
  where
    counted : (b : Bool) (a r : ℕ) → a ≡ cond b 1 0 + r → cond b 1 0 + r ≤ 1 → cond b 0 a ≡ r
    counted true a r e h = omega (arith, h)
    counted false a r e h = omega (arith, e)

    gone_here : nat_eq x.name x.name ≡ true
    gone_here = grind (arith, nat_tests)

    rest_none : times x.name (name_numbers xs) ≡ 0
    rest_none = none_more (x.name == x.name) (times x.name (name_numbers xs)) gone_here (apart x.name)
      where
        none_more : (b : Bool) (a : ℕ) → b ≡ true → cond b 1 0 + a ≤ 1 → a ≡ 0
        none_more true a e h = omega (arith, h)
        none_more false a e h = absurd (false≢true e)

    at_name : (c : ℕ) (b : Bool) → nat_eq x.name c ≡ b → stripped (held_at c (without_name x.name s.world.names)) ≡ stripped (held_at c xs)
    at_name c true e =
        let same = same_number x.name c e in
        subst (λ (y : ℕ). stripped (held_at y (without_name x.name s.world.names)) ≡ stripped (held_at y xs)) (sym same)
        (ap stripped (absent_none x.name (without_name x.name s.world.names) (without_times x.name x.name s.world.names ∙ ap (λ b. cond b 0 (times x.name (name_numbers s.world.names))) gone_here) ∙ sym (absent_none x.name xs rest_none)))
    at_name c false e = ap stripped (held_without c x.name s.world.names e) ∙ are.at c ∙ ap stripped (later_held c x xs e)

apart_later : (x : Named) (xs : List Named) → NamesApart (x ∷ xs) → NamesApart xs
apart_later x xs a c = let h = a c in omega (arith, h)

down_unnamed : (name : ℕ) (s : State) → Down s (silent (unnamed name) s)
down_unnamed name s = record { dead = λ m l. l; hub = λ m l. refl; awaited = refl; left_over = refl; detached = refl; next = refl }

pub record AllClosed (s t : State) : Type 0 where
  pub owned : Owned t
  pub down : Down s t
  pub none : (c : ℕ) → times c (name_numbers t.world.names) ≡ 0

all_closed : (xs : List Named) (s : State) → NamesApart xs → NamesAre xs s → Owned s → AllClosed s (each_closed xs s)
all_closed [] s apart are o = record { owned = o; down = down_refl s; none = are.count }
all_closed (x ∷ xs) s apart are o =
    let here = are.at x.name ∙ ap stripped (first_held x xs) in
    let g = got (held_at x.name s.world.names) x.held here in
    let s1 = silent (unnamed x.name) s in
    let st1 = unnamed_standing x.name g.0 [] [] [] s g.1 o in
    let r = closed_one x.held g.0 s1 (ap stripped (sym g.1) ∙ here) st1 in
    let t = closed_held x.held s1 in
    let rest = all_closed xs t (apart_later x xs apart) (names_left x xs s t apart are r.1) r.0 in
    record { owned = rest.owned; down = down_both s s1 (each_closed xs t) (down_unnamed x.name s) (down_both s1 t (each_closed xs t) r.1.down rest.down); none = rest.none }

no_roots : (m : ℕ) (names : List Named) → ((c : ℕ) → times c (name_numbers names) ≡ 0) → times m (name_roots names) ≡ 0
no_roots m [] h = refl
no_roots m (x ∷ xs) h = absurd (first_there x xs (h x.name))
  where
    first_there : (x : Named) (xs : List Named) → times x.name (name_numbers (x ∷ xs)) ≡ 0 → ⊥
    first_there x xs e = let p = none_first x.name x xs e in both_ways (nat_eq x.name x.name) (self x.name) p.0
      where
        self : (n : ℕ) → nat_eq n n ≡ true
        self n = grind (arith, nat_tests)

-- the law of close: where no tree is awaited, no node lives after it, and each built number is freed once and no other
pub record ClosedWhole (s : State) : Type 0 where
  pub owned : Owned (close s)
  pub none : (m : ℕ) → is_live m (close s).world.nodes ≡ false
  pub once : (m : ℕ) → times m (frees_in (close s).past) ≡ one_if (nat_lt 0 m && nat_lt m s.world.next)

pub close_frees_all : (s : State) → Owned s → s.world.awaited ≡ None → ClosedWhole s
close_frees_all s o waits =
    let a = left_over_closed s in
    let ea = each_placed (Holding []) [] s.world.left_over s o (λ r i. let c = roots_app r (name_roots s.world.names) (awaited_roots s.world.awaited) s.world.left_over s.world.detached in let d = in_times r s.world.left_over i in omega (arith, c, d)) in
    let b = names_closed a in
    let eb = all_closed a.world.names a ea.standing.names (record { count = λ c. refl; at = λ c. refl }) ea.standing in
    let c = detached_closed b in
    let ec = each_placed (Holding []) [] (reverse b.world.detached) b eb.owned (λ r i. let x = roots_app r (name_roots b.world.names) (awaited_roots b.world.awaited) b.world.left_over b.world.detached in let d = in_times r (reverse b.world.detached) i in let e = times_reverse r b.world.detached in omega (arith, x, d, e)) in
    let d = hubs_closed c in
    let ed = each_hub (hubs_of c.world.nodes) c ec.standing (λ h i live. listed_hub h c.world.nodes (λ m. once_most (times m (numbers c.world.nodes)) (times m (frees_in c.past)) (nat_lt 0 m && nat_lt m c.world.next) (ec.standing.recorded m)) i) in
    let none = none_lives d ed.standing
    (λ r i. root_dead s a b c d waits ea eb ec ed r i)
    (λ h. false_by (is_hub_form (form_at h d.world.nodes)) (λ u. let live = hub_live (form_at h d.world.nodes) u in both_ways (is_live h d.world.nodes) live (ed.went h (hubs_listed h c.world.nodes (sym (ed.down.hub h live) ∙ u))))) in
    record {
      owned = ed.standing;
      none = none;
      once = λ m. all_freed d ed.standing none m ∙ ap (λ n. one_if (nat_lt 0 m && nat_lt m n)) (ed.down.next ∙ ec.down.next ∙ eb.down.next ∙ ea.down.next);
    }
  where
    once_most : (a r : ℕ) (b : Bool) → a + r ≡ one_if b → a ≤ 1
    once_most a r true e = omega (arith, e)
    once_most a r false e = omega (arith, e)

    hub_live : (o : Option Form) → is_hub_form o ≡ true → is_some o ≡ true
    hub_live None u = absurd (false≢true u)
    hub_live (Some f) u = refl

    in_or_zero : (m : ℕ) (xs : List ℕ) → (is_in m xs ≡ true) ⊎ (times m xs ≡ 0)
    in_or_zero m xs = decide (is_in m xs) refl
      where
        decide : (d : Bool) → is_in m xs ≡ d → (is_in m xs ≡ true) ⊎ (times m xs ≡ 0)
        decide true e = inl e
        decide false e = inr (out_times m xs e)

    root_dead : (s a b c d : State) → s.world.awaited ≡ None → EachWent [] s.world.left_over s a → AllClosed a b → EachWent [] (reverse b.world.detached) b c → EachWent [] (hubs_of c.world.nodes) c d → (r : ℕ) → 1 ≤ times r (tree_roots d.world) → is_live r d.world.nodes ≡ false
    root_dead s a b c d waits ea eb ec ed r i = false_by (is_live r d.world.nodes) (λ live.
        let live_c = ed.down.dead r live in
        let live_a = eb.down.dead r (ec.down.dead r live_c) in
        elim (in_or_zero r s.world.left_over) [
          | inl j ↦ both_ways (is_live r a.world.nodes) live_a (ea.went r j)
          | inr z ↦ elim (in_or_zero r (reverse b.world.detached)) [
            | inl j ↦ both_ways (is_live r c.world.nodes) live_c (ec.went r j)
            | inr y ↦
                let x = roots_app r (name_roots b.world.names) (awaited_roots b.world.awaited) b.world.left_over b.world.detached in
                let n = no_roots r b.world.names eb.none in
                let w : times r (awaited_roots b.world.awaited) ≡ 0 = ap (λ (o : Option Awaited). times r (awaited_roots o)) (eb.down.awaited ∙ ea.down.awaited ∙ waits) in
                let l : times r b.world.left_over ≡ 0 = ap (times r) (eb.down.left_over ∙ ea.down.left_over) ∙ z in
                let t : times r b.world.detached ≡ 0 = sym (times_reverse r b.world.detached) ∙ y in
                let e = ed.roots r in
                let f = ec.roots r in
                empty (times r (tree_roots d.world)) (times r (tree_roots c.world)) (times r (tree_roots b.world)) (times r (name_roots b.world.names)) (times r (awaited_roots b.world.awaited)) (times r b.world.left_over) (times r b.world.detached) i e f x n w l t
          ]
        ])
      where
        empty : (d c b n w l t : ℕ) → 1 ≤ d → d ≡ c → c ≡ b → b ≡ n + w + l + t → n ≡ 0 → w ≡ 0 → l ≡ 0 → t ≡ 0 → ⊥
        empty d c b n w l t h1 h2 h3 h4 h5 h6 h7 h8 = omega (arith, h1, h2, h3, h4, h5, h6, h7, h8)
