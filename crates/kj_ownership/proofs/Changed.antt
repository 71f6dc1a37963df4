-- Moves that build nothing: names, the queue, and a form in place of another.
use Rattle.std.proofs.Common.{zero, suc, ◌≡◌, ◌⊎◌, inl, inr, ℕ, ◌+◌, ◌≤◌, List, [], ◌∷◌, ◌++◌, length, Bool, true, false, cond, Option, None, Some, arith, refl, sym, ap, ◌∙◌, subst, ◌&&◌, ◌==◌}
use Rattle.std.specs.Prelude.{nat_eq, nat_lt, is_some, insert, if◌then◌else◌, find}
use Rattle.std.proofs.lemmas.Bool.Decides.{nat_tests}
use Rattle.kj_base.specs.Queue.{Events, Way, DepthFirst, BreadthFirst, AtLast, IsQueue, armed, is_armed}
use Rattle.kj_base.proofs.QueueLemmas.{armed_keeps}
use Rattle.kj_model.specs.Nodes.{Entry, Form, Content, Hub, form_at, parts_of, parts_at, parts_found, is_in, owner_of, has_event, with_form}
use Rattle.kj_model.specs.World.{World, State, Named, Held, Promise, CellOf, AskCell, HubOf, Group, Canceler, RequestOf, Awaited, held_at, depth_of}
use Rattle.kj_model.specs.Changes.{frees_in, silent, named, unnamed, with_names, with_queue, with_new, without_name, put, arm_listener}
use Rattle.kj_model.specs.Listening.{listener_from, listener_over, listener_if, root_listener, wait_if, listener, announced, listened, listened_if, listened_way, ready, is_last}
use Rattle.kj_model.specs.Falling.{is_branch_of}
use Rattle.kj_model.specs.Owned.{numbers, is_hub_name, held_roots, name_roots, awaited_roots}
use Rattle.kj_ownership.specs.Owners.{is_live, owns, is_hub_form}
use Rattle.kj_model.specs.Framed.{times, total, held_total, name_numbers, NamesApart}
use Rattle.kj_ownership.specs.Standing.{one_if, owned_times, Climbs, HubsCount, IsRecorded, is_event, Standing}
use Rattle.kj_model.proofs.Spared.{same_number, form_put_same, form_put_other}
use Rattle.kj_model.proofs.Members.{in_either, in_left, in_right, in_one}
use Rattle.kj_model.proofs.Once.{both_ways, false_by}
use Rattle.kj_model.proofs.Counts.{times_app, new_names, new_held, without_times, without_absent, held_split, put_numbers}
use Rattle.kj_ownership.proofs.Stays.{out_times, in_times, owner_live, name_roots_total, roots_app}
use Rattle.kj_ownership.proofs.Moves.{total_same}
use Rattle.kj_ownership.proofs.Flat.{live_number}

-- another map of names
pub renamed_standing : (loose loose2 out out2 lone : List ℕ) (names : List Named) (s : State) → NamesApart names
    → ((m : ℕ) → times m loose2 + times m (name_roots names) ≡ times m loose + times m (name_roots s.world.names))
    → ((h : ℕ) → held_total (λ (x : Held). one_if (is_hub_name h x)) names + times h out2 ≡ held_total (λ (x : Held). one_if (is_hub_name h x)) s.world.names + times h out)
    → Standing loose out lone s → Standing loose2 out2 lone (silent (with_names names) s)
renamed_standing loose loose2 out out2 lone names s apart roots hubs st = record {
  placed = record {
    once = λ m live.
        let a = st.placed.once m live in
        let b = roots m in
        let x = roots_app m (name_roots names) (awaited_roots s.world.awaited) s.world.left_over s.world.detached in
        let y = roots_app m (name_roots s.world.names) (awaited_roots s.world.awaited) s.world.left_over s.world.detached in
        omega (arith, a, b, x, y);
    climbs = st.placed.climbs;
  };
  names = apart;
  hubs = record { name = λ h content is_named branches at. hubs h ∙ st.hubs.name h content is_named branches at; branches = st.hubs.branches };
  below = record {
    positive = st.below.positive;
    places = λ m l.
        let a = st.below.places m l in
        let b = roots m in
        let x = roots_app m (name_roots names) (awaited_roots s.world.awaited) s.world.left_over s.world.detached in
        let y = roots_app m (name_roots s.world.names) (awaited_roots s.world.awaited) s.world.left_over s.world.detached in
        omega (arith, a, b, x, y);
    names = λ h l. hubs h ∙ st.below.names h l;
    branches = st.below.branches;
  };
  recorded = st.recorded;
  in_order = st.in_order;
  room = st.room;
  queue = st.queue;
  queued = st.queued;
  spots = st.spots;
}

-- the hub that a name names
abbrev pub held_hubs : Held → List ℕ
held_hubs (HubOf hub) = hub ∷ []
held_hubs (Promise root) = []
held_hubs (CellOf cell) = []
held_hubs (AskCell cell is_taken) = []
held_hubs (Group error tasks empty) = []
held_hubs (Canceler wraps) = []
held_hubs (RequestOf n) = []

hub_times : (h : ℕ) (x : Held) → times h (held_hubs x) ≡ one_if (is_hub_name h x)
hub_times h (HubOf hub) = (let a : times h (hub ∷ []) ≡ cond (hub == h) 1 0 = omega arith in a)
hub_times h (Promise root) = refl
hub_times h (CellOf cell) = refl
hub_times h (AskCell cell is_taken) = refl
hub_times h (Group error tasks empty) = refl
hub_times h (Canceler wraps) = refl
hub_times h (RequestOf n) = refl

-- a new name comes
new_apart : (c d t : ℕ) (b : Bool) → nat_eq d c ≡ b → (b ≡ true → t ≡ 0) → t ≤ 1 → cond b 1 0 + cond b 0 t ≤ 1
new_apart c d t true e z h = omega arith
new_apart c d t false e z h = omega (arith, h)

pub named_standing : (name : ℕ) (held : Held) (loose out lone : List ℕ) (s : State) → times name (name_numbers s.world.names) ≡ 0 → Standing (held_roots held ++ loose) (held_hubs held ++ out) lone s → Standing loose out lone (silent (named name held) s)
named_standing name held loose out lone s fresh st =
    let x : Named = record { name = name; held = held } in
    let absent = without_absent name s.world.names fresh in
    renamed_standing (held_roots held ++ loose) loose (held_hubs held ++ out) out lone (with_new x (without_name name s.world.names)) s
    (λ c. subst (λ (k : ℕ). k ≤ 1) (sym (new_names c x (without_name name s.world.names) ∙ ap (λ t. cond (name == c) 1 0 + t) (without_times c name s.world.names))) (new_apart c name (times c (name_numbers s.world.names)) (name == c) refl (λ e. subst (λ (y : ℕ). times y (name_numbers s.world.names) ≡ 0) (sym (same_number name c e)) fresh) (st.names c)))
    (λ m.
    let a = name_roots_total m (with_new x (without_name name s.world.names)) in
    let b = new_held (λ (y : Held). times m (held_roots y)) x (without_name name s.world.names) in
    let c : held_total (λ (y : Held). times m (held_roots y)) (without_name name s.world.names) ≡ held_total (λ (y : Held). times m (held_roots y)) s.world.names = ap (held_total (λ (y : Held). times m (held_roots y))) absent in
    let d = name_roots_total m s.world.names in
    let e = times_app m (held_roots held) loose in
    omega (arith, a, b, c, d, e))
    (λ h.
    let b = new_held (λ (y : Held). one_if (is_hub_name h y)) x (without_name name s.world.names) in
    let c : held_total (λ (y : Held). one_if (is_hub_name h y)) (without_name name s.world.names) ≡ held_total (λ (y : Held). one_if (is_hub_name h y)) s.world.names = ap (held_total (λ (y : Held). one_if (is_hub_name h y))) absent in
    let e = times_app h (held_hubs held) out in
    let f = hub_times h held in
    omega (arith, b, c, e, f))
    st

-- a name goes
pub unnamed_standing : (name : ℕ) (held : Held) (loose out lone : List ℕ) (s : State) → held_at name s.world.names ≡ Some held → Standing loose out lone s → Standing (held_roots held ++ loose) (held_hubs held ++ out) lone (silent (unnamed name) s)
unnamed_standing name held loose out lone s at st =
    renamed_standing loose (held_roots held ++ loose) out (held_hubs held ++ out) lone (without_name name s.world.names) s
    (λ c. let a = without_times c name s.world.names in let b = st.names c in less (name == c) (times c (name_numbers (without_name name s.world.names))) (times c (name_numbers s.world.names)) a b)
    (λ m.
    let a = name_roots_total m (without_name name s.world.names) in
    let b = held_split (λ (y : Held). times m (held_roots y)) name s.world.names held at st.names in
    let d = name_roots_total m s.world.names in
    let e = times_app m (held_roots held) loose in
    omega (arith, a, b, d, e))
    (λ h.
    let b = held_split (λ (y : Held). one_if (is_hub_name h y)) name s.world.names held at st.names in
    let e = times_app h (held_hubs held) out in
    let f = hub_times h held in
    omega (arith, b, e, f))
    st
  where
    less : (b : Bool) (a t : ℕ) → a ≡ cond b 0 t → t ≤ 1 → a ≤ 1
    less true a t e h = omega (arith, e)
    less false a t e h = omega (arith, e, h)

-- another queue
pub queue_standing : (loose out lone : List ℕ) (q : Events) (s : State) → IsQueue q → ((e : ℕ) → is_in e q.list ≡ true → is_event s.world e ≡ true) → Standing loose out lone s → Standing loose out lone (silent (with_queue q) s)
queue_standing loose out lone q s k h st = record {
  placed = record { once = st.placed.once; climbs = st.placed.climbs };
  names = st.names;
  hubs = record { name = st.hubs.name; branches = st.hubs.branches };
  below = record { positive = st.below.positive; places = st.below.places; names = st.below.names; branches = st.below.branches };
  recorded = st.recorded;
  in_order = st.in_order;
  room = st.room;
  queue = k;
  queued = h;
  spots = st.spots;
}

-- an event is armed
in_insert : (m e i : ℕ) (xs : List ℕ) → is_in m (insert xs i e) ≡ true → (e ≡ m) ⊎ (is_in m xs ≡ true)
in_insert m e zero [] h = inl (in_one m e h)
in_insert m e (suc i) [] h = inl (in_one m e h)
in_insert m e zero (x ∷ xs) h = elim (in_either m (e ∷ []) (x ∷ xs) h) [ inl a ↦ inl (in_one m e a) | inr b ↦ inr b ]
in_insert m e (suc i) (x ∷ xs) h = elim (in_either m (x ∷ []) (insert xs i e) h) [
  | inl a ↦ inr (in_left m (x ∷ []) xs a)
  | inr b ↦ elim (in_insert m e i xs b) [ inl c ↦ inl c | inr d ↦ inr (in_right m (x ∷ []) xs d) ]
]

in_chosen : (b : Bool) (m e : ℕ) (q r : Events) → (is_in m r.list ≡ true → (e ≡ m) ⊎ (is_in m q.list ≡ true)) → is_in m (if b then q else r).list ≡ true → (e ≡ m) ⊎ (is_in m q.list ≡ true)
in_chosen true m e q r h i = inr i
in_chosen false m e q r h i = h i

pub in_armed : (way : Way) (m e : ℕ) (q : Events) → is_in m (armed way e q).list ≡ true → (e ≡ m) ⊎ (is_in m q.list ≡ true)
in_armed DepthFirst m e q i = in_chosen (is_armed e q) m e q _ (in_insert m e q.depth q.list) i
in_armed BreadthFirst m e q i = in_chosen (is_armed e q) m e q _ (in_insert m e q.breadth q.list) i
in_armed AtLast m e q i = in_chosen (is_armed e q) m e q _ (in_insert m e q.breadth q.list) i

pub armed_standing : (way : Way) (e : ℕ) (loose out lone : List ℕ) (s : State) → is_event s.world e ≡ true → Standing loose out lone s → Standing loose out lone (silent (λ w. with_queue (armed way e w.queue) w) s)
armed_standing way e loose out lone s ok st = queue_standing loose out lone (armed way e s.world.queue) s (armed_keeps way e s.world.queue st.queue) (λ m i. elim (in_armed way m e s.world.queue i) [ inl same ↦ subst (λ (y : ℕ). is_event s.world y ≡ true) same ok | inr old ↦ st.queued m old ]) st

-- who listens may stand in the queue
positive_live : (b : Bool) (a r m next : ℕ) → a + r ≡ one_if (nat_lt 0 m && nat_lt m next) → 1 ≤ a → nat_eq m 0 ≡ false
positive_live b a r m next e h = grind (arith, nat_tests)

pub live_event : (s : State) (m : ℕ) → IsRecorded s → is_live m s.world.nodes ≡ true → is_event s.world m ≡ true
live_event s m rec live = ap (λ b. cond b (is_some s.world.awaited) (is_live m s.world.nodes)) (positive_live true (times m (numbers s.world.nodes)) (times m (frees_in s.past)) m s.world.next (rec m) (in_times m (numbers s.world.nodes) (live_number m s.world.nodes live))) ∙ live

found_live_more : (p : Entry → Bool) (e o : Entry) (es : List Entry) (b : Bool) → p e ≡ b → find p (e ∷ es) ≡ Some o → (find p es ≡ Some o → is_live o.number es ≡ true) → is_live o.number (e ∷ es) ≡ true
found_live_more p e o es true q h ih = grind (arith, nat_tests)
found_live_more p e o es false q h ih = grind (arith, nat_tests)

found_live : (p : Entry → Bool) (o : Entry) (es : List Entry) → find p es ≡ Some o → is_live o.number es ≡ true
found_live p o [] h = absurd (no_entry o h)
  where
    no_entry : (o : Entry) → ◌≡◌ {A = Option Entry} None (Some o) → ⊥
    no_entry o e = cc
found_live p o (e ∷ es) h = found_live_more p e o es (p e) refl h (found_live p o es)

some_number : (x y : ℕ) → ◌≡◌ {A = Option ℕ} (Some x) (Some y) → x ≡ y
some_number x y e = cc

no_number : (x : ℕ) → ◌≡◌ {A = Option ℕ} None (Some x) → ⊥
no_number x e = cc

wait_event : (b : Bool) (e : ℕ) (a : Awaited) (w : World) → w.awaited ≡ Some a → wait_if b ≡ Some e → is_event w e ≡ true
wait_event true e a w is h = subst (λ (y : ℕ). is_event w y ≡ true) (some_number 0 e h) (ap is_some is)
wait_event false e a w is h = absurd (no_number e h)

root_event : (o : Option Awaited) (n e : ℕ) (w : World) → w.awaited ≡ o → root_listener o n ≡ Some e → is_event w e ≡ true
root_event None n e w is h = absurd (no_number e h)
root_event (Some a) n e w is h = wait_event (a.root == n) e a w is h

owner_event : (b : Bool) (above : ℕ → Option ℕ) (owner e : ℕ) (s : State) → IsRecorded s → is_live owner s.world.nodes ≡ true → ((n : ℕ) → above n ≡ Some e → is_event s.world e ≡ true) → listener_if b above owner ≡ Some e → is_event s.world e ≡ true
owner_event true above owner e s rec live ih h = subst (λ (y : ℕ). is_event s.world y ≡ true) (some_number owner e h) (live_event s owner rec live)
owner_event false above owner e s rec live ih h = ih owner h

over_event : (o : Option Entry) (above : ℕ → Option ℕ) (n e : ℕ) (s : State) → owner_of n s.world.nodes ≡ o → IsRecorded s → ((m : ℕ) → above m ≡ Some e → is_event s.world e ≡ true) → listener_over above s.world.awaited n o ≡ Some e → is_event s.world e ≡ true
over_event None above n e s is rec ih h = root_event s.world.awaited n e s.world refl h
over_event (Some owner) above n e s is rec ih h = owner_event (has_event owner.form) above owner.number e s rec (found_live (λ (x : Entry). is_in n (parts_of x.form)) owner s.world.nodes is) ih h

listener_event : (k n e : ℕ) (s : State) → IsRecorded s → listener_from k s.world n ≡ Some e → is_event s.world e ≡ true
listener_event zero n e s rec h = absurd (no_number e h)
listener_event (suc k) n e s rec h = over_event (owner_of n s.world.nodes) (listener_from k s.world) n e s refl rec (λ m. listener_event k m e s rec) h

arm_standing : (way : Way) (o : Option ℕ) (loose out lone : List ℕ) (s : State) → ((e : ℕ) → o ≡ Some e → is_event s.world e ≡ true) → Standing loose out lone s → Standing loose out lone (silent (arm_listener way o) s)
arm_standing way None loose out lone s ok st = st
arm_standing way (Some e) loose out lone s ok st = armed_standing way e loose out lone s (ok e refl) st

pub announced_standing : (way : Way) (n : ℕ) (loose out lone : List ℕ) (s : State) → Standing loose out lone s → Standing loose out lone (silent (announced way n) s)
announced_standing way n loose out lone s st = arm_standing way (listener n s.world) loose out lone s (λ e h. listener_event (depth_of s.world) n e s st.recorded h) st

listened_if_standing : (b : Bool) (n : ℕ) (loose out lone : List ℕ) (s : State) → Standing loose out lone s → Standing loose out lone (silent (listened_if b n) s)
listened_if_standing true n loose out lone s st = announced_standing (listened_way (is_last (depth_of s.world) s.world.nodes n)) n loose out lone s st
listened_if_standing false n loose out lone s st = st

pub listened_standing : (n : ℕ) (loose out lone : List ℕ) (s : State) → Standing loose out lone s → Standing loose out lone (silent (listened n) s)
listened_standing n loose out lone s st = listened_if_standing (ready (depth_of s.world) s.world.nodes n) n loose out lone s st

-- other forms of the same nodes, which own the same live nodes
length_numbers : (es : List Entry) → length (numbers es) ≡ length es
length_numbers [] = refl
length_numbers (e ∷ es) = let h = length_numbers es in omega (arith, h)

in_by_times : (p : ℕ) (xs ys : List ℕ) → times p xs ≡ times p ys → is_in p ys ≡ true → is_in p xs ≡ true
in_by_times p xs ys e i = decide (is_in p xs) refl
  where
    clash : (a b : ℕ) → a ≡ b → a ≡ 0 → 1 ≤ b → ⊥
    clash a b e z o = omega (arith, e, z, o)

    decide : (d : Bool) → is_in p xs ≡ d → is_in p xs ≡ true
    decide true j = j
    decide false j = absurd (clash (times p xs) (times p ys) e (out_times p xs j) (in_times p ys i))

total_at_most : (f g : ℕ → ℕ) (xs : List ℕ) → ((x : ℕ) → f x ≤ g x) → total f xs ≤ total g xs
total_at_most f g [] h = omega arith
total_at_most f g (x ∷ xs) h = let a = h x in let b = total_at_most f g xs h in omega (arith, a, b)

pub record SameNodes (old new : List Entry) : Type 0 where
  pub numbers : numbers new ≡ numbers old
  pub live : (m : ℕ) → is_live m new ≡ is_live m old
  pub hubs : (m : ℕ) → is_hub_form (form_at m new) ≡ is_hub_form (form_at m old)
  pub branches : (h m : ℕ) → is_branch_of h (form_at m new) ≡ is_branch_of h (form_at m old)
  pub parts : (q p : ℕ) → is_live p old ≡ true → times p (parts_at q new) ≡ times p (parts_at q old)
  pub fewer : (q p : ℕ) → times p (parts_at q new) ≤ times p (parts_at q old)

abbrev pub with_nodes : List Entry → World → World
with_nodes nodes w = record w { nodes = nodes }

climbs_same : (old new : List Entry) (x : ℕ) (ys : List ℕ) → SameNodes old new → is_live x old ≡ true → Climbs old x ys → Climbs new x ys
climbs_same old new x [] n live c = λ q. false_by (owns q x new) (λ own. both_ways (owns q x old) (in_by_times x (parts_at q old) (parts_at q new) (sym (n.parts q x live)) own) (c q))
climbs_same old new x (y ∷ ys) n live c = (in_by_times x (parts_at y new) (parts_at y old) (n.parts y x live) c.0, climbs_same old new y ys n (owner_live y x old c.0) c.1)

pub forms_standing : (loose out out2 lone lone2 : List ℕ) (nodes : List Entry) (s : State) → SameNodes s.world.nodes nodes → HubsCount out2 lone2 (with_nodes nodes s.world) → ((g : ℕ) → times g out2 ≤ times g out) → Standing loose out lone s → Standing loose out2 lone2 (silent (with_nodes nodes) s)
forms_standing loose out out2 lone lone2 nodes s n hubs fewer st = record {
  placed = record {
    once = λ m live.
        let old : is_live m s.world.nodes ≡ true = sym (n.live m) ∙ live in
        let a = st.placed.once m old in
        let b : one_if (is_hub_form (form_at m nodes)) ≡ one_if (is_hub_form (form_at m s.world.nodes)) = ap one_if (n.hubs m) in
        let c : owned_times m nodes ≡ owned_times m s.world.nodes = ap (total (λ q. times m (parts_at q nodes))) n.numbers ∙ total_same (λ q. times m (parts_at q nodes)) (λ q. times m (parts_at q s.world.nodes)) (numbers s.world.nodes) (λ q i. n.parts q m old) in
        omega (arith, a, b, c);
    climbs = λ m live.
        let old : is_live m s.world.nodes ≡ true = sym (n.live m) ∙ live in
        let c = st.placed.climbs m old in
        (c.0, climbs_same s.world.nodes nodes m c.0 n old c.1);
  };
  names = st.names;
  hubs = hubs;
  below = record {
    positive = st.below.positive;
    places = λ m h.
        let a = st.below.places m h in
        let b = total_at_most (λ q. times m (parts_at q nodes)) (λ q. times m (parts_at q s.world.nodes)) (numbers s.world.nodes) (λ q. n.fewer q m) in
        let c : owned_times m nodes ≡ total (λ q. times m (parts_at q nodes)) (numbers s.world.nodes) = ap (total (λ q. times m (parts_at q nodes))) n.numbers in
        omega (arith, a, b, c);
    names = λ m h. let a = st.below.names m h in let b = fewer m in omega (arith, a, b);
    branches = λ h m l. n.branches h m ∙ st.below.branches h m l;
  };
  recorded = λ m. ap (λ (xs : List ℕ). times m xs + times m (frees_in s.past)) n.numbers ∙ st.recorded m;
  in_order = st.in_order;
  room = (let a = length_numbers nodes in let b = length_numbers s.world.nodes in let c : length (numbers nodes) ≡ length (numbers s.world.nodes) = ap length n.numbers in let r = st.room in omega (arith, a, b, c, r));
  queue = st.queue;
  queued = λ e i. ap (cond (e == 0) (is_some s.world.awaited)) (n.live e) ∙ st.queued e i;
  spots = st.spots ∙ sym n.numbers;
}

-- one form in place of another
pub at_put : (n m : ℕ) (form old : Form) (es : List Entry) (A : Type 0) (f : Option Form → A) → form_at n es ≡ Some old → f (Some form) ≡ f (Some old) → f (form_at m (with_form n form es)) ≡ f (form_at m es)
at_put n m form old es A f at e = decide (nat_eq n m) refl
  where
    decide : (d : Bool) → nat_eq n m ≡ d → f (form_at m (with_form n form es)) ≡ f (form_at m es)
    decide true i = let same : n ≡ m = sym (same_number n m i) in subst (λ (y : ℕ). f (form_at y (with_form n form es)) ≡ f (form_at y es)) same (ap f (form_put_same n form old es at) ∙ e ∙ sym (ap f at))
    decide false i = ap f (form_put_other n m form es i)

at_put_most : (n m p : ℕ) (form old : Form) (es : List Entry) → form_at n es ≡ Some old → times p (parts_of form) ≤ times p (parts_of old) → times p (parts_at m (with_form n form es)) ≤ times p (parts_at m es)
at_put_most n m p form old es at e = decide (nat_eq n m) refl
  where
    by_form : (o q : Option Form) → o ≡ Some form → q ≡ Some old → times p (parts_found o) ≤ times p (parts_found q)
    by_form o q a b = subst (λ (x : Option Form). times p (parts_found x) ≤ times p (parts_found q)) (sym a) (subst (λ (x : Option Form). times p (parts_of form) ≤ times p (parts_found x)) (sym b) e)

    same_most : (o q : Option Form) → o ≡ q → times p (parts_found o) ≤ times p (parts_found q)
    same_most o q a = subst (λ (x : Option Form). times p (parts_found x) ≤ times p (parts_found q)) (sym a) (omega arith)

    decide : (d : Bool) → nat_eq n m ≡ d → times p (parts_at m (with_form n form es)) ≤ times p (parts_at m es)
    decide true i = let same : n ≡ m = sym (same_number n m i) in subst (λ (y : ℕ). times p (parts_at y (with_form n form es)) ≤ times p (parts_at y es)) same (by_form (form_at n (with_form n form es)) (form_at n es) (form_put_same n form old es at) at)
    decide false i = same_most (form_at m (with_form n form es)) (form_at m es) (form_put_other n m form es i)

pub put_same : (n : ℕ) (form old : Form) (es : List Entry) → form_at n es ≡ Some old → is_hub_form (Some form) ≡ is_hub_form (Some old) → ((h : ℕ) → is_branch_of h (Some form) ≡ is_branch_of h (Some old)) → ((p : ℕ) → is_live p es ≡ true → times p (parts_of form) ≡ times p (parts_of old)) → ((p : ℕ) → times p (parts_of form) ≤ times p (parts_of old)) → SameNodes es (with_form n form es)
put_same n form old es at hub branch parts fewer = record {
  numbers = put_numbers n form es;
  live = λ m. at_put n m form old es Bool is_some at refl;
  hubs = λ m. at_put n m form old es Bool is_hub_form at hub;
  branches = λ h m. at_put n m form old es Bool (is_branch_of h) at (branch h);
  parts = λ q p live. at_put n q form old es ℕ (λ (o : Option Form). times p (parts_found o)) at (parts p live);
  fewer = λ q p. at_put_most n q p form old es at (fewer p);
}

-- a form that is no hub in place of one that is none
pub put_standing : (n : ℕ) (form old : Form) (loose out lone : List ℕ) (s : State) → form_at n s.world.nodes ≡ Some old → is_hub_form (Some form) ≡ false → is_hub_form (Some old) ≡ false → ((h : ℕ) → is_branch_of h (Some form) ≡ is_branch_of h (Some old)) → ((p : ℕ) → is_live p s.world.nodes ≡ true → times p (parts_of form) ≡ times p (parts_of old)) → ((p : ℕ) → times p (parts_of form) ≤ times p (parts_of old))
    → Standing loose out lone s → Standing loose out lone (silent (put n form) s)
put_standing n form old loose out lone s at new_hub old_hub branch parts fewer st =
    let same = put_same n form old s.world.nodes at (new_hub ∙ sym old_hub) branch parts fewer in
    forms_standing loose out out lone lone (with_form n form s.world.nodes) s same
    (record {
      name = λ h content is_named branches h_at. st.hubs.name h content is_named branches (hub_at h content is_named branches (nat_eq n h) refl h_at);
      branches = λ h content is_named branches h_at b. ap (λ c. times b branches + cond c (times b lone) 0) (same.branches h b) ∙ st.hubs.branches h content is_named branches (hub_at h content is_named branches (nat_eq n h) refl h_at) b ∙ ap one_if (sym (same.branches h b));
    })
    (λ g. omega arith)
    st
  where
    hub_at : (h : ℕ) (content : Content) (is_named : Bool) (branches : List ℕ) (d : Bool) → nat_eq n h ≡ d → form_at h (with_form n form s.world.nodes) ≡ Some (Hub content is_named branches) → form_at h s.world.nodes ≡ Some (Hub content is_named branches)
    hub_at h content is_named branches true e h_at =
        let same = same_number n h e in
        absurd (both_ways (is_hub_form (Some form)) (sym (ap is_hub_form (form_put_same n form old s.world.nodes at)) ∙ subst (λ (y : ℕ). is_hub_form (form_at y (with_form n form s.world.nodes)) ≡ true) same (ap is_hub_form h_at)) new_hub)
    hub_at h content is_named branches false e h_at = sym (form_put_other n h form s.world.nodes e) ∙ h_at
