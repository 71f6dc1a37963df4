-- What the calls of the queue keep of the links.
use Rattle.std.proofs.Common.{◌≡◌, ◌≢◌, ◌∙◌, ℕ, ◌+◌, ◌<◌, ◌≤◌, List, [], ◌∷◌, length, true, false, arith, refl, sym, ap, subst, inl, inr}
use Rattle.std.specs.Prelude.{nat_eq, nat_lt, ◌==◌, insert, if◌then◌else◌, Some, None, slice_get, unwrap_or}
use Rattle.std.specs.List.{AllByRecursion}
use Rattle.std.proofs.lemmas.Bool.{false≢true, eqb-true, eqb-false, ne_eqb, eq-eqb, cases_Bool, lt-ltb, le-ltb}
use Rattle.kj_base.specs.Queue.{Events, Way, DepthFirst, BreadthFirst, AtLast, IsQueue, is_armed, armed, falls, without_place, disarmed, taken, rewound, head_of, first_of, no_events}
use Rattle.kj_base.proofs.QueueLemmas.{all_insert, all_remove, armed_keeps, removed, rewound_keeps, empty_is}
use Rattle.linked_lists.specs.Lists.{members, is_in, is_within, place_of, without, PutsBefore, KeepsOtherLists, TakesOut, IsUnlisted}
use Rattle.event_links.specs.EventLinks.{armed_of, events_of, IsKept}
use Rattle.event_links.specs.declared.EventLinks.TheInside.{Inside}
use Rattle.event_links.proofs.Points.{later_point, earlier_point, new_point, place_most, place_past, place_before, same_point, still_within, new_within, not_new, other_point, without_is, behind, behind_within, behind_is_other, point_taken, first_point, first_point_within, kept_within, not_left, falls_at}

below_not : (n : ℕ) (xs : List ℕ) → AllByRecursion (λ e. e < n) xs → is_in n xs ≡ false
below_not n [] h = refl
below_not n (x ∷ xs) h = let l = h.0 in rw (ne_eqb x n (λ e. absurd (omega arith))) (below_not n xs h.1)

-- the head isn't among the events
pub headless : (q : Inside) → IsKept q → is_in q.size (armed_of q) ≡ false
headless q k = below_not q.size (armed_of q) k.below

below_each : (n m : ℕ) (xs : List ℕ) → AllByRecursion (λ e. e < n) xs → is_in m (n ∷ xs) ≡ true → m ≤ n
below_each n m [] h i = elim (cases_Bool (nat_eq n m)) [ inl s ↦ let e = eqb-true n m s in omega arith | inr s ↦ let f : false ≡ true = rw s at i in absurd (false≢true f) ]
below_each n m (x ∷ xs) h i = elim (cases_Bool (nat_eq x m)) [
  | inl s ↦ let e = eqb-true x m s in let l = h.0 in omega arith
  | inr s ↦ below_each n m xs h.1 (rest_of n m x xs s i)
]
  where
    rest_of : (n m x : ℕ) (xs : List ℕ) → nat_eq x m ≡ false → is_in m (n ∷ x ∷ xs) ≡ true → is_in m (n ∷ xs) ≡ true
    rest_of n m x xs s i = elim (cases_Bool (nat_eq n m)) [
      | inl t ↦ rw t refl
      | inr t ↦ rw t (let j : is_in m (x ∷ xs) ≡ true = rw t at i in let r : is_in m xs ≡ true = rw s at j in r)
    ]

-- each point is below the size of the links
pub point_below : (q : Inside) (point : ℕ) → IsKept q → is_within q.lists q.size point ≡ true → point < length q.lists
point_below q point k w = let s = k.size in omega (arith, below_each q.size point (armed_of q) k.below w)

pub depth_below : (q : Inside) → IsKept q → q.depth < length q.lists
depth_below q k = point_below q q.depth k k.depth

pub breadth_below : (q : Inside) → IsKept q → q.breadth < length q.lists
breadth_below q k = point_below q q.breadth k k.breadth

-- an event that isn't there isn't a point
pub other_than_point : (q : Inside) (event point : ℕ) → event < q.size → is_in event (armed_of q) ≡ false → is_within q.lists q.size point ≡ true → point ≢ event
other_than_point q event point l n w e =
    let d : nat_eq q.size event ≡ false = ne_eqb q.size event (λ s. absurd (omega arith)) in
    false≢true (sym (rw (d, n) refl) ∙ subst (λ y. is_within q.lists q.size y ≡ true) e w)

-- an event that doesn't stand alone is armed
pub armed_if : (q : Inside) (event : ℕ) → IsKept q → event < q.size → members q.lists event ≢ [] → is_in event (armed_of q) ≡ true
armed_if q event k l d = elim (cases_Bool (is_in event (armed_of q))) [ inl i ↦ i | inr n ↦ absurd (d (k.idle event l n)) ]

-- an event was put before a point
pub record IsPut (q : Inside) (lists : List (List ℕ)) (point event : ℕ) : Type 0 where
  pub puts : PutsBefore q.lists lists point event
  pub others : KeepsOtherLists q.lists lists point event
  pub size : length lists ≡ length q.lists
  pub fresh : is_in event (armed_of q) ≡ false
  pub below : event < q.size
  pub within : is_within q.lists q.size point ≡ true

abbrev pub put : Inside → List (List ℕ) → ℕ → ℕ → Inside
put q lists depth breadth = record { lists = lists; depth = depth; breadth = breadth; size = q.size }

pub put_list : (q : Inside) (lists : List (List ℕ)) (point event : ℕ) → IsPut q lists point event → members lists q.size ≡ insert (armed_of q) (place_of point (armed_of q)) event
put_list q lists point event p = p.puts q.size p.within

pub kept_put : (way : Way) (q : Inside) (lists : List (List ℕ)) (point event depth breadth : ℕ) → IsKept q → IsPut q lists point event → events_of (put q lists depth breadth) ≡ armed way event (events_of q) → is_within lists q.size depth ≡ true
    → is_within lists q.size breadth ≡ true → IsKept (put q lists depth breadth)
kept_put way q lists point event depth breadth k p is d b =
    let list = put_list q lists point event p in
    record {
      queue = subst IsQueue (sym is) (armed_keeps way event (events_of q) k.queue);
      size = p.size ∙ k.size;
      below = rw list (all_insert (λ e. e < q.size) (armed_of q) (place_of point (armed_of q)) event p.below k.below);
      depth = d;
      breadth = b;
      idle = λ other l n.
          let o = not_new other event (place_of point (armed_of q)) (armed_of q) (rw list at n) in
          let alone = k.idle other l o.0 in
          p.others other o.1
          (let s : nat_eq other point ≡ false = ne_eqb other point (λ e. other_than_point q other point l o.0 p.within (sym e)) in rw (s, alone) refl)
          ∙ alone;
    }

pub still_point : (q : Inside) (lists : List (List ℕ)) (point event other : ℕ) → IsPut q lists point event → is_within q.lists q.size other ≡ true → is_within lists q.size other ≡ true
still_point q lists point event other p w = rw (put_list q lists point event p) (still_within other event (place_of point (armed_of q)) q.size (armed_of q) w)

pub now_point : (q : Inside) (lists : List (List ℕ)) (point event : ℕ) → IsPut q lists point event → is_within lists q.size event ≡ true
now_point q lists point event p = rw (put_list q lists point event p) (new_within event (place_of point (armed_of q)) q.size (armed_of q))

same_events : (xs ys : List ℕ) (a b c d : ℕ) → xs ≡ ys → a ≡ b → c ≡ d → (let x : Events = record { list = xs; depth = a; breadth = c } in x) ≡ record { list = ys; depth = b; breadth = d }
same_events xs ys a b c d e f g = rw (e, f, g) refl

-- depth first: both points stay where they are, and rise
pub first_put : (q : Inside) (lists : List (List ℕ)) (event : ℕ) → IsKept q → IsPut q lists q.depth event → events_of (put q lists q.depth q.breadth) ≡ armed DepthFirst event (events_of q)
first_put q lists event k p =
    let xs = armed_of q in
    let list = put_list q lists q.depth event p in
    let i = place_of q.depth xs in
    let low = k.queue.depth in
    rw p.fresh
    (same_events _ _ _ _ _ _ list
    (ap (place_of q.depth) list ∙ later_point q.depth event i xs (omega arith) (λ e. other_than_point q event q.depth p.below p.fresh k.depth (sym e)))
    (ap (place_of q.breadth) list ∙ later_point q.breadth event i xs low (λ e. other_than_point q event q.breadth p.below p.fresh k.breadth (sym e))))

-- where the first point goes when an event is put before the second
abbrev pub moved_to : ℕ → ℕ → ℕ → ℕ
moved_to point from to = if point == from then to else point

moved_same : (point from to : ℕ) → nat_eq point from ≡ true → to ≡ moved_to point from to
moved_same point from to s = rw s refl

moved_other : (point from to : ℕ) → nat_eq point from ≡ false → point ≡ moved_to point from to
moved_other point from to s = rw s refl

depth_moved : (q : Inside) (lists : List (List ℕ)) (event : ℕ) → IsKept q → IsPut q lists q.breadth event → place_of (moved_to q.depth q.breadth event) (members lists q.size) ≡ place_of q.depth (armed_of q)
depth_moved q lists event k p =
    let xs = armed_of q in
    let list = put_list q lists q.breadth event p in
    let b = place_of q.breadth xs in
    elim (cases_Bool (nat_eq q.depth q.breadth)) [
      | inl s ↦ rw s (ap (place_of event) list ∙ new_point event b xs p.fresh (place_most q.breadth xs) ∙ ap (λ y. place_of y xs) (sym (eqb-true q.depth q.breadth s)))
      | inr s ↦
          let low = k.queue.depth in
          let apart : place_of q.depth xs ≢ b = λ e. eqb-false q.depth q.breadth s (same_point q.depth q.breadth q.size xs k.depth k.breadth e) in
          let before : place_of q.depth xs < b = omega arith in
          rw s (ap (place_of q.depth) list ∙ earlier_point q.depth event b xs before (place_most q.breadth xs))
    ]

pub depth_within : (q : Inside) (lists : List (List ℕ)) (event : ℕ) → IsKept q → IsPut q lists q.breadth event → is_within lists q.size (moved_to q.depth q.breadth event) ≡ true
depth_within q lists event k p = elim (cases_Bool (nat_eq q.depth q.breadth)) [
  | inl s ↦ subst (λ y. is_within lists q.size y ≡ true) (moved_same q.depth q.breadth event s) (now_point q lists q.breadth event p)
  | inr s ↦ subst (λ y. is_within lists q.size y ≡ true) (moved_other q.depth q.breadth event s) (still_point q lists q.breadth event q.depth p k.depth)
]

pub next_put : (q : Inside) (lists : List (List ℕ)) (event : ℕ) → IsKept q → IsPut q lists q.breadth event → events_of (put q lists (moved_to q.depth q.breadth event) q.breadth) ≡ armed BreadthFirst event (events_of q)
next_put q lists event k p =
    let xs = armed_of q in
    let list = put_list q lists q.breadth event p in
    rw p.fresh
    (same_events _ _ _ _ _ _ list (depth_moved q lists event k p)
    (ap (place_of q.breadth) list ∙ later_point q.breadth event (place_of q.breadth xs) xs (omega arith) (λ e. other_than_point q event q.breadth p.below p.fresh k.breadth (sym e))))

pub last_put : (q : Inside) (lists : List (List ℕ)) (event : ℕ) → IsKept q → IsPut q lists q.breadth event → events_of (put q lists (moved_to q.depth q.breadth event) event) ≡ armed AtLast event (events_of q)
last_put q lists event k p =
    let xs = armed_of q in
    let list = put_list q lists q.breadth event p in
    rw p.fresh (same_events _ _ _ _ _ _ list (depth_moved q lists event k p) (ap (place_of event) list ∙ new_point event (place_of q.breadth xs) xs p.fresh (place_most q.breadth xs)))

-- an event that is there already stays
pub stays_armed : (way : Way) (event : ℕ) (q : Events) → is_armed event q ≡ true → armed way event q ≡ q
stays_armed DepthFirst event q h = rw h refl
stays_armed BreadthFirst event q h = rw h refl
stays_armed AtLast event q h = rw h refl

-- an event left
pub record IsTaken (q : Inside) (lists : List (List ℕ)) (event : ℕ) : Type 0 where
  pub alone : members lists event ≡ []
  pub others : TakesOut q.lists lists event
  pub size : length lists ≡ length q.lists
  pub there : is_in event (armed_of q) ≡ true
  pub below : event < q.size

abbrev pub behind_of : Inside → ℕ → ℕ
behind_of q event = behind q.size event (armed_of q)

taken_list : (q : Inside) (lists : List (List ℕ)) (event : ℕ) → IsTaken q lists event → members lists q.size ≡ without event (armed_of q)
taken_list q lists event t = t.others q.size (λ e. let l = t.below in absurd (omega arith))

point_falls : (q : Inside) (lists : List (List ℕ)) (event point : ℕ) → IsKept q → IsTaken q lists event → is_within q.lists q.size point ≡ true
    → place_of (moved_to point event (behind_of q event)) (members lists q.size) ≡ falls (place_of event (armed_of q)) (place_of point (armed_of q))
point_falls q lists event point k t w =
    let xs = armed_of q in
    let list = taken_list q lists event t in
    elim (cases_Bool (nat_eq point event)) [
      | inl s ↦
          let e = eqb-true point event s in
          rw s
          (ap (place_of (behind_of q event)) list
          ∙ point_taken q.size event xs (headless q k) t.there k.queue.apart
          ∙ sym (falls_at (place_of event xs))
          ∙ ap (λ y. falls (place_of event xs) (place_of y xs)) (sym e))
      | inr s ↦ rw s (ap (place_of point) list ∙ other_point point event xs (eqb-false point event s) t.there k.queue.apart)
    ]

point_stays : (q : Inside) (lists : List (List ℕ)) (event point : ℕ) → IsKept q → IsTaken q lists event → is_within q.lists q.size point ≡ true → is_within lists q.size (moved_to point event (behind_of q event)) ≡ true
point_stays q lists event point k t w =
    let xs = armed_of q in
    let within : (y : ℕ) → is_in y (q.size ∷ without event xs) ≡ true → is_within lists q.size y ≡ true = λ y h. ap (λ ys. is_in y (q.size ∷ ys)) (taken_list q lists event t) ∙ h in
    elim (cases_Bool (nat_eq point event)) [
      | inl s ↦ subst (λ y. is_within lists q.size y ≡ true) (moved_same point event (behind_of q event) s)
          (within (behind_of q event) (kept_within (behind_of q event) event q.size xs (behind_is_other q.size event xs (headless q k) t.there k.queue.apart) (behind_within q.size event xs t.there)))
      | inr s ↦ subst (λ y. is_within lists q.size y ≡ true) (moved_other point event (behind_of q event) s) (within point (kept_within point event q.size xs (eqb-false point event s) w))
    ]

abbrev pub left : Inside → List (List ℕ) → ℕ → Inside
left q lists event = put q lists (moved_to q.depth event (behind_of q event)) (moved_to q.breadth event (behind_of q event))

pub events_left : (q : Inside) (lists : List (List ℕ)) (event : ℕ) → IsKept q → IsTaken q lists event → events_of (left q lists event) ≡ without_place (place_of event (armed_of q)) (events_of q)
events_left q lists event k t =
    same_events _ _ _ _ _ _ (taken_list q lists event t ∙ without_is event (armed_of q) t.there k.queue.apart) (point_falls q lists event q.depth k t k.depth) (point_falls q lists event q.breadth k t k.breadth)

pub kept_left : (q : Inside) (lists : List (List ℕ)) (event : ℕ) → IsKept q → IsTaken q lists event → IsKept (left q lists event)
kept_left q lists event k t =
    let xs = armed_of q in
    let list = taken_list q lists event t in
    record {
      queue = subst IsQueue (sym (events_left q lists event k t)) (removed (place_of event xs) (events_of q) k.queue (place_before event xs t.there));
      size = t.size ∙ k.size;
      below = rw (list, without_is event xs t.there k.queue.apart) (all_remove (λ e. e < q.size) xs (place_of event xs) k.below);
      depth = point_stays q lists event q.depth k t k.depth;
      breadth = point_stays q lists event q.breadth k t k.breadth;
      idle = λ other l n. elim (cases_Bool (nat_eq other event)) [
        | inl s ↦ ap (members lists) (eqb-true other event s) ∙ t.alone
        | inr s ↦
            let d = eqb-false other event s in
            t.others other d ∙ ap (without event) (k.idle other l (not_left other event xs d (rw list at n)))
      ];
    }

-- what disarming is, where the event is there or isn't
pub disarmed_there : (event : ℕ) (q : Events) → is_armed event q ≡ true → disarmed event q ≡ without_place (place_of event q.list) q
disarmed_there event q h = let t : nat_lt (place_of event q.list) (length q.list) ≡ true = lt-ltb _ _ (place_before event q.list h) in rw t refl

pub disarmed_absent : (event : ℕ) (q : Events) → is_armed event q ≡ false → disarmed event q ≡ q
disarmed_absent event q h = let t : nat_lt (place_of event q.list) (length q.list) ≡ false = let e = place_past event q.list h in le-ltb _ _ (omega arith) in rw t refl

-- the first event
pub head_none : (q : Events) → slice_get q.list 0 ≡ None → (head_of q ≡ None) × (taken q ≡ q)
head_none q h = none_in q.list q.depth q.breadth h
  where
    none_in : (xs : List ℕ) (d b : ℕ) → slice_get xs 0 ≡ None → (first_of xs ≡ None) × (taken (record { list = xs; depth = d; breadth = b }) ≡ record { list = xs; depth = d; breadth = b })
    none_in [] d b h = (refl, refl)
    none_in (x ∷ xs) d b h = cc

pub head_some : (q : Events) (event : ℕ) → slice_get q.list 0 ≡ Some event → (head_of q ≡ Some event) × (taken q ≡ without_place (place_of event q.list) q)
head_some q event h = some_in q.list q.depth q.breadth event h
  where
    some_in : (xs : List ℕ) (d b event : ℕ) → slice_get xs 0 ≡ Some event → (first_of xs ≡ Some event) × (taken (record { list = xs; depth = d; breadth = b }) ≡ without_place (place_of event xs) (record { list = xs; depth = d; breadth = b }))
    some_in [] d b event h = cc
    some_in (x ∷ xs) d b event h =
        let e : x ≡ event = cc in
        let i : place_of event (x ∷ xs) ≡ 0 = let s = eq-eqb x event e in rw s refl in
        let t : nat_lt 0 (length (x ∷ xs)) ≡ true = lt-ltb _ _ (omega arith) in
        (h, rw (t, i) refl)

-- a new queue, and one whose first point goes to the front
pub kept_new : (lists : List (List ℕ)) (size : ℕ) → ((head : ℕ) → members lists head ≡ []) → length lists ≡ size + 1 → IsKept (record { lists = lists; depth = size; breadth = size; size = size })
kept_new lists size h l =
    let s = eq-eqb size size refl in
    record {
      queue = rw (h size) empty_is;
      size = l;
      below = rw (h size) tt;
      depth = rw s refl;
      breadth = rw s refl;
      idle = λ event _ _. h event;
    }

pub events_new : (lists : List (List ℕ)) (size : ℕ) → ((head : ℕ) → members lists head ≡ []) → events_of (record { lists = lists; depth = size; breadth = size; size = size }) ≡ no_events
events_new lists size h = rw (h size) refl

pub is_put : (q : Inside) (lists : List (List ℕ)) (point event : ℕ) → IsUnlisted q.lists event → event < q.size → is_within q.lists q.size point ≡ true → PutsBefore q.lists lists point event → KeepsOtherLists q.lists lists point event → length lists ≡ length q.lists
    → IsPut q lists point event
is_put q lists point event u l w puts others size = record { puts = puts; others = others; size = size; fresh = u q.size (λ e. absurd (omega arith)); below = l; within = w }

member_in : (n m : ℕ) (xs : List ℕ) → AllByRecursion (λ e. e < n) xs → is_in m xs ≡ true → m < n
member_in n m [] h i = absurd (false≢true i)
member_in n m (x ∷ xs) h i = elim (cases_Bool (nat_eq x m)) [
  | inl s ↦ let e = eqb-true x m s in let l = h.0 in omega arith
  | inr s ↦ member_in n m xs h.1 (rw s at i)
]

pub member_below : (q : Inside) (event : ℕ) → IsKept q → is_in event (armed_of q) ≡ true → event < q.size
member_below q event k i = member_in q.size event (armed_of q) k.below i

-- the first point goes to the first event, or else to the head
abbrev pub rewound_links : Inside → Inside
rewound_links q = put q q.lists (unwrap_or (slice_get (armed_of q) 0) q.size) q.breadth

pub events_rewound : (q : Inside) → events_of (rewound_links q) ≡ rewound (events_of q)
events_rewound q = same_events _ _ _ _ _ _ refl (first_point q.size (armed_of q)) refl

pub kept_rewound : (q : Inside) → IsKept q → IsKept (rewound_links q)
kept_rewound q k = record {
  queue = subst IsQueue (sym (events_rewound q)) (rewound_keeps (events_of q) k.queue);
  size = k.size;
  below = k.below;
  depth = first_point_within q.size (armed_of q);
  breadth = k.breadth;
  idle = k.idle;
}
