-- A node is built, and took its trees.
use Rattle.std.proofs.Common.{◌≡◌, ◌≢◌, ℕ, ◌+◌, ◌-◌, ◌<◌, List, [], ◌∷◌, Option, None, Some, Bool, true, false, cond, not, length, map, arith, refl, sym, ap, ◌∙◌, inl, inr, subst}
use Rattle.std.specs.Prelude.{nat_lt, ◌&&◌, IsSome, IsTrue, if◌then◌else◌}
use Rattle.std.specs.List.{AllByRecursion}
use Rattle.std.proofs.lemmas.Bool.{cases_eq, false≢true}
use Rattle.std.proofs.lemmas.Bool.Decides.{nat_tests}
use Rattle.kj_base.specs.Queue.{Events}
use Rattle.kj_base.specs.Places.{Spot, Row, row, spot_of, spot_as}
use Rattle.kj_base.specs.Store.{rows_after, IsBareOrNone}
use Rattle.kj_base.specs.declared.nodes.Node.{Node}
use Rattle.kj_base.specs.declared.nodes.Form.{Form as FormCase}
use Rattle.kj_model.specs.Nodes.{Form, Entry as Seen, form_at, is_in}
use Rattle.kj_model.specs.World.{World}
use Rattle.kj_model.specs.Places.{placed_over, numbered, built}
use Rattle.promise_nodes.specs.Shown.{shown}
use Rattle.promise_nodes.specs.Kept.{IsPart, AreRoots, AreBuilt, AreRowsBuilt, IsBeforeBuilt, RisesIn, OnlyFalls, OnlyRises, rows_left}
use Rattle.promise_graph.specs.declared.fields.Marks.{Marks}
use Rattle.promise_graph.specs.Slots.{number_of, number_at, IsAbsent, Finds, slot_of}
use Rattle.promise_graph.specs.Rings.{next_at}
use Rattle.promise_graph.specs.Kept.{AreNumbered, AreBare, IsSound, IsKept, taker_at, is_taken, is_taken_at, is_listed, is_listed_at, is_plain, is_plain_at, is_plain_node, is_there, hub_of, form_parts}
use Rattle.promise_graph.specs.Standing.{name_or, name_at, HasSpots, HasNodes, AreOwned, IsSeen, Stands}
use Rattle.promise_graph.specs.Rows.{FindsBefore, name_before, slot_before, row_at, room_of, IsAdded}
use Rattle.promise_graph.proofs.Lists.{some_same, none_some, not_some, equal_not, equal_yes, of_all, both, first_of_both}
use Rattle.promise_graph.proofs.Numbered.{slot_live, slot_absent, slot_found, slot_is}
use Rattle.promise_graph.proofs.Falling.{taken_by, taken_out, untaken, listed_in, listed_out, plain_out}

-- ---- other entries in the index, or other takers

pub sound_index : (at : ℕ → Option Node) (q : Events) (slots size : ℕ) (m m' : Marks) → m' ≡ record m { index = m'.index } → AreNumbered at m' → IsSound at q slots size m → IsSound at q slots size m'
sound_index at q slots size m m' same k s = subst (λ (x : Marks). IsSound at q slots size x) (sym same) (record { store_is = s.store_is; numbered = subst (λ (x : Marks). AreNumbered at x) same k; events = s.events; paired = s.paired; single = s.single; tasks_paired = s.tasks_paired; hubs_paired = s.hubs_paired })

pub seen_index : (at : ℕ → Option Node) (q : Events) (sp : List Spot → Type 0) (m m' : Marks) (w : World) → m' ≡ record m { index = m'.index } → IsSeen at q sp m w → IsSeen at q sp m' w
seen_index at q sp m m' w same st = subst (λ (x : Marks). IsSeen at q sp x w) (sym same) (record { nodes = st.nodes; queue = st.queue; spots = st.spots; next_is = st.next_is; slots_are = st.slots_are; firing_is = st.firing_is; awaited_is = st.awaited_is; tasks = st.tasks; hubs = st.hubs })

pub added_index : (at new : ℕ → Option Node) (bare bare' : ℕ → Bool) (m m' m'' : Marks) (before : Option ℕ) (slot : ℕ) (form : FormCase) → m' ≡ record m { index = m'.index } → IsAdded at new bare bare' m' m'' before slot form → IsAdded at new bare bare' m m'' before slot form
added_index at new bare bare' m m' m'' before slot form same a =
    let b = subst (λ (x : Marks). IsAdded at new bare bare' x m'' before slot form) same a in
    record { was_free = b.was_free; placed = b.placed; others = b.others; bare_here = b.bare_here; bares = b.bares; untaken = b.untaken; takers = b.takers; all_owners = b.all_owners; rings_are = b.rings_are; next_is = b.next_is; slots_are = b.slots_are }

pub sound_owners : (at : ℕ → Option Node) (q : Events) (slots size : ℕ) (m m' : Marks) → m' ≡ record m { owners = m'.owners } → IsSound at q slots size m → IsSound at q slots size m'
sound_owners at q slots size m m' same s =
    let k = s.numbered in
    subst (λ (x : Marks). IsSound at q slots size x) (sym same) (record {
      store_is = s.store_is;
      numbered = record { few = k.few; first = k.first; low = k.low; all = k.all; each = k.each; given = k.given; indexed = k.indexed; rising = k.rising; below = k.below; above = k.above; room = k.room };
      events = s.events;
      paired = s.paired;
      single = s.single;
      tasks_paired = s.tasks_paired;
      hubs_paired = s.hubs_paired;
    })

pub seen_owners : (at : ℕ → Option Node) (q : Events) (sp : List Spot → Type 0) (m m' : Marks) (w : World) → m' ≡ record m { owners = m'.owners } → IsSeen at q sp m w → IsSeen at q sp m' w
seen_owners at q sp m m' w same st = subst (λ (x : Marks). IsSeen at q sp x w) (sym same) (record { nodes = st.nodes; queue = st.queue; spots = st.spots; next_is = st.next_is; slots_are = st.slots_are; firing_is = st.firing_is; awaited_is = st.awaited_is; tasks = st.tasks; hubs = st.hubs })

-- ---- the node before which one is built

pub before_slot_is : (at : ℕ → Option Node) (m : Marks) → AreNumbered at m → (before slot : Option ℕ) → FindsBefore at before slot → slot ≡ slot_before m before
before_slot_is at m k None slot h = h
before_slot_is at m k (Some n) slot h = slot_found at m k n slot h

-- a node that isn't live has no spot
absent_spot : (at : ℕ → Option Node) (next n : ℕ) → IsAbsent at n → (xs : List Spot) → AllByRecursion (λ (x : Spot). IsSome (number_at at x.number)) xs → spot_of n (map (spot_as (name_at at next)) xs) ≡ None
absent_spot at next n a [] h = refl
absent_spot at next n a (x ∷ xs) h = ap (λ (b : Bool). cond b (Some (spot_as (name_at at next) x)) (spot_of n (map (spot_as (name_at at next)) xs))) (equal_not (name_at at next x.number) n (by_number (number_at at x.number) refl)) ∙ absent_spot at next n a xs h.1
  where
    by_number : (o : Option ℕ) → number_at at x.number ≡ o → name_or (next + x.number) (number_at at x.number) ≢ n
    by_number None e = absurd (not_some (number_at at x.number) e h.0)
    by_number (Some m) e = λ same. a x.number (e ∙ ap (λ (j : ℕ). Some j) (sym (ap (λ (o : Option ℕ). name_or (next + x.number) o) e) ∙ same))

pub no_spot : (at : ℕ → Option Node) (sp : List Spot → Type 0) (next n key : ℕ) (spots : List Spot) → IsAbsent at n → HasSpots at sp next spots key → spot_of n spots ≡ None
no_spot at sp next n key spots a h = ap (spot_of n) h.placed ∙ absent_spot at next n a h.by_slot h.live

-- building before it is building before its slot's node
pub built_before : (at : ℕ → Option Node) (q : Events) (sp : List Spot → Type 0) (m : Marks) (w : World) (f : Form) (before slot : Option ℕ) → FindsBefore at before slot → IsSeen at q sp m w → built (name_before at slot) f w ≡ built before f w
built_before at q sp m w f None slot h st = ap (λ (o : Option ℕ). built (name_before at o) f w) h
built_before at q sp m w f (Some n) None h st = ap (λ (o : Option Spot). numbered f (placed_over o w)) (sym (no_spot at sp m.next n w.next_key w.spots h st.spots))
built_before at q sp m w f (Some n) (Some s) h st = ap (λ (o : Option ℕ). built o f w) h

pub bare_before : (at : ℕ → Option Node) (bare : ℕ → Bool) (m : Marks) (parts : List ℕ) (before slot : Option ℕ) → AreNumbered at m → AreBare at bare m → IsPart before parts → AreRoots (is_taken m) parts → FindsBefore at before slot → IsBareOrNone bare slot
bare_before at bare m parts None slot k o part roots h = subst (IsBareOrNone bare) (sym h) tt
bare_before at bare m parts (Some n) None k o part roots h = tt
bare_before at bare m parts (Some n) (Some s) k o part roots h = o.bare_is s (subst (λ (x : Option ℕ). IsSome x) (sym h) refl) (untaken at m k s n h (of_all (λ j. is_taken m j ≡ false) n parts roots part))

-- ---- all that is known

pub record Facts (at new : ℕ → Option Node) (bare bare' : ℕ → Bool) (q q' : Events) (slots slots' size size' : ℕ) (m placed_m last : Marks) (before at_slot : Option ℕ) (slot : ℕ) (form : FormCase) : Type 0 where
  pub kept : IsKept at bare q slots size m
  pub found : FindsBefore at before at_slot
  pub part : IsPart before (form_parts form)
  pub roots : AreRoots (is_taken m) (form_parts form)
  pub given : AreBuilt m.next (form_parts form)
  pub added : IsAdded at new bare bare' m placed_m at_slot slot form
  pub sound : IsSound new q' slots' size' placed_m
  pub same : last ≡ record placed_m { owners = last.owners }
  pub all : length last.owners.items ≡ placed_m.slots
  pub takers : (s n : ℕ) → number_at new s ≡ Some n → taker_at last s ≡ (if is_in n (form_parts form) then m.next else taker_at placed_m s)

some_out : (o : Option ℕ) → IsSome o → (n : ℕ) × (o ≡ Some n)
some_out None h = absurd (false≢true h)
some_out (Some n) h = (n, refl)

module _ (at new : ℕ → Option Node) (bare bare' : ℕ → Bool) (q q' : Events) (slots slots' size size' : ℕ) (m placed_m last : Marks) (before at_slot : Option ℕ) (slot : ℕ) (form : FormCase) (f : Facts at new bare bare' q q' slots slots' size size' m placed_m last before at_slot slot form) where
  k : AreNumbered at m
  k = f.kept.sound.numbered

  pub sound_last : IsSound new q' slots' size' last
  sound_last = sound_owners new q' slots' size' placed_m last f.same f.sound

  k' : AreNumbered new last
  k' = sound_last.numbered

  pub next_last : last.next ≡ m.next + 1
  next_last = ap (λ (x : Marks). x.next) f.same ∙ f.added.next_is

  pub slots_last : last.slots ≡ m.slots
  slots_last = ap (λ (x : Marks). x.slots) f.same ∙ f.added.slots_are

  here : number_at new slot ≡ Some m.next
  here = ap number_of f.added.placed

  other : (s : ℕ) → s ≢ slot → number_at new s ≡ number_at at s
  other s d = ap number_of (f.added.others s d)

  -- a taken part is a part of the new node, or was taken before
  in_parts : (s n : ℕ) → number_at new s ≡ Some n → is_in n (form_parts form) ≡ true → taker_at last s ≡ m.next
  in_parts s n h i = f.takers s n h ∙ ap (λ (b : Bool). if b then m.next else taker_at placed_m s) i

  not_in_parts : (s n : ℕ) → number_at new s ≡ Some n → is_in n (form_parts form) ≡ false → taker_at last s ≡ taker_at placed_m s
  not_in_parts s n h i = f.takers s n h ∙ ap (λ (b : Bool). if b then m.next else taker_at placed_m s) i

  untaken_part : (s n : ℕ) → number_at at s ≡ Some n → is_in n (form_parts form) ≡ true → taker_at m s ≡ 0
  untaken_part s n h i = untaken at m k s n h (of_all (λ j. is_taken m j ≡ false) n (form_parts form) f.roots i)

  low_part : (n : ℕ) → is_in n (form_parts form) ≡ true → n < m.next
  low_part n i = of_all (λ j. j < m.next) n (form_parts form) f.given i

  not_next : (s n : ℕ) → s ≡ slot → number_at new s ≡ Some n → n ≡ m.next
  not_next s n p h = some_same n m.next (sym h ∙ ap (number_at new) p ∙ here)

  bare_case : (b : Bool) (s n : ℕ) → is_in n (form_parts form) ≡ b → number_at new s ≡ Some n → taker_at last s ≡ 0 → bare' s ≡ true
  bare_case true s n i h e = absurd (let p = k.first in let t = in_parts s n h i in omega (arith, p, e, t))
  bare_case false s n i h e = elim (cases_eq s slot) [
    | inl p ↦ ap bare' p ∙ f.added.bare_here
    | inr d ↦ f.added.bares s d (not_before at_slot before f.found f.part)
        ∙ f.kept.owned.bare_is s (subst (λ (o : Option ℕ). IsSome o) (sym (sym (other s d) ∙ h)) refl) (sym (f.added.takers s d) ∙ sym (not_in_parts s n h i) ∙ e)
  ]
    where
      not_before : (o b : Option ℕ) → FindsBefore at b o → IsPart b (form_parts form) → o ≢ Some s
      not_before o None g p e = none_some s (sym g ∙ e)
      not_before None (Some j) g p e = none_some s e
      not_before (Some t) (Some j) g p e =
          let same : t ≡ s = some_same t s e in
          let d : s ≢ slot = (λ q. none_some j (sym (ap number_of f.added.was_free) ∙ ap (number_at at) (sym (same ∙ q)) ∙ g)) in
          let number : j ≡ n = some_same j n (sym g ∙ ap (number_at at) same ∙ sym (other s d) ∙ h) in
          false≢true (sym i ∙ ap (λ (x : ℕ). is_in x (form_parts form)) (sym number) ∙ p)

  pub kept_last : IsKept new bare' q' slots' size' last
  kept_last = record {
    sound = sound_last;
    owned = record {
      all_owners = f.all ∙ sym (ap (λ (x : Marks). x.slots) f.same);
      bare_is = λ s h e. let n = some_out (number_at new s) h in bare_case (is_in n.0 (form_parts form)) s n.0 refl n.1 e;
    };
  }

  owner_case : AreOwned at m → (b : Bool) (s t n : ℕ) (node : Node) → s ≢ slot → at s ≡ Some node → number_at new t ≡ Some n → is_in n (form_parts node.form) ≡ true → is_in n (form_parts form) ≡ b → taker_at last t ≡ node.number.0
  owner_case o b s t n node d h l i c = elim (cases_eq t slot) [
    | inl p ↦ absurd (let e = not_next t n p l in let low = o.below s n node h i in omega (arith, e, low))
    | inr x ↦ by_part b (sym (other t x) ∙ l) c x
  ]
    where
      by_part : (b : Bool) → number_at at t ≡ Some n → is_in n (form_parts form) ≡ b → t ≢ slot → taker_at last t ≡ node.number.0
      by_part true l' c x = absurd (let took = o.owner_is s t n node h l' i in let free = untaken_part t n l' c in let p = (k.given s node.number.0 (ap number_of h)).0 in omega (arith, took, free, p))
      by_part false l' c x = not_in_parts t n l c ∙ f.added.takers t x ∙ o.owner_is s t n node h l' i

  first_node : (P : ℕ → Node → Type 0) → P slot (record { number = record { 0 = m.next }; form = form }) → ((s : ℕ) (node : Node) → s ≢ slot → at s ≡ Some node → P s node) → (s : ℕ) (node : Node) → new s ≡ Some node → P s node
  first_node P first elsewhere s node h = elim (cases_eq s slot) [
    | inl p ↦ subst (λ (i : ℕ). P i node) (sym p) (subst (λ (y : Node). P slot y) (some_same _ node (sym f.added.placed ∙ ap new (sym p) ∙ h)) first)
    | inr d ↦ elsewhere s node d (sym (f.added.others s d) ∙ h)
  ]

  owned_last : AreOwned at m → AreOwned new last
  owned_last o = record {
    owner_is = λ s t n node h l. first_node (λ s node. is_in n (form_parts node.form) ≡ true → taker_at last t ≡ node.number.0)
        (λ i. in_parts t n l i)
        (λ s node d e i. owner_case o (is_in n (form_parts form)) s t n node d e l i refl) s node h;
    below = λ s n node h. first_node (λ s node. is_in n (form_parts node.form) ≡ true → n < last.next)
        (λ i. let low = low_part n i in omega (arith, low, next_last))
        (λ s node d e i. let low = o.below s n node e i in omega (arith, low, next_last)) s node h;
  }

  pub stands_last : (sp sp' : List Spot → Type 0) (w : World) → Stands at q sp m w → IsSeen new q' sp' placed_m (built (name_before at at_slot) (shown [] form) w) → Stands new q' sp' last (built before (shown [] form) w)
  stands_last sp sp' w st seen = record {
    seen = subst (λ (v : World). IsSeen new q' sp' last v) (built_before at q sp m w (shown [] form) before at_slot f.found st.seen) (seen_owners new q' sp' placed_m last (built (name_before at at_slot) (shown [] form) w) f.same seen);
    owned = owned_last st.owned;
  }

  pub taken_last : RisesIn (form_parts form) (is_taken m) (is_taken last)
  taken_last n h out = taken_out (is_taken m n ≡ true) new last k' n h (λ s l d.
      let took : taker_at placed_m s ≢ 0 = (λ e. d (not_in_parts s n l out ∙ e)) in
      let x : s ≢ slot = (λ p. took (ap (taker_at placed_m) p ∙ f.added.untaken)) in
      taken_by at m k s n (sym (other s x) ∙ l) (λ e. took (f.added.takers s x ∙ e)))

  next_out : (b : Bool) → is_in m.next (form_parts form) ≡ b → is_in m.next (form_parts form) ≡ false
  next_out true e = absurd (let low = low_part m.next e in omega (arith, low))
  next_out false e = e

  -- nobody took the new node
  pub root_last : is_taken last m.next ≡ false
  root_last = ap (is_taken_at last) (slot_live new last k' slot m.next here)
      ∙ ap not (equal_yes (taker_at last slot) 0 (not_in_parts slot m.next here (next_out (is_in m.next (form_parts form)) refl) ∙ f.added.untaken))

  rings_last : (s : ℕ) → next_at last.rings s ≡ next_at m.rings s
  rings_last s = ap (λ (x : Marks). next_at x.rings s) f.same ∙ ap (λ (r : _). next_at r s) f.added.rings_are

  alone_here : next_at m.rings slot ≡ slot
  alone_here = f.kept.sound.single slot (let low = f.sound.numbered.low slot (subst (λ (o : Option ℕ). IsSome o) (sym here) refl) in omega (arith, low, f.added.slots_are)) f.added.was_free

  -- no node had its number
  pub anew_last : (es : List Seen) → HasNodes at m.rings es → form_at m.next es ≡ None
  anew_last es has = has.absent m.next (λ s h. absurd (let low = (k.given s m.next h).1 in omega (arith, low)))

  -- the new node stands in no ring
  pub unlisted_last : is_listed new last m.next ≡ false
  unlisted_last = ap (is_listed_at new last) (slot_live new last k' slot m.next here)
      ∙ ap (λ (b : Bool). is_there (hub_of (new slot)) && not b) (equal_yes (next_at last.rings slot) slot (rings_last slot ∙ alone_here))
      ∙ never (is_there (hub_of (new slot)))
    where
      never : (b : Bool) → (b && false) ≡ false
      never true = refl
      never false = refl

  pub listed_last : OnlyFalls (is_listed at m) (is_listed new last)
  listed_last n h = listed_out (is_listed at m n ≡ true) new last k' n h (λ s l b d.
      let x : s ≢ slot = (λ p. d (rings_last s ∙ ap (next_at m.rings) p ∙ alone_here ∙ sym p)) in
      listed_in at m k s n (sym (other s x) ∙ l) (sym (ap is_there (ap hub_of (f.added.others s x))) ∙ b) (λ e. d (rings_last s ∙ e)))

  plain_case : (n : ℕ) (o : Option ℕ) → Finds new n o → is_plain at m n ≡ true → is_plain_at new o ≡ true
  plain_case n None g h = refl
  plain_case n (Some s) g h =
      let below = first_of_both (nat_lt n m.next) _ h in
      let low : n < m.next = grind (arith, nat_tests) in
      let x : s ≢ slot = (λ p. let e = not_next s n p g in absurd (omega (arith, e, low))) in
      ap is_plain_node (f.added.others s x) ∙ plain_out at m k s n (sym (other s x) ∙ g) h

  pub plain_last : OnlyRises (is_plain at m) (is_plain new last)
  plain_last n h =
      let below = first_of_both (nat_lt n m.next) _ h in
      let low : n < m.next = grind (arith, nat_tests) in
      let up : n < last.next = omega (arith, low, next_last) in
      let t : nat_lt n last.next ≡ true = grind (arith, nat_tests) in
      both (nat_lt n last.next) _ t (plain_case n (slot_of n last.numbers.items) (slot_is new last k' n) h)

  -- ---- the rows that are left

  slot_still : (n : ℕ) → n < m.next → slot_of n last.numbers.items ≡ slot_of n m.numbers.items
  slot_still n low = still (slot_of n m.numbers.items) (slot_is at m k n)
    where
      still : (o : Option ℕ) → Finds at n o → slot_of n last.numbers.items ≡ o
      still None g = slot_absent new last k' n (λ s h. elim (cases_eq s slot) [
        | inl p ↦ absurd (let e = not_next s n p h in omega (arith, e, low))
        | inr d ↦ g s (sym (other s d) ∙ h)
      ])
      still (Some s) g = slot_live new last k' s n (other s (λ p. none_some n (sym (ap number_of f.added.was_free) ∙ ap (number_at at) (sym p) ∙ g)) ∙ g)

  before_still : (b : Option ℕ) (c : ℕ) → IsBeforeBuilt m.next (row b c) → slot_before last b ≡ slot_before m b
  before_still None c h = refl
  before_still (Some n) c h = slot_still n h

  rows_still : (rows : List Row) → AreRowsBuilt m.next rows → map (row_at last) rows ≡ map (row_at m) rows
  rows_still [] h = refl
  rows_still (r ∷ rows) h = λ i. row (before_still r.before r.count h.0 i) r.count ∷ rows_still rows h.1 i

  left_case : (b : Bool) (count : ℕ) (more : List Row) → AreRowsBuilt m.next more → map (row_at last) (if b then row (Some m.next) (count - 1) ∷ more else more) ≡ (if b then row (Some slot) (count - 1) ∷ map (row_at m) more else map (row_at m) more)
  left_case true count more h = λ i. row (slot_live new last k' slot m.next here i) (count - 1) ∷ rows_still more h i
  left_case false count more h = rows_still more h

  pub rest_last : (room room' : List Row → Bool) → ((more : List Row) (count : ℕ) → 0 < count → IsTrue (room (row at_slot count ∷ more)) → IsTrue (room' (rows_after slot count more)))
      → (more : List Row) (count : ℕ) → 0 < count → AreRowsBuilt m.next more → IsTrue (room_of room m (row before count ∷ more)) → IsTrue (room_of room' last (rows_left m.next count more))
  rest_last room room' rest more count positive built_rows h =
      subst (λ (rows : List Row). IsTrue (room' rows)) (sym (left_case (nat_lt 1 count) count more built_rows))
      (rest (map (row_at m) more) count positive (subst (λ (o : Option ℕ). IsTrue (room (row o count ∷ map (row_at m) more))) (sym (before_slot_is at m k before at_slot f.found)) h))
