-- The lists of a graph, as its nodes come, go and change.
use Rattle.std.proofs.Common.{◌≡◌, ◌≢◌, ◌∙◌, ℕ, ◌+◌, ◌<◌, List, [], ◌∷◌, cond, Option, None, Some, Bool, true, false, not, map, arith, refl, sym, ap, inl, inr, subst}
use Rattle.std.specs.Prelude.{◌==◌, ◌&&◌, filter, find, reverse, if◌then◌else◌, IsSome}
use Rattle.std.proofs.lemmas.Bool.{cases_eq, false≢true}
use Rattle.kj_base.specs.declared.nodes.Node.{Node}
use Rattle.kj_base.specs.declared.numbers.Name.{Name}
use Rattle.kj_model.specs.World.{World}
use Rattle.promise_nodes.specs.Kept.{IsLive, is_live}
use Rattle.promise_nodes.specs.Members.{newest_member}
use Rattle.promise_graph.specs.declared.fields.Marks.{Marks}
use Rattle.promise_graph.specs.declared.memberships.Memberships.{Memberships}
use Rattle.promise_graph.specs.Slots.{number_at, Finds, slot_of, IsAbsent}
use Rattle.promise_graph.specs.Kept.{AreNumbered}
use Rattle.promise_graph.specs.Members.{is_given}
use Rattle.promise_graph.specs.Memberships.{slots_in, number_in, AreListed, AreNone, HasLists, HasListsBut}
use Rattle.promise_graph.specs.Rows.{Comes, Goes, gone_number}
use Rattle.promise_graph.specs.Standing.{HasNodes}
use Rattle.promise_graph.specs.Visits.{Whole}
use Rattle.promise_graph.proofs.Lists.{none_some, some_same, equal_yes, equal_not}
use Rattle.promise_graph.proofs.Numbered.{slot_is, one_slot}
use Rattle.promise_graph.proofs.Members.{filter_both, filter_same, given_live, given_absent, number_is, number_there, given_still, number_same, live_given}
use Rattle.promise_graph.proofs.Renamed.{all_more}
use Rattle.promise_graph.proofs.Listings.{all_in, in_reverse, listed_slot, slots_live, map_same, some_list}

-- what is seen has the same lists
pub lists_seen : {St Q : Type 0} (a b : Whole St Q) (lists : ℕ → List ℕ) → a ≡ b → HasLists b.marks b.memberships lists → HasLists a.marks a.memberships lists
lists_seen a b lists e h = rw e h

-- the lists stay where no number of a slot changes
pub lists_still : (m m' : Marks) (x : Memberships) (lists : ℕ → List ℕ) → m'.numbers.items ≡ m.numbers.items → m'.slots ≡ m.slots → m'.next ≡ m.next → HasLists m x lists → HasLists m' x lists
lists_still m m' x lists numbers slots next h = record {
  named = λ l.
      ap (λ (v : List ℕ). filter (is_given v) (reverse (lists l))) numbers
      ∙ h.named l
      ∙ sym (ap (λ (v : List ℕ). map (number_in v) (slots_in x m'.slots l)) numbers ∙ ap (λ (s : ℕ). map (number_in m.numbers.items) (slots_in x s l)) slots);
  live = λ s i. subst (λ (v : List ℕ). 0 < number_in v s) (sym numbers) (h.live s i);
  below = λ l q i. subst (λ (n : ℕ). q < n) (sym next) (h.below l q i);
  apart = h.apart;
  once = h.once;
}

gone_case : (b : Bool) (m y : ℕ) → (if b then None else Some m) ≡ Some y → (b ≡ false) × (Some m ≡ Some y)
gone_case true m y e = absurd (none_some y e)
gone_case false m y e = (refl, e)

gone_out : (n y : ℕ) (o : Option ℕ) → gone_number n o ≡ Some y → (o ≡ Some y) × ((y == n) ≡ false)
gone_out n y None e = absurd (none_some y e)
gone_out n y (Some m) e = let r = gone_case (m == n) m y e in (r.1, ap (λ (i : ℕ). i == n) (sym (some_same m y r.1)) ∙ r.0)

gone_same : (n y : ℕ) → y ≢ n → gone_number n (Some y) ≡ Some y
gone_same n y d = ap (λ (b : Bool). if b then None else Some y) (equal_not y n d)

module _ (at new : ℕ → Option Node) (m m' : Marks) (n : ℕ) (k : AreNumbered at m) (k' : AreNumbered new m') (goes : Goes n at new) where
  given_now : (y : ℕ) → is_given m'.numbers.items y ≡ (is_given m.numbers.items y && not (y == n))
  given_now y = by_slot (slot_of y m.numbers.items) (slot_is at m k y)
    where
      by_slot : (o : Option ℕ) → Finds at y o → is_given m'.numbers.items y ≡ (is_given m.numbers.items y && not (y == n))
      by_slot None a =
          given_absent new m' k' y (λ s e. a s (gone_out n y (number_at at s) (sym (goes s) ∙ e)).0)
          ∙ sym (ap (λ (b : Bool). b && not (y == n)) (given_absent at m k y a))
      by_slot (Some s) live = elim (cases_eq y n) [
        | inl e ↦
            given_absent new m' k' y (λ t q. no_both (gone_out n y (number_at at t) (sym (goes t) ∙ q)).1 e)
            ∙ sym (ap (λ (b : Bool). b && not (y == n)) (given_live at m k s y live) ∙ ap not (equal_yes y n e))
        | inr d ↦
            given_live new m' k' s y (goes s ∙ ap (gone_number n) live ∙ gone_same n y d)
            ∙ sym (ap (λ (b : Bool). b && not (y == n)) (given_live at m k s y live) ∙ ap not (equal_not y n d))
      ]
        where
          no_both : (y == n) ≡ false → y ≡ n → ⊥
          no_both f e = (let t = equal_yes y n e in none_bool (sym t ∙ f))
            where
              none_bool : ◌≡◌ {A = Bool} true false → ⊥
              none_bool q = cc

  number_now : (s : ℕ) → 0 < number_in m.numbers.items s → number_in m.numbers.items s ≢ n → number_in m'.numbers.items s ≡ number_in m.numbers.items s
  number_now s p d = number_is new m' k' s (number_in m.numbers.items s) (goes s ∙ ap (gone_number n) (number_there at m k s p) ∙ gone_same n (number_in m.numbers.items s) d)

  -- the lists stay where a node goes that has left its list
  pub lists_gone : (x : Memberships) (lists : ℕ → List ℕ) → AreListed x m.slots → m'.slots ≡ m.slots → m'.next ≡ m.next → HasListsBut n m x lists → HasLists m' x lists
  lists_gone x lists kept slots next h = record {
    named = λ l.
        filter_both (is_given m.numbers.items) (λ y. not (y == n)) (is_given m'.numbers.items) given_now (reverse (lists l))
        ∙ h.named l
        ∙ map_same (number_in m.numbers.items) (number_in m'.numbers.items) (slots_in x m.slots l) (all_in (λ s. number_in m'.numbers.items s ≡ number_in m.numbers.items s) (slots_in x m.slots l) (λ s i. let p = h.live s (some_list l _ (listed_slot x m.slots l s i)) in number_now s p.0 p.1))
        ∙ ap (λ (c : ℕ). map (number_in m'.numbers.items) (slots_in x c l)) (sym slots);
    live = λ s i. let p = h.live s i in let e = number_now s p.0 p.1 in let q = p.0 in omega (arith, q, e);
    below = λ l q i. subst (λ (c : ℕ). q < c) (sym next) (h.below l q i);
    apart = h.apart;
    once = h.once;
  }

module _ (at new : ℕ → Option Node) (m m' : Marks) (k : AreNumbered at m) (k' : AreNumbered new m') (comes : Comes at new m.next) where
  -- the lists stay where a node comes
  pub lists_come : (x : Memberships) (lists : ℕ → List ℕ) → AreListed x m.slots → m'.slots ≡ m.slots → m'.next ≡ m.next + 1 → HasLists m x lists → HasLists m' x lists
  lists_come x lists kept slots next h =
      let number = number_same at new m m' comes.slot k k' comes.free comes.here comes.others in
      let given = given_still at new m m' comes.slot k k' comes.free comes.here comes.others in
      record {
        named = λ l.
            filter_same (is_given m.numbers.items) (is_given m'.numbers.items) (reverse (lists l)) (all_in (λ y. is_given m'.numbers.items y ≡ is_given m.numbers.items y) (reverse (lists l)) (λ y i. given y (h.below l y (sym (in_reverse y (lists l)) ∙ i))))
            ∙ h.named l
            ∙ map_same (number_in m.numbers.items) (number_in m'.numbers.items) (slots_in x m.slots l) (all_more (λ s. 0 < number_in m.numbers.items s) (λ s. number_in m'.numbers.items s ≡ number_in m.numbers.items s) number (slots_in x m.slots l) (slots_live at m k x kept lists h l))
            ∙ ap (λ (c : ℕ). map (number_in m'.numbers.items) (slots_in x c l)) (sym slots);
        live = λ s i. let p = h.live s i in let e = number s p in omega (arith, p, e);
        below = λ l q i. let low = h.below l q i in omega (arith, low, next);
        apart = h.apart;
        once = h.once;
      }

other_stays : (at : ℕ → Option Node) (m : Marks) (slot n s : ℕ) → AreNumbered at m → number_at at slot ≡ Some n → s ≢ slot → (o : Option ℕ) → number_at at s ≡ o → gone_number n o ≡ o
other_stays at m slot n s k live d None e = refl
other_stays at m slot n s k live d (Some q) e = gone_same n q (λ f. d (one_slot at m k s slot n (e ∙ ap (λ (i : ℕ). Some i) f) live))

-- the node of a slot goes
pub goes_slot : (at new : ℕ → Option Node) (m : Marks) (slot n : ℕ) → AreNumbered at m → number_at at slot ≡ Some n → number_at new slot ≡ None → ((s : ℕ) → s ≢ slot → number_at new s ≡ number_at at s) → Goes n at new
goes_slot at new m slot n k live gone others s = elim (cases_eq s slot) [
  | inl e ↦ ap (number_at new) e ∙ gone ∙ sym (ap (gone_number n) (ap (number_at at) e ∙ live) ∙ ap (λ (b : Bool). if b then None else Some n) (equal_yes n n refl))
  | inr d ↦ others s d ∙ sym (other_stays at m slot n s k live d (number_at at s) refl)
]

-- nothing goes where no slot has the number
pub goes_absent : (at : ℕ → Option Node) (n : ℕ) → IsAbsent at n → Goes n at at
goes_absent at n a s = stays (number_at at s) refl
  where
    stays : (o : Option ℕ) → number_at at s ≡ o → o ≡ gone_number n o
    stays None e = refl
    stays (Some q) e = sym (gone_same n q (λ f. a s (e ∙ ap (λ (i : ℕ). Some i) f)))

-- a new graph has no members of lists
pub no_lists : (m : Marks) (x : Memberships) → AreNone x m.slots → HasLists m x (λ list. [])
no_lists m x none = record {
  named = λ l. sym (ap (map (number_in m.numbers.items)) (none.empty l));
  live = λ s i. absurd (false≢true (subst (λ (o : Option Name). IsSome o) (none.none s) i));
  below = λ l n i. absurd (false≢true i);
  apart = λ n a b i j. absurd (false≢true i);
  once = λ l. tt;
}

find_case : (b c : Bool) (x : ℕ) (o r : Option ℕ) → b ≡ c → o ≡ r → cond b (Some x) o ≡ cond c (Some x) r
find_case b c x o r e h = ap (λ (t : Bool). cond t (Some x) o) e ∙ ap (λ (t : Option ℕ). cond c (Some x) t) h

find_same : (p q : ℕ → Bool) → ((x : ℕ) → p x ≡ q x) → (xs : List ℕ) → find p xs ≡ find q xs
find_same p q e [] = refl
find_same p q e (x ∷ xs) = find_case (p x) (q x) x (find p xs) (find q xs) (e x) (find_same p q e xs)

module _ (at : ℕ → Option Node) (m : Marks) (k : AreNumbered at m) (w : World) (has : HasNodes at m.rings w.nodes) where
  -- a live node has a slot
  pub given_of : (n : ℕ) → IsLive w n → is_given m.numbers.items n ≡ true
  given_of n live = sym (live_given at m w.nodes k has n) ∙ live

  -- the newest member that has a slot is the newest that lives
  pub newest_live : (ns : List ℕ) → find (is_given m.numbers.items) (reverse ns) ≡ newest_member w ns
  newest_live ns = find_same (is_given m.numbers.items) (is_live w) (λ n. sym (live_given at m w.nodes k has n)) (reverse ns)
