-- A new graph stands for a new world.
use Rattle.std.proofs.Common.{◌≡◌, ℕ, zero, suc, ◌+◌, ◌<◌, ◌≤◌, List, [], ◌∷◌, ◌++◌, Option, None, Some, Bool, length, arith, refl, sym, ap, ◌∙◌, inl, inr, subst}
use Rattle.std.specs.Prelude.{slice_index_or, unwrap_or, replicate, IsSome}
use Rattle.std.proofs.lemmas.List.{length-replicate}
use Rattle.std.proofs.lemmas.Bool.{cases_eq, false≢true}
use Rattle.kj_base.specs.declared.limits.TheConstants.{MAX_SLOTS}
use Rattle.kj_base.specs.Queue.{Events, no_events}
use Rattle.kj_base.specs.Places.{Spot}
use Rattle.kj_base.proofs.QueueLemmas.{empty_is}
use Rattle.kj_base.specs.declared.nodes.Node.{Node}
use Rattle.kj_base.specs.declared.nodes.Link.{Link}
use Rattle.kj_base.specs.declared.numbers.Limits.{Limits}
use Rattle.kj_model.specs.World.{new_world}
use Rattle.promise_nodes.specs.Shown.{link_number}
use Rattle.promise_graph.specs.declared.fields.Marks.{Marks}
use Rattle.promise_graph.specs.Slots.{number_of, number_at}
use Rattle.promise_graph.specs.Rings.{ArePaired, next_at, prev_at}
use Rattle.promise_graph.specs.Kept.{IsKept, nobody}
use Rattle.promise_graph.specs.Standing.{Stands}
use Rattle.promise_graph.specs.New.{AreSlots, AreNew}
use Rattle.promise_graph.proofs.Lists.{none_some}

value_before : (xs ys : List ℕ) (s : ℕ) → s < length xs → slice_index_or (xs ++ ys) s 0 ≡ slice_index_or xs s 0
value_before [] ys s h = absurd (omega (arith, h))
value_before (x ∷ xs) ys zero h = refl
value_before (x ∷ xs) ys (suc s) h = value_before xs ys s (omega (arith, h))

value_last : (xs : List ℕ) (n s : ℕ) → s ≡ length xs → slice_index_or (xs ++ n ∷ []) s 0 ≡ n
value_last [] n zero h = refl
value_last [] n (suc s) h = absurd (omega (arith, h))
value_last (x ∷ xs) n zero h = absurd (omega (arith, h))
value_last (x ∷ xs) n (suc s) h = value_last xs n s (omega (arith, h))

length_more : (xs : List ℕ) (n : ℕ) → length (xs ++ n ∷ []) ≡ length xs + 1
length_more [] n = omega arith
length_more (x ∷ xs) n = let h = length_more xs n in omega (arith, h)

-- one slot more
pub slots_more : (xs : List ℕ) (n : ℕ) → AreSlots xs n → AreSlots (xs ++ n ∷ []) (n + 1)
slots_more xs n h = record {
  all = length_more xs n ∙ ap (λ (k : ℕ). k + 1) h.all;
  each = λ s low. elim (cases_eq s n) [
    | inl p ↦ value_last xs n s (p ∙ sym h.all) ∙ sym p
    | inr d ↦ (let l : s < n = omega (arith, low, d) in value_before xs (n ∷ []) s (omega (arith, l, h.all)) ∙ h.each s l)
  ];
}

zero_at : (n s : ℕ) → s < n → ◌≡◌ {A = ℕ} (slice_index_or (replicate {A = ℕ} n 0) s 0) 0
zero_at zero s h = absurd (omega (arith, h))
zero_at (suc n) zero h = refl
zero_at (suc n) (suc s) h = zero_at n s (omega (arith, h))

module _ (at : ℕ → Option Node) (none : (s : ℕ) → at s ≡ None) (m : Marks) (slots : ℕ) (new : AreNew m slots) where
  no_number : (s : ℕ) → number_at at s ≡ None
  no_number s = ap number_of (none s)

  nowhere : (s n : ℕ) → number_at at s ≡ Some n → ⊥
  nowhere s n h = none_some n (sym (no_number s) ∙ h)

  not_there : (s : ℕ) → IsSome (number_at at s) → ⊥
  not_there s h = false≢true (subst (λ (o : Option ℕ). IsSome o) (no_number s) h)

  low_of : (s : ℕ) → s < m.slots → s < slots
  low_of s h = omega (arith, h, new.slots_are)

  paired : ArePaired m.rings m.slots
  paired = record {
    all_next = new.nexts_are.all ∙ sym new.slots_are;
    all_prev = new.prevs_are.all ∙ sym new.slots_are;
    next_in = λ s h. (let e = new.nexts_are.each s (low_of s h) in omega (arith, e, h));
    prev_in = λ s h. (let e = new.prevs_are.each s (low_of s h) in omega (arith, e, h));
    back = λ s h. ap (prev_at m.rings) (new.nexts_are.each s (low_of s h)) ∙ new.prevs_are.each s (low_of s h);
    forth = λ s h. ap (next_at m.rings) (new.prevs_are.each s (low_of s h)) ∙ new.nexts_are.each s (low_of s h);
  }

  tasks_paired : ArePaired m.tasks (m.slots + 1)
  tasks_paired = record {
    all_next = new.nexts_tasks.all ∙ ap (λ (k : ℕ). k + 1) (sym new.slots_are);
    all_prev = new.prevs_tasks.all ∙ ap (λ (k : ℕ). k + 1) (sym new.slots_are);
    next_in = λ s h. (let e = new.nexts_tasks.each s (place_of s h) in omega (arith, e, h));
    prev_in = λ s h. (let e = new.prevs_tasks.each s (place_of s h) in omega (arith, e, h));
    back = λ s h. ap (prev_at m.tasks) (new.nexts_tasks.each s (place_of s h)) ∙ new.prevs_tasks.each s (place_of s h);
    forth = λ s h. ap (next_at m.tasks) (new.prevs_tasks.each s (place_of s h)) ∙ new.nexts_tasks.each s (place_of s h);
  }
    where
      place_of : (s : ℕ) → s < m.slots + 1 → s < slots + 1
      place_of s h = omega (arith, h, new.slots_are)

  hubs_paired : ArePaired m.hubs (m.slots + 1)
  hubs_paired = record {
    all_next = new.nexts_hubs.all ∙ ap (λ (k : ℕ). k + 1) (sym new.slots_are);
    all_prev = new.prevs_hubs.all ∙ ap (λ (k : ℕ). k + 1) (sym new.slots_are);
    next_in = λ s h. (let e = new.nexts_hubs.each s (place_of s h) in omega (arith, e, h));
    prev_in = λ s h. (let e = new.prevs_hubs.each s (place_of s h) in omega (arith, e, h));
    back = λ s h. ap (prev_at m.hubs) (new.nexts_hubs.each s (place_of s h)) ∙ new.prevs_hubs.each s (place_of s h);
    forth = λ s h. ap (next_at m.hubs) (new.prevs_hubs.each s (place_of s h)) ∙ new.nexts_hubs.each s (place_of s h);
  }
    where
      place_of : (s : ℕ) → s < m.slots + 1 → s < slots + 1
      place_of s h = omega (arith, h, new.slots_are)

  pub new_kept : (bare : ℕ → Bool) (q : Events) (store_slots size : ℕ) → slots ≤ MAX_SLOTS → store_slots ≡ slots → size ≡ slots + 1 → q ≡ no_events → IsKept at bare q store_slots size m
  new_kept bare q store_slots size few store size_is empty_q = record {
    sound = record {
      store_is = store ∙ sym new.slots_are;
      numbered = record {
        few = omega (arith, few, new.slots_are);
        first = omega (arith, new.next_is);
        low = λ s h. absurd (not_there s h);
        all = ap (λ (l : List ℕ). length l) new.numbers_are ∙ length-replicate slots 0 ∙ sym new.slots_are;
        each = λ s h. rw new.numbers_are (zero_at slots s (low_of s h) ∙ ap (λ (o : Option ℕ). unwrap_or o 0) (sym (no_number s)));
        given = λ s n h. absurd (nowhere s n h);
        indexed = λ s n h. absurd (nowhere s n h);
        rising = rw new.index_is tt;
        below = rw new.index_is tt;
        above = rw new.index_is tt;
        room = omega (arith, new.room, new.slots_are);
      };
      events = record {
        size_is = size_is ∙ ap (λ (k : ℕ). k + 1) (sym new.slots_are);
        armed = rw empty_q tt;
        queue = rw empty_q empty_is;
      };
      paired = paired;
      single = λ s h e. new.nexts_are.each s (low_of s h);
      tasks_paired = tasks_paired;
      hubs_paired = hubs_paired;
    };
    owned = record {
      all_owners = ap (λ (l : List Link). length l) new.owners_are ∙ length-replicate slots nobody ∙ sym new.slots_are;
      bare_is = λ s h e. absurd (not_there s h);
    };
  }

  pub new_stands : (q : Events) (sp : List Spot → Type 0) (limits : Limits) → limits.slots ≡ slots → q ≡ no_events → sp [] → Stands at q sp m (new_world limits)
  new_stands q sp limits slots_are empty_q empty = record {
    seen = record {
      nodes = record {
        there = λ s node h. absurd (none_some node (sym (none s) ∙ h));
        absent = λ n h. refl;
        once = tt;
        rings = λ s node h t. absurd (none_some node (sym (none s) ∙ h));
      };
      queue = rw empty_q refl;
      spots = record { by_slot = []; by_store = empty; placed = refl; live = tt; keys = tt };
      next_is = sym new.next_is;
      slots_are = slots_are ∙ sym new.slots_are;
      firing_is = ap link_number (sym new.firing_is);
      awaited_is = ap link_number (sym new.awaited_is);
      tasks = record {
        members = [];
        ring = (new.nexts_tasks.each m.slots (omega (arith, new.slots_are)), new.prevs_tasks.each m.slots (omega (arith, new.slots_are)));
        apart = tt;
        each = tt;
        named = refl;
        below = tt;
      };
      hubs = record {
        members = [];
        ring = (new.nexts_hubs.each m.slots (omega (arith, new.slots_are)), new.prevs_hubs.each m.slots (omega (arith, new.slots_are)));
        apart = tt;
        each = tt;
        named = refl;
        below = tt;
      };
    };
    owned = record {
      owner_is = λ s t n node h. absurd (none_some node (sym (none s) ∙ h));
      below = λ s n node h. absurd (none_some node (sym (none s) ∙ h));
    };
  }
