-- A node goes from its slot.
use Rattle.std.proofs.Common.{◌≡◌, ◌≢◌, ℕ, zero, suc, ◌+◌, ◌<◌, List, Option, None, Some, false, length, arith, refl, sym, ap, ◌∙◌, inl, inr, subst}
use Rattle.std.specs.Prelude.{◌==◌, unwrap_or, slice_index_or, slice_set, IsSome}
use Rattle.std.specs.List.{AllByRecursion}
use Rattle.std.proofs.lemmas.Bool.{cases_eq}
use Rattle.std.proofs.lemmas.Bool.Decides.{nat_tests}
use Rattle.std.proofs.lemmas.List.{get_or-set_same, get_or-set_other}
use Rattle.kj_base.specs.Queue.{Events, IsQueue, disarmed}
use Rattle.kj_base.specs.Store.{KeepsOthers}
use Rattle.kj_base.specs.declared.nodes.Node.{Node}
use Rattle.kj_model.specs.Nodes.{Form, Entry as Seen, form_at, without}
use Rattle.kj_model.specs.Fire.{branches_of}
use Rattle.promise_nodes.specs.Shown.{shown}
use Rattle.promise_graph.specs.declared.fields.Marks.{Marks}
use Rattle.promise_graph.specs.declared.fields.Rings.{Rings}
use Rattle.promise_graph.specs.Slots.{number_of, number_at}
use Rattle.promise_graph.specs.Rings.{ArePaired, IsCut}
use Rattle.promise_graph.specs.Kept.{AreNumbered, IsArmable, is_listed, hub_of, is_there}
use Rattle.promise_graph.specs.Standing.{name_or, event_name, events_as, HasNodes, HasRing}
use Rattle.promise_graph.proofs.Lists.{some_same, none_some, not_some}
use Rattle.promise_graph.proofs.Numbered.{one_slot}
use Rattle.promise_graph.proofs.Renamed.{disarmed_by, events_same, left_all}
use Rattle.promise_graph.proofs.Naming.{apart_events}
use Rattle.promise_graph.proofs.Entries.{without_other, without_same, once_without}
use Rattle.promise_graph.proofs.Falling.{unlisted}
use Rattle.promise_graph.proofs.Cutting.{has_ring_without}

module _ (at new : ℕ → Option Node) (m : Marks) (slot n : ℕ) (k : AreNumbered at m) (live : number_at at slot ≡ Some n) (gone : new slot ≡ None) (others : KeepsOthers at new slot) where
  pub other_number : (s : ℕ) → s ≢ slot → number_at new s ≡ number_at at s
  other_number s d = ap number_of (others s d)

  no_number : number_at new slot ≡ None
  no_number = ap number_of gone

  pub not_slot : (s j : ℕ) → number_at new s ≡ Some j → s ≢ slot
  not_slot s j h p = none_some j (sym no_number ∙ ap (number_at new) (sym p) ∙ h)

  pub still : (s j : ℕ) → number_at new s ≡ Some j → number_at at s ≡ Some j
  still s j h = sym (other_number s (not_slot s j h)) ∙ h

  pub still_low : (s : ℕ) → IsSome (number_at new s) → s < m.slots
  still_low s h = elim (cases_eq s slot) [
    | inl p ↦ absurd (not_some (number_at new s) (ap (number_at new) p ∙ no_number) h)
    | inr d ↦ k.low s (subst (λ (o : Option ℕ). IsSome o) (other_number s d) h)
  ]

  pub still_live : (s : ℕ) → IsSome (number_at new s) → IsSome (number_at at s)
  still_live s h = elim (cases_eq s slot) [
    | inl p ↦ absurd (not_some (number_at new s) (ap (number_at new) p ∙ no_number) h)
    | inr d ↦ subst (λ (o : Option ℕ). IsSome o) (other_number s d) h
  ]

  pub live_slot : (s : ℕ) → IsSome (number_at new s) → s ≢ slot
  live_slot s h p = not_some (number_at new s) (ap (number_at new) p ∙ no_number) h

  pub numbers_gone : slot < length m.numbers.items → (s : ℕ) → s < m.slots → slice_index_or (slice_set m.numbers.items slot 0) s 0 ≡ unwrap_or (number_at new s) 0
  numbers_gone within s low = elim (cases_eq s slot) [
    | inl p ↦ ap (λ (i : ℕ). slice_index_or (slice_set m.numbers.items slot 0) i 0) p ∙ get_or-set_same m.numbers.items slot 0 0 within ∙ ap (λ (o : Option ℕ). unwrap_or o 0) (sym no_number ∙ ap (number_at new) (sym p))
    | inr d ↦ get_or-set_other m.numbers.items slot s 0 0 d ∙ k.each s low ∙ ap (λ (o : Option ℕ). unwrap_or o 0) (sym (other_number s d))
  ]

  not_event : (s : ℕ) → (suc s == suc slot) ≡ false → s ≢ slot
  not_event s e p = absurd (let q : suc s ≡ suc slot = ap (λ (i : ℕ). suc i) p in grind (arith, nat_tests))

  pub armable : (x : ℕ) → (x == suc slot) ≡ false → IsArmable at x → IsArmable new x
  armable zero e h = tt
  armable (suc s) e h = subst (λ (o : Option ℕ). IsSome o) (sym (other_number s (not_event s e))) h

  same_event : (x : ℕ) → (x == suc slot) ≡ false → IsArmable at x → event_name new m.next x ≡ event_name at m.next x
  same_event zero e h = refl
  same_event (suc s) e h = ap (name_or (m.next + s)) (other_number s (not_event s e))

  pub queue_gone : (q : Events) → IsQueue q → AllByRecursion (IsArmable at) q.list → disarmed n (events_as (event_name at m.next) q) ≡ events_as (event_name new m.next) (disarmed (suc slot) q)
  queue_gone q is armed =
      ap (λ (j : ℕ). disarmed j (events_as (event_name at m.next) q)) (sym (ap (name_or (m.next + slot)) live))
      ∙ sym (disarmed_by (event_name at m.next) (apart_events at m k) (suc slot) q)
      ∙ sym (events_same (event_name at m.next) (event_name new m.next) (disarmed (suc slot) q) (left_all (IsArmable at) (λ x. event_name new m.next x ≡ event_name at m.next x) (suc slot) same_event q is.apart armed))

  -- a node in another slot
  pub before : (s : ℕ) (node : Node) → new s ≡ Some node → at s ≡ Some node
  before s node h = sym (others s (λ p. none_some node (sym gone ∙ ap new (sym p) ∙ h))) ∙ h

  pub other_node : (s : ℕ) (node : Node) → new s ≡ Some node → node.number.0 ≢ n
  other_node s node h same = not_slot s node.number.0 (ap number_of h) (one_slot at m k s slot n (ap number_of (before s node h) ∙ ap (λ (j : ℕ). Some j) same) live)

  pub nodes_gone : (r : Rings) (es : List Seen) → IsCut m.rings r slot → ArePaired m.rings m.slots → is_listed at m n ≡ false → HasNodes at m.rings es → HasNodes new r (without n es)
  nodes_gone r es cut paired free h = record {
    there = λ s node e.
        let same = without_other node.number.0 n es (other_node s node e) in
        same ∙ h.there s node (before s node e) ∙ ap (λ (o : Option Form). Some (shown (branches_of o) node.form)) (sym same);
    absent = λ j a. elim (cases_eq j n) [
      | inl p ↦ ap (λ (i : ℕ). form_at i (without n es)) p ∙ without_same n es
      | inr d ↦ without_other j n es d ∙ h.absent j (λ s l. elim (cases_eq s slot) [
        | inl p ↦ d (some_same j n (sym l ∙ ap (number_at at) p ∙ live))
        | inr e ↦ a s (other_number s e ∙ l)
      ])
    ];
    once = once_without n es h.once;
    rings = λ s node e t.
        let same = without_other node.number.0 n es (other_node s node e) in
        let apart : slot ≢ s = (λ p. not_slot s node.number.0 (ap number_of e) (sym p)) in
        subst (λ (o : Option Form). HasRing new r s node.number.0 (branches_of o)) (sym same)
        (has_ring_without at new m.rings r slot m.slots s node.number.0 (branches_of (form_at node.number.0 es)) cut paired (k.low slot (live_is n live)) others apart
        (λ x b moved. λ p. moved (unlisted at m k slot n live free (ap is_there (ap hub_of (ap at p) ∙ b)))) (h.rings s node (before s node e) t));
  }
    where
      live_is : (n : ℕ) → number_at at slot ≡ Some n → IsSome (number_at at slot)
      live_is n e = rw e refl
