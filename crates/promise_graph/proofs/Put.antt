-- A node gets another form of its kind.
use Rattle.std.proofs.Common.{◌≡◌, ◌≢◌, ℕ, zero, suc, ◌+◌, ◌<◌, List, [], ◌∷◌, Option, None, Some, true, refl, sym, ap, ◌∙◌, inl, inr, subst}
use Rattle.std.specs.Prelude.{unwrap_or, IsSome}
use Rattle.std.specs.List.{AllByRecursion}
use Rattle.std.proofs.lemmas.Bool.{cases_eq}
use Rattle.kj_base.specs.Queue.{Events}
use Rattle.kj_base.specs.Store.{KeepsOthers}
use Rattle.kj_base.specs.declared.nodes.Node.{Node}
use Rattle.kj_base.specs.declared.nodes.Form.{Form as FormCase}
use Rattle.kj_model.specs.Nodes.{Form, Entry as Seen, form_at, with_form, is_in, parts_at, parts_found}
use Rattle.kj_model.specs.Fire.{branches_of}
use Rattle.kj_model.specs.Calls.{hubs_of}
use Rattle.promise_nodes.specs.Shown.{shown}
use Rattle.promise_nodes.specs.Kept.{is_hub}
use Rattle.promise_nodes.proofs.Hubs.{hubs_put}
use Rattle.promise_graph.specs.declared.fields.Marks.{Marks}
use Rattle.promise_graph.specs.declared.fields.Rings.{Rings}
use Rattle.promise_graph.specs.Slots.{number_of, number_at}
use Rattle.promise_graph.specs.Kept.{AreNumbered, IsArmable, hub_of, is_plain_node, is_same_kind, taker_at, form_parts}
use Rattle.promise_graph.specs.Standing.{name_or, event_name, events_as, HasNodes, HasRing, AreOwned}
use Rattle.promise_graph.proofs.Lists.{some_same, none_some}
use Rattle.promise_graph.proofs.Numbered.{one_slot}
use Rattle.promise_graph.proofs.Renamed.{events_same}
use Rattle.promise_graph.proofs.Entries.{put_other, put_same, put_none, put_once}
use Rattle.promise_graph.proofs.Forms.{kind_hub, kind_branch, kind_plain, parts_any, branches_shown, branches_hub, hub_any}
use Rattle.promise_graph.proofs.Cutting.{named_same}

pub node_of : (o : Option Node) (n : ℕ) → number_of o ≡ Some n → (old : Node) × (o ≡ Some old)
node_of None n h = absurd (none_some n h)
node_of (Some old) n h = (old, refl)

-- the ring of a hub is the same where each slot has a node of the same number and kind
pub ring_same : (at new : ℕ → Option Node) (r : Rings) (h number : ℕ) (branches : List ℕ) → ((s : ℕ) → number_at new s ≡ number_at at s) → ((s : ℕ) → hub_of (new s) ≡ hub_of (at s)) → HasRing at r h number branches → HasRing new r h number branches
ring_same at new r h number branches numbers hubs ring = record {
  members = ring.members;
  ring = ring.ring;
  apart = ring.apart;
  each = each_of ring.members ring.each;
  named = ring.named ∙ named_same (λ x. unwrap_or (number_at at x) 0) (λ x. unwrap_or (number_at new x) 0) ring.members (all_of ring.members);
}
  where
    each_of : (xs : List ℕ) → AllByRecursion (λ x. hub_of (at x) ≡ Some number) xs → AllByRecursion (λ x. hub_of (new x) ≡ Some number) xs
    each_of [] a = tt
    each_of (x ∷ xs) a = (hubs x ∙ a.0, each_of xs a.1)

    all_of : (xs : List ℕ) → AllByRecursion (λ x. unwrap_or (number_at new x) 0 ≡ unwrap_or (number_at at x) 0) xs
    all_of [] = tt
    all_of (x ∷ xs) = (ap (λ (o : Option ℕ). unwrap_or o 0) (numbers x), all_of xs)

module _ (at new : ℕ → Option Node) (m : Marks) (slot n : ℕ) (form : FormCase) (node old : Node) (k : AreNumbered at m) (live : number_at at slot ≡ Some n) (number_is : node.number.0 ≡ n) (form_is : node.form ≡ form)
    (was : at slot ≡ Some old) (here : new slot ≡ Some node) (others : KeepsOthers at new slot) (kind : is_same_kind old.form form ≡ true) where
  -- no number changes
  pub number_same : (s : ℕ) → number_at new s ≡ number_at at s
  number_same s = elim (cases_eq s slot) [
    | inl p ↦ ap (number_at new) p ∙ ap number_of here ∙ ap (λ (j : ℕ). Some j) number_is ∙ sym live ∙ ap (number_at at) (sym p)
    | inr d ↦ ap number_of (others s d)
  ]

  shown_same : is_same_kind old.form node.form ≡ true
  shown_same = ap (is_same_kind old.form) form_is ∙ kind

  pub hub_same : (s : ℕ) → hub_of (new s) ≡ hub_of (at s)
  hub_same s = elim (cases_eq s slot) [
    | inl p ↦ ap (λ (i : ℕ). hub_of (new i)) p ∙ ap hub_of here ∙ sym (kind_branch old.form node.form shown_same) ∙ sym (ap hub_of was) ∙ ap (λ (i : ℕ). hub_of (at i)) (sym p)
    | inr d ↦ ap hub_of (others s d)
  ]

  pub plain_same : (s : ℕ) → is_plain_node (new s) ≡ is_plain_node (at s)
  plain_same s = elim (cases_eq s slot) [
    | inl p ↦ ap (λ (i : ℕ). is_plain_node (new i)) p ∙ ap is_plain_node here ∙ kind_plain old.form node.form shown_same ∙ sym (ap is_plain_node was) ∙ ap (λ (i : ℕ). is_plain_node (at i)) (sym p)
    | inr d ↦ ap is_plain_node (others s d)
  ]

  pub armable_same : (x : ℕ) → IsArmable at x → IsArmable new x
  armable_same zero h = tt
  armable_same (suc s) h = subst (λ (o : Option ℕ). IsSome o) (sym (number_same s)) h

  event_same : (x : ℕ) → event_name new m.next x ≡ event_name at m.next x
  event_same zero = refl
  event_same (suc s) = ap (name_or (m.next + s)) (number_same s)

  pub queue_same : (q : Events) → events_as (event_name at m.next) q ≡ events_as (event_name new m.next) q
  queue_same q = sym (events_same (event_name at m.next) (event_name new m.next) q (any q.list))
    where
      any : (xs : List ℕ) → AllByRecursion (λ x. event_name new m.next x ≡ event_name at m.next x) xs
      any [] = tt
      any (x ∷ xs) = (event_same x, any xs)

  old_number : old.number.0 ≡ n
  old_number = some_same old.number.0 n (sym (ap number_of was) ∙ live)

  -- what a slot has is the new node, or what it had
  pub slot_case : (P : ℕ → Node → Type 0) → P slot node → ((s : ℕ) (other : Node) → s ≢ slot → other.number.0 ≢ n → at s ≡ Some other → P s other) → (s : ℕ) (other : Node) → new s ≡ Some other → P s other
  slot_case P yes_here elsewhere s other h = elim (cases_eq s slot) [
    | inl p ↦ subst (λ (i : ℕ). P i other) (sym p) (subst (λ (y : Node). P slot y) (some_same node other (sym here ∙ ap new (sym p) ∙ h)) yes_here)
    | inr d ↦ (let before : at s ≡ Some other = sym (others s d) ∙ h in elsewhere s other d (λ same. d (one_slot at m k s slot n (ap number_of before ∙ ap (λ (j : ℕ). Some j) same) live)) before)
  ]

  module _ (es : List Seen) (has : HasNodes at m.rings es) where
    abbrev pub branches : List ℕ
    branches = branches_of (form_at n es)

    abbrev pub f : Form
    f = shown branches form

    found : form_at n es ≡ Some (shown branches old.form)
    found = subst (λ (j : ℕ). form_at j es ≡ Some (shown (branches_of (form_at j es)) old.form)) old_number (has.there slot old was)

    now_found : form_at n (with_form n f es) ≡ Some f
    now_found = put_same n f (shown branches old.form) es found

    pub nodes_put : HasNodes new m.rings (with_form n f es)
    nodes_put = record {
      there = slot_case (λ s other. form_at other.number.0 (with_form n f es) ≡ Some (shown (branches_of (form_at other.number.0 (with_form n f es))) other.form))
          (subst (λ (j : ℕ). form_at j (with_form n f es) ≡ Some (shown (branches_of (form_at j (with_form n f es))) node.form)) (sym number_is)
          (now_found ∙ ap (λ (x : Form). Some x) (sym (branches_shown branches form)) ∙ ap (λ (y : FormCase). Some (shown (branches_of (Some f)) y)) (sym form_is) ∙ ap (λ (o : Option Form). Some (shown (branches_of o) node.form)) (sym now_found)))
          (λ s other d e before.
          let same = put_other other.number.0 n f es e in
          same ∙ has.there s other before ∙ ap (λ (o : Option Form). Some (shown (branches_of o) other.form)) (sym same));
      absent = λ j a. put_none j n f es (has.absent j (λ s l. a s (number_same s ∙ l)));
      once = put_once n f es has.once;
      rings = slot_case (λ s other. is_hub (shown [] other.form) ≡ true → HasRing new m.rings s other.number.0 (branches_of (form_at other.number.0 (with_form n f es))))
          (λ t.
          let hub : is_hub (shown [] form) ≡ true = ap (λ (y : FormCase). is_hub (shown [] y)) (sym form_is) ∙ t in
          let ring = has.rings slot old was (kind_hub old.form form kind ∙ hub) in
          subst (λ (j : ℕ). HasRing new m.rings slot j (branches_of (form_at j (with_form n f es)))) (sym number_is)
          (subst (λ (bs : List ℕ). HasRing new m.rings slot n bs) (sym (ap branches_of now_found ∙ branches_hub branches form hub))
          (ring_same at new m.rings slot n branches number_same hub_same (subst (λ (j : ℕ). HasRing at m.rings slot j (branches_of (form_at j es))) old_number ring))))
          (λ s other d e before t.
          let same = put_other other.number.0 n f es e in
          subst (λ (o : Option Form). HasRing new m.rings s other.number.0 (branches_of o)) (sym same) (ring_same at new m.rings s other.number.0 (branches_of (form_at other.number.0 es)) number_same hub_same (has.rings s other before t)));
    }

    -- the hubs are the same
    pub hubs_same : hubs_of (with_form n f es) ≡ hubs_of es
    hubs_same = hubs_put n f (shown branches old.form) es has.once found (hub_any branches form ∙ sym (kind_hub old.form form kind) ∙ sym (hub_any branches old.form))

    -- each part was one before
    part_before : ((j : ℕ) → is_in j (form_parts form) ≡ true → is_in j (parts_at n es) ≡ true) → (j : ℕ) → is_in j (form_parts node.form) ≡ true → is_in j (form_parts old.form) ≡ true
    part_before adds j i =
        ap (is_in j) (sym (parts_any branches old.form) ∙ sym (ap parts_found found)) ∙ adds j (ap (λ (y : FormCase). is_in j (form_parts y)) (sym form_is) ∙ i)

    pub owned_put : ((j : ℕ) → is_in j (form_parts form) ≡ true → is_in j (parts_at n es) ≡ true) → AreOwned at m → AreOwned new m
    owned_put adds owned = record {
      owner_is = λ s t j other h l. slot_case (λ s other. is_in j (form_parts other.form) ≡ true → taker_at m t ≡ other.number.0)
          (λ i. owned.owner_is slot t j old was (sym (number_same t) ∙ l) (part_before adds j i) ∙ old_number ∙ sym number_is)
          (λ s other d e before i. owned.owner_is s t j other before (sym (number_same t) ∙ l) i) s other h;
      below = λ s j other h. slot_case (λ s other. is_in j (form_parts other.form) ≡ true → j < m.next)
          (λ i. owned.below slot j old was (part_before adds j i))
          (λ s other d e before i. owned.below s j other before i) s other h;
    }
