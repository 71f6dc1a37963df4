-- What follows where a graph that is kept stands for a world.
use Rattle.std.proofs.Common.{◌≡◌, ℕ, ◌<◌, ◌≤◌, List, [], ◌∷◌, Option, None, Some, Bool, true, false, length, arith, refl, sym, ap, ◌∙◌, subst}
use Rattle.std.specs.Prelude.{nat_eq, unwrap_or, ◌||◌}
use Rattle.std.specs.List.{AllByRecursion, IsDistinct, list_any}
use Rattle.std.proofs.lemmas.Bool.{false≢true}
use Rattle.std.proofs.lemmas.Bool.Decides.{nat_tests}
use Rattle.std.proofs.lemmas.List.{length-map}
use Rattle.std.proofs.lemmas.Map.Steps.{length-le_from_distinct_below}
use Rattle.kj_base.specs.Queue.{Events}
use Rattle.kj_base.specs.Places.{Spot}
use Rattle.kj_base.specs.declared.nodes.Node.{Node}
use Rattle.kj_base.specs.declared.nodes.Form.{Form as FormCase}
use Rattle.kj_base.specs.declared.nodes.Form.TheVariants.{Ready as ReadyCase, Later as LaterCase, Last as LastCase, Cell as CellCase, Branch as BranchCase, Then as ThenCase, Chain as ChainCase, Eager as EagerCase, Wrap as WrapCase, Hub as HubCase, Side as SideCase, Race as RaceCase, Join as JoinCase, Task as TaskCase, Request as RequestCase}
use Rattle.kj_model.specs.Nodes.{Entry as Seen, form_at}
use Rattle.kj_model.specs.World.{World}
use Rattle.kj_model.specs.Fire.{branches_of}
use Rattle.kj_model.specs.Calls.{hubs_of}
use Rattle.promise_nodes.specs.Shown.{shown}
use Rattle.promise_nodes.specs.Kept.{IsPlain, is_hub}
use Rattle.promise_graph.specs.declared.fields.Marks.{Marks}
use Rattle.promise_graph.specs.Slots.{number_of, number_at, Finds, slot_of}
use Rattle.promise_graph.specs.Rings.{IsOut, AreApart}
use Rattle.promise_graph.specs.Kept.{AreNumbered, is_plain, is_plain_node, is_plain_form, hub_of}
use Rattle.promise_graph.specs.Standing.{HasNodes, HasRing, Stands, NodesStand}
use Rattle.promise_graph.proofs.Lists.{some_same, is_some_of, equal_not, of_all}
use Rattle.promise_graph.proofs.Numbered.{slot_is}
use Rattle.promise_graph.proofs.Falling.{plain_out}
use Rattle.promise_graph.proofs.Put.{node_of}
use Rattle.promise_graph.proofs.Leaving.{number_there}

no_case : {A : Type 0} → false ≡ true → A
no_case h = absurd (false≢true h)

plain_form : (bs : List ℕ) (form : FormCase) → is_plain_form (shown [] form) ≡ true → IsPlain (Some (shown bs form))
plain_form bs (BranchCase hub) h = no_case h
plain_form bs (HubCase content is_named) h = no_case h
plain_form bs (ReadyCase outcome) h = tt
plain_form bs LaterCase h = tt
plain_form bs LastCase h = tt
plain_form bs (CellCase outcome) h = tt
plain_form bs (ThenCase value error tree) h = tt
plain_form bs (ChainCase link) h = tt
plain_form bs (EagerCase content) h = tt
plain_form bs (WrapCase canceler content) h = tt
plain_form bs (SideCase stage) h = tt
plain_form bs (RaceCase left winner) h = tt
plain_form bs (JoinCase is_fast first count) h = tt
plain_form bs (TaskCase tree) h = tt
plain_form bs (RequestCase name tree) h = tt

no_branches : (bs : List ℕ) (form : FormCase) → is_hub (shown [] form) ≡ false → branches_of (Some (shown bs form)) ≡ []
no_branches bs (HubCase content is_named) h = no_case (sym h)
no_branches bs (BranchCase hub) h = refl
no_branches bs (ReadyCase outcome) h = refl
no_branches bs LaterCase h = refl
no_branches bs LastCase h = refl
no_branches bs (CellCase outcome) h = refl
no_branches bs (ThenCase value error tree) h = refl
no_branches bs (ChainCase link) h = refl
no_branches bs (EagerCase content) h = refl
no_branches bs (WrapCase canceler content) h = refl
no_branches bs (SideCase stage) h = refl
no_branches bs (RaceCase left winner) h = refl
no_branches bs (JoinCase is_fast first count) h = refl
no_branches bs (TaskCase tree) h = refl
no_branches bs (RequestCase name tree) h = refl

out_differs : (x : ℕ) (ys : List ℕ) → IsOut x ys → AllByRecursion (λ y. nat_eq x y ≡ false) ys
out_differs x [] h = tt
out_differs x (y ∷ ys) h = (equal_not x y h.0, out_differs x ys h.1)

apart_distinct : (h : ℕ) (xs : List ℕ) → AreApart h xs → IsDistinct nat_eq xs
unfolding IsDistinct
apart_distinct h [] a = tt
apart_distinct h (x ∷ xs) a = (out_differs x xs a.1, apart_distinct h xs a.2)

module _ (at : ℕ → Option Node) (m : Marks) (k : AreNumbered at m) where
  low_member : (number : ℕ) (xs : List ℕ) → AllByRecursion (λ s. hub_of (at s) ≡ Some number) xs → (q : ℕ) → list_any (nat_eq q) xs ≡ true → q < m.slots
  low_member number [] each q t = no_case t
  low_member number (x ∷ xs) each q t = by_first (nat_eq q x) refl t (low_member number xs each.1 q)
    where
      by_first : (b : Bool) → nat_eq q x ≡ b → (b || list_any (nat_eq q) xs) ≡ true → (list_any (nat_eq q) xs ≡ true → q < m.slots) → q < m.slots
      by_first true e u rest =
          let same : q ≡ x = grind (arith, nat_tests) in
          let low = k.low x (is_some_of (number_at at x) _ (number_there (at x) number each.0)) in
          omega (arith, same, low)
      by_first false e u rest = rest u

  few_members : (h number : ℕ) (branches : List ℕ) → HasRing at m.rings h number branches → length branches ≤ m.slots
  few_members h number branches ring =
      let few = length-le_from_distinct_below ring.members m.slots (apart_distinct h ring.members ring.apart) (low_member number ring.members ring.each) in
      let same = ap length ring.named ∙ length-map ring.members (λ s. unwrap_or (number_at at s) 0) in
      omega (arith, few, same)

  module _ (es : List Seen) (has : HasNodes at m.rings es) where
    form_of : (s n : ℕ) (node : Node) → number_at at s ≡ Some n → at s ≡ Some node → form_at n es ≡ Some (shown (branches_of (form_at n es)) node.form)
    form_of s n node live is = subst (λ (j : ℕ). form_at j es ≡ Some (shown (branches_of (form_at j es)) node.form)) (some_same node.number.0 n (sym (ap number_of is) ∙ live)) (has.there s node is)

    -- a plain number is of no hub and no branch
    plain_follows : (n : ℕ) → is_plain at m n ≡ true → IsPlain (form_at n es)
    plain_follows n h = by_slot (slot_of n m.numbers.items) (slot_is at m k n)
      where
        by_slot : (o : Option ℕ) → Finds at n o → IsPlain (form_at n es)
        by_slot None a = subst IsPlain (sym (has.absent n a)) tt
        by_slot (Some s) live =
            let node = node_of (at s) n live in
            subst IsPlain (sym (form_of s n node.0 live node.1)) (plain_form _ node.0.form (sym (ap is_plain_node node.1) ∙ plain_out at m k s n live h))

    -- a hub has no more branches than there are slots
    few_follows : (hub : ℕ) → length (branches_of (form_at hub es)) ≤ m.slots
    few_follows hub = by_slot (slot_of hub m.numbers.items) (slot_is at m k hub)
      where
        none_few : branches_of (form_at hub es) ≡ [] → length (branches_of (form_at hub es)) ≤ m.slots
        none_few h = let none : length (branches_of (form_at hub es)) ≡ 0 = ap length h in omega (arith, none)

        by_kind : (s : ℕ) (node : Node) (b : Bool) → number_at at s ≡ Some hub → at s ≡ Some node → is_hub (shown [] node.form) ≡ b → length (branches_of (form_at hub es)) ≤ m.slots
        by_kind s node true live is t =
            let number : node.number.0 ≡ hub = some_same node.number.0 hub (sym (ap number_of is) ∙ live) in
            subst (λ (j : ℕ). length (branches_of (form_at j es)) ≤ m.slots) number (few_members s node.number.0 (branches_of (form_at node.number.0 es)) (has.rings s node is t))
        by_kind s node false live is t = none_few (ap branches_of (form_of s hub node live is) ∙ no_branches _ node.form t)

        by_slot : (o : Option ℕ) → Finds at hub o → length (branches_of (form_at hub es)) ≤ m.slots
        by_slot None a = none_few (ap branches_of (has.absent hub a))
        by_slot (Some s) live = let node = node_of (at s) hub live in by_kind s node.0 (is_hub (shown [] node.0.form)) live node.1 refl

-- a graph whose marks are kept stands for the worlds that its marks show
pub stands_for : (at : ℕ → Option Node) (q : Events) (sp : List Spot → Type 0) (m : Marks) (w : World) → AreNumbered at m → Stands at q sp m w → NodesStand at q sp m w
stands_for at q sp m w k st = record {
  stands = st;
  plain = plain_follows at m k w.nodes st.seen.nodes;
  tasks = λ n i. of_all (λ j. j < m.next) n w.detached st.seen.tasks.below i;
  hubs = λ n i. of_all (λ j. j < m.next) n (hubs_of w.nodes) st.seen.hubs.below i;
  few = few_follows at m k w.nodes st.seen.nodes;
}
