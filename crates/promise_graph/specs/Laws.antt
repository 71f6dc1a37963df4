-- The laws of a keeper of nodes, for a graph.
use Rattle.std.proofs.Common.{◌≡◌, ◌∙◌, ℕ, List, ◌∷◌, ◌++◌, Option, Bool, IsTrue, map, ap, sym, subst}
use Rattle.std.specs.Prelude.{filter, reverse}
use Rattle.std.proofs.lemmas.List.{map-append}
use Rattle.kj_base.specs.Queue.{Events}
use Rattle.kj_base.specs.Places.{Spot, Row, row}
use Rattle.kj_base.specs.declared.nodes.Node.{Node}
use Rattle.kj_model.specs.Nodes.{is_in}
use Rattle.kj_model.specs.World.{World}
use Rattle.promise_nodes.specs.Kept.{SameNodes}
use Rattle.promise_nodes.specs.Members.{AreEachOnce, AreLists, lists_in}
use Rattle.promise_graph.specs.declared.fields.Marks.{Marks}
use Rattle.promise_graph.specs.declared.memberships.Memberships.{Memberships}
use Rattle.promise_graph.specs.Members.{is_given}
use Rattle.promise_graph.specs.Memberships.{HasLists}
use Rattle.promise_graph.specs.Rows.{row_at, room_of}
use Rattle.promise_graph.specs.Standing.{Stands, NodesStand, StandsFor, stands_named}

-- lists don't depend on the function that tells them
pub same_lists : (m : Marks) (x : Memberships) (lists others : ℕ → List ℕ) → ((list : ℕ) → others list ≡ lists list) → HasLists m x lists → HasLists m x others
same_lists m x lists others same h = record {
  named = λ list. ap (λ (ns : List ℕ). filter (is_given m.numbers.items) (reverse ns)) (same list) ∙ h.named list;
  live = h.live;
  below = λ list n i. h.below list n (sym (ap (is_in n) (same list)) ∙ i);
  apart = λ n list other i j. h.apart n list other (sym (ap (is_in n) (same list)) ∙ i) (sym (ap (is_in n) (same other)) ∙ j);
  once = λ list. subst AreEachOnce (sym (same list)) (h.once list);
}

-- names don't matter to nodes
pub nodes_free : (at : ℕ → Option Node) (q : Events) (sp : List Spot → Type 0) (m : Marks) (w v : World) → SameNodes w v → NodesStand at q sp m w → NodesStand at q sp m v
nodes_free at q sp m w v same st =
    let st' = stands_named at q sp m w v same st.stands in
    subst (λ (u : World). NodesStand at q sp m u) (sym same) (record { stands = subst (λ (u : World). Stands at q sp m u) same st'; plain = st.plain; tasks = st.tasks; hubs = st.hubs; few = st.few })

-- names don't matter, as long as lists are the same
pub names_free : (at : ℕ → Option Node) (q : Events) (sp : List Spot → Type 0) (m : Marks) (x : Memberships) (w v : World) → SameNodes w v → AreLists v (lists_in w) → StandsFor at q sp m x w → StandsFor at q sp m x v
names_free at q sp m x w v same lists st = record { nodes = nodes_free at q sp m w v same st.nodes; lists = same_lists m x (lists_in w) (lists_in v) lists st.lists }

-- rows may be left out
pub left_out : (room : List Row → Bool) (m : Marks) → ((front : List Row) (left : Row) (back : List Row) → IsTrue (room (front ++ left ∷ back)) → IsTrue (room (front ++ back)))
    → (front : List Row) (left : Row) (back : List Row) → IsTrue (room_of room m (front ++ left ∷ back)) → IsTrue (room_of room m (front ++ back))
left_out room m law front left back h =
    subst (λ (rows : List Row). IsTrue (room rows)) (sym (map-append (row_at m) front back))
    (law (map (row_at m) front) (row_at m left) (map (row_at m) back) (subst (λ (rows : List Row). IsTrue (room rows)) (map-append (row_at m) front (left ∷ back)) h))

-- a row of two may become a row of one
pub one_of_two : (room : List Row → Bool) (m : Marks) → ((front : List Row) (before : Option ℕ) (back : List Row) → IsTrue (room (front ++ row before 2 ∷ back)) → IsTrue (room (front ++ row before 1 ∷ back)))
    → (front : List Row) (before : Option ℕ) (back : List Row) → IsTrue (room_of room m (front ++ row before 2 ∷ back)) → IsTrue (room_of room m (front ++ row before 1 ∷ back))
one_of_two room m law front before back h =
    subst (λ (rows : List Row). IsTrue (room rows)) (sym (map-append (row_at m) front (row before 1 ∷ back)))
    (law (map (row_at m) front) (row_at m (row before 2)).before (map (row_at m) back) (subst (λ (rows : List Row). IsTrue (room rows)) (map-append (row_at m) front (row before 2 ∷ back)) h))
