-- Nodes that are entered.
use Rattle.std.proofs.Common.{◌≡◌, ℕ, zero, suc, List, [], ◌∷◌, Option, None, Some, Bool, true, false, refl, sym, ap, ◌∙◌}
use Rattle.kj_model.specs.Nodes.{Form, Ready, Later, Last, Cell, Branch, Then, Chain, Eager, Wrap, Hub, Side, Race, Join, Task, Request, form_at}
use Rattle.kj_model.specs.World.{State}
use Rattle.kj_model.specs.Changes.{silent, gone}
use Rattle.kj_model.specs.Free.{Guard, free_to, free_form, each_freed, unlinked, free_unreferenced, free_unless, is_guarded, without_branch}
use Rattle.kj_base.specs.declared.nodes.Link.{Link}
use Rattle.promise_nodes.specs.Shown.{link_number, run_from}
use Rattle.promise_nodes.specs.Kept.{is_unreferenced}
use Rattle.promise_names.specs.declared.names.Leaving.{Leaving}
use Rattle.promise_names.specs.declared.names.Leaving.TheVariants.{Nothing}
use Rattle.promise_walks.specs.declared.shape.Shape.{Shape}
use Rattle.promise_walks.specs.Shapes.{numbers_of, SeesShape, leaving_of, hub_of}
use Rattle.promise_walks.specs.Walks.{left_as}
use Rattle.promise_walks.specs.Stacks.{rest, falls_count}

-- what a form leaves that is no branch
unlinked_is : (g : Guard) (free : ℕ → State → State) (n : ℕ) (form : Form) (s : State) → hub_of form ≡ None → unlinked g free n form s ≡ left_as n (leaving_of form) s
unlinked_is g free n (Ready outcome) s h = refl
unlinked_is g free n Later s h = refl
unlinked_is g free n Last s h = refl
unlinked_is g free n (Cell None) s h = refl
unlinked_is g free n (Cell (Some outcome)) s h = refl
unlinked_is g free n (Branch hub) s h = cc
unlinked_is g free n (Then value error tree) s h = refl
unlinked_is g free n (Chain link) s h = refl
unlinked_is g free n (Eager content) s h = refl
unlinked_is g free n (Wrap canceler content) s h = refl
unlinked_is g free n (Hub content is_named branches) s h = refl
unlinked_is g free n (Side stage) s h = refl
unlinked_is g free n (Race left right winner) s h = refl
unlinked_is g free n (Join is_fast sides) s h = refl
unlinked_is g free n (Task tree) s h = refl
unlinked_is g free n (Request name tree) s h = refl

branch_form : (form : Form) (hub : ℕ) → hub_of form ≡ Some hub → form ≡ Branch hub
branch_form (Ready outcome) hub h = cc
branch_form Later hub h = cc
branch_form Last hub h = cc
branch_form (Cell outcome) hub h = cc
branch_form (Branch other) hub h = cc
branch_form (Then value error tree) hub h = cc
branch_form (Chain link) hub h = cc
branch_form (Eager content) hub h = cc
branch_form (Wrap canceler content) hub h = cc
branch_form (Hub content is_named branches) hub h = cc
branch_form (Side stage) hub h = cc
branch_form (Race left right winner) hub h = cc
branch_form (Join is_fast sides) hub h = cc
branch_form (Task tree) hub h = cc
branch_form (Request name tree) hub h = cc

-- a branch is seen
pub branch_seen : (o : Option Form) (shape : Shape) (hub : Link) → SeesShape (Some shape) o → shape.hub ≡ Some hub → o ≡ Some (Branch hub.number.0)
branch_seen None shape hub sees is = absurd sees
branch_seen (Some form) shape hub sees is = ap Some (branch_form form hub.number.0 (sees.hub ∙ ap link_number is))

-- no node, no free
pub free_none : (g : Guard) (k n : ℕ) (s : State) → form_at n s.world.nodes ≡ None → free_to g k n s ≡ s
unfolding free_to
free_none g zero n s e = refl
free_none g (suc k) n s e = rw e refl

-- no depth, no free
pub free_zero : (g : Guard) (n : ℕ) (s : State) → free_to g 0 n s ≡ s
unfolding free_to
free_zero g n s = refl

free_form_is : (g : Guard) (k : ℕ) (node : Link) (o : Option Form) (shape : Shape) (s : State) → SeesShape (Some shape) o → shape.hub ≡ None
    → free_form g (free_to g k) node.number.0 o s ≡ rest g k (record { node = node; parts = shape.parts; leaving = shape.leaving }) s
free_form_is g k node None shape s sees no_hub = absurd sees
free_form_is g k node (Some form) shape s sees no_hub =
    let n = node.number.0 in
    ap (λ (ns : List ℕ). gone n (unlinked g (free_to g k) n form (each_freed (free_to g k) ns s))) sees.parts
    ∙ ap (gone n) (unlinked_is g (free_to g k) n form (each_freed (free_to g k) (numbers_of shape.parts) s) (sees.hub ∙ ap link_number no_hub))
    ∙ ap (λ (l : Leaving). gone n (left_as n l (each_freed (free_to g k) (numbers_of shape.parts) s))) sees.leaving

-- a node that is no branch is entered
pub entered : (g : Guard) (k : ℕ) (node : Link) (shape : Shape) (s : State) → SeesShape (Some shape) (form_at node.number.0 s.world.nodes) → shape.hub ≡ None
    → free_to g (suc k) node.number.0 s ≡ rest g k (record { node = node; parts = shape.parts; leaving = shape.leaving }) s
unfolding free_to
entered g k node shape s sees no_hub = free_form_is g k node (form_at node.number.0 s.world.nodes) shape s sees no_hub

unless_counts : (g : Guard) (free : ℕ → State → State) (hub : ℕ) (kept : Bool) (s : State) → free_unless kept free hub s ≡ each_freed free (run_from (falls_count true kept) hub) s
unless_counts g free hub true s = refl
unless_counts g free hub false s = refl

pub unreferenced_counts : (g : Guard) (free : ℕ → State → State) (hub : ℕ) (o : Option Form) (s : State) → free_unreferenced g free hub o s ≡ each_freed free (run_from (falls_count (is_unreferenced o) (is_guarded g hub s.world)) hub) s
unreferenced_counts g free hub None s = refl
unreferenced_counts g free hub (Some (Ready outcome)) s = refl
unreferenced_counts g free hub (Some Later) s = refl
unreferenced_counts g free hub (Some Last) s = refl
unreferenced_counts g free hub (Some (Cell outcome)) s = refl
unreferenced_counts g free hub (Some (Branch other)) s = refl
unreferenced_counts g free hub (Some (Then value error tree)) s = refl
unreferenced_counts g free hub (Some (Chain link)) s = refl
unreferenced_counts g free hub (Some (Eager content)) s = refl
unreferenced_counts g free hub (Some (Wrap canceler content)) s = refl
unreferenced_counts g free hub (Some (Hub content true branches)) s = refl
unreferenced_counts g free hub (Some (Hub content false [])) s = unless_counts g free hub (is_guarded g hub s.world) s
unreferenced_counts g free hub (Some (Hub content false (b ∷ branches))) s = refl
unreferenced_counts g free hub (Some (Side stage)) s = refl
unreferenced_counts g free hub (Some (Race left right winner)) s = refl
unreferenced_counts g free hub (Some (Join fast sides)) s = refl
unreferenced_counts g free hub (Some (Task tree)) s = refl
unreferenced_counts g free hub (Some (Request name tree)) s = refl

free_branch : (g : Guard) (k : ℕ) (node hub : Link) (count : ℕ) (o : Option Form) (shape : Shape) (s : State) → SeesShape (Some shape) o → shape.hub ≡ Some hub
    → count ≡ falls_count (is_unreferenced (form_at hub.number.0 (without_branch node.number.0 hub.number.0 s.world).nodes)) (is_guarded g hub.number.0 (without_branch node.number.0 hub.number.0 s.world))
    → free_form g (free_to g k) node.number.0 o s ≡ rest g k (record { node = node; parts = record { next = hub; count = count }; leaving = Nothing }) (silent (without_branch node.number.0 hub.number.0) s)
free_branch g k node hub count o shape s sees is c =
    let n = node.number.0 in
    let h = hub.number.0 in
    ap (λ (p : Option Form). free_form g (free_to g k) n p s) (branch_seen o shape hub sees is)
    ∙ ap (gone n) (unreferenced_counts g (free_to g k) h (form_at h (without_branch n h s.world).nodes) (silent (without_branch n h) s))
    ∙ ap (λ (j : ℕ). gone n (each_freed (free_to g k) (run_from j h) (silent (without_branch n h) s))) (sym c)

-- a branch is entered: it leaves its hub, and the hub goes like a part
pub entered_branch : (g : Guard) (k : ℕ) (node hub : Link) (count : ℕ) (shape : Shape) (s : State) → SeesShape (Some shape) (form_at node.number.0 s.world.nodes) → shape.hub ≡ Some hub
    → count ≡ falls_count (is_unreferenced (form_at hub.number.0 (without_branch node.number.0 hub.number.0 s.world).nodes)) (is_guarded g hub.number.0 (without_branch node.number.0 hub.number.0 s.world))
    → free_to g (suc k) node.number.0 s ≡ rest g k (record { node = node; parts = record { next = hub; count = count }; leaving = Nothing }) (silent (without_branch node.number.0 hub.number.0) s)
unfolding free_to
entered_branch g k node hub count shape s sees is c = free_branch g k node hub count (form_at node.number.0 s.world.nodes) shape s sees is c
