-- Events whose trees are ready.
use Rattle.std.specs.Prelude.{◌≡◌, ℕ, List, Option, None, Some, true}
use Rattle.kj_model.specs.Nodes.{Entry, Form, Content, Tree, Kept, Stage, Waits, Chain, Eager, Wrap, Hub, Side, Task, Request, form_at, is_in}
use Rattle.kj_model.specs.World.{World, Awaited}
use Rattle.kj_model.specs.Listening.{ready}

-- the tree, where it is still there
abbrev pub content_tree : Content → Option ℕ
content_tree (Tree root) = Some root
content_tree (Kept outcome) = None

-- the tree of a Side that waits
abbrev pub stage_tree : Stage → Option ℕ
stage_tree (Waits root) = Some root
stage_tree other = None

-- the tree for which the event of a node waits; a Side that has fired, or whose tree went as another Side won, waits for
-- none, and neither does a node that has its outcome
abbrev pub tree_of : Option Form → Option ℕ
tree_of (Some (Chain link)) = Some link
tree_of (Some (Eager content)) = content_tree content
tree_of (Some (Wrap canceler content)) = content_tree content
tree_of (Some (Hub content is_named branches)) = content_tree content
tree_of (Some (Side stage)) = stage_tree stage
tree_of (Some (Task tree)) = tree
tree_of (Some (Request name tree)) = tree
tree_of other = None

-- the tree of a root is ready, read to some depth
abbrev pub IsReady : List Entry → ℕ → Type 0
IsReady nodes n = (k : ℕ) × (ready k nodes n ≡ true)

-- the tree for which an event waits is ready: the node's, or the awaited one for event 0
pub record HasReadyTree (w : World) (e : ℕ) : Type 0 where
  pub node : (t : ℕ) → tree_of (form_at e w.nodes) ≡ Some t → IsReady w.nodes t
  pub wait : e ≡ 0 → (a : Awaited) → w.awaited ≡ Some a → IsReady w.nodes a.root

-- each event in the queue has one
abbrev pub QueueReady : World → Type 0
QueueReady w = (e : ℕ) → is_in e w.queue.list ≡ true → HasReadyTree w e
