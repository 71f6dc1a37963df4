-- The nodes of the definitions that the nodes in a store are.
use Rattle.std.specs.Prelude.{◌≡◌, ℕ, zero, suc, ◌+◌, ◌-◌, ◌^◌, min, List, [], ◌∷◌, Option, None, Some}
use Rattle.kj_base.specs.Commands.{step_of}
use Rattle.kj_base.specs.declared.nodes.Link.{Link}
use Rattle.kj_base.specs.declared.nodes.Content.{Content as ContentCase}
use Rattle.kj_base.specs.declared.nodes.Content.TheVariants.{Tree as TreeCase, Kept as KeptCase}
use Rattle.kj_base.specs.declared.nodes.Stage.{Stage as StageCase}
use Rattle.kj_base.specs.declared.nodes.Stage.TheVariants.{Waits as WaitsCase, Fired as FiredCase, Keeps as KeepsCase, Gone as GoneCase}
use Rattle.kj_base.specs.declared.nodes.Form.{Form as FormCase}
use Rattle.kj_base.specs.declared.nodes.Form.TheVariants.{Ready as ReadyCase, Later as LaterCase, Last as LastCase, Cell as CellCase, Branch as BranchCase, Then as ThenCase, Chain as ChainCase, Eager as EagerCase, Wrap as WrapCase, Hub as HubCase, Side as SideCase, Race as RaceCase, Join as JoinCase, Task as TaskCase, Request as RequestCase}
use Rattle.kj_base.specs.declared.numbers.NodeId.{NodeId}
use Rattle.kj_base.specs.Queue.{Way, DepthFirst, BreadthFirst, AtLast}
use Rattle.kj_model.specs.Nodes.{Content, Tree, Kept, Stage, Waits, Fired, Keeps, Gone, Form, Ready, Later, Last, Cell, Branch, Then, Chain, Eager, Wrap, Hub, Side, Race, Join, Task, Request, Entry, form_at}
use Rattle.promise_nodes.specs.declared.nodes.Way.{Way as WayCase}
use Rattle.promise_nodes.specs.declared.nodes.Way.TheVariants.{DepthFirst as DepthFirstCase, BreadthFirst as BreadthFirstCase, AtLast as AtLastCase}

-- the number of a node that may be absent
abbrev pub link_number : Option Link → Option ℕ
link_number None = None
link_number (Some link) = Some link.number.0

-- the same for a number alone
abbrev pub node_number : Option NodeId → Option ℕ
node_number None = None
node_number (Some node) = Some node.0

-- the number after this one, as far as there are numbers
abbrev pub next_number : ℕ → ℕ
next_number n = min (n + 1) (2 ^ 64 - 1)

-- so many numbers that follow each other, from this one on
abbrev pub run_from : ℕ → ℕ → List ℕ
run_from zero n = []
run_from (suc count) n = n ∷ run_from count (next_number n)

-- the content that each variant is
abbrev pub content_shown : ContentCase → Content
content_shown (TreeCase link) = Tree link.number.0
content_shown (KeptCase outcome) = Kept outcome

-- the stage that each variant is
abbrev pub stage_shown : StageCase → Stage
stage_shown (WaitsCase link) = Waits link.number.0
stage_shown (FiredCase link) = Fired link.number.0
stage_shown (KeepsCase outcome) = Keeps outcome
stage_shown GoneCase = Gone

-- the form that each variant is; a hub has these branches
abbrev pub shown : List ℕ → FormCase → Form
shown branches (ReadyCase outcome) = Ready outcome
shown branches LaterCase = Later
shown branches LastCase = Last
shown branches (CellCase outcome) = Cell outcome
shown branches (BranchCase hub) = Branch hub.number.0
shown branches (ThenCase value error tree) = Then (step_of value) (step_of error) (link_number tree)
shown branches (ChainCase link) = Chain link.number.0
shown branches (EagerCase content) = Eager (content_shown content)
shown branches (WrapCase canceler content) = Wrap canceler.0 (content_shown content)
shown branches (HubCase content is_named) = Hub (content_shown content) is_named branches
shown branches (SideCase stage) = Side (stage_shown stage)
shown branches (RaceCase left winner) = Race left.number.0 (next_number left.number.0) (node_number winner)
shown branches (JoinCase is_fast first count) = Join is_fast (run_from count first.number.0)
shown branches (TaskCase tree) = Task (link_number tree)
shown branches (RequestCase name tree) = Request name.0 (link_number tree)

-- a hub has some branches, and else the form is the same
pub record IsForm (form : FormCase) (seen : Form) : Type 0 where
  pub branches : List ℕ
  pub is : seen ≡ shown branches form

-- a form is seen just where the node is live, and it is that form
abbrev pub Sees : Option FormCase → Option Form → Type 0
Sees None None = Unit {0}
Sees None (Some seen) = ⊥
Sees (Some form) None = ⊥
Sees (Some form) (Some seen) = IsForm form seen

-- the owner is seen just where there is one, and it is that node, which lives
abbrev pub SeesOwner : List Entry → Option Link → Option Entry → Type 0
SeesOwner nodes None None = Unit {0}
SeesOwner nodes None (Some owner) = ⊥
SeesOwner nodes (Some link) None = ⊥
SeesOwner nodes (Some link) (Some owner) = (link.number.0 ≡ owner.number) × (form_at owner.number nodes ≡ Some owner.form)

-- the way that each variant is
abbrev pub way_of : WayCase → Way
way_of DepthFirstCase = DepthFirst
way_of BreadthFirstCase = BreadthFirst
way_of AtLastCase = AtLast
