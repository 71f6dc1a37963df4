-- What a walk sees of a node.
use Rattle.std.specs.Prelude.{◌≡◌, ℕ, List, Option, None, Some, IsSome}
use Rattle.kj_model.specs.Nodes.{Form, Ready, Later, Last, Cell, Branch, Then, Chain, Eager, Wrap, Hub, Side, Race, Join, Task, Request, parts_of}
use Rattle.promise_nodes.specs.Shown.{link_number, run_from}
use Rattle.promise_walks.specs.declared.shape.Parts.{Parts}
use Rattle.promise_names.specs.declared.names.Leaving.{Leaving}
use Rattle.promise_names.specs.declared.names.Leaving.TheVariants.{Nothing, Cell as CellLeaves, Wrap as WrapLeaves}
use Rattle.promise_walks.specs.declared.shape.Shape.{Shape}

-- the numbers of parts
abbrev pub numbers_of : Parts → List ℕ
numbers_of parts = run_from parts.count parts.next.number.0

-- these are the numbers of the parts
abbrev pub AreParts : List ℕ → Parts → Type 0
AreParts ns parts = ns ≡ numbers_of parts

-- what a node of this form leaves when it goes
abbrev pub leaving_of : Form → Leaving
leaving_of (Ready outcome) = Nothing
leaving_of Later = Nothing
leaving_of Last = Nothing
leaving_of (Cell None) = CellLeaves
leaving_of (Cell (Some outcome)) = Nothing
leaving_of (Branch hub) = Nothing
leaving_of (Then value error tree) = Nothing
leaving_of (Chain link) = Nothing
leaving_of (Eager content) = Nothing
leaving_of (Wrap canceler content) = WrapLeaves (record { 0 = canceler })
leaving_of (Hub content is_named branches) = Nothing
leaving_of (Side stage) = Nothing
leaving_of (Race left right winner) = Nothing
leaving_of (Join is_fast sides) = Nothing
leaving_of (Task tree) = Nothing
leaving_of (Request name tree) = Nothing

-- the hub of a branch
abbrev pub hub_of : Form → Option ℕ
hub_of (Ready outcome) = None
hub_of Later = None
hub_of Last = None
hub_of (Cell outcome) = None
hub_of (Branch hub) = Some hub
hub_of (Then value error tree) = None
hub_of (Chain link) = None
hub_of (Eager content) = None
hub_of (Wrap canceler content) = None
hub_of (Hub content is_named branches) = None
hub_of (Side stage) = None
hub_of (Race left right winner) = None
hub_of (Join is_fast sides) = None
hub_of (Task tree) = None
hub_of (Request name tree) = None

-- the shape of a node of this form
pub record IsShape (shape : Shape) (form : Form) : Type 0 where
  pub parts : AreParts (parts_of form) shape.parts
  pub leaving : leaving_of form ≡ shape.leaving
  pub hub : hub_of form ≡ link_number shape.hub

-- a shape is seen just where the node is live
abbrev pub SeesShape : Option Shape → Option Form → Type 0
SeesShape None None = Unit {0}
SeesShape None (Some form) = ⊥
SeesShape (Some shape) None = ⊥
SeesShape (Some shape) (Some form) = IsShape shape form

-- the shape of a branch
abbrev pub HasHub : Option Shape → Type 0
HasHub None = ⊥
HasHub (Some shape) = IsSome shape.hub
