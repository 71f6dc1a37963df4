-- What commands build.
use Rattle.std.specs.Prelude.{ℕ, Option, None, Some}
use Rattle.kj_base.specs.Commands.{step_of}
use Rattle.kj_base.specs.declared.numbers.StepId.{StepId}
use Rattle.kj_model.specs.World.{World, CellOf, held_at}
use Rattle.kj_model.specs.Changes.{named}
use Rattle.kj_model.specs.Effects.{leaf_built}
use Rattle.promise_names.specs.Held.{IsListless}
use Rattle.kj_model.specs.Nodes.{Form, Cell, Tree, Then, Eager, Wrap, Task, Side, Waits}
use Rattle.promise_apply.specs.declared.building.Over.{Over}
use Rattle.promise_apply.specs.declared.building.Over.TheVariants.{Then as ThenCase, Eager as EagerCase, Wrap as WrapCase, Task as TaskCase, Side as SideCase}

-- the form over a tree that each variant is
abbrev pub over_shown : Over → ℕ → Form
over_shown (ThenCase value error) tree = Then (step_of value) (step_of error) (Some tree)
over_shown EagerCase tree = Eager (Tree tree)
over_shown (WrapCase canceler) tree = Wrap canceler.0 (Tree tree)
over_shown TaskCase tree = Task (Some tree)
over_shown SideCase tree = Side (Waits tree)

-- the form over a tree of a Then with these steps
abbrev pub then_shown : Option StepId → Option StepId → ℕ → Form
then_shown value error tree = Then (step_of value) (step_of error) (Some tree)

-- nodes and names stand for one world
abbrev pub Both : (World → Type 0) → (World → Type 0) → World → Type 0
Both nodes names w = nodes w × names w

-- a cell under two names: its promise and its fulfiller
abbrev pub pair_built : ℕ → ℕ → World → World
pair_built name cell w = named cell (CellOf w.next) (leaf_built name (Cell None) w)

-- neither name has a list when it is given
pub record AreNew (name cell : ℕ) (w : World) : Type 0 where
  pub promise : IsListless (held_at name w.names)
  pub fulfiller : IsListless (held_at cell (leaf_built name (Cell None) w).names)
