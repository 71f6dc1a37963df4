-- What the definitions keep of a node whose event fires, and no keeper tells.
use Rattle.std.specs.Prelude.{ℕ, List}
use Rattle.kj_base.specs.Record.{Item}
use Rattle.kj_model.specs.World.{World}
use Rattle.kj_model.specs.Value.{Given, Gave, Took}
pub use Rattle.kj_ownership.specs.Firing.{world_freed, Outlives, BranchesLive, BranchesOutlive}
use Rattle.promise_nodes.specs.Kept.{IsLive, IsReplaceable}

-- the Chain still lives when its link was freed, and the promise that it gave may take its place
pub record TakesPlace (chain root : ℕ) (v : World) : Type 0 where
  pub lives : IsLive v chain
  pub place : IsReplaceable v chain root

-- the same where it gave a promise; an outcome asks for nothing
abbrev pub MayEnd : ℕ → ℕ → Given → World → Type 0
MayEnd chain link (Gave outcome) w = Unit {0}
MayEnd chain link (Took root) w = (past : List Item) → TakesPlace chain root (world_freed link past w)
