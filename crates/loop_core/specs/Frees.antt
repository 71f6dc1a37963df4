-- What is kept of frees.
use Rattle.std.specs.Prelude.{ℕ, ◌+◌, List, None, Some, Bool, true, false, map, length}
use Rattle.kj_base.specs.Record.{Free}
use Rattle.kj_base.specs.declared.numbers.NodeId.{NodeId}
use Rattle.promise_commands.specs.Telling.{Telling}

-- the numbers of nodes
abbrev pub numbers_of : List NodeId → List ℕ
numbers_of nodes = map (λ (node : NodeId). node.0) nodes

-- all frees are kept; or there were more than there was room for
abbrev pub frees_told : Bool → ℕ → List ℕ → Telling
frees_told true room freed = record { items = Some (map Free freed); least = length freed }
frees_told false room freed = record { items = None; least = room + 1 }
