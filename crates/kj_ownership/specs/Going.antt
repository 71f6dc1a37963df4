-- What goes with a hub, and with the tasks of a set.
use Rattle.std.specs.Prelude.{ℕ, List, [], reverse}
use Rattle.kj_model.specs.Nodes.{form_at}
use Rattle.kj_model.specs.World.{World, depth_of}
use Rattle.kj_model.specs.Free.{Holding}
use Rattle.kj_model.specs.Falling.{falling, each_falling, hub_falling}

-- what goes with a hub where neither name nor branch is left, and no hub is kept
abbrev pub hub_goes : ℕ → World → List ℕ
hub_goes hub w = hub_falling (Holding []) w (λ n. falling (Holding []) w (depth_of w) [] [] n) [] hub (form_at hub w.nodes)

-- what goes with these tasks, the newest first, where no hub is kept
abbrev pub set_goes : List ℕ → World → List ℕ
set_goes tasks w = each_falling (falling (Holding []) w (depth_of w) []) [] (reverse tasks)
