-- The way over the branches of a hub.
use Rattle.std.specs.Prelude.{◌≡◌, ℕ, ◌≤◌, List, ◌++◌, Option, length}
use Rattle.kj_base.specs.Queue.{first_of}
use Rattle.kj_model.specs.Nodes.{form_at}
use Rattle.kj_model.specs.World.{World}
use Rattle.kj_model.specs.Fire.{branches_of, each_announced, branches_announced}

-- so many branches at most are left, from this one on; with them the world is the one in which all are announced
pub record AreLeft (Now : World → Type 0) (hub : ℕ) (w : World) (at : Option ℕ) (most : ℕ) : Type 0 where
  pub now : World
  pub front : List ℕ
  pub back : List ℕ
  pub stands : Now now
  pub nodes : now.nodes ≡ w.nodes
  pub branches : branches_of (form_at hub w.nodes) ≡ front ++ back
  pub first : at ≡ first_of back
  pub ends : each_announced back now ≡ branches_announced hub w
  pub few : length back ≤ most
