-- What listening leaves of a world, and names.
use Rattle.std.proofs.Common.{ℕ, Option, None, Some, Bool, true, false, refl}
use Rattle.kj_base.specs.Queue.{Way}
use Rattle.kj_base.specs.declared.outcomes.Outcome.{Outcome}
use Rattle.kj_model.specs.Nodes.{Form, Cell, form_at}
use Rattle.kj_model.specs.World.{World, Held, depth_of}
use Rattle.kj_model.specs.Changes.{named, unnamed, put}
use Rattle.kj_model.specs.Effects.{with_detached}
use Rattle.kj_model.specs.Listening.{listened, listened_if, listened_way, listener, ready, is_last, settled, settled_form}
use Rattle.promise_nodes.specs.Kept.{SameNodes, SameNames}
use Rattle.promise_nodes.proofs.Same.{armed_names}

listened_case : (b : Bool) (n : ℕ) (w : World) → SameNames w (listened_if b n w)
listened_case true n w = armed_names (listened_way (is_last (depth_of w) w.nodes n)) (listener n w) w
listened_case false n w = refl

-- names stay when a tree gets a listener
pub listened_names : (n : ℕ) (w : World) → SameNames w (listened n w)
listened_names n w = listened_case (ready (depth_of w) w.nodes n) n w

-- nodes stay when a name comes or goes
pub named_nodes : (name : ℕ) (held : Held) (w : World) → SameNodes w (named name held w)
named_nodes name held w = refl

pub unnamed_nodes : (name : ℕ) (w : World) → SameNodes w (unnamed name w)
unnamed_nodes name w = refl

-- and names, when the loop's own set gets a task
pub enlisted_names : (task : ℕ) (w : World) → SameNames w (with_detached task w)
enlisted_names task w = refl

settled_case : (way : Way) (n : ℕ) (o : Outcome) (w : World) (f : Option Form) → SameNames w (settled_form way n o f w)
settled_case way n o w (Some (Cell None)) = let v = put n (Cell (Some o)) w in armed_names way (listener n v) v
settled_case way n o w (Some (Cell (Some kept))) = refl
settled_case way n o w None = refl
settled_case way n o w (Some _) = refl

-- and when a cell is settled
pub settled_names : (way : Way) (n : ℕ) (o : Outcome) (w : World) → SameNames w (settled way n o w)
settled_names way n o w = settled_case way n o w (form_at n w.nodes)
