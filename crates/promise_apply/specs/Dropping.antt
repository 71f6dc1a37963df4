-- What a Drop would free, and what it does.
use Rattle.std.specs.Prelude.{◌≡◌, ℕ, List, [], ◌∷◌, Option, None, Some, Bool, false}
use Rattle.kj_base.specs.declared.nodes.Form.{Form as FormCase}
use Rattle.kj_base.specs.declared.nodes.Form.TheVariants.{Hub as HubCase}
use Rattle.kj_model.specs.Nodes.{Form, Hub, is_in}
use Rattle.kj_model.specs.World.{World, Held, Canceler, held_at, depth_of}
use Rattle.kj_model.specs.Effects.{hub_unnamed}
use Rattle.kj_model.specs.Free.{Holding}
use Rattle.kj_model.specs.Falling.{falling}
use Rattle.kj_model.specs.Uses.{use_as, IsDroppable}
use Rattle.kj_ownership.specs.Going.{hub_goes, set_goes}
use Rattle.promise_nodes.specs.Shown.{content_shown}
use Rattle.promise_apply.specs.Applying.{refused_first}

-- whether the node whose event fires, if one does, would go with a tree
abbrev pub frees_firing : Option ℕ → ℕ → World → Bool
frees_firing None root w = false
frees_firing (Some f) root w = is_in f (falling (Holding []) w (depth_of w) [] [] root)

-- the same with a hub, once it has no name
abbrev pub hub_frees_firing : Option ℕ → ℕ → World → Bool
hub_frees_firing None hub w = false
hub_frees_firing (Some f) hub w = is_in f (hub_goes hub (hub_unnamed hub w))

-- the same with these tasks of a set, the newest first
abbrev pub set_frees_firing : Option ℕ → List ℕ → World → Bool
set_frees_firing None tasks w = false
set_frees_firing (Some f) tasks w = is_in f (set_goes tasks w)

-- the form of a hub is seen just where the node is a hub
abbrev pub SeesHub : Option FormCase → Option Form → Type 0
SeesHub (Some (HubCase content is_named)) (Some (Hub content_seen is_named_seen branches)) = (content_seen ≡ content_shown content) × (is_named_seen ≡ is_named)
SeesHub (Some other) seen = ⊥
SeesHub None (Some (Hub content is_named branches)) = ⊥
SeesHub None other = Unit {0}

-- a name holds this, and a Drop of it passes the tests of names
pub record MayDrop (name : ℕ) (held : Option Held) (w : World) : Type 0 where
  pub held_is : held_at name w.names ≡ held
  pub passes : refused_first (use_as IsDroppable name ∷ []) w ≡ None

-- a canceler
abbrev pub IsCanceler : Option Held → Type 0
IsCanceler (Some (Canceler wraps)) = Unit {0}
IsCanceler other = ⊥

-- a name is a canceler's, and a Drop of it passes the tests of names
pub record MayDropCanceler (name : ℕ) (w : World) : Type 0 where
  pub canceler : IsCanceler (held_at name w.names)
  pub passes : refused_first (use_as IsDroppable name ∷ []) w ≡ None
