-- Which forms a node may have in which place.
use Rattle.std.specs.Prelude.{◌≡◌, ℕ, List, [], Option, None, Some, Bool, true, false, ◌==◌, is_some}
use Rattle.kj_model.specs.Nodes.{Form, Then, Chain, Hub, Side, Race, Join, Task, Request, form_at, is_in}
use Rattle.kj_model.specs.World.{World, Held, Group, RequestOf, held_at}
use Rattle.kj_model.specs.Owned.{held_roots, awaited_roots}
use Rattle.kj_ownership.specs.Owners.{owns}
use Rattle.kj_ownership.specs.Stems.{HasWinners}

-- the kinds of places: for a tree, for what a Chain is over, for a part of a Race or a join, for a task of a set,
-- for a request of this name, and for a Task that has left its set
pub data Kind : Type 0 where
  OfTree : Kind
  OfLink : Kind
  OfSide : Kind
  OfTask : Kind
  OfRequest : (name : ℕ) → Kind
  OfEnded : Kind

-- what a promise may hold: neither a hub, nor a part of a Race or a join, nor a task, nor a request
abbrev pub is_tree : Form → Bool
is_tree (Hub content is_named branches) = false
is_tree (Side stage) = false
is_tree (Task tree) = false
is_tree (Request name tree) = false
is_tree other = true

abbrev pub is_link : Form → Bool
is_link (Then value error tree) = true
is_link other = false

abbrev pub is_side : Form → Bool
is_side (Side stage) = true
is_side other = false

abbrev pub is_task : Form → Bool
is_task (Task tree) = true
is_task other = false

abbrev pub is_request : ℕ → Form → Bool
is_request name (Request of_name tree) = of_name == name
is_request name other = false

abbrev pub is_ended : Form → Bool
is_ended (Task None) = true
is_ended other = false

-- whether a node may stand in a place of this kind; a number that isn't live may stand anywhere
abbrev pub suits : Kind → Option Form → Bool
suits kind None = true
suits OfTree (Some form) = is_tree form
suits OfLink (Some form) = is_link form
suits OfSide (Some form) = is_side form
suits OfTask (Some form) = is_task form
suits (OfRequest name) (Some form) = is_request name form
suits OfEnded (Some form) = is_ended form

-- the kind of the places under a node
abbrev pub part_kind : Option Form → Kind
part_kind (Some (Chain link)) = OfLink
part_kind (Some (Race left right winner)) = OfSide
part_kind (Some (Join fast sides)) = OfSide
part_kind other = OfTree

-- the kind of the places under a name
abbrev pub held_kind : ℕ → Option Held → Kind
held_kind name (Some (Group error tasks empty)) = OfTask
held_kind name (Some (RequestOf request)) = OfRequest name
held_kind name other = OfTree

-- the places under a name
abbrev pub roots_found : Option Held → List ℕ
roots_found None = []
roots_found (Some held) = held_roots held

-- each live node has a form that suits its place; while an event fires, what is left over are Tasks that have left their sets
pub record Shaped (w : World) : Type 0 where
  pub winners : HasWinners w.nodes
  pub parts : (q p : ℕ) → owns q p w.nodes ≡ true → suits (part_kind (form_at q w.nodes)) (form_at p w.nodes) ≡ true
  pub names : (c p : ℕ) → is_in p (roots_found (held_at c w.names)) ≡ true → suits (held_kind c (held_at c w.names)) (form_at p w.nodes) ≡ true
  pub awaited : (p : ℕ) → is_in p (awaited_roots w.awaited) ≡ true → suits OfTree (form_at p w.nodes) ≡ true
  pub detached : (p : ℕ) → is_in p w.detached ≡ true → suits OfTask (form_at p w.nodes) ≡ true
  pub left_over : (p : ℕ) → is_some w.firing ≡ true → is_in p w.left_over ≡ true → suits OfEnded (form_at p w.nodes) ≡ true
