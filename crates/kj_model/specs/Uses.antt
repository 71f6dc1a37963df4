-- The names of commands, and the tests of them.
use Rattle.std.specs.Prelude.{ℕ, List, [], ◌∷◌, ◌++◌, Option, None, Some, Bool, true, false, not, ◌||◌, ◌&&◌, ◌==◌, map}
use Rattle.std.specs.List.{list_any}
use Rattle.kj_base.specs.Commands.{Command, Now, Broken, Later, Last, Pair, Then, Chain, Eager, Fork, Branch, Race, All, Fast, Fulfil, Reject, DropCell, NewSet, Add, Clear, OnEmpty, NewCanceler, Wrap, Cancel, Detach, Drop, Ask, Begin, Stop, Reply}
use Rattle.kj_model.specs.Nodes.{Form, Entry, Cell, form_at}
use Rattle.kj_model.specs.World.{World, Named, Held, Promise, CellOf, AskCell, HubOf, Group, Canceler, RequestOf, held_at}

-- what a command wants of a name: that it is new, a promise that it takes, or a name of this kind
pub data Role : Type 0 where
  IsNew : Role
  IsSource : Role
  IsCell : Role
  IsAsk : Role
  IsHub : Role
  IsGroup : Role
  -- a set without a cell that waits until it is empty
  IsGroupAlone : Role
  IsCanceler : Role
  IsRequest : Role
  -- what Drop takes
  IsDroppable : Role

-- one name of a command, with what is wanted of it
pub record Use : Type 0 where
  pub role : Role
  pub name : ℕ

-- one name in this role
abbrev pub use_as : Role → ℕ → Use
use_as role name = record { role = role; name = name }

-- each of these names in this role
abbrev pub used_as : Role → List ℕ → List Use
used_as role names = map (use_as role) names

-- a new name, and the sources under it
abbrev pub new_over : ℕ → List ℕ → List Use
new_over name sources = use_as IsNew name ∷ used_as IsSource sources

-- the names of a command in the order of its fields
abbrev pub uses_of : Command → List Use
uses_of (Now name words) = use_as IsNew name ∷ []
uses_of (Broken name exception) = use_as IsNew name ∷ []
uses_of (Later name) = use_as IsNew name ∷ []
uses_of (Last name) = use_as IsNew name ∷ []
uses_of (Pair name cell) = use_as IsNew name ∷ use_as IsNew cell ∷ []
uses_of (Then name source value error) = new_over name (source ∷ [])
uses_of (Chain name source value error) = new_over name (source ∷ [])
uses_of (Eager name source) = new_over name (source ∷ [])
uses_of (Fork hub source) = new_over hub (source ∷ [])
uses_of (Branch name hub) = use_as IsNew name ∷ use_as IsHub hub ∷ []
uses_of (Race name left right) = new_over name (left ∷ right ∷ [])
uses_of (All name sources) = new_over name sources
uses_of (Fast name sources) = new_over name sources
uses_of (Fulfil cell words) = use_as IsCell cell ∷ []
uses_of (Reject cell exception) = use_as IsCell cell ∷ []
uses_of (DropCell cell) = use_as IsCell cell ∷ []
uses_of (NewSet group error) = use_as IsNew group ∷ []
uses_of (Add group source) = use_as IsGroup group ∷ use_as IsSource source ∷ []
uses_of (Clear group) = use_as IsGroup group ∷ []
uses_of (OnEmpty name group) = use_as IsNew name ∷ use_as IsGroupAlone group ∷ []
uses_of (NewCanceler canceler) = use_as IsNew canceler ∷ []
uses_of (Wrap name canceler source) = use_as IsNew name ∷ use_as IsCanceler canceler ∷ use_as IsSource source ∷ []
uses_of (Cancel canceler) = use_as IsCanceler canceler ∷ []
uses_of (Detach source) = use_as IsSource source ∷ []
uses_of (Drop name) = use_as IsDroppable name ∷ []
uses_of (Ask name cell target step words) = use_as IsNew name ∷ use_as IsNew cell ∷ []
uses_of (Begin request step words) = use_as IsNew request ∷ []
uses_of (Stop request) = use_as IsRequest request ∷ []
uses_of (Reply cell outcome) = use_as IsAsk cell ∷ []

-- the commands that no step may give
abbrev pub is_outside : Command → Bool
is_outside (Begin request step words) = true
is_outside (Stop request) = true
is_outside (Reply cell outcome) = true
is_outside other = false

-- this name where the test failed, else what the later names give
abbrev pub found_if : Bool → ℕ → Option ℕ → Option ℕ
found_if true name rest = Some name
found_if false name rest = rest

-- the first name that fails a test, which sees the names before it
abbrev pub first_failing : (List Use → Use → Bool) → List Use → List Use → Option ℕ
first_failing fails before [] = None
first_failing fails before (u ∷ us) = found_if (fails before u) u.name (first_failing fails (before ++ u ∷ []) us)

-- a name that the command makes
abbrev pub is_new : Role → Bool
is_new IsNew = true
is_new other = false

-- a promise that the command takes
abbrev pub is_source : Role → Bool
is_source IsSource = true
is_source other = false

-- whether an earlier name of the command is this one, in such a role
abbrev pub used_before : (Role → Bool) → ℕ → List Use → Bool
used_before test name before = list_any (λ (u : Use). test u.role && (u.name == name)) before

-- whether the map has this name
abbrev pub is_name : ℕ → List Named → Bool
is_name name names = list_any (λ (x : Named). x.name == name) names

-- a name that should be there isn't, or a source is named twice
abbrev pub is_unknown : World → List Use → Use → Bool
is_unknown w before u = not (is_new u.role) && (not (is_name u.name w.names) || (is_source u.role && used_before is_source u.name before))

-- whether what a name holds is what the command wants of it
abbrev pub is_promise : Option Held → Bool
is_promise (Some (Promise root)) = true
is_promise other = false

-- a fulfiller's cell
abbrev pub is_cell : Option Held → Bool
is_cell (Some (CellOf cell)) = true
is_cell other = false

-- an ask's cell whose ask was taken
abbrev pub is_taken_ask : Option Held → Bool
is_taken_ask (Some (AskCell cell is_taken)) = is_taken
is_taken_ask other = false

-- a hub
abbrev pub is_hub : Option Held → Bool
is_hub (Some (HubOf hub)) = true
is_hub other = false

-- a set
abbrev pub is_group : Option Held → Bool
is_group (Some (Group error tasks empty)) = true
is_group other = false

-- a canceler
abbrev pub is_canceler : Option Held → Bool
is_canceler (Some (Canceler wraps)) = true
is_canceler other = false

-- a request that hasn't ended
abbrev pub is_live_request : Option Held → Bool
is_live_request (Some (RequestOf (Some node))) = true
is_live_request other = false

-- what each role asks of what the name holds
abbrev pub has_role : Role → Option Held → Bool
has_role IsNew held = true
has_role IsSource held = is_promise held
has_role IsCell held = is_cell held
has_role IsAsk held = is_taken_ask held
has_role IsHub held = is_hub held
has_role IsGroup held = is_group held
has_role IsGroupAlone held = is_group held
has_role IsCanceler held = is_canceler held
has_role IsRequest held = is_live_request held
has_role IsDroppable held = is_promise held || is_hub held || is_group held || is_canceler held

-- what the name holds isn't what the command asks
abbrev pub is_wrong : World → List Use → Use → Bool
is_wrong w before u = not (has_role u.role (held_at u.name w.names))

-- a cell without outcome
abbrev pub waits_at : Option Form → Bool
waits_at (Some (Cell None)) = true
waits_at other = false

-- a set whose cell waits and is live
abbrev pub has_empty_cell : List Entry → Option Held → Bool
has_empty_cell nodes (Some (Group error tasks (Some cell))) = waits_at (form_at cell nodes)
has_empty_cell nodes other = false

-- the test for a new name, and for a set that gets a cell
abbrev pub is_taken_as : World → List Use → ℕ → Role → Bool
is_taken_as w before name IsNew = is_name name w.names || used_before is_new name before
is_taken_as w before name IsGroupAlone = has_empty_cell w.nodes (held_at name w.names)
is_taken_as w before name other = false

-- a new name is there or named twice, or the set has its cell
abbrev pub is_taken : World → List Use → Use → Bool
is_taken w before u = is_taken_as w before u.name u.role
