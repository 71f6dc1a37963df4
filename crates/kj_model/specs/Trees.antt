-- The numbers of the nodes of a tree.
use Rattle.std.specs.Prelude.{◌≡◌, ℕ, zero, suc, List, [], ◌∷◌, ◌++◌, Option, None, Some, Bool, true, false, flat_map, map, not}
use Rattle.std.specs.List.{list_any}
use Rattle.kj_model.specs.Nodes.{Entry, Form, form_at, parts_of, Content, Hub, is_in}
use Rattle.kj_model.specs.World.{State}
use Rattle.kj_base.specs.Record.{Free}

-- what a form owns, where there is a node
abbrev pub some_parts : Option Form → Option (List ℕ)
some_parts None = None
some_parts (Some form) = Some (parts_of form)

-- what a live node owns
abbrev pub live_parts : ℕ → List Entry → Option (List ℕ)
live_parts n nodes = some_parts (form_at n nodes)

-- the nodes of the parts, and then the node
abbrev pub over_parts : (ℕ → List ℕ) → ℕ → Option (List ℕ) → List ℕ
over_parts below n None = []
over_parts below n (Some parts) = flat_map below parts ++ n ∷ []

-- the nodes of the tree of a root, dependencies first; the first argument bounds its depth
unfoldable pub tree_numbers : ℕ → List Entry → ℕ → List ℕ
tree_numbers zero nodes n = []
tree_numbers (suc k) nodes n = over_parts (tree_numbers k nodes) n (live_parts n nodes)

-- no number stands twice
abbrev pub AreApart : List ℕ → Type 0
AreApart [] = Unit {0}
AreApart (n ∷ ns) = (is_in n ns ≡ false) × AreApart ns

-- none where it holds
abbrev pub none_if : {A : Type 0} → Bool → Option A → Option A
none_if true o = None
none_if false o = o

-- from one state to the other exactly these nodes were freed, in this order, and each other node owns what it owned
pub record Frees (ns : List ℕ) (old new : State) : Type 0 where
  pub told : new.past ≡ old.past ++ map Free ns
  pub nodes : (m : ℕ) → live_parts m new.world.nodes ≡ none_if (is_in m ns) (live_parts m old.world.nodes)

-- each of these numbers stands in that list
abbrev pub AreAmong : List ℕ → List ℕ → Type 0
AreAmong [] ns = Unit {0}
AreAmong (m ∷ ms) ns = (is_in m ns ≡ true) × AreAmong ms ns

-- each hub without a name has a branch that isn't among these nodes
abbrev pub HubsStay : List ℕ → List Entry → Type 0
HubsStay ns nodes = (hub : ℕ) (content : Content) (branches : List ℕ) → form_at hub nodes ≡ Some (Hub content false branches) → list_any (λ b. not (is_in b ns)) branches ≡ true
