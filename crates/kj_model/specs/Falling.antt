-- What goes with a node, read off the nodes as they stand before anything goes.
use Rattle.std.specs.Prelude.{◌≡◌, ℕ, zero, suc, List, [], ◌∷◌, ◌++◌, Option, None, Some, Bool, true, false, not, ◌&&◌, ◌||◌, ◌==◌, filter}
use Rattle.kj_model.specs.Nodes.{Entry, Form, Content, Branch, Hub, form_at, parts_of, is_in}
use Rattle.kj_model.specs.World.{World}
use Rattle.kj_model.specs.Free.{Guard, is_guarded}
use Rattle.kj_model.specs.Trees.{none_if, tree_numbers, AreApart}

-- whether a node of this form is a branch of the hub
abbrev pub is_branch_of : ℕ → Option Form → Bool
is_branch_of hub (Some (Branch h)) = h == hub
is_branch_of hub other = false

-- the branches that stay with a hub: all but its own that are out
abbrev pub branches_staying : (ℕ → Bool) → ℕ → List Entry → List ℕ → List ℕ
branches_staying out hub nodes branches = filter (λ b. not (out b && is_branch_of hub (form_at b nodes))) branches

-- a form with the branches that stay
abbrev pub form_staying : (ℕ → Bool) → ℕ → List Entry → Form → Form
form_staying out hub nodes (Hub content is_named branches) = Hub content is_named (branches_staying out hub nodes branches)
form_staying out hub nodes other = other

-- the same, where there is a node
abbrev pub some_staying : (ℕ → Bool) → ℕ → List Entry → Option Form → Option Form
some_staying out hub nodes None = None
some_staying out hub nodes (Some form) = Some (form_staying out hub nodes form)

-- the form of a node once some nodes are gone and others, on the way, wait for the hub that they left
abbrev pub form_then : List ℕ → List ℕ → ℕ → List Entry → Option Form
form_then way gone n nodes = none_if (is_in n gone) (some_staying (λ b. is_in b way || is_in b gone) n nodes (form_at n nodes))

-- the world without these nodes
abbrev pub without_all : List ℕ → World → World
without_all gone w = record w { nodes = filter (λ (e : Entry). not (is_in e.number gone)) w.nodes }

-- a hub goes with all below it, unless it is kept
abbrev pub unless_kept : Bool → (ℕ → List ℕ) → ℕ → List ℕ
unless_kept true falls hub = []
unless_kept false falls hub = falls hub

-- a hub goes where neither its name nor a branch is left, and the guard doesn't keep it in what is left
abbrev pub hub_falling : Guard → World → (ℕ → List ℕ) → List ℕ → ℕ → Option Form → List ℕ
hub_falling guard w falls gone hub (Some (Hub content false [])) = unless_kept (is_guarded guard hub (without_all gone w)) falls hub
hub_falling guard w falls gone hub other = []

-- what goes between the parts of a node and the node itself: the hub of which it was the last branch
abbrev pub reference_falling : Guard → World → (List ℕ → List ℕ → ℕ → List ℕ) → List ℕ → List ℕ → ℕ → Form → List ℕ
reference_falling guard w falls way gone n (Branch hub) = hub_falling guard w (falls (n ∷ way) gone) gone hub (form_then (n ∷ way) gone hub w.nodes)
reference_falling guard w falls way gone n other = []

-- what goes with these nodes, one after another
abbrev pub each_falling : (List ℕ → ℕ → List ℕ) → List ℕ → List ℕ → List ℕ
each_falling falls gone [] = []
each_falling falls gone (n ∷ ns) = let first = falls gone n in first ++ each_falling falls (gone ++ first) ns

-- what goes with a node of this form; nothing where it isn't there any more
abbrev pub form_falling : Guard → World → (List ℕ → List ℕ → ℕ → List ℕ) → List ℕ → List ℕ → ℕ → Option Form → List ℕ
form_falling guard w falls way gone n None = []
form_falling guard w falls way gone n (Some form) = let below = each_falling (falls way) gone (parts_of form) in below ++ (reference_falling guard w falls way (gone ++ below) n form ++ n ∷ [])

-- the nodes that go with a node, in order: its parts, the hub of which it was the last branch, the node;
-- the number bounds the depth, the lists are the branches on the way and the nodes that are gone before
unfoldable pub falling : Guard → World → ℕ → List ℕ → List ℕ → ℕ → List ℕ
falling guard w zero way gone n = []
falling guard w (suc k) way gone n = form_falling guard w (falling guard w k) way gone n (none_if (is_in n gone) (form_at n w.nodes))

-- a hub without a name, all of whose branches are among these nodes
pub record HubFalls (hub : ℕ) (ns : List ℕ) (nodes : List Entry) : Type 0 where
  pub content : Content
  pub branches : List ℕ
  pub form : form_at hub nodes ≡ Some (Hub content false branches)
  pub left : branches_staying (λ b. is_in b ns) hub nodes branches ≡ []

-- why a node goes with node n, where these go: it is of the tree of n, or of the tree of such a hub
pub data Reason (k : ℕ) (nodes : List Entry) (ns : List ℕ) (n m : ℕ) : Type 0 where
  OfTree : is_in m (tree_numbers k nodes n) ≡ true → Reason k nodes ns n m
  OfHub : (hub : ℕ) → HubFalls hub ns nodes → is_in hub ns ≡ true → is_in m (tree_numbers k nodes hub) ≡ true → Reason k nodes ns n m

-- whether this is a hub without a name
abbrev pub is_unnamed_hub : Option Form → Bool
is_unnamed_hub (Some (Hub content false branches)) = true
is_unnamed_hub other = false

-- no number stands in both
abbrev pub AreDisjoint : List ℕ → List ℕ → Type 0
AreDisjoint xs ys = (m : ℕ) → is_in m xs ≡ true → is_in m ys ≡ false

-- the trees of a node and of the hubs without a name have each node once, and none in common; such a hub lists each of its branches
pub record StandApart (n : ℕ) (nodes : List Entry) : Type 0 where
  pub tree : (k : ℕ) → AreApart (tree_numbers k nodes n)
  pub hubs : (k hub : ℕ) → is_unnamed_hub (form_at hub nodes) ≡ true → AreApart (tree_numbers k nodes hub)
  pub elsewhere : (j k hub : ℕ) → is_unnamed_hub (form_at hub nodes) ≡ true → AreDisjoint (tree_numbers j nodes hub) (tree_numbers k nodes n)
  pub others : (j k hub other : ℕ) → is_unnamed_hub (form_at hub nodes) ≡ true → is_unnamed_hub (form_at other nodes) ≡ true → (hub == other) ≡ false → AreDisjoint (tree_numbers j nodes hub) (tree_numbers k nodes other)
  pub listed : (b hub : ℕ) (content : Content) (branches : List ℕ) → form_at b nodes ≡ Some (Branch hub) → form_at hub nodes ≡ Some (Hub content false branches) → is_in b branches ≡ true
