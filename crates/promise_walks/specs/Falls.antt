-- The walk that asks which nodes would go, against the definitions.
use Rattle.std.specs.Prelude.{◌≡◌, ℕ, zero, suc, List, [], ◌∷◌, ◌++◌, Option, None, Some, Bool, true, false, ◌||◌, ◌≤◌, find, length, reverse}
use Rattle.std.specs.List.{AllByRecursion}
use Rattle.kj_base.specs.Places.{Row}
use Rattle.kj_model.specs.Nodes.{Form, Entry, form_at, is_in}
use Rattle.kj_model.specs.World.{World}
use Rattle.kj_base.specs.Queue.{first_of}
use Rattle.kj_model.specs.Fire.{branches_of}
use Rattle.kj_model.specs.Free.{Holding}
use Rattle.kj_model.specs.Trees.{none_if}
use Rattle.kj_model.specs.Falling.{falling, each_falling, branches_staying}
use Rattle.promise_nodes.specs.declared.nodes.Mark.{Mark}
use Rattle.promise_nodes.specs.declared.nodes.Mark.TheVariants.{Unmarked, Left, Gone}
use Rattle.promise_nodes.specs.Kept.{IsLive, is_live, Same, SameRows}
use Rattle.promise_walks.specs.declared.freeing.Frame.{Frame}
use Rattle.promise_walks.specs.Shapes.{numbers_of, hub_of, SeesShape}
use Rattle.promise_walks.specs.declared.shape.Shape.{Shape}

-- ---- the marks

-- the mark of a node that is on the way, or gone
abbrev pub mark_by : Bool → Bool → Mark
mark_by left true = Gone
mark_by true false = Left
mark_by false false = Unmarked

-- the marks of the branches on the way and of the nodes that are gone
abbrev pub AreMarks : (ℕ → Mark) → List ℕ → List ℕ → Type 0
AreMarks marks way gone = (n : ℕ) → marks n ≡ mark_by (is_in n way) (is_in n gone)

-- whether a node is on the way or gone
abbrev pub is_off : List ℕ → List ℕ → ℕ → Bool
is_off way gone b = is_in b way || is_in b gone

-- whether no branch stays
abbrev pub is_nothing : List ℕ → Bool
is_nothing [] = true
is_nothing (n ∷ ns) = false

-- whether none of these branches stays with the hub
abbrev pub are_off : List ℕ → List ℕ → ℕ → List Entry → List ℕ → Bool
are_off way gone hub nodes branches = is_nothing (branches_staying (is_off way gone) hub nodes branches)

-- so many branches at most are still to be looked at, from this one on; of those before none stays
pub record AreSeen (out : ℕ → Bool) (hub : ℕ) (nodes : List Entry) (at : Option ℕ) (most : ℕ) : Type 0 where
  pub front : List ℕ
  pub back : List ℕ
  pub branches : branches_of (form_at hub nodes) ≡ front ++ back
  pub first : at ≡ first_of back
  pub stay : branches_staying out hub nodes (branches_of (form_at hub nodes)) ≡ branches_staying out hub nodes back
  pub few : length back ≤ most

-- ---- the stack

-- the hub of a branch, where this is one
abbrev pub hub_found : Option Form → Option ℕ
hub_found None = None
hub_found (Some form) = hub_of form

-- the way with a node, if it has a hub
abbrev pub way_by : Option ℕ → ℕ → List ℕ → List ℕ
way_by None n way = way
way_by (Some hub) n way = n ∷ way

-- a branch is on the way while its hub goes
abbrev pub way_with : Option Form → ℕ → List ℕ → List ℕ
way_with o n way = way_by (hub_found o) n way

-- the branches among these nodes, the last first, before those that were on the way
abbrev pub way_of : World → List ℕ → List Frame → List ℕ
way_of w way [] = way
way_of w way (f ∷ fs) = way_of w (way_with (form_at f.node.number.0 w.nodes) f.node.number.0 way) fs

-- what is gone after the parts of a node that are left, and the node; no tree below it is deeper than k
abbrev pub rest_gone : World → ℕ → List ℕ → Frame → List ℕ → List ℕ
rest_gone w k way f gone = (gone ++ each_falling (falling (Holding []) w k way) gone (numbers_of f.parts)) ++ f.node.number.0 ∷ []

-- what is gone after all nodes on the stack, the last first
abbrev pub all_gone : World → ℕ → List ℕ → List Frame → List ℕ → List ℕ
all_gone w k way [] gone = gone
all_gone w zero way (f ∷ fs) gone = gone
all_gone w (suc k) way (f ∷ fs) gone = rest_gone w k (way_with (form_at f.node.number.0 w.nodes) f.node.number.0 way) f (all_gone w k (way_with (form_at f.node.number.0 w.nodes) f.node.number.0 way) fs gone)

-- each node on the stack lives
abbrev pub AreThere : World → List Frame → Type 0
AreThere w fs = AllByRecursion (λ (f : Frame). IsLive w f.node.number.0) fs

-- with what is left on the stack these nodes are gone at the end
pub record Leads (w : World) (k : ℕ) (marks : ℕ → Mark) (fs : List Frame) (end : List ℕ) : Type 0 where
  pub gone : List ℕ
  pub marks_are : AreMarks marks (way_of w [] fs) gone
  pub there : AreThere w fs
  pub ends : all_gone w k [] fs gone ≡ end

-- these members are still to come, at most so many, the next one that lives first; what goes with the newer ones is gone
pub record HaveFallen (w : World) (d : ℕ) (marks : ℕ → Mark) (members : List ℕ) (at : Option ℕ) (most : ℕ) : Type 0 where
  pub newer : List ℕ
  pub rest : List ℕ
  pub gone : List ℕ
  pub members_are : reverse members ≡ newer ++ rest
  pub first : at ≡ find (is_live w) rest
  pub marks_are : AreMarks marks [] gone
  pub ends : gone ++ each_falling (falling (Holding []) w d []) gone rest ≡ each_falling (falling (Holding []) w d []) [] (reverse members)
  pub few : length rest ≤ most

-- a node is entered: what is left to do for it is what goes with its tree
pub record IsEntered (w : World) (marks : ℕ → Mark) (way gone : List ℕ) (n : ℕ) (f : Frame) : Type 0 where
  pub node_is : f.node.number.0 ≡ n
  pub marks_are : AreMarks marks (way_with (form_at n w.nodes) n way) gone
  pub falls : (k : ℕ) → gone ++ falling (Holding []) w (suc k) way gone n ≡ rest_gone w k (way_with (form_at n w.nodes) n way) f gone

-- a shape is seen just where the node is live and not gone
abbrev pub SeesLeft : Option Shape → Bool → Option Form → Type 0
SeesLeft None is_gone o = none_if is_gone o ≡ None
SeesLeft (Some shape) is_gone o = (is_gone ≡ false) × SeesShape (Some shape) o

-- ---- what stays

-- what is known of nodes beside the worlds that they stand for
pub record Known : Type 0 where
  pub taken : ℕ → Bool
  pub listed : ℕ → Bool
  pub plain : ℕ → Bool
  pub room : List Row → Bool
  pub next : ℕ
  pub slots : ℕ

-- the same from its parts
abbrev pub known : (ℕ → Bool) → (ℕ → Bool) → (ℕ → Bool) → (List Row → Bool) → ℕ → ℕ → Known
known taken listed plain room next slots = record { taken = taken; listed = listed; plain = plain; room = room; next = next; slots = slots }

-- all of it stays
pub record Stays (old new : Known) : Type 0 where
  pub taken : Same old.taken new.taken
  pub listed : Same old.listed new.listed
  pub plain : Same old.plain new.plain
  pub room : SameRows old.room new.room
  pub next : new.next ≡ old.next
  pub slots : new.slots ≡ old.slots
