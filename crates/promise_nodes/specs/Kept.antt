-- What the calls of a keeper of nodes change and keep.
use Rattle.std.specs.Prelude.{◌≡◌, ◌≢◌, ℕ, ◌<◌, List, [], ◌∷◌, Option, None, Some, Bool, true, false, IsSome, is_some, find, reverse, ◌==◌, map, zero, suc, nat_lt, ◌-◌, if◌then◌else◌}
use Rattle.std.specs.List.{AllByRecursion}
use Rattle.kj_base.specs.declared.nodes.Form.{Form as FormCase}
use Rattle.kj_base.specs.declared.nodes.Form.TheVariants.{Branch as BranchCase}
use Rattle.kj_base.specs.Places.{Row, row}
use Rattle.kj_model.specs.World.{World, Awaited}
use Rattle.kj_model.specs.Nodes.{Form, Hub, Branch, Race, Join, Entry, form_at, owner_of, parts_of, parts_at, is_in, dropped, with_tree_renamed}
use Rattle.kj_model.specs.Fire.{branches_of}
use Rattle.kj_model.specs.Changes.{put}
use Rattle.promise_nodes.specs.Shown.{shown, link_number}
use Rattle.promise_nodes.specs.declared.nodes.NodeRow.{NodeRow}
use Rattle.promise_nodes.specs.declared.nodes.Mark.{Mark}
use Rattle.promise_nodes.specs.declared.nodes.Mark.TheVariants.{Unmarked}

-- all but names, what is left over, asks, and whether it is stopped is the same
abbrev pub SameNodes : World → World → Type 0
SameNodes w v = v ≡ record w { names = v.names; left_over = v.left_over; asks = v.asks; ended = v.ended; abandoned = v.abandoned; stopped = v.stopped }

-- all but the nodes, the queue, the loop's own set and the event that fires is the same
abbrev pub SameNames : World → World → Type 0
SameNames w v = v ≡ record w { queue = v.queue; nodes = v.nodes; detached = v.detached; firing = v.firing; next = v.next; spots = v.spots; next_key = v.next_key }

-- whether a node lives
abbrev pub IsLive : World → ℕ → Type 0
IsLive w n = IsSome (form_at n w.nodes)

-- whether a node lives
abbrev pub is_live : World → ℕ → Bool
is_live w n = is_some (form_at n w.nodes)

-- the newest live task of the loop's own set
abbrev pub newest_task : World → Option ℕ
newest_task w = find (is_live w) (reverse w.detached)

-- a node is no task of the loop's own set
abbrev pub without_detached : ℕ → World → World
without_detached n w = record w { detached = dropped n w.detached }

-- the wait, or a live node
abbrev pub IsEvent : World → ℕ → Type 0
IsEvent w zero = Unit {0}
IsEvent w (suc n) = IsLive w (suc n)

-- what holds of a node afterwards held of it before
abbrev pub OnlyFalls : (ℕ → Bool) → (ℕ → Bool) → Type 0
OnlyFalls old new = (n : ℕ) → new n ≡ true → old n ≡ true

-- what held of a node before holds of it afterwards
abbrev pub OnlyRises : (ℕ → Bool) → (ℕ → Bool) → Type 0
OnlyRises old new = (n : ℕ) → old n ≡ true → new n ≡ true

-- what holds of a node afterwards held of it before, but for these nodes
abbrev pub RisesIn : List ℕ → (ℕ → Bool) → (ℕ → Bool) → Type 0
RisesIn parts old new = (n : ℕ) → new n ≡ true → is_in n parts ≡ false → old n ≡ true

-- none of these nodes is taken
abbrev pub AreRoots : (ℕ → Bool) → List ℕ → Type 0
AreRoots taken parts = AllByRecursion (λ (n : ℕ). taken n ≡ false) parts

-- all of these numbers were given to nodes
abbrev pub AreBuilt : ℕ → List ℕ → Type 0
AreBuilt next parts = AllByRecursion (λ (n : ℕ). n < next) parts

-- each tree of a form is one that the node has now
abbrev pub AddsNone : World → ℕ → Form → Type 0
AddsNone w n form = (m : ℕ) → is_in m (parts_of form) ≡ true → is_in m (parts_at n w.nodes) ≡ true

-- node n has this form now; a hub keeps its branches
abbrev pub put_form : ℕ → FormCase → World → World
put_form n form w = put n (shown (branches_of (form_at n w.nodes)) form) w

-- the node before which a row goes
abbrev pub row_seen : NodeRow → Row
row_seen r = row (link_number r.before) r.count

-- rows of nodes
abbrev pub rows_seen : List NodeRow → List Row
rows_seen rows = map row_seen rows

-- the tree new takes the place of old under its owner
abbrev pub tree_replaced : ℕ → ℕ → World → World
tree_replaced old new w = record w { nodes = with_tree_renamed old new w.nodes }

-- a Branch
abbrev pub IsBranch : Option FormCase → Type 0
IsBranch (Some (BranchCase hub)) = Unit {0}
IsBranch other = ⊥

-- neither a hub nor a branch
abbrev pub IsPlain : Option Form → Type 0
IsPlain (Some (Hub content is_named branches)) = ⊥
IsPlain (Some (Branch hub)) = ⊥
IsPlain other = Unit {0}

-- a form that is neither a hub nor a branch
abbrev pub ShowsPlain : Option FormCase → Type 0
ShowsPlain None = ⊥
ShowsPlain (Some form) = IsPlain (Some (shown [] form))

-- the root that is awaited
abbrev pub awaited_root : Option Awaited → Option ℕ
awaited_root None = None
awaited_root (Some a) = Some a.root

-- none, or one of these
abbrev pub IsPart : Option ℕ → List ℕ → Type 0
IsPart None parts = Unit {0}
IsPart (Some n) parts = is_in n parts ≡ true

-- neither name nor branch is left
abbrev pub is_unreferenced : Option Form → Bool
is_unreferenced (Some (Hub content false [])) = true
is_unreferenced other = false

-- whether it is a hub
abbrev pub is_hub : Form → Bool
is_hub (Hub content is_named branches) = true
is_hub other = false

-- the hub of a branch
abbrev pub hub_of : Form → Option ℕ
hub_of (Branch hub) = Some hub
hub_of other = None

-- a hub stays a hub, a branch stays the hub's, and nothing else becomes one of them
abbrev pub KeepsKind : FormCase → Option Form → Type 0
KeepsKind form None = Unit {0}
KeepsKind form (Some old) = (is_hub (shown [] form) ≡ is_hub old) × (hub_of (shown [] form) ≡ hub_of old)

-- a node owns this one as its tree, and not as a Side
abbrev pub OwnsTree : ℕ → Form → Type 0
OwnsTree n (Race left right winner) = is_in n (left ∷ right ∷ []) ≡ false
OwnsTree n (Join fast sides) = is_in n sides ≡ false
OwnsTree n other = Unit {0}

-- no node owns new, and the owner of old owns it in the place of a tree
pub record IsReplaceable (w : World) (old new : ℕ) : Type 0 where
  pub apart : old ≢ new
  pub placed : (e : Entry) → owner_of old w.nodes ≡ Some e → OwnsTree old e.form

-- what is left of the rows when the first node of the first was built
abbrev pub rows_left : ℕ → ℕ → List Row → List Row
rows_left n count more = if nat_lt 1 count then row (Some n) (count - 1) ∷ more else more

-- the node before which a row goes was built
abbrev pub IsBeforeBuilt : ℕ → Row → Type 0
IsBeforeBuilt next r = IsNumberBuilt next r.before
  where
    IsNumberBuilt : ℕ → Option ℕ → Type 0
    IsNumberBuilt next None = Unit {0}
    IsNumberBuilt next (Some n) = n < next

-- each row goes anew or before a node that was built
abbrev pub AreRowsBuilt : ℕ → List Row → Type 0
AreRowsBuilt next rows = AllByRecursion (IsBeforeBuilt next) rows

-- this holds of the same nodes as before
abbrev pub Same : (ℕ → Bool) → (ℕ → Bool) → Type 0
Same old new = (n : ℕ) → new n ≡ old n

-- there is room for the same rows as before
abbrev pub SameRows : (List Row → Bool) → (List Row → Bool) → Type 0
SameRows old new = (rows : List Row) → new rows ≡ old rows

-- no node has a mark
abbrev pub AreUnmarked : (ℕ → Mark) → Type 0
AreUnmarked marks = (n : ℕ) → marks n ≡ Unmarked

-- the marks with this one at a node
abbrev pub marked : ℕ → Mark → (ℕ → Mark) → ℕ → Mark
marked n mark marks m = if m == n then mark else marks m

-- a node has this mark now, and the others have what they had
abbrev pub IsMarked : ℕ → Mark → (ℕ → Mark) → (ℕ → Mark) → Type 0
IsMarked n mark old new = (m : ℕ) → new m ≡ marked n mark old m
