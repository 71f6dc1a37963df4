-- What each world of a loop keeps, node by node: no tree is read.
use Rattle.std.specs.Prelude.{◌≡◌, ℕ, ◌+◌, ◌≤◌, ◌<◌, List, [], ◌∷◌, Some, Bool, true, false, cond, ◌==◌, ◌&&◌, nat_lt, map, length, is_some}
use Rattle.kj_base.specs.Queue.{IsQueue}
use Rattle.kj_model.specs.Nodes.{Entry, Content, Hub, form_at, parts_at, is_in}
use Rattle.kj_model.specs.World.{World, State, Held, Spot}
use Rattle.kj_model.specs.Changes.{frees_in}
use Rattle.kj_model.specs.Falling.{is_branch_of}
use Rattle.kj_model.specs.Owned.{numbers, tree_roots, is_hub_name, IsInOrder}
use Rattle.kj_ownership.specs.Owners.{is_live, owns, is_hub_form}
use Rattle.kj_model.specs.Framed.{times, total, held_total, NamesApart}

-- 1 where it holds
abbrev pub one_if : Bool → ℕ
one_if b = cond b 1 0

-- how often live nodes own node n
abbrev pub owned_times : ℕ → List Entry → ℕ
owned_times n nodes = total (λ q. times n (parts_at q nodes)) (numbers nodes)

-- how often node n stands: under a name, awaited, left over, detached; as a hub; under a node
abbrev pub place_times : World → ℕ → ℕ
place_times w n = times n (tree_roots w) + (one_if (is_hub_form (form_at n w.nodes)) + owned_times n w.nodes)

-- from owner to owner, up to a node that nobody owns
abbrev pub Climbs : List Entry → ℕ → List ℕ → Type 0
Climbs nodes x [] = (q : ℕ) → owns q x nodes ≡ false
Climbs nodes x (y ∷ ys) = (owns y x nodes ≡ true) × Climbs nodes y ys

-- each live node stands in one place, or once among these; and from each a climb ends
pub record Placed (loose : List ℕ) (w : World) : Type 0 where
  pub once : (n : ℕ) → is_live n w.nodes ≡ true → times n loose + place_times w n ≡ 1
  pub climbs : (n : ℕ) → is_live n w.nodes ≡ true → (ys : List ℕ) × Climbs w.nodes n ys

-- a hub has its name once, where it is named, in the map or among the first of these, and each of its branches once, listed or among the second
pub record HubsCount (names_out branches_out : List ℕ) (w : World) : Type 0 where
  pub name : (h : ℕ) (content : Content) (is_named : Bool) (branches : List ℕ) → form_at h w.nodes ≡ Some (Hub content is_named branches) → held_total (λ (x : Held). one_if (is_hub_name h x)) w.names + times h names_out ≡ one_if is_named
  pub branches : (h : ℕ) (content : Content) (is_named : Bool) (branches : List ℕ) → form_at h w.nodes ≡ Some (Hub content is_named branches) → (b : ℕ) → (times b branches + cond (is_branch_of h (form_at b w.nodes)) (times b branches_out) 0) ≡ one_if (is_branch_of h (form_at b w.nodes))

-- no number from the next on stands in a place or is referred to
pub record Below (loose names_out : List ℕ) (w : World) : Type 0 where
  pub positive : 0 < w.next
  pub places : (n : ℕ) → w.next ≤ n → times n loose + (times n (tree_roots w) + owned_times n w.nodes) ≡ 0
  pub names : (n : ℕ) → w.next ≤ n → held_total (λ (x : Held). one_if (is_hub_name n x)) w.names + times n names_out ≡ 0
  pub branches : (n b : ℕ) → w.next ≤ n → is_branch_of n (form_at b w.nodes) ≡ false

-- each number below the next is live or was freed, once
abbrev pub IsRecorded : State → Type 0
IsRecorded s = (n : ℕ) → times n (numbers s.world.nodes) + times n (frees_in s.past) ≡ one_if (nat_lt 0 n && nat_lt n s.world.next)

-- an event that may stand in the queue: of a live node, or the wait's while a tree is awaited
abbrev pub is_event : World → ℕ → Bool
is_event w e = cond (e == 0) (is_some w.awaited) (is_live e w.nodes)

-- what a world keeps, while these roots stand nowhere, these hubs' names aren't in the map, and these branches aren't listed
pub record Standing (loose names_out branches_out : List ℕ) (s : State) : Type 0 where
  pub placed : Placed loose s.world
  pub names : NamesApart s.world.names
  pub hubs : HubsCount names_out branches_out s.world
  pub below : Below loose names_out s.world
  pub recorded : IsRecorded s
  pub in_order : IsInOrder s.past
  pub room : length s.world.nodes ≤ s.world.limits.slots
  pub queue : IsQueue s.world.queue
  pub queued : (e : ℕ) → is_in e s.world.queue.list ≡ true → is_event s.world e ≡ true
  pub spots : map (λ (x : Spot). x.number) s.world.spots ≡ numbers s.world.nodes

-- nothing is out
abbrev pub Owned : State → Type 0
Owned s = Standing [] [] [] s
