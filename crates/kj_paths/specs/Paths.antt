-- The paths of arenas.
use Rattle.std.specs.Prelude.{◌≡◌, ℕ, ◌+◌, ◌≤◌, ◌<◌, List, Some, Bool, true, map, ◌==◌}
use Rattle.std.specs.List.{list_any}
use Rattle.kj_base.specs.Places.{Spot, spot_of}
use Rattle.kj_model.specs.World.{World}
use Rattle.kj_model.specs.Framed.{times}
use Rattle.kj_ownership.specs.Owners.{is_live, owns}

-- a live node that is one place before that one in its arena, and owns it
pub record NextBefore (n : ℕ) (x : Spot) (w : World) : Type 0 where
  pub number : ℕ
  pub spot : Spot
  pub placed : spot_of number w.spots ≡ Some spot
  pub key : spot.key ≡ x.key
  pub place : spot.place + 1 ≡ x.place
  pub owner : owns number n w.nodes ≡ true

-- each live node has its arena and one of its eight places, where no other is; and the live nodes
-- of one arena are one path: each but that of the least place is owned by the live node one place
-- before it
pub record Paths (w : World) : Type 0 where
  pub placed : (n : ℕ) → is_live n w.nodes ≡ true → (x : Spot) × (spot_of n w.spots ≡ Some x)
  pub live : (n : ℕ) (x : Spot) → spot_of n w.spots ≡ Some x → is_live n w.nodes ≡ true
  pub once : (n : ℕ) → times n (map (λ (x : Spot). x.number) w.spots) ≤ 1
  pub places : (n : ℕ) (x : Spot) → spot_of n w.spots ≡ Some x → x.place < 8
  pub keys : (n : ℕ) (x : Spot) → spot_of n w.spots ≡ Some x → x.key < w.next_key
  pub alone : (m n : ℕ) (x y : Spot) → spot_of m w.spots ≡ Some x → spot_of n w.spots ≡ Some y
      → x.key ≡ y.key → x.place ≡ y.place → m ≡ n
  pub paths : (m n : ℕ) (x y : Spot) → spot_of m w.spots ≡ Some x → spot_of n w.spots ≡ Some y
      → x.key ≡ y.key → x.place < y.place → NextBefore n y w

-- whether an arena is in use: its key is that of some spot
abbrev pub is_used : ℕ → List Spot → Bool
is_used key spots = list_any (λ (x : Spot). x.key == key) spots

-- a live node in the arena of this key
pub record LivesIn (key : ℕ) (w : World) : Type 0 where
  pub number : ℕ
  pub spot : Spot
  pub live : is_live number w.nodes ≡ true
  pub placed : spot_of number w.spots ≡ Some spot
  pub here : spot.key ≡ key
