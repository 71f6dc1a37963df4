-- The spot of a node that was placed.
use Rattle.std.proofs.Common.{◌≡◌, ℕ, [], ◌∷◌, ◌++◌, Bool, true, false, Option, None, Some, refl}
use Rattle.std.specs.Prelude.{nat_lt}
use Rattle.kj_base.specs.Places.{Spot, spot_of, spot_if, spot_over, spot_placed}
use Rattle.kj_model.specs.World.{World}
use Rattle.kj_model.specs.Places.{placed, placed_over, placed_if}

if_spots : (b : Bool) (x : Spot) (w : World) → (placed_if b x w).spots ≡ w.spots ++ spot_if b w.next w.next_key x ∷ []
if_spots true x w = refl
if_spots false x w = refl

over_spots : (o : Option Spot) (w : World) → (placed_over o w).spots ≡ w.spots ++ spot_over w.next w.next_key o ∷ []
over_spots None w = refl
over_spots (Some x) w = if_spots (nat_lt 0 x.place) x w

pub placed_spots : (before : Option ℕ) (w : World) → (placed before w).spots ≡ w.spots ++ spot_placed w.next w.next_key before w.spots ∷ []
placed_spots None w = refl
placed_spots (Some n) w = over_spots (spot_of n w.spots) w
