-- A body of a known length (RFC 9112, section 6.2).
use Rattle.std.specs.Prelude.{◌≡◌, ℕ, ◌<◌, ◌≤◌, List, ◌++◌, length, take}
use Rattle.http_frames.specs.declared.Phase.{Phase}
use Rattle.http_frames.specs.declared.Phase.TheVariants as phases
use Rattle.http_frames.specs.declared.Frame.{Frame}
use Rattle.http_frames.specs.declared.Frame.TheVariants.{More, Whole, Bad}

-- the octets so far, and how many the body has
pub record Filled : Type 0 where
  pub body : List ℕ
  pub size : ℕ
  pub phase : Phase

-- the decoder was fed these octets, in whatever pieces
abbrev pub IsFilledWith : Filled → List ℕ → Type 0
IsFilledWith f bytes = f.body ≡ bytes

-- what the answer to a piece says, after these octets
abbrev pub Fills : List ℕ → List ℕ → Filled → Frame → Type 0
Fills bytes piece f (Whole n) = (f.phase ≡ phases.Done) × (n ≤ length piece) × (f.body ≡ bytes ++ take n piece) × (length f.body ≡ f.size)
Fills bytes piece f More = (f.phase ≡ phases.Going) × IsFilledWith f (bytes ++ piece) × (length (bytes ++ piece) < f.size)
Fills bytes piece f Bad = ⊥
