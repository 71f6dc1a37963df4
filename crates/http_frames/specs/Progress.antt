-- What a decoder of chunks stands for.
use Rattle.std.specs.Prelude.{◌≡◌, ℕ, ◌≤◌, List, [], ◌++◌, length, take}
use Rattle.http_heads.specs.declared.field.Field.{Field}
use Rattle.http_frames.specs.declared.Phase.{Phase}
use Rattle.http_frames.specs.declared.Phase.TheVariants as phases
use Rattle.http_frames.specs.declared.Frame.{Frame}
use Rattle.http_frames.specs.declared.Frame.TheVariants.{More, Whole, Bad}
use Rattle.http_frames.specs.declared.reader.Stage.{Stage}
use Rattle.http_frames.specs.Chunks.{Body, HasNoBody, NeverHasBody, Waits}
use Rattle.http_frames.specs.Reader.{IsReadAs}

-- the octets of the body so far, what is kept beside them, and the fields of the trailer once the body is whole
pub record Progress : Type 0 where
  pub body : List ℕ
  pub pending : List ℕ
  pub stage : Stage
  pub trailer : List Field
  pub phase : Phase

-- the decoder was fed these octets, in whatever pieces
abbrev pub IsFed : Progress → List ℕ → Type 0
IsFed p bytes = IsReadAs p.stage p.pending p.body bytes

-- what the answer to a piece says, after these octets
abbrev pub Answers : List ℕ → List ℕ → Progress → Frame → Type 0
Answers bytes piece p (Whole n) = (p.phase ≡ phases.Done) × (n ≤ length piece) × Body (bytes ++ take n piece) p.body p.trailer []
Answers bytes piece p More = (p.phase ≡ phases.Going) × IsFed p (bytes ++ piece) × HasNoBody (bytes ++ piece) × Waits (bytes ++ piece)
Answers bytes piece p Bad = (p.phase ≡ phases.Over) × NeverHasBody (bytes ++ piece)

-- what a decoder may be asked after an answer
abbrev pub phase_after : Frame → Phase
phase_after More = phases.Going
phase_after (Whole n) = phases.Done
phase_after Bad = phases.Over
