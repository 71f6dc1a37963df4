-- Whole readings and writings.
use Rattle.std.specs.Prelude.{◌≡◌, ℕ, ◌+◌, ◌<◌, ◌≤◌, List, length, take, drop, Option, Result, IfOk}
use Rattle.std.specs.Io.KnownBytes.{Consumes, Appends, IsAtEnd}
use Rattle.kj_io.specs.Causes.{Rose}
use Rattle.kj_io.specs.declared.source.Read.{Read}
use Rattle.kj_io.specs.declared.source.Read.TheVariants.{Whole, TooLong, Failed, NoMemory}

-- some octets of a piece that isn't empty are taken
abbrev pub WritesSome : {E : Type 0} → Result ℕ E → List ℕ → Type 0
WritesSome r piece = IfOk r (λ n. 0 < length piece → 0 < n)

-- a front of the octets was taken
pub record WroteFront (old new : Option (List ℕ)) (octets : List ℕ) : Type 0 where
  pub count : ℕ
  pub within : count ≤ length octets
  pub front : Appends old new (take count octets)

-- each answer of a reading to the end, with its cause
abbrev pub ReadsWhole : ℕ → Option (List ℕ) → Option (List ℕ) → ℕ → ℕ → Read → Type 0
ReadsWhole limit old new before now (Whole octets) =
    Consumes old new octets × IsAtEnd new × (length octets ≤ limit) × (before ≤ now)
ReadsWhole limit old new before now TooLong =
    (octets : List ℕ) × Consumes old new octets × (length octets ≡ limit + 1) × (before ≤ now)
ReadsWhole limit old new before now Failed = Rose before now
ReadsWhole limit old new before now NoMemory = before ≤ now

-- octets given at a place of octets in memory
abbrev pub GivesAt : List ℕ → ℕ → ℕ → ℕ → List ℕ → Type 0
GivesAt octets at new n buf =
    (take n buf ≡ take n (drop at octets)) × (new ≡ at + n) × (new ≤ length octets)
