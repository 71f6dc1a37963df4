-- Counts of faults that never fall, and answers that come only where one rose.
use Rattle.std.specs.Prelude.{ℕ, ◌≤◌, Result, OnErr}
pub use Rattle.kj_base.specs.Counts.{Rose}

-- the count never falls, and an error comes only where it rose
pub record HasCause {T E : Type 0} (before now : ℕ) (result : Result T E) : Type 0 where
  pub later : before ≤ now
  pub failed : OnErr result (Rose before now)
