-- The worked steps fit.
use Rattle.std.proofs.Common.{◌≡◌, refl, ℕ, Bool, true, false, not, ◌&&◌, ◌||◌, arith}
use Rattle.std.specs.Prelude.{nat_eq}
use Rattle.kj_model.specs.Free.{free_to}
use Rattle.kj_model.specs.Value.{value_to}
use Rattle.kj_takings.specs.Calls.{StepsFit, none_loose, loose_after}
use Rattle.kj_takings.specs.Worked.{passing_setting, worked_start, worked_steps}

pub worked_fit : StepsFit passing_setting none_loose worked_steps worked_start worked_start
unfolding free_to value_to
worked_fit = (
  refl,
  refl,
  record { fair = (refl, tt); spared = refl; left = omega arith; right = omega arith },
  (
    refl,
    refl,
    record { fair = tt; spared = refl; left = omega arith; right = omega arith },
    (
      refl,
      refl,
      record { fair = tt; spared = refl; left = omega arith; right = omega arith },
      (
        refl,
        (
          refl,
          refl,
          record { fair = (refl, tt); spared = refl; left = omega arith; right = omega arith },
          (
            refl,
            refl,
            record { fair = (refl, tt); spared = refl; left = omega arith; right = omega arith },
            (
              refl,
              refl,
              record { fair = tt; spared = refl; left = omega arith; right = omega arith },
              (
                refl,
                (
                  record { left = refl; right = refl },
                  (
                    refl,
                    refl,
                    record { fair = (refl, tt); spared = refl; left = omega arith; right = omega arith },
                    (
                      refl,
                      tt,
                      record { fair = tt; spared = refl; left = omega arith; right = omega arith },
                      tt,
                    ),
                  ),
                ),
              ),
            ),
          ),
        ),
      ),
    ),
  ),
)

-- after them no name is loose

once : (b : Bool) → not b && (b || (b || false)) ≡ false
once true = refl
once false = refl

pub none_after : (n : ℕ) → loose_after passing_setting none_loose worked_steps worked_start worked_start n ≡ false
unfolding free_to value_to
none_after n = once (nat_eq n 100)
