-- Cancelers without Wraps.
use Rattle.std.proofs.Common.{◌≡◌, ℕ, List, [], ◌∷◌, refl, ap, reverse}
use Rattle.std.specs.Prelude.{◌&&◌}
use Rattle.kj_base.specs.Commands.{Cancel}
use Rattle.kj_model.specs.Nodes.{form_at, is_in}
use Rattle.kj_model.specs.World.{World, held_at}
use Rattle.kj_model.specs.Effects.{each_cancelled, wraps_of}
use Rattle.kj_model.specs.Apply.{is_unsettled_wrap}
use Rattle.kj_model.specs.Uses.{use_as, IsCanceler}
use Rattle.promise_apply.specs.Applying.{IsIdle}

-- a canceler has nothing that ends
pub cancel_idle : (Old : World → Type 0) (canceler : ℕ) → ((w : World) → Old w → wraps_of (held_at canceler w.names) ≡ []) → IsIdle Old (Cancel canceler) (use_as IsCanceler canceler ∷ [])
cancel_idle Old canceler none = record {
  uses_are = refl;
  rows_are = λ w. refl;
  changes = λ guard s old. ap (λ (wraps : List ℕ). each_cancelled guard (reverse wraps) s) (none s.world old);
  anywhere = refl;
  spares = λ n w old. ap (λ (wraps : List ℕ). is_in n wraps && is_unsettled_wrap (form_at n w.nodes)) (none w old);
}
