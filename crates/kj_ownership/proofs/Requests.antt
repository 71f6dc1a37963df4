-- A Request stands under its name.
use Rattle.std.proofs.Common.{◌≡◌, refl, ℕ, false, Option, None, Some}
use Rattle.kj_model.specs.Nodes.{Form, Request, form_at}
use Rattle.kj_model.specs.World.{State, RequestOf, held_at}
use Rattle.kj_model.specs.Changes.{silent}
use Rattle.kj_model.specs.Fire.{with_firing}
use Rattle.kj_ownership.specs.Kept.{Rests}
use Rattle.kj_ownership.specs.Requests.{is_request, NamesNoRequest, FiresNoRequest}
use Rattle.kj_ownership.proofs.RequestFires.{request_at}
use Rattle.kj_ownership.proofs.Turns.{firing_standing, fires_shaped}

-- nothing is left over in a loop that runs
pub request_named : (s : State) (n name : ℕ) (tree : Option ℕ) → Rests s → s.world.stopped ≡ false → form_at n s.world.nodes ≡ Some (Request name tree) → held_at name s.world.names ≡ Some (RequestOf (Some n))
request_named s n name tree r runs at = request_at n name tree (silent (with_firing (Some n)) s) (firing_standing (Some n) s r.owned) (fires_shaped n s.world (r.left_over runs) r.shaped) refl at

not_request : (o : Option Form) → ((name : ℕ) (tree : Option ℕ) → o ≡ Some (Request name tree) → ⊥) → is_request o ≡ false
not_request None h = refl
not_request (Some (Request name tree)) h = absurd (h name tree refl)
not_request (Some _) h = refl

pub no_request : (s : State) (n : ℕ) → Rests s → s.world.stopped ≡ false → NamesNoRequest s.world → is_request (form_at n s.world.nodes) ≡ false
no_request s n r runs none = not_request (form_at n s.world.nodes) (λ name tree at. none name (Some n) (request_named s n name tree r runs at))

pub fires_no_request : (s : State) → Rests s → s.world.stopped ≡ false → NamesNoRequest s.world → FiresNoRequest s.world
fires_no_request s r runs none = λ n head. no_request s n r runs none
