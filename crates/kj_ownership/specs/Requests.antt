-- Requests of other loops: a Request node stands under its name.
use Rattle.std.specs.Prelude.{◌≡◌, ℕ, Option, Some, Bool, true, false}
use Rattle.kj_base.specs.Queue.{head_of}
use Rattle.kj_model.specs.Nodes.{Form, Request, form_at}
use Rattle.kj_model.specs.World.{World, RequestOf, held_at}

-- the Request of another loop
abbrev pub is_request : Option Form → Bool
is_request (Some (Request name tree)) = true
is_request other = false

-- no name is a request's
abbrev pub NamesNoRequest : World → Type 0
NamesNoRequest w = (name : ℕ) (node : Option ℕ) → held_at name w.names ≡ Some (RequestOf node) → ⊥

-- the event that comes first is no Request's
abbrev pub FiresNoRequest : World → Type 0
FiresNoRequest w = (n : ℕ) → head_of w.queue ≡ Some n → is_request (form_at n w.nodes) ≡ false
