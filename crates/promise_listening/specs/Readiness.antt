-- What one node tells of the readiness of a tree, and of who listens to it.
use Rattle.std.specs.Prelude.{◌≡◌, ℕ, List, Option, None, Some, Bool}
use Rattle.kj_model.specs.Nodes.{Form, Entry, owner_of}
use Rattle.kj_model.specs.World.{World}
use Rattle.kj_model.specs.Listening.{ready_found, ready_tree, last_form, listener_over}
use Rattle.promise_nodes.specs.Kept.{IsLive, IsEvent}
use Rattle.promise_nodes.specs.Shown.{link_number}
use Rattle.promise_listening.specs.declared.ready.Known.{Known}
use Rattle.promise_listening.specs.declared.ready.Known.TheVariants.{Now, Below}
use Rattle.promise_listening.specs.declared.above.Above.{Above}
use Rattle.promise_listening.specs.declared.above.Above.TheVariants.{Found, Higher}

-- whether a node is ready, whatever the trees below it are, or the tree on which that depends
abbrev pub IsReadiness : Known → List Entry → Option Form → Type 0
IsReadiness (Now b) nodes o = (below : ℕ → Bool) → ready_found below nodes o ≡ b
IsReadiness (Below tree) nodes o = (below : ℕ → Bool) → ready_found below nodes o ≡ below tree.number.0

-- the same of a tree that may be gone
abbrev pub IsTreeReadiness : Known → Option ℕ → Type 0
IsTreeReadiness (Now b) o = (below : ℕ → Bool) → ready_tree below o ≡ b
IsTreeReadiness (Below tree) o = (below : ℕ → Bool) → ready_tree below o ≡ below tree.number.0

-- the same of whether the leaf below a node is Last
abbrev pub IsLastness : Known → Option Form → Type 0
IsLastness (Now b) o = (below : ℕ → Bool) → last_form below o ≡ b
IsLastness (Below tree) o = (below : ℕ → Bool) → last_form below o ≡ below tree.number.0

-- who listens to a node, whatever stands above its owner, or the owner on which that depends
abbrev pub IsAbove : Above → World → ℕ → Type 0
IsAbove (Found by) w n = (above : ℕ → Option ℕ) → listener_over above w.awaited n (owner_of n w.nodes) ≡ link_number by
IsAbove (Higher owner) w n = (above : ℕ → Option ℕ) → listener_over above w.awaited n (owner_of n w.nodes) ≡ above owner.number.0

-- a listener is the wait or a live node
abbrev pub IsListener : World → Option ℕ → Type 0
IsListener w None = Unit {0}
IsListener w (Some n) = IsEvent w n

-- who was found is a listener, or else a live owner
abbrev pub IsFoundListener : Above → World → Type 0
IsFoundListener (Found by) w = IsListener w (link_number by)
IsFoundListener (Higher owner) w = IsLive w owner.number.0
