-- Who listens, from what one owner tells.
use Rattle.std.proofs.Common.{◌≡◌, ℕ, zero, suc, Option, None, Some, IsSome, Bool, true, false, refl, sym, ap, ◌∙◌}
use Rattle.kj_base.specs.declared.nodes.Link.{Link}
use Rattle.kj_model.specs.Nodes.{Form, Entry, form_at, has_event}
use Rattle.kj_model.specs.World.{World}
use Rattle.kj_model.specs.Listening.{listener_over, listener_if}
use Rattle.promise_nodes.specs.Shown.{SeesOwner}
use Rattle.promise_nodes.specs.Kept.{IsLive, IsEvent}

owner_has : (w : World) (link : Link) (e : Entry) (b : Bool) → SeesOwner w.nodes (Some link) (Some e) → ((form : Form) → form_at link.number.0 w.nodes ≡ Some form → b ≡ has_event form) → has_event e.form ≡ b
owner_has w link e b s h = sym (h e.form (ap (λ (n : ℕ). form_at n w.nodes) s.0 ∙ s.1))

if_true : (b : Bool) (above : ℕ → Option ℕ) (n : ℕ) → b ≡ true → listener_if b above n ≡ Some n
if_true true above n h = refl
if_true false above n h = cc

if_false : (b : Bool) (above : ℕ → Option ℕ) (n : ℕ) → b ≡ false → listener_if b above n ≡ above n
if_false true above n h = cc
if_false false above n h = refl

-- an owner with an event listens
pub owner_listens : (w : World) (n : ℕ) (link : Link) (o : Option Entry) → SeesOwner w.nodes (Some link) o → ((form : Form) → form_at link.number.0 w.nodes ≡ Some form → true ≡ has_event form) → (above : ℕ → Option ℕ) → listener_over above w.awaited n o ≡ Some link.number.0
owner_listens w n link None s h above = absurd s
owner_listens w n link (Some e) s h above = if_true (has_event e.form) above e.number (owner_has w link e true s h) ∙ ap (λ (m : ℕ). Some m) (sym s.0)

-- else it depends on who listens to the owner
pub owner_passes : (w : World) (n : ℕ) (link : Link) (o : Option Entry) → SeesOwner w.nodes (Some link) o → ((form : Form) → form_at link.number.0 w.nodes ≡ Some form → false ≡ has_event form) → (above : ℕ → Option ℕ) → listener_over above w.awaited n o ≡ above link.number.0
owner_passes w n link None s h above = absurd s
owner_passes w n link (Some e) s h above = if_false (has_event e.form) above e.number (owner_has w link e false s h) ∙ ap above (sym s.0)

some_is : (o : Option Form) (form : Form) → o ≡ Some form → IsSome o
some_is o form h = rw h refl

event_of : (w : World) (n : ℕ) → IsLive w n → IsEvent w n
event_of w zero h = tt
event_of w (suc n) h = h

-- an owner lives
pub owner_lives : (w : World) (link : Link) (o : Option Entry) → SeesOwner w.nodes (Some link) o → IsLive w link.number.0
owner_lives w link None s = absurd s
owner_lives w link (Some e) s = some_is (form_at link.number.0 w.nodes) e.form (ap (λ (n : ℕ). form_at n w.nodes) s.0 ∙ s.1)

-- so it can be armed
pub owner_event : (w : World) (link : Link) (o : Option Entry) → SeesOwner w.nodes (Some link) o → IsEvent w link.number.0
owner_event w link o s = event_of w link.number.0 (owner_lives w link o s)
