-- What an event does, by the form of its node.
use Rattle.std.specs.Prelude.{◌≡◌, ◌<◌, ℕ, [], ◌∷◌, Option, None, Some, true, false}
use Rattle.kj_base.specs.declared.nodes.Link.{Link}
use Rattle.kj_base.specs.Queue.{DepthFirst}
use Rattle.kj_model.specs.Nodes.{Form, Tree, Waits, Chain, Side, Task, form_at, owner_of, parts_found}
use Rattle.kj_model.specs.World.{World, State, Setting}
use Rattle.kj_model.specs.Listening.{announced}
use Rattle.kj_model.specs.Fire.{branches_announced, fire_form, kept_from}
use Rattle.kj_ownership.specs.Firing.{IsFiring}
use Rattle.kj_ownership.specs.Fits.{Fits}
use Rattle.kj_ownership.specs.Requests.{is_request}
use Rattle.promise_turns.specs.declared.looks.Event.{Event}
use Rattle.promise_turns.specs.declared.looks.Event.TheVariants.{Takes, Keeps, Shares, Waits as SideWaits, Ends, Requests, Nothing}

-- a node that owns this tree evaluates it and keeps the outcome; then those are armed who listen to these
pub record KeepsTree (after : ℕ → World → World) (tree : ℕ) (o : Option Form) : Type 0 where
  pub owns : parts_found o ≡ tree ∷ []
  pub fires : (setting : Setting) (n : ℕ) (s : State) → fire_form setting n o s ≡ kept_from setting (after n) n (Tree tree) s

-- what the event of a node of this form does
abbrev pub IsEvent : Event → Option Form → Type 0
IsEvent (Takes link) o = o ≡ Some (Chain link.number.0)
IsEvent (Keeps tree) o = KeepsTree (announced DepthFirst) tree.number.0 o
IsEvent (Shares tree) o = KeepsTree branches_announced tree.number.0 o
IsEvent (SideWaits tree) o = o ≡ Some (Side (Waits tree.number.0))
IsEvent (Ends tree) o = o ≡ Some (Task (Some tree.number.0))
IsEvent Requests o = is_request o ≡ true
IsEvent Nothing o = (setting : Setting) (n : ℕ) (s : State) → fire_form setting n o s ≡ s

-- a node that is neither a hub nor a branch
abbrev pub IfPlain : Event → Type 0 → Type 0
IfPlain (Takes link) P = P
IfPlain (Ends tree) P = P
IfPlain other P = Unit {0}

-- the event of a node fires, over a store that takes no more nodes than it has slots, and it does this
abbrev pub From : Event → ℕ → Setting → State → Type 0
From event n setting s = Fits setting × IsFiring n s × IsEvent event (form_at n s.world.nodes)

-- the same of a Side that waits for this tree, whose owner has this number and this form
abbrev pub FromUnder : Link → ℕ → Form → ℕ → Setting → State → Type 0
FromUnder tree owner form n setting s = From (SideWaits tree) n setting s × (owner_of n s.world.nodes ≡ Some (record { number = owner; form = form }))

-- the event of a node fires that is no Request
abbrev pub FromNode : ℕ → Setting → State → Type 0
FromNode n setting s = Fits setting × IsFiring n s × (is_request (form_at n s.world.nodes) ≡ false)

-- an event was taken that is no Request's: a node's fires; no node has the number 0 of the wait
abbrev pub FromTaken : ℕ → Setting → State → Type 0
FromTaken n setting s = Fits setting × (0 < n → IsFiring n s) × (form_at 0 s.world.nodes ≡ None) × (is_request (form_at n s.world.nodes) ≡ false)

-- what the event of a node does
abbrev pub fired : ℕ → Setting → State → State
fired n setting s = fire_form setting n (form_at n s.world.nodes) s
