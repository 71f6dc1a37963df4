-- What a contract sees of an `EventList`.
use Rattle.std.specs.Prelude.{ℕ, ◌≤◌, ◌<◌, vec_capacity}
use Rattle.std.specs.List.{AllByRecursion}
use Rattle.kj_base.specs.Queue.{Events, IsQueue}
use Rattle.event_list.specs.declared.EventList.TheInside.{Inside}

-- the events, and the size that was given
pub record Sized : Type 0 where
  pub events : Events
  pub size : ℕ

-- the events in order, with both points
abbrev pub events_of : Inside → Events
events_of q = record { list = q.events.items; depth = q.depth; breadth = q.breadth }

-- what is seen
abbrev pub view_of : Inside → Sized
view_of q = record { events = events_of q; size = q.size }

-- the points are in order, the events are apart and below the size, and there is room for all of them
pub record IsKept (q : Inside) : Type 0 where
  pub queue : IsQueue (events_of q)
  pub below : AllByRecursion (λ e. e < q.size) q.events.items
  pub room : q.size ≤ vec_capacity q.events
