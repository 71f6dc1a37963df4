-- What a contract sees of an `EventLinks`.
use Rattle.std.specs.Prelude.{ℕ, ◌≡◌, ◌+◌, ◌<◌, List, [], true, false, length}
use Rattle.std.specs.List.{AllByRecursion}
use Rattle.kj_base.specs.Queue.{Events, IsQueue}
use Rattle.linked_lists.specs.Lists.{members, is_in, is_within, place_of}
use Rattle.event_links.specs.declared.EventLinks.TheInside.{Inside}

-- the events, and the size that was given
pub record Sized : Type 0 where
  pub events : Events
  pub size : ℕ

-- the events in the list of the head, which is the number behind all events
abbrev pub armed_of : Inside → List ℕ
armed_of q = members q.lists q.size

-- the events in order; each point is the place of an event, or the end where it is the head
abbrev pub events_of : Inside → Events
events_of q = record { list = armed_of q; depth = place_of q.depth (armed_of q); breadth = place_of q.breadth (armed_of q) }

-- what is seen
abbrev pub view_of : Inside → Sized
view_of q = record { events = events_of q; size = q.size }

-- the points are in order, each at an event of the queue or at the head, and every other event stands alone
pub record IsKept (q : Inside) : Type 0 where
  pub queue : IsQueue (events_of q)
  pub size : length q.lists ≡ q.size + 1
  pub below : AllByRecursion (λ e. e < q.size) (armed_of q)
  pub depth : is_within q.lists q.size q.depth ≡ true
  pub breadth : is_within q.lists q.size q.breadth ≡ true
  pub idle : (event : ℕ) → event < q.size → is_in event (armed_of q) ≡ false → members q.lists event ≡ []
