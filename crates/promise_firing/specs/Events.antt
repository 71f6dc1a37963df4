-- The queue's part of a turn.
use Rattle.std.specs.Prelude.{ℕ, Option, None, Some}
use Rattle.kj_model.specs.World.{World}
use Rattle.kj_model.specs.Calls.{rewound_world}
use Rattle.kj_ownership.specs.Firing.{event_taken as node_taken}
pub use Rattle.kj_ownership.specs.Firing.{event_ended}

-- the first event leaves the queue and fires, or there was none
abbrev pub event_taken : Option ℕ → World → World
event_taken None w = rewound_world w
event_taken (Some n) w = node_taken n w
