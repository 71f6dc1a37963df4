-- An event that is taken, fires, and ends.
use Rattle.std.proofs.Common.{◌≡◌, ◌<◌, ◌∙◌, arith, sym, ap, refl, ℕ, zero, suc, [], Option, None, Some, Bool, true, false}
use Rattle.std.specs.Prelude.{is_some}
use Rattle.std.proofs.lemmas.Bool.{false≢true}
use Rattle.kj_base.specs.Queue.{head_of}
use Rattle.kj_model.specs.Nodes.{Form, form_at}
use Rattle.kj_model.specs.World.{State, Setting}
use Rattle.kj_model.specs.Changes.{silent}
use Rattle.kj_model.specs.Fire.{fire_form}
use Rattle.kj_model.specs.Calls.{Idle, Stopped, turn, turn_at, turn_unless, rewound_world}
use Rattle.kj_ownership.specs.Standing.{IsRecorded}
use Rattle.kj_ownership.specs.Requests.{NamesNoRequest}
use Rattle.kj_ownership.proofs.Changed.{live_event}
use Rattle.kj_ownership.proofs.Taking.{ends_event, takes_event}
use Rattle.kj_ownership.proofs.Requests.{no_request}
use Rattle.promise_firing.specs.Events.{event_ended, event_taken}
use Rattle.promise_turns.specs.Events.{FromTaken, fired}
use Rattle.promise_turns.specs.Turns.{MayTurn, turned_at}

no_form : (o : Option Form) → (is_some o ≡ true → ⊥) → o ≡ None
no_form None h = refl
no_form (Some form) h = absurd (h refl)

-- no node has the number 0
zero_is_none : (s : State) → IsRecorded s → form_at 0 s.world.nodes ≡ None
zero_is_none s recorded = no_form (form_at 0 s.world.nodes) (λ live. false≢true (live_event (record { world = record s.world { awaited = None }; past = s.past }) 0 recorded live))

-- a stopped loop does nothing
pub stopped_is : (setting : Setting) (s : State) → s.world.stopped ≡ true → turn setting s ≡ (s, Stopped)
stopped_is setting s stopped = ap (λ (b : Bool). turn_unless b setting s) stopped

turns_by : (o : Option ℕ) (setting : Setting) (s : State) → s.world.stopped ≡ false → head_of s.world.queue ≡ o → turn setting s ≡ turn_at setting o (silent rewound_world s)
turns_by o setting s runs head = ap (λ (b : Bool). turn_unless b setting s) runs ∙ ap (λ (x : Option ℕ). turn_at setting x (silent rewound_world s)) head

-- without an event the queue is rewound
pub idle_is : (setting : Setting) (s : State) → s.world.stopped ≡ false → head_of s.world.queue ≡ None → turn setting s ≡ (silent rewound_world s, Idle)
idle_is setting s runs head = turns_by None setting s runs head

-- the first event is taken, fires and ends
pub taken_is : (n : ℕ) (setting : Setting) (s : State) → MayTurn setting s → NamesNoRequest s.world → s.world.stopped ≡ false → head_of s.world.queue ≡ Some n → FromTaken n setting (silent (event_taken (Some n)) s) × (turned_at n setting (silent (event_taken (Some n)) s) ≡ turn setting s)
taken_is n setting s may none runs head = (
  (may.0, λ positive. takes_event n s may.1 runs head positive, zero_is_none s may.1.owned.recorded, no_request s n may.1 runs none),
  sym (turns_by (Some n) setting s runs head),
)

by_number : (n : ℕ) (setting : Setting) (s : State) → FromTaken n setting s → s.world.left_over ≡ [] → (fired n setting s).world.stopped ≡ false → (fired n setting s).world.left_over ≡ []
by_number zero setting s from none runs = ap (λ (o : Option Form). (fire_form setting 0 o s).world.left_over) from.2 ∙ none
by_number (suc n) setting s from none runs = (ends_event setting (suc n) s from.0 (from.1 (above_zero n)) none).left_over runs
  where
    above_zero : (n : ℕ) → 0 < suc n
    above_zero n = omega arith

-- where the loop runs on behind the event, nothing is left over
pub none_left : (n : ℕ) (setting : Setting) (s : State) → FromTaken n setting s → s.world.left_over ≡ [] → (event_ended (fired n setting s).world).stopped ≡ false → (event_ended (fired n setting s).world).left_over ≡ []
none_left n setting s from none runs = by_number n setting s from none runs
