-- Turns, and runs of them.
use Rattle.std.proofs.Common.{zero, suc, ◌≡◌, ℕ, List, [], ◌∷◌, length, Bool, true, false, Option, None, Some, refl, sym, ap, ◌∙◌}
use Rattle.std.specs.Prelude.{nat_lt, if◌then◌else◌, remove}
use Rattle.std.proofs.lemmas.Bool.{false≢true}
use Rattle.kj_base.specs.Queue.{Events, IsQueue, head_of, taken, rewound, without_place}
use Rattle.kj_base.proofs.QueueLemmas.{taken_keeps, rewound_keeps}
use Rattle.kj_model.specs.Nodes.{Form, Tree, Kept, Chain, Eager, Wrap, Hub, Side, Task, Request, form_at, is_in}
use Rattle.kj_model.specs.World.{World, State, Setting}
use Rattle.kj_model.specs.Changes.{silent, with_queue}
use Rattle.kj_model.specs.Fire.{with_firing, fire_form, fire}
use Rattle.kj_model.specs.Calls.{Turned, Fired, Idle, NoMemory, Stopped, rewound_world, taken_world, turned_by, turn_at, turn_unless, turn, more_turns, run}
use Rattle.kj_ownership.specs.Standing.{Owned}
use Rattle.kj_ownership.specs.Shapes.{Shaped}
use Rattle.kj_ownership.specs.Fits.{Fits}
use Rattle.kj_ownership.specs.Kept.{Rests}
use Rattle.kj_model.proofs.Members.{in_right, in_none}
use Rattle.kj_ownership.proofs.Changed.{queue_standing}
use Rattle.kj_ownership.proofs.Applied.{commands_keep}
use Rattle.kj_ownership.proofs.Reached.{shaped_queue}
use Rattle.kj_ownership.proofs.Firing.{Fires, fires_went, went_none, eager_fires, wrap_fires, hub_fires}
use Rattle.kj_ownership.proofs.Sides.{side_fires}
use Rattle.kj_ownership.proofs.TaskFires.{task_fires}
use Rattle.kj_ownership.proofs.RequestFires.{request_fires}
use Rattle.kj_ownership.proofs.ChainFires.{chain_fires}

-- what a part of a call keeps of it
pub record Passes (s t : State) : Type 0 where
  pub rests : Rests t
  pub awaited : s.world.awaited ≡ None → t.world.awaited ≡ None

pub passes_both : (s t u : State) → Passes s t → Passes t u → Passes s u
passes_both s t u a b = record { rests = b.rests; awaited = λ e. b.awaited (a.awaited e) }

-- which event fires
pub firing_standing : (o : Option ℕ) (s : State) → Owned s → Owned (silent (with_firing o) s)
firing_standing o s st = record {
  placed = record { once = st.placed.once; climbs = st.placed.climbs };
  names = st.names;
  hubs = record { name = st.hubs.name; branches = st.hubs.branches };
  below = record { positive = st.below.positive; places = st.below.places; names = st.below.names; branches = st.below.branches };
  recorded = st.recorded;
  in_order = st.in_order;
  room = st.room;
  queue = st.queue;
  queued = st.queued;
  spots = st.spots;
}

pub fires_shaped : (n : ℕ) (w : World) → w.left_over ≡ [] → Shaped w → Shaped (with_firing (Some n) w)
fires_shaped n w left sh = record { winners = sh.winners; parts = sh.parts; names = sh.names; awaited = sh.awaited; detached = sh.detached; left_over = λ p f i. absurd (in_none p (sym (ap (is_in p) left) ∙ i)) }

pub calm_shaped : (w : World) → Shaped w → Shaped (with_firing None w)
calm_shaped w sh = record { winners = sh.winners; parts = sh.parts; names = sh.names; awaited = sh.awaited; detached = sh.detached; left_over = λ p f i. absurd (false≢true f) }

-- each form
pub form_fires : (setting : Setting) (o : Option Form) (n : ℕ) (s : State) → Fits setting → Owned s → Shaped s.world → s.world.firing ≡ Some n → form_at n s.world.nodes ≡ o → Fires s (fire_form setting n o s)
form_fires setting (Some (Chain link)) n s fits st sh firing at = chain_fires setting n link s (commands_keep setting fits) st sh firing at
form_fires setting (Some (Eager content)) n s fits st sh firing at = fires_went s _ (eager_fires setting n content s fits (commands_keep setting fits) st sh firing at)
form_fires setting (Some (Wrap c content)) n s fits st sh firing at = fires_went s _ (wrap_fires setting n c content s fits (commands_keep setting fits) st sh firing at)
form_fires setting (Some (Hub (Tree t) a bs)) n s fits st sh firing at = fires_went s _ (hub_fires setting n t a bs s (commands_keep setting fits) st sh firing at)
form_fires setting (Some (Hub (Kept o) a bs)) n s fits st sh firing at = fires_went s s (went_none s st sh)
form_fires setting (Some (Side stage)) n s fits st sh firing at = fires_went s _ (side_fires setting n stage s fits (commands_keep setting fits) st sh firing at)
form_fires setting (Some (Task (Some t))) n s fits st sh firing at = task_fires setting n t s (commands_keep setting fits) st sh firing at
form_fires setting (Some (Task None)) n s fits st sh firing at = fires_went s s (went_none s st sh)
form_fires setting (Some (Request name (Some t))) n s fits st sh firing at = fires_went s _ (request_fires setting n name t s (commands_keep setting fits) st sh firing at)
form_fires setting (Some (Request name None)) n s fits st sh firing at = fires_went s s (went_none s st sh)
form_fires setting None n s fits st sh firing at = fires_went s s (went_none s st sh)
form_fires setting (Some _) n s fits st sh firing at = fires_went s s (went_none s st sh)

pub fire_passes : (setting : Setting) (n : ℕ) (s : State) → Fits setting → Rests s → s.world.stopped ≡ false → Passes s (fire setting n s)
fire_passes setting n s fits r runs =
    let s1 = silent (with_firing (Some n)) s in
    let left = r.left_over runs in
    let f = form_fires setting (form_at n s.world.nodes) n s1 fits (firing_standing (Some n) s r.owned) (fires_shaped n s.world left r.shaped) refl refl in
    let t = fire_form setting n (form_at n s.world.nodes) s1 in
    record {
      rests = record { owned = firing_standing None t f.owned; shaped = calm_shaped t.world f.shaped; calm = refl; left_over = λ runs2. f.left_over left runs2 };
      awaited = f.awaited;
    }

-- the queue
queue_passes : (q : Events) (s : State) → IsQueue q → ((e : ℕ) → is_in e q.list ≡ true → is_in e s.world.queue.list ≡ true) → Rests s → Passes s (silent (with_queue q) s)
queue_passes q s k less r = record {
  rests = record { owned = queue_standing [] [] [] q s k (λ e i. r.owned.queued e (less e i)) r.owned; shaped = shaped_queue q s.world r.shaped; calm = r.calm; left_over = r.left_over };
  awaited = λ e. e;
}

pub rewound_passes : (s : State) → Rests s → Passes s (silent rewound_world s)
rewound_passes s r = queue_passes (rewound s.world.queue) s (rewound_keeps s.world.queue r.owned.queue) (λ e i. i) r

first_out : (e : ℕ) (xs : List ℕ) → is_in e (remove xs 0) ≡ true → is_in e xs ≡ true
first_out e [] i = i
first_out e (x ∷ xs) i = in_right e (x ∷ []) xs i

taken_in : (b : Bool) (e : ℕ) (q : Events) → is_in e (if b then without_place 0 q else q).list ≡ true → is_in e q.list ≡ true
taken_in true e q i = first_out e q.list i
taken_in false e q i = i

pub taken_passes : (s : State) → Rests s → Passes s (silent taken_world s)
taken_passes s r = queue_passes (taken s.world.queue) s (taken_keeps s.world.queue r.owned.queue) (λ e. taken_in (nat_lt 0 (length s.world.queue.list)) e s.world.queue) r

-- a turn
at_passes : (setting : Setting) (o : Option ℕ) (s : State) → Fits setting → Rests s → s.world.stopped ≡ false → Passes s (turn_at setting o s).0
at_passes setting None s fits r runs = record { rests = r; awaited = λ e. e }
at_passes setting (Some n) s fits r runs =
    let s1 = silent taken_world s in
    let a = taken_passes s r in
    let s2 = fire setting n s1 in
    let b = fire_passes setting n s1 fits a.rests runs in
    passes_both s s2 (silent rewound_world s2) (passes_both s s1 s2 a b) (rewound_passes s2 b.rests)

unless_passes : (setting : Setting) (b : Bool) (s : State) → Fits setting → Rests s → s.world.stopped ≡ b → Passes s (turn_unless b setting s).0
unless_passes setting true s fits r is = record { rests = r; awaited = λ e. e }
unless_passes setting false s fits r is =
    let s1 = silent rewound_world s in
    let a = rewound_passes s r in
    passes_both s s1 (turn_at setting (head_of s.world.queue) s1).0 a (at_passes setting (head_of s.world.queue) s1 fits a.rests is)

pub turn_passes : (setting : Setting) (s : State) → Fits setting → Rests s → Passes s (turn setting s).0
turn_passes setting s fits r = unless_passes setting s.world.stopped s fits r refl

more_passes : (setting : Setting) (t : Turned) (rest : State → State × Turned) (s : State) → ((u : State) → Rests u → Passes u (rest u).0) → Rests s → Passes s (more_turns rest t s).0
more_passes setting Fired rest s h r = h s r
more_passes setting Idle rest s h r = record { rests = r; awaited = λ e. e }
more_passes setting NoMemory rest s h r = record { rests = r; awaited = λ e. e }
more_passes setting Stopped rest s h r = record { rests = r; awaited = λ e. e }

pub run_passes : (setting : Setting) (n : ℕ) (s : State) → Fits setting → Rests s → Passes s (run setting n s).0
run_passes setting zero s fits r = record { rests = r; awaited = λ e. e }
run_passes setting (suc n) s fits r =
    let t = turn setting s in
    let a = turn_passes setting s fits r in
    passes_both s t.0 (more_turns (run setting n) t.1 t.0).0 a (more_passes setting t.1 (run setting n) t.0 (λ u h. run_passes setting n u fits h) a.rests)

-- what a turn answers
pub turn_answers : (setting : Setting) (s : State) (e : ℕ) → s.world.stopped ≡ false → head_of s.world.queue ≡ Some e → (turn setting s).1 ≡ turned_by (turn setting s).0.world.stopped
turn_answers setting s e runs head = by_stopped s.world.stopped runs
  where
    by_head : (o : Option ℕ) → o ≡ Some e → (turn_at setting o (silent rewound_world s)).1 ≡ turned_by (turn_at setting o (silent rewound_world s)).0.world.stopped
    by_head (Some n) h = refl
    by_head None h = absurd (no_number h)
      where
        no_number : ◌≡◌ {A = Option ℕ} None (Some e) → ⊥
        no_number h = cc

    by_stopped : (b : Bool) → b ≡ false → (turn_unless b setting s).1 ≡ turned_by (turn_unless b setting s).0.world.stopped
    by_stopped false h = by_head (head_of s.world.queue) head
    by_stopped true h = absurd (false≢true (sym h))
