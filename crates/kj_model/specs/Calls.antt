-- The calls of a loop, and a list of calls.
use Rattle.std.specs.Prelude.{ℕ, zero, suc, List, [], ◌∷◌, Option, None, Some, Bool, true, false, not, ◌==◌, length, drop, reverse, filter}
use Rattle.kj_base.specs.declared.outcomes.Outcome.{Outcome}
use Rattle.kj_base.specs.Commands.{Command}
use Rattle.kj_base.specs.Queue.{head_of, taken, rewound}
use Rattle.kj_model.specs.Nodes.{Form, Hub, Entry}
use Rattle.kj_model.specs.World.{World, State, Setting, Named, Held, Promise, CellOf, AskCell, HubOf, Group, Canceler, RequestOf, Awaited, Asked, Ended, held_at}
use Rattle.kj_model.specs.Changes.{silent, with_queue, named, unnamed, frees_in}
use Rattle.kj_model.specs.Listening.{listened}
use Rattle.kj_model.specs.Free.{Holding, Every, free, each_freed, reference_gone}
use Rattle.kj_model.specs.Effects.{hub_unnamed, disarmed_node}
use Rattle.kj_model.specs.Apply.{Refused, Unknown, WrongKind, apply}
use Rattle.kj_model.specs.Uses.{is_name}
use Rattle.kj_model.specs.Value.{value, freed}
use Rattle.kj_model.specs.Fire.{fire}

-- what a turn answers
pub data Turned : Type 0 where
  Fired : Turned
  Idle : Turned
  NoMemory : Turned
  Stopped : Turned

-- the first insertion point of the queue is 0
abbrev pub rewound_world : World → World
rewound_world w = with_queue (rewound w.queue) w

-- without the first event of the queue
abbrev pub taken_world : World → World
taken_world w = with_queue (taken w.queue) w

-- whether a step of this turn found no memory
abbrev pub turned_by : Bool → Turned
turned_by true = NoMemory
turned_by false = Fired

-- a turn in which an event fired
abbrev pub after_turn : State → State × Turned
after_turn s = (s, turned_by s.world.stopped)

-- no event, or this one fires
abbrev pub turn_at : Setting → Option ℕ → State → State × Turned
turn_at setting None s = (s, Idle)
turn_at setting (Some n) s = after_turn (silent rewound_world (fire setting n (silent taken_world s)))

-- a stopped loop makes no turn
abbrev pub turn_unless : Bool → Setting → State → State × Turned
turn_unless true setting s = (s, Stopped)
turn_unless false setting s = turn_at setting (head_of s.world.queue) (silent rewound_world s)

-- rewind, take, fire, rewind
abbrev pub turn : Setting → State → State × Turned
turn setting s = turn_unless s.world.stopped setting s

-- the turns that follow one that fired
abbrev pub more_turns : (State → State × Turned) → Turned → State → State × Turned
more_turns rest Fired s = rest s
more_turns rest other s = (s, other)

-- so many turns, or until one fires nothing
abbrev pub run : Setting → ℕ → State → State × Turned
run setting zero s = (s, Fired)
run setting (suc n) s = let r = turn setting s in more_turns (run setting n) r.1 r.0

-- what a wait answers
pub data Waited : Type 0 where
  Done : (outcome : Outcome) → Waited
  WaitIdle : Waited
  Turns : Waited
  NotThere : (refused : Refused) → Waited
  WaitNoMemory : Waited
  WaitStopped : Waited

-- the awaited tree is now this one, or none
abbrev pub with_awaited : Option Awaited → World → World
with_awaited a w = record w { awaited = a }

-- the promise is taken out of the map, and the wait listens
abbrev pub held_awaited : ℕ → ℕ → World → World
held_awaited name root w = listened root (with_awaited (Some (record { name = name; root = root })) (unnamed name w))

-- the tree is left over, before a Task that is
abbrev pub lost_in : Option Awaited → World → World
lost_in None w = w
lost_in (Some a) w = record w { awaited = None; left_over = a.root ∷ w.left_over }

-- no memory: nobody listens, and the promise has no name
abbrev pub lost : World → World
lost w = let v = disarmed_node 0 w in lost_in v.awaited v

-- the awaited tree is freed, and none is awaited: the wait's event goes with it
abbrev pub awaited_freed : Option Awaited → State → State
awaited_freed None s = s
awaited_freed (Some a) s = silent (λ w. disarmed_node 0 (with_awaited None w)) (freed a.root s)

-- the awaited tree was evaluated: it is freed
abbrev pub wait_valued : Option Outcome → State → State × Waited
wait_valued None s = (silent lost s, WaitNoMemory)
wait_valued (Some o) s = (awaited_freed s.world.awaited s, Done o)

-- the awaited tree is evaluated
abbrev pub wait_value_at : Setting → Option Awaited → State → State × Waited
wait_value_at setting None s = (s, WaitIdle)
wait_value_at setting (Some a) s = let r = value setting a.root s in wait_valued r.1 r.0

-- event 0 has fired
abbrev pub wait_done : Setting → State → State × Waited
wait_done setting s = wait_value_at setting s.world.awaited s

-- the promise is freed where its name was taken, else it has it again
abbrev pub name_back : Bool → Awaited → State → State
name_back true a s = silent (with_awaited None) (freed a.root s)
name_back false a s = silent (λ w. named a.name (Promise a.root) (with_awaited None w)) s

-- nothing is awaited any more
abbrev pub let_go_of : Option Awaited → State → State
let_go_of None s = s
let_go_of (Some a) s = name_back (is_name a.name s.world.names) a s

-- nobody listens, and the promise has its name again, or is freed where a step took that name
abbrev pub let_go : State → State
let_go s = let t = silent (disarmed_node 0) s in let_go_of t.world.awaited t

-- after a turn: event 0 fired in it, or another one, or a step found no memory
abbrev pub wait_turned : Setting → (State → State × Waited) → Bool → Turned → State → State × Waited
wait_turned setting rest true Fired s = wait_done setting s
wait_turned setting rest false Fired s = rest s
wait_turned setting rest is_zero other s = (silent lost s, WaitNoMemory)

-- a turn; then all is done where event 0 fired in it
abbrev pub wait_turn : Setting → (State → State × Waited) → Option ℕ → State → State × Waited
wait_turn setting rest None s = (let_go s, WaitIdle)
wait_turn setting rest (Some e) s = let r = turn setting s in wait_turned setting rest (e == 0) r.1 r.0

-- at most so many turns more
abbrev pub wait_more : Setting → ℕ → State → State × Waited
wait_more setting zero s = (let_go s, Turns)
wait_more setting (suc n) s = wait_turn setting (wait_more setting n) (head_of s.world.queue) s

-- an awaited name must be there, and be a promise
abbrev pub wait_held : Setting → ℕ → ℕ → Option Held → State → State × Waited
wait_held setting name n None s = (s, NotThere (Unknown name))
wait_held setting name n (Some (Promise root)) s = wait_more setting n (silent (held_awaited name root) s)
wait_held setting name n (Some other) s = (s, NotThere (WrongKind name))

-- a stopped loop doesn't wait
abbrev pub wait_unless : Bool → Setting → ℕ → ℕ → State → State × Waited
wait_unless true setting name n s = (s, WaitStopped)
wait_unless false setting name n s = wait_held setting name n (held_at name s.world.names) s

-- turns until the promise is ready, at most n; its tree is then evaluated and freed
abbrev pub wait : Setting → ℕ → ℕ → State → State × Waited
wait setting name n s = wait_unless s.world.stopped setting name n s

-- the oldest ask that wasn't taken; its cell may then get a reply
abbrev pub ask_taken_in : ℕ → Option Held → World → World
ask_taken_in name (Some (AskCell cell is_taken)) w = named name (AskCell cell true) w
ask_taken_in name other w = w

-- the cell of an ask may get a reply now
abbrev pub ask_taken : Asked → World → World
ask_taken a w = ask_taken_in a.cell (held_at a.cell w.names) w

-- the first of these asks
abbrev pub take_ask_of : List Asked → World → World × Option Asked
take_ask_of [] w = (w, None)
take_ask_of (a ∷ more) w = (ask_taken a (record w { asks = more }), Some a)

-- the oldest ask
abbrev pub take_ask : World → World × Option Asked
take_ask w = take_ask_of w.asks w

-- the oldest ended request that wasn't taken; its name is free then
abbrev pub take_ended_of : List Ended → World → World × Option Ended
take_ended_of [] w = (w, None)
take_ended_of (e ∷ more) w = (unnamed e.request (record w { ended = more }), Some e)

-- the oldest ended request
abbrev pub take_ended : World → World × Option Ended
take_ended w = take_ended_of w.ended w

-- the oldest abandoned cell that wasn't taken; its name is free then, and an ask of it that is still listed goes
abbrev pub take_abandoned_of : List ℕ → World → World × Option ℕ
take_abandoned_of [] w = (w, None)
take_abandoned_of (cell ∷ more) w = (unnamed cell (record w { abandoned = more; asks = filter (λ (a : Asked). not (a.cell == cell)) w.asks }), Some cell)

-- the oldest abandoned cell
abbrev pub take_abandoned : World → World × Option ℕ
take_abandoned w = take_abandoned_of w.abandoned w

-- what a name holds goes at the closing; a hub's name is only its reference, and a canceler's frees nothing
abbrev pub closed_held : Held → State → State
closed_held (Promise root) s = free (Holding []) root s
closed_held (CellOf cell) s = s
closed_held (AskCell cell is_taken) s = s
closed_held (HubOf hub) s = reference_gone (Holding []) (free (Holding [])) hub (silent (hub_unnamed hub) s)
closed_held (Group error tasks empty) s = each_freed (free (Holding [])) (reverse tasks) s
closed_held (Canceler wraps) s = s
closed_held (RequestOf None) s = s
closed_held (RequestOf (Some node)) s = free (Holding []) node s

-- these names one after another
abbrev pub each_closed : List Named → State → State
each_closed [] s = s
each_closed (x ∷ xs) s = each_closed xs (closed_held x.held (silent (unnamed x.name) s))

-- the hubs that live, by rising number
abbrev pub hubs_of : List Entry → List ℕ
hubs_of [] = []
hubs_of (e ∷ es) = hub_of e.form e.number (hubs_of es)
  where
    hub_of : Form → ℕ → List ℕ → List ℕ
    hub_of (Hub content is_named branches) n rest = n ∷ rest
    hub_of other n rest = rest

-- each hub still live, its tree first; no other hub is freed by this
abbrev pub hubs_closed : State → State
hubs_closed s = each_freed (free Every) (hubs_of s.world.nodes) s

-- the loop's own set, newest first
abbrev pub detached_closed : State → State
detached_closed s = each_freed (free (Holding [])) (reverse s.world.detached) s

-- each name by rising number
abbrev pub names_closed : State → State
names_closed s = each_closed s.world.names s

-- the trees that are left over, in order
abbrev pub left_over_closed : State → State
left_over_closed s = each_freed (free (Holding [])) s.world.left_over s

-- frees all: what is left over, what each name holds by rising name, detached tasks newest first, then hubs
abbrev pub close : State → State
close s = hubs_closed (detached_closed (names_closed (left_over_closed s)))

-- the calls of a loop
pub data Call : Type 0 where
  CallApply : (command : Command) → Call
  CallTurn : Call
  CallRun : (turns : ℕ) → Call
  CallWait : (name turns : ℕ) → Call
  CallTakeAsk : Call
  CallTakeEnded : Call
  CallTakeAbandoned : Call
  CallClose : Call

-- their replies
pub data Reply : Type 0 where
  Applied : (refused : Option Refused) → Reply
  TurnedBy : (turned : Turned) → Reply
  WaitedBy : (waited : Waited) → Reply
  TookAsk : (asked : Option Asked) → Reply
  TookEnded : (ended : Option Ended) → Reply
  TookAbandoned : (cell : Option ℕ) → Reply
  Closed : (freed : List ℕ) → Reply

-- the reply of a call, from its answer
abbrev pub answer_as {ℓ} : {A : Type ℓ} → (A → Reply) → State × A → State × Reply
answer_as reply r = (r.0, reply r.1)

-- the reply of a taking call, from its answer
abbrev pub take_as : {A : Type 0} → (A → Reply) → State → World × A → State × Reply
take_as reply s r = (record { world = r.0; past = s.past }, reply r.1)

-- the reply of the closing: the numbers freed since this state
abbrev pub closed_from : State → State → State × Reply
closed_from old new = (new, Closed (frees_in (drop (length old.past) new.past)))

-- one call: the state after it, and its reply
abbrev pub call : Setting → Call → State → State × Reply
call setting (CallApply command) s = answer_as Applied (apply setting false command s)
call setting CallTurn s = answer_as TurnedBy (turn setting s)
call setting (CallRun turns) s = answer_as TurnedBy (run setting turns s)
call setting (CallWait name turns) s = answer_as WaitedBy (wait setting name turns s)
call setting CallTakeAsk s = take_as TookAsk s (take_ask s.world)
call setting CallTakeEnded s = take_as TookEnded s (take_ended s.world)
call setting CallTakeAbandoned s = take_as TookAbandoned s (take_abandoned s.world)
call setting CallClose s = closed_from s (close s)

-- a list of calls: the state after them, and their replies
abbrev pub calls : Setting → List Call → State → State × List Reply
calls setting [] s = (s, [])
calls setting (c ∷ cs) s = let r = call setting c s in let rest = calls setting cs r.0 in (rest.0, r.1 ∷ rest.1)
