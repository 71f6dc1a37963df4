-- Scripts, and the log of a script.
use Rattle.std.specs.Prelude.{ℕ, zero, suc, ◌+◌, List, [], ◌∷◌, ◌++◌, Option, None, Some, Bool, true, false, ◌==◌, length, drop, map, filter}
use Rattle.kj_base.specs.Commands.{Command, Action}
use Rattle.kj_base.specs.declared.endings.Ending.TheVariants.{Input}
use Rattle.kj_model.specs.World.{World, State, Setting, Spot, Row, Asked, Ended, new_state}
use Rattle.kj_base.specs.Record.{Item, Run, Free}
use Rattle.kj_base.specs.declared.numbers.Limits.{Limits}
use Rattle.kj_base.specs.declared.limits.TheConstants.{SLOTS, NAMES}
use Rattle.kj_model.specs.Apply.{Refused, apply}
use Rattle.kj_model.specs.Calls.{Turned, Fired, Idle, Waited, NotThere, turn, wait, take_ask, take_ended, take_abandoned, close}

-- a line of a script
pub data Line : Type 0 where
  Do : (command : Command) → Line
  Turn : Line
  RunTurns : (turns : ℕ) → Line
  Wait : (name turns : ℕ) → Line

-- a line with its number in the text
pub record Numbered : Type 0 where
  pub number : ℕ
  pub line : Line

-- a body of a step
pub record Body : Type 0 where
  pub step : ℕ
  pub action : Action

-- a script as it was read
pub record Script : Type 0 where
  pub limits : Option Limits
  pub bodies : List Body
  pub lines : List Numbered

-- a line of the log
pub data LogLine : Type 0 where
  Told : (item : Item) → LogLine
  RefusedAt : (line : ℕ) → (refused : Refused) → LogLine
  WasIdle : LogLine
  WaitEnd : (name : ℕ) → (waited : Waited) → LogLine
  AskTaken : (asked : Asked) → LogLine
  EndedTaken : (ended : Ended) → LogLine
  GoneTaken : (cell : ℕ) → LogLine

-- the limits of a script, or the usual ones
abbrev pub limits_or : Option Limits → Limits
limits_or None = record { slots = SLOTS; names = NAMES }
limits_or (Some limits) = limits

-- the bodies of a step, in order
abbrev pub bodies_of : ℕ → List Body → List Action
bodies_of step bodies = map (λ (b : Body). b.action) (filter (λ (b : Body). b.step == step) bodies)

-- how often a step ran
abbrev pub runs_of : ℕ → List Item → ℕ
runs_of step [] = 0
runs_of step (Run n other input action ∷ items) = one_more (other == step) (runs_of step items)
  where
    one_more : Bool → ℕ → ℕ
    one_more true n = n + 1
    one_more false n = n
runs_of step (Free n ∷ items) = runs_of step items

-- the action of a step without a body
abbrev pub passing : Action
passing = record { commands = []; ending = Input }

-- the k-th of these, or the last one, or the one before
abbrev pub at_or_last : Action → List Action → ℕ → Action
at_or_last before [] k = before
at_or_last before (a ∷ more) zero = a
at_or_last before (a ∷ more) (suc k) = at_or_last a more k

-- the k-th run of a step takes its k-th body, and later runs the last
abbrev pub scripted : List Body → List Item → ℕ → Option Action
scripted bodies past step = Some (at_or_last passing (bodies_of step bodies) (runs_of step past))

-- how many steps ran
abbrev pub count_runs : List Item → ℕ
count_runs [] = 0
count_runs (Run n step input action ∷ items) = suc (count_runs items)
count_runs (Free n ∷ items) = count_runs items

-- the action at this place
abbrev pub nth : List Action → ℕ → Option Action
nth [] k = None
nth (a ∷ more) zero = Some a
nth (a ∷ more) (suc k) = nth more k

-- a list of answers in order; the first that is missing means no memory
abbrev pub listed : List Action → List Item → ℕ → Option Action
listed actions past step = nth actions (count_runs past)

-- a state with the log so far
pub record Logged : Type 0 where
  pub state : State
  pub log : List LogLine

-- the items that came after this state, in the log
abbrev pub told_since : State → State → List LogLine
told_since old new = map Told (drop (length old.past) new.past)

-- the log after a call: what was told in it, and then these lines
abbrev pub logged : Logged → State → List LogLine → Logged
logged l new more = record { state = new; log = l.log ++ told_since l.state new ++ more }

-- one more line
abbrev pub with_line : LogLine → Logged → Logged
with_line line l = record { state = l.state; log = l.log ++ line ∷ [] }

-- the same log with another world
abbrev pub with_world : World → Logged → Logged
with_world w l = record { state = record { world = w; past = l.state.past }; log = l.log }

-- one more line, where something was taken
abbrev pub took : {A : Type 0} → (A → LogLine) → World × Option A → Logged → Logged
took line r l = took_line line r.1 (with_world r.0 l)
  where
    took_line : {A : Type 0} → (A → LogLine) → Option A → Logged → Logged
    took_line line None l = l
    took_line line (Some a) l = with_line (line a) l

-- so many asks are taken
abbrev pub asks_taken : ℕ → Logged → Logged
asks_taken zero l = l
asks_taken (suc n) l = asks_taken n (took AskTaken (take_ask l.state.world) l)

-- so many ended requests are taken
abbrev pub ends_taken : ℕ → Logged → Logged
ends_taken zero l = l
ends_taken (suc n) l = ends_taken n (took EndedTaken (take_ended l.state.world) l)

-- so many abandoned cells are taken
abbrev pub gone_taken : ℕ → Logged → Logged
gone_taken zero l = l
gone_taken (suc n) l = gone_taken n (took GoneTaken (take_abandoned l.state.world) l)

-- all asks
abbrev pub each_ask : Logged → Logged
each_ask l = asks_taken (length l.state.world.asks) l

-- all ended requests
abbrev pub each_end : Logged → Logged
each_end l = ends_taken (length l.state.world.ended) l

-- all abandoned cells
abbrev pub each_gone : Logged → Logged
each_gone l = gone_taken (length l.state.world.abandoned) l

-- all asks are taken, then all ended requests, then all abandoned cells
abbrev pub all_taken : Logged → Logged
all_taken l = each_gone (each_end (each_ask l))

-- the line of a refusal
abbrev pub refused_line : ℕ → Option Refused → List LogLine
refused_line line None = []
refused_line line (Some refused) = RefusedAt line refused ∷ []

-- the log after a command
abbrev pub applied_line : ℕ → State × Option Refused → Logged → Logged
applied_line line r l = all_taken (logged l r.0 (refused_line line r.1))

-- a turn that was idle takes nothing more
abbrev pub turned_line : List LogLine → State → Turned → Logged → Logged
turned_line idle s Idle l = logged l s idle
turned_line idle s other l = all_taken (logged l s [])

-- a stopped loop makes no further turn
abbrev pub run_rest : (Logged → Logged) → Turned → Logged → Logged
run_rest rest Fired l = rest l
run_rest rest other l = l

-- at most so many turns, until one fires nothing
abbrev pub run_lines : Setting → ℕ → Logged → Logged
run_lines setting zero l = l
run_lines setting (suc n) l = let r = turn setting l.state in run_rest (run_lines setting n) r.1 (turned_line [] r.0 r.1 l)

-- the line of a wait, or of its refusal
abbrev pub wait_line : ℕ → ℕ → Waited → LogLine
wait_line line name (NotThere refused) = RefusedAt line refused
wait_line line name waited = WaitEnd name waited

-- the log after a wait
abbrev pub waited_line : ℕ → ℕ → State × Waited → Logged → Logged
waited_line line name r l = all_taken (logged l r.0 (wait_line line name r.1 ∷ []))

-- the log after one line of a script
abbrev pub log_line : Setting → ℕ → Line → Logged → Logged
log_line setting number (Do command) l = applied_line number (apply setting false command l.state) l
log_line setting number Turn l = let r = turn setting l.state in turned_line (WasIdle ∷ []) r.0 r.1 l
log_line setting number (RunTurns turns) l = run_lines setting turns l
log_line setting number (Wait name turns) l = waited_line number name (wait setting name turns l.state) l

-- the log after these lines
abbrev pub log_lines : Setting → List Numbered → Logged → Logged
log_lines setting [] l = l
log_lines setting (x ∷ xs) l = log_lines setting xs (log_line setting x.number x.line l)

-- the loop is closed after the last line
abbrev pub log_closed : Logged → List LogLine
log_closed l = (logged l (close l.state) []).log

-- a store that fits so, and steps that have these bodies
abbrev pub setting_of : (ℕ → List Spot → List Row → Bool) → List Body → Setting
setting_of fits bodies = record { fits = fits; answer = scripted bodies }

-- a new loop
abbrev pub new_log : Limits → Logged
new_log limits = record { state = new_state limits; log = [] }

-- the log of a script, over a store that fits so
abbrev pub log_of : (ℕ → List Spot → List Row → Bool) → Script → List LogLine
log_of fits script = log_closed (log_lines (setting_of fits script.bodies) script.lines (new_log (limits_or script.limits)))
