-- Calls at two states that are alike.
use Rattle.std.specs.Prelude.{◌≡◌, ◌||◌, ◌&&◌, not, ℕ, zero, ◌+◌, List, [], ◌∷◌, Bool, true, false, Option, None, Some, length, drop, ◌==◌}
use Rattle.kj_base.specs.Commands.{Command, Reply}
use Rattle.kj_base.specs.Record.{Item}
use Rattle.kj_model.specs.Apply.{Refused, Full}
use Rattle.kj_model.specs.Calls.{Call, CallApply, CallTurn, CallRun, CallWait, CallTakeAsk, CallTakeEnded, CallTakeAbandoned, call, Reply as ReplyOf, Applied, TurnedBy, WaitedBy, TookAsk, TookEnded, TookAbandoned, Closed, Waited, Done, WaitIdle, Turns, NotThere, WaitNoMemory, WaitStopped}
use Rattle.kj_model.specs.World.{World, State, Setting, Ended, held_at}
use Rattle.kj_ownership.specs.Kept.{TakesSpent, is_open}
use Rattle.kj_takings.specs.Spared.{names_of, names_in, spares, spared_in, HasRoom}

-- a call that takes an ask, an ended request or an abandoned cell
abbrev pub is_taking : Call → Bool
is_taking CallTakeAsk = true
is_taking CallTakeEnded = true
is_taking CallTakeAbandoned = true
is_taking other = false

-- the items that were told since
abbrev pub told_since : State → State → List Item
told_since old new = drop (length old.past) new.past

-- how many names may come in a call beside those that its steps name: those of a command, one for each turn in which a
-- request may end, and that of an awaited promise
abbrev pub names_of_call : Call → ℕ
names_of_call (CallApply c) = names_of c
names_of_call CallTurn = 1
names_of_call (CallRun turns) = turns
names_of_call (CallWait name turns) = turns + 1
names_of_call other = zero

-- a reply goes to a firm name that holds the same in both worlds
abbrev pub RepliesFair : (ℕ → Bool) → Command → World → World → Type 0
RepliesFair loose (Reply cell outcome) w v = (loose cell ≡ false) × (held_at cell v.names ≡ held_at cell w.names)
RepliesFair loose other w v = Unit {0}

-- a command makes no loose name, and a reply finds the same
abbrev pub CallFair : (ℕ → Bool) → Call → World → World → Type 0
CallFair loose (CallApply c) w v = (spares loose c ≡ true) × RepliesFair loose c w v
CallFair loose other w v = Unit {0}

-- whether a command was refused, but not why
abbrev pub but_why : Option Refused → Option Refused
but_why None = None
but_why (Some refused) = Some Full

-- the same of a wait
abbrev pub wait_but_why : Waited → Waited
wait_but_why (Done o) = Done o
wait_but_why WaitIdle = WaitIdle
wait_but_why Turns = Turns
wait_but_why (NotThere refused) = NotThere Full
wait_but_why WaitNoMemory = WaitNoMemory
wait_but_why WaitStopped = WaitStopped

-- a reply, but for why a command or a wait was refused
abbrev pub reply_but_why : ReplyOf → ReplyOf
reply_but_why (Applied refused) = Applied (but_why refused)
reply_but_why (TurnedBy turned) = TurnedBy turned
reply_but_why (WaitedBy waited) = WaitedBy (wait_but_why waited)
reply_but_why (TookAsk asked) = TookAsk asked
reply_but_why (TookEnded ended) = TookEnded ended
reply_but_why (TookAbandoned cell) = TookAbandoned cell
reply_but_why (Closed freed) = Closed freed

-- one name more is loose
abbrev pub loosened : ℕ → (ℕ → Bool) → ℕ → Bool
loosened c loose n = (n == c) || loose n

-- the same where there is one
abbrev pub loosened_by : Option ℕ → (ℕ → Bool) → ℕ → Bool
loosened_by None loose = loose
loosened_by (Some c) loose = loosened c loose

-- one name less
abbrev pub firmed : ℕ → (ℕ → Bool) → ℕ → Bool
firmed c loose n = not (n == c) && loose n

-- no name is loose
abbrev pub none_loose : ℕ → Bool
none_loose n = false

-- the name of the first of these requests
abbrev pub first_request : List Ended → Option ℕ
first_request [] = None
first_request (e ∷ more) = Some e.request

-- the first of these cells
abbrev pub first_cell : List ℕ → Option ℕ
first_cell [] = None
first_cell (cell ∷ more) = Some cell

-- the name that a taking call frees
abbrev pub name_freed : Call → World → Option ℕ
name_freed CallTakeEnded w = first_request w.ended
name_freed CallTakeAbandoned w = first_cell w.abandoned
name_freed other w = None

-- what is asked of a call at two states: it is fair; its steps make no loose name; and there is room for what they name
pub record CallFits (loose : ℕ → Bool) (setting : Setting) (c : Call) (s t : State) : Type 0 where
  pub fair : CallFair loose c s.world t.world
  pub spared : spared_in loose (told_since s (call setting c s).0) ≡ true
  pub left : HasRoom (names_in (told_since s (call setting c s).0) + names_of_call c) s.world
  pub right : HasRoom (names_in (told_since s (call setting c s).0) + names_of_call c) t.world

-- what happens beside one another on two sides: a call on both; a taking call on one; a name that is on neither side any more
pub data Step : Type 0 where
  Both : (c : Call) → Step
  Left : (c : Call) → Step
  Right : (c : Call) → Step
  Settled : (name : ℕ) → Step

-- the calls on the left
abbrev pub left_calls : List Step → List Call
left_calls [] = []
left_calls (Both c ∷ more) = c ∷ left_calls more
left_calls (Left c ∷ more) = c ∷ left_calls more
left_calls (Right c ∷ more) = left_calls more
left_calls (Settled name ∷ more) = left_calls more

-- those on the right
abbrev pub right_calls : List Step → List Call
right_calls [] = []
right_calls (Both c ∷ more) = c ∷ right_calls more
right_calls (Left c ∷ more) = right_calls more
right_calls (Right c ∷ more) = c ∷ right_calls more
right_calls (Settled name ∷ more) = right_calls more

-- a taking call frees a name that goes so, and no tree is awaited
pub record TakingFits (c : Call) (s : State) : Type 0 where
  pub taking : is_taking c ≡ true
  pub spent : TakesSpent c s.world
  pub unawaited : s.world.awaited ≡ None

-- a name is in neither map
pub record IsNowhere (name : ℕ) (s t : State) : Type 0 where
  pub left : held_at name s.world.names ≡ None
  pub right : held_at name t.world.names ≡ None

-- a call closes the loop only where nothing follows it
abbrev pub ClosesLast : Call → List Step → Type 0
ClosesLast c [] = Unit {0}
ClosesLast c (step ∷ more) = is_open c ≡ true

-- calls on both sides fit, only taking calls stand on one side, and the names that these free are loose until they are on neither side
abbrev pub StepsFit : Setting → (ℕ → Bool) → List Step → State → State → Type 0
StepsFit setting loose [] s t = Unit {0}
StepsFit setting loose (Both c ∷ more) s t = (is_taking c ≡ false) × ClosesLast c more × CallFits loose setting c s t × StepsFit setting loose more (call setting c s).0 (call setting c t).0
StepsFit setting loose (Left c ∷ more) s t = (is_taking c ≡ true) × StepsFit setting (loosened_by (name_freed c s.world) loose) more (call setting c s).0 t
StepsFit setting loose (Right c ∷ more) s t = (is_taking c ≡ true) × StepsFit setting (loosened_by (name_freed c t.world) loose) more s (call setting c t).0
StepsFit setting loose (Settled name ∷ more) s t = IsNowhere name s t × StepsFit setting (firmed name loose) more s t

-- the names that are loose after these steps
abbrev pub loose_after : Setting → (ℕ → Bool) → List Step → State → State → ℕ → Bool
loose_after setting loose [] s t = loose
loose_after setting loose (Both c ∷ more) s t = loose_after setting loose more (call setting c s).0 (call setting c t).0
loose_after setting loose (Left c ∷ more) s t = loose_after setting (loosened_by (name_freed c s.world) loose) more (call setting c s).0 t
loose_after setting loose (Right c ∷ more) s t = loose_after setting (loosened_by (name_freed c t.world) loose) more s (call setting c t).0
loose_after setting loose (Settled name ∷ more) s t = loose_after setting (firmed name loose) more s t

-- the replies that aren't of taking calls, but for why a command or a wait was refused
abbrev pub plain_replies : List Call → List ReplyOf → List ReplyOf
plain_replies [] rs = []
plain_replies (c ∷ cs) [] = []
plain_replies (c ∷ cs) (r ∷ rs) = reply_unless (is_taking c) (reply_but_why r) (plain_replies cs rs)
  where
    reply_unless : Bool → ReplyOf → List ReplyOf → List ReplyOf
    reply_unless true r rest = rest
    reply_unless false r rest = r ∷ rest
