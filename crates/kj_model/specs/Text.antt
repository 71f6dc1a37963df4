-- The text of a log.
use Rattle.std.specs.Prelude.{ℕ, List, [], ◌∷◌, ◌++◌, codes, decimal, flat_map}
use Rattle.kj_base.specs.declared.outcomes.Kind.{Kind}
use Rattle.kj_base.specs.declared.outcomes.Kind.TheVariants.{Failed, Overloaded, Disconnected, Unimplemented}
use Rattle.kj_base.specs.declared.outcomes.Outcome.{Outcome}
use Rattle.kj_base.specs.declared.outcomes.Outcome.TheVariants.{Value, Broken}
use Rattle.kj_base.specs.Record.{Item, Run, Free}
use Rattle.kj_model.specs.Apply.{Refused, Unknown, Taken, Full, Busy, Inside, WrongKind, Stopped as StoppedBefore}
use Rattle.kj_model.specs.Calls.{Waited, Done, WaitIdle, Turns, NotThere, WaitNoMemory, WaitStopped}
use Rattle.kj_model.specs.Log.{LogLine, Told, RefusedAt, WasIdle, WaitEnd, AskTaken, EndedTaken, GoneTaken}

-- a number after a space
abbrev pub spaced : ℕ → List ℕ
spaced n = 32 ∷ decimal n

-- each number after a space
abbrev pub all_spaced : List ℕ → List ℕ
all_spaced words = flat_map spaced words

-- the word of a kind
abbrev pub kind_text : Kind → List ℕ
kind_text Failed = codes "failed"
kind_text Overloaded = codes "overloaded"
kind_text Disconnected = codes "disconnected"
kind_text Unimplemented = codes "unimplemented"

-- an outcome in words
abbrev pub outcome_text : Outcome → List ℕ
outcome_text (Value words) = codes "value" ++ all_spaced words
outcome_text (Broken exception) = codes "throw " ++ kind_text exception.kind ++ spaced exception.code

-- a run or a free
abbrev pub item_text : Item → List ℕ
item_text (Run n step input action) = codes "run" ++ spaced n ++ spaced step ++ codes " " ++ outcome_text input
item_text (Free n) = codes "free" ++ spaced n

-- a refusal, after the number of its line
abbrev pub refused_text : Refused → List ℕ
refused_text (Unknown name) = codes " unknown" ++ spaced name
refused_text (Taken name) = codes " taken" ++ spaced name
refused_text Full = codes " full"
refused_text (Busy name) = codes " busy" ++ spaced name
refused_text Inside = codes " inside"
refused_text (WrongKind name) = codes " wrong" ++ spaced name
refused_text StoppedBefore = codes " stopped"

-- how a wait ended, after its name
abbrev pub waited_text : Waited → List ℕ
waited_text (Done o) = codes " done " ++ outcome_text o
waited_text WaitIdle = codes " idle"
waited_text Turns = codes " turns"
waited_text (NotThere refused) = refused_text refused
waited_text WaitNoMemory = codes " memory"
waited_text WaitStopped = codes " stopped"

-- a line of the log, without LF
abbrev pub line_text : LogLine → List ℕ
line_text (Told item) = item_text item
line_text (RefusedAt line refused) = codes "refused" ++ spaced line ++ refused_text refused
line_text WasIdle = codes "idle"
line_text (WaitEnd name waited) = codes "wait" ++ spaced name ++ waited_text waited
line_text (AskTaken a) = codes "ask" ++ spaced a.cell ++ spaced a.target ++ spaced a.step ++ all_spaced a.words
line_text (EndedTaken e) = codes "ended" ++ spaced e.request ++ codes " " ++ outcome_text e.outcome
line_text (GoneTaken cell) = codes "gone" ++ spaced cell

-- each line ends with LF
abbrev pub log_text : List LogLine → List ℕ
log_text lines = flat_map (λ line. line_text line ++ 10 ∷ []) lines
