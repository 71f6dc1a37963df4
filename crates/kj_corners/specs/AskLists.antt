-- Lists of calls on asks.
use Rattle.std.specs.Prelude.{List, [], ◌∷◌, Some, None}
use Rattle.kj_base.specs.declared.outcomes.Outcome.TheVariants.{Value}
use Rattle.kj_base.specs.Commands.{Drop, Ask, Reply}
use Rattle.kj_base.specs.Record.{Item, Free}
use Rattle.kj_model.specs.Calls.{Call, CallApply, CallTakeAsk, CallTakeAbandoned, CallClose, Reply as ReplyOf, Applied, TookAsk, TookAbandoned, Closed}

-- a reply after the promise went: the cell is listed no more
abbrev pub replied_ask_calls : List Call
replied_ask_calls = CallApply (Ask 1 2 3 4 []) ∷ CallTakeAsk ∷ CallApply (Drop 1) ∷ CallApply (Reply 2 (Value [])) ∷ CallTakeAbandoned ∷ CallClose ∷ []

-- its record
abbrev pub replied_ask_past : List Item
replied_ask_past = Free 1 ∷ []

-- its replies
abbrev pub replied_ask_replies : List ReplyOf
replied_ask_replies = Applied None ∷ TookAsk (Some (record { cell = 2; target = 3; step = 4; words = [] })) ∷ Applied None ∷ Applied None ∷ TookAbandoned None ∷ Closed [] ∷ []

-- an ask that is abandoned before it was taken: its cell is told, and the ask isn't
abbrev pub listed_ask_calls : List Call
listed_ask_calls = CallApply (Ask 1 2 3 4 []) ∷ CallApply (Ask 5 6 3 4 []) ∷ CallApply (Drop 1) ∷ CallTakeAbandoned ∷ CallTakeAsk ∷ CallTakeAsk ∷ CallClose ∷ []

-- its record
abbrev pub listed_ask_past : List Item
listed_ask_past = Free 1 ∷ Free 2 ∷ []

-- its replies
abbrev pub listed_ask_replies : List ReplyOf
listed_ask_replies = Applied None ∷ Applied None ∷ Applied None ∷ TookAbandoned (Some 2) ∷ TookAsk (Some (record { cell = 6; target = 3; step = 4; words = [] })) ∷ TookAsk None ∷ Closed (2 ∷ []) ∷ []
