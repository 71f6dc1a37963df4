-- What the lists of a loop tell: asks, ended requests and abandoned cells, each once.
use Rattle.std.specs.Prelude.{◌≡◌, ◌==◌, ◌||◌, ◌&&◌, ℕ, ◌+◌, ◌≤◌, List, [], ◌∷◌, ◌++◌, Option, None, Some, Bool, true, false, not, map, filter, cond, drop}
use Rattle.kj_base.specs.Commands.{Begin, Reply}
use Rattle.kj_base.specs.declared.numbers.Limits.{Limits}
use Rattle.kj_model.specs.Calls.{Call, CallApply, CallTakeAsk, CallTakeEnded, CallTakeAbandoned, Reply as ReplyOf, Applied, TookEnded, TookAbandoned, call, calls}
use Rattle.kj_model.specs.Framed.{times, total}
use Rattle.kj_model.specs.Nodes.{Entry, dropped}
use Rattle.kj_model.specs.World.{World, State, Setting, Held, AskCell, RequestOf, Asked, Ended, held_at, new_state}
use Rattle.kj_ownership.specs.Kept.{is_open}
use Rattle.kj_ownership.specs.Owners.{is_live}
use Rattle.kj_ownership.specs.Standing.{one_if}

-- the names of the cells of these asks
abbrev pub ask_cells : List Asked → List ℕ
ask_cells asks = map (λ (a : Asked). a.cell) asks

-- the names of these requests
abbrev pub ended_names : List Ended → List ℕ
ended_names ended = map (λ (e : Ended). e.request) ended

-- the cell of an ask that wasn't taken
abbrev pub is_untaken : Option Held → Bool
is_untaken (Some (AskCell cell is_taken)) = not is_taken
is_untaken other = false

-- a request, whether it has ended or not
abbrev pub is_request : Option Held → Bool
is_request (Some (RequestOf tree)) = true
is_request other = false

-- whether this name is a request's
abbrev pub has_request : World → ℕ → Bool
has_request w r = is_request (held_at r w.names)

-- a request that has ended
abbrev pub has_ended : Option Held → Bool
has_ended (Some (RequestOf None)) = true
has_ended other = false

-- the cell of an ask whose node went
abbrev pub is_lost_ask : List Entry → Option Held → Bool
is_lost_ask nodes (Some (AskCell cell is_taken)) = not (is_live cell nodes)
is_lost_ask nodes other = false

-- the asks that weren't taken are listed, each once, and no others; so are the requests that have
-- ended; and an abandoned cell is that of an ask whose node went, and is listed once
pub record TellsOnce (w : World) : Type 0 where
  pub asks : (c : ℕ) → times c (ask_cells w.asks) ≡ one_if (is_untaken (held_at c w.names))
  pub ended : (c : ℕ) → times c (ended_names w.ended) ≡ one_if (has_ended (held_at c w.names))
  pub abandoned : (c : ℕ) → times c w.abandoned ≤ one_if (is_lost_ask w.nodes (held_at c w.names))

-- no call of the list closes the loop
abbrev pub NoneCloses : List Call → Type 0
NoneCloses [] = Unit {0}
NoneCloses (c ∷ cs) = (is_open c ≡ true) × NoneCloses cs

-- the state of a loop after some calls, from its beginning on, of which none closed it
pub record IsReached (setting : Setting) (s : State) : Type 0 where
  pub limits : Limits
  pub before : List Call
  pub opens : NoneCloses before
  pub here : s ≡ (calls setting before (new_state limits)).0

-- a command that had its effect
abbrev pub is_done : ReplyOf → Bool
is_done (Applied None) = true
is_done other = false

-- a call that asks for the request of this name to begin
abbrev pub is_begin_of : ℕ → Call → Bool
is_begin_of r (CallApply (Begin request step words)) = request == r
is_begin_of r other = false

-- the request of this name began
abbrev pub begins : ℕ → Call → ReplyOf → Bool
begins r c reply = is_done reply && is_begin_of r c

-- a reply that tells its end
abbrev pub tells_end : ℕ → ReplyOf → Bool
tells_end r (TookEnded (Some e)) = e.request == r
tells_end r other = false

-- how often it began, by these calls and their replies
abbrev pub begun : ℕ → List Call → List ReplyOf → ℕ
begun r [] replies = 0
begun r (c ∷ cs) [] = 0
begun r (c ∷ cs) (reply ∷ replies) = one_if (begins r c reply) + begun r cs replies

-- how often its end was told
abbrev pub ends_told : ℕ → List ReplyOf → ℕ
ends_told r replies = total (λ reply. one_if (tells_end r reply)) replies

-- whether a name is a request's after a call, by whether it was before it
abbrev pub request_after : ℕ → Call → ReplyOf → Bool → Bool
request_after r c reply was = not (tells_end r reply) && (begins r c reply || was)

-- a call that asks for a reply to this cell
abbrev pub is_reply_to : ℕ → Call → Bool
is_reply_to name (CallApply (Reply cell outcome)) = cell == name
is_reply_to name other = false

-- a reply that tells this cell as abandoned
abbrev pub tells_lost : ℕ → ReplyOf → Bool
tells_lost name (TookAbandoned (Some cell)) = cell == name
tells_lost name other = false

-- the name of an ask's cell goes with its reply, or where it is told as abandoned
abbrev pub lets_go : ℕ → Call → ReplyOf → Bool
lets_go name c reply = tells_lost name reply || (is_done reply && is_reply_to name c)

-- the asks but those of this cell
abbrev pub asks_but : List ℕ → List Asked → List Asked
asks_but [] asks = asks
asks_but (cell ∷ more) asks = filter (λ (a : Asked). not (a.cell == cell)) asks

-- the asks that a call leaves listed: all but the first one, where it takes that, and all but those of the abandoned cell
-- that it takes
abbrev pub asks_left : Call → World → List Asked
asks_left CallTakeAsk w = drop 1 w.asks
asks_left CallTakeAbandoned w = asks_but w.abandoned w.asks
asks_left other w = w.asks

-- the ended requests that it leaves listed
abbrev pub ended_left : Call → World → List Ended
ended_left CallTakeEnded w = drop 1 w.ended
ended_left other w = w.ended

-- the abandoned cells that it leaves listed: a cell that gets a reply isn't listed any more
abbrev pub abandoned_left : Call → ReplyOf → World → List ℕ
abandoned_left CallTakeAbandoned reply w = drop 1 w.abandoned
abandoned_left (CallApply (Reply cell outcome)) reply w = cond (is_done reply) (dropped cell w.abandoned) w.abandoned
abandoned_left other reply w = w.abandoned

-- this list, and perhaps more behind it
abbrev pub StartsWith : {A : Type 0} → List A → List A → Type 0
StartsWith {A} front xs = (more : List A) × (xs ≡ front ++ more)

-- what the name of an ask's cell holds: its node
abbrev pub ask_node : Option Held → Option ℕ
ask_node (Some (AskCell cell is_taken)) = Some cell
ask_node other = None

-- a name that stood once in a list, and stands in it no more
pub record LeavesList (name : ℕ) (old new : List ℕ) : Type 0 where
  pub was : times name old ≡ 1
  pub gone : times name new ≡ 0

-- the node of an ask's cell
abbrev pub cell_node : Option Held → List ℕ
cell_node (Some (AskCell cell is_taken)) = cell ∷ []
cell_node other = []

-- the node of the cell of the first of these asks
abbrev pub first_asked : List Asked → World → List ℕ
first_asked [] w = []
first_asked (a ∷ more) w = cell_node (held_at a.cell w.names)

-- the node of the first of these cells
abbrev pub first_lost : List ℕ → World → List ℕ
first_lost [] w = []
first_lost (cell ∷ more) w = cell_node (held_at cell w.names)

-- the node of the cell whose ask a call tells; numbers of nodes are never used again
abbrev pub ask_told : Call → World → List ℕ
ask_told CallTakeAsk w = first_asked w.asks w
ask_told other w = []

-- the node of the cell that a call tells as abandoned
abbrev pub lost_told : Call → World → List ℕ
lost_told CallTakeAbandoned w = first_lost w.abandoned w
lost_told other w = []

-- those of a list of calls
abbrev pub told_in : (Call → World → List ℕ) → Setting → List Call → State → List ℕ
told_in tells setting [] s = []
told_in tells setting (c ∷ cs) s = tells c s.world ++ told_in tells setting cs (call setting c s).0
