-- What each call of an executor tells its pass.
use Rattle.std.specs.Prelude.{◌≡◌, ℕ, ◌<◌, List, [], ◌∷◌, ◌++◌, Some, None}
use Rattle.count_lock.specs.declared.kept.Kept.{Ghosts}
use Rattle.count_lock.specs.declared.pass.Pass.{Pass}
use Rattle.count_lock.specs.declared.lock.CountLock.{CountLock}
use Rattle.count_lock.specs.Passes.{constant, words_of, seen, known, mine, kin, number, IsPassOf, IsSamePass, IsResting, IsUnsplit, Accounts}
use Rattle.count_lock.specs.Rule.{StartsWith}
use Rattle.executor_core.specs.declared.entry.Entry.{Entry}
use Rattle.executor_core.specs.declared.call.Call.{Call}
use Rattle.executor_core.specs.declared.call.Reply.{Reply}
use Rattle.executor_core.specs.Acts.{Desk, act}
use Rattle.executor_core.specs.Histories.{Legal, board_of, Outstanding}
use Rattle.executor_core.specs.Ends.{end_of}
use Rattle.xthread.specs.declared.ticket.Ticket.{Ticket}

abbrev pub caller_of : Entry → ℕ
caller_of e = e.caller

module _ {T : Type 0} {g : Ghosts T Entry} where
  -- the board that the pass has seen
  abbrev pub board_seen : Pass T Entry g → Desk
  board_seen p = board_of (constant p) (seen p)

  -- what the pass has seen is a legal history
  abbrev pub IsLegal : Pass T Entry g → Type 0
  IsLegal p = Legal (constant p) (seen p)

  -- the pass is one of the lock's, which has a word for each request, between two calls, and has seen a legal history
  pub record IsReady (l : CountLock T Entry) (p : Pass T Entry g) : Type 0 where
    pub lock : IsPassOf l p
    pub words : words_of l ≡ constant p
    pub rests : IsResting p
    pub legal : IsLegal p

  -- by the ticket the pass submitted its request, and by the pass's own entries it did not withdraw or collect it since
  pub record Holds (p : Pass T Entry g) (t : Ticket) : Type 0 where
    pub table : t.owner.table_id ≡ p.seat.table_id
    pub caller : t.owner.number ≡ number p
    pub below : t.request < constant p
    pub open_yet : Outstanding (mine p) t.request

  -- The pass is the same, between two calls, and has seen no less, the ends among it that it knew of. Its own entries of what it has seen are `mine`, and those of each
  -- pass that was joined into it are what that one made; none has a spare number, so that a first pass which was never split made all
  pub record Told (l : CountLock T Entry) (p q : Pass T Entry g) : Type 0 where
    pub same : IsSamePass p q
    pub kin_same : kin q ≡ kin p
    pub ready : IsReady l q
    pub longer : StartsWith (seen q) (seen p)
    pub knows : StartsWith (seen q) (known p)
    pub accounts : Accounts caller_of q (seen q)
    pub unsplit : IsUnsplit p → seen q ≡ mine q

  -- the call changed the board: its entry is the last of the history, and is added to the caller's own
  pub record Gains (p q : Pass T Entry g) (e : Entry) : Type 0 where
    pub before : List Entry
    pub whole : seen q ≡ before ++ e ∷ []
    pub longer : StartsWith before (seen p)
    pub own : mine q ≡ mine p ++ e ∷ []

  -- the call changed nothing, and answered as the board at the whole history does
  pub record Stays (p q : Pass T Entry g) (call : Call) (reply : Reply) : Type 0 where
    pub own : mine q ≡ mine p
    pub answer : (act (board_seen q) (number q) call).1 ≡ reply

  -- without the lock the pass came to know of the end of the request, by a beginning of the history
  pub record EndKnown (p : Pass T Entry g) (r : ℕ) : Type 0 where
    pub place : ℕ
    pub is_end : end_of (constant p) (known p) r ≡ Some place

  -- the pass learned nothing, and nothing that it has seen ends the request
  pub record EndUnseen (p q : Pass T Entry g) (r : ℕ) : Type 0 where
    pub same : known q ≡ known p
    pub no_end : end_of (constant p) (seen p) r ≡ None

  -- the pass is the same, between two calls, and has seen and made what it had
  pub record Unchanged (l : CountLock T Entry) (p q : Pass T Entry g) : Type 0 where
    pub same : IsSamePass p q
    pub ready : IsReady l q
    pub seen_same : seen q ≡ seen p
    pub own : mine q ≡ mine p
    pub kin_same : kin q ≡ kin p
