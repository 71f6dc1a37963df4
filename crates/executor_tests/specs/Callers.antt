-- Callers between two of their doings.
use Rattle.std.specs.Prelude.{◌≡◌, ℕ}
use Rattle.count_lock.specs.declared.kept.Kept.{Ghosts}
use Rattle.count_lock.specs.declared.pass.Pass.{Pass}
use Rattle.count_lock.specs.declared.lock.CountLock.{CountLock}
use Rattle.count_lock.specs.Passes.{mine, number}
use Rattle.executor_core.specs.declared.entry.Entry.{Entry}
use Rattle.executor_core.specs.Histories.{Unfinished, AllSpent, AllSpentBut, AllFinished, AllFinishedBut}
use Rattle.xthread.specs.declared.ticket.Ticket.{Ticket}
use Rattle.xthread.specs.Told.{IsReady, Holds}

module _ {T : Type 0} {g : Ghosts T Entry} where
  -- a submitter with nothing outstanding
  pub record IsIdle (l : CountLock T Entry) (p : Pass T Entry g) : Type 0 where
    pub ready : IsReady l p
    pub spent : AllSpent (mine p)

  -- a submitter with one request outstanding
  pub record HasOne (l : CountLock T Entry) (p : Pass T Entry g) (t : Ticket) : Type 0 where
    pub ready : IsReady l p
    pub holds : Holds p t
    pub others : AllSpentBut t.request (mine p)

  -- a target that runs nothing
  pub record IsIdleTarget (l : CountLock T Entry) (p : Pass T Entry g) : Type 0 where
    pub ready : IsReady l p
    pub first : number p ≡ 0
    pub finished : AllFinished (mine p)

  -- a target that runs one request
  pub record RunsOne (l : CountLock T Entry) (p : Pass T Entry g) (r : ℕ) : Type 0 where
    pub ready : IsReady l p
    pub first : number p ≡ 0
    pub runs : Unfinished (mine p) r
    pub others : AllFinishedBut r (mine p)
