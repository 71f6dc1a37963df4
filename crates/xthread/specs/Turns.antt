-- What a pass is told by the parts of a turn: it takes the value, which then changes or not, and notes the entry or leaves.
use Rattle.std.specs.Prelude.{◌≡◌, [], ◌∷◌, ◌++◌}
use Rattle.count_lock.specs.declared.kept.Kept.{Ghosts}
use Rattle.count_lock.specs.declared.pass.Pass.{Pass}
use Rattle.count_lock.specs.declared.lock.CountLock.{CountLock}
use Rattle.count_lock.specs.Passes.{constant, words_of, seen, known, mine, kin, IsPassOf, IsSamePass, IsResting, HasTurn, IsUnsplit, Accounts}
use Rattle.count_lock.specs.Rule.{StartsWith}
use Rattle.executor_core.specs.declared.entry.Entry.{Entry}
use Rattle.xthread.specs.Stock.{Book}
use Rattle.xthread.specs.Told.{caller_of}

module _ {T : Type 0} {g : Ghosts T Entry} where
  pub record Taken (l : CountLock T Entry) (p m : Pass T Entry g) (v : Book) : Type 0 where
    pub lock : IsPassOf l m
    pub words : words_of l ≡ constant m
    pub turn : HasTurn m
    pub same : IsSamePass p m
    pub entries : v.entries ≡ seen m
    pub limit : v.limit ≡ constant m
    pub longer : StartsWith (seen m) (seen p)
    pub knows : StartsWith (seen m) (known p)
    pub own : mine m ≡ mine p
    pub kin_same : kin m ≡ kin p
    pub accounts : Accounts caller_of m (seen m)
    pub unsplit : IsUnsplit p → seen m ≡ mine m

  pub record Noted (m q : Pass T Entry g) (e : Entry) : Type 0 where
    pub same : IsSamePass m q
    pub rests : IsResting q
    pub longer : seen q ≡ seen m ++ e ∷ []
    pub own : mine q ≡ mine m ++ e ∷ []
    pub kin_same : kin q ≡ kin m
    pub accounts : Accounts caller_of m (seen m) → Accounts caller_of q (seen q)

  pub record Left (m q : Pass T Entry g) : Type 0 where
    pub same : IsSamePass m q
    pub rests : IsResting q
    pub longer : seen q ≡ seen m
    pub own : mine q ≡ mine m
    pub kin_same : kin q ≡ kin m
    pub accounts : Accounts caller_of m (seen m) → Accounts caller_of q (seen q)
