use Rattle.std.proofs.Common.{rules, arith, ℕ, ◌<◌, length}
use Rattle.count_lock.proofs.Moves.{loads}
use Rattle.count_lock.proofs.lock.CountLock.load.Goals as goal

pub load-found-requires : goal.load-found-requires
load-found-requires g c = let z = c.args.self.now.sized.0 in (
  search rules,
  c.requires.lock.1,
  λ s r wide at _. loads g.T.Kept.entries g.T.Kept.constant g.T.Kept.by g.T.Kept.fin g.met.T.Kept.fin_laws _ _ _ _ c.args.word c.requires.idle s r
      (let n = r.count in let m = c.requires.lock.1 in let g' : c.args.word < length r.ends = omega arith in g') wide at,
)
