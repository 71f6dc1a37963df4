use Rattle.std.proofs.Common.{rules, arith}
use Rattle.count_lock.proofs.Moves.{looks}
use Rattle.count_lock.proofs.lock.CountLock.look.Goals as goal

pub load-requires : goal.load-requires
load-requires g c = let z = c.args.self.now.sized.0 in (search rules, omega arith, looks g.T.Kept.entries g.T.Kept.constant g.T.Kept.by g.T.Kept.fin g.met.T.Kept.fin_laws _ _ _ _ c.requires.waits)
