use Rattle.std.proofs.Common.{rules, arith}
use Rattle.count_lock.proofs.Comings.{attests}
use Rattle.count_lock.proofs.lock.CountLock.attest.Goals as goal

pub load-requires : goal.load-requires
load-requires g c = let z = c.args.self.now.sized.0 in (search rules, omega arith, attests g.T.Kept.entries g.T.Kept.constant g.T.Kept.by g.T.Kept.fin g.met.T.Kept.fin_laws _ _ _ _ c.requires.idle 0)
