use Rattle.std.proofs.Common.{rules, arith}
use Rattle.count_lock.proofs.Moves.{draws}
use Rattle.count_lock.proofs.lock.CountLock.draw.Goals as goal

pub fetch_add-requires : goal.fetch_add-requires
fetch_add-requires g c = let z = c.args.self.now.sized.0 in (search rules, omega arith, draws g.T.Kept.entries g.T.Kept.constant g.T.Kept.by g.T.Kept.fin g.met.T.Kept.fin_laws _ _ _ _ c.requires.idle)
