use Rattle.std.proofs.Common.{rules, arith}
use Rattle.count_lock.proofs.Moves.{lays}
use Rattle.count_lock.proofs.lock.CountLock.lay_down.Goals as goal

pub load-requires : goal.load-requires
load-requires g c = let z = c.args.self.now.sized.0 in let h = c.requires.value in
    (search rules, omega arith, lays g.T.Kept.entries g.T.Kept.constant g.T.Kept.by g.T.Kept.fin g.met.T.Kept.fin_laws _ _ _ _ h.0 c.requires.turn h.1 h.2 h.3 0)
