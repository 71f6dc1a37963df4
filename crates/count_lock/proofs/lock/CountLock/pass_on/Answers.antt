use Rattle.std.proofs.Common.{rules, arith}
use Rattle.count_lock.proofs.Moves.{passes}
use Rattle.count_lock.proofs.lock.CountLock.pass_on.Goals as goal

pub fetch_add-requires : goal.fetch_add-requires
fetch_add-requires g c = let z = c.args.self.now.sized.0 in let h = c.requires.value in
    (search rules, omega arith, passes g.T.Kept.entries g.T.Kept.constant g.T.Kept.by g.T.Kept.fin g.met.T.Kept.fin_laws _ _ _ _ h.0 c.requires.turn c.requires.marked h.1 h.2 h.3 0)
