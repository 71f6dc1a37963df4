use Rattle.std.proofs.Common.{rules, arith, ◌<◌}
use Rattle.count_lock.proofs.Comings.{splits}
use Rattle.count_lock.proofs.lock.CountLock.split.Goals as goal

pub split_seat-seat-requires : goal.split_seat-seat-requires
split_seat-seat-requires g c = let z = c.args.self.now.sized.0 in let p = c.args.pass.now in let a = p.ranged.0 in let e = p.from_is in let h = p.until_is in let n = c.if-pass.false in
    (search rules, omega arith, splits g.T.Kept.entries g.T.Kept.constant g.T.Kept.by g.T.Kept.fin g.met.T.Kept.fin_laws _ _ _ c.requires.lock.1.stage (let g' : p.seat.me.0.from < p.seat.me.0.until = omega arith in g'))
