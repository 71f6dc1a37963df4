use Rattle.std.proofs.Common.{rules, arith, ap, ◌∙◌}
use Rattle.count_lock.proofs.Comings.{joins}
use Rattle.count_lock.proofs.lock.CountLock.join.Goals as goal

pub join_seat-requires : goal.join_seat-requires
join_seat-requires g c = let z = c.args.self.now.sized.0 in let e = c.into_seat-seat.ensures in (
  search rules,
  ap (λ s. s.table_id) e ∙ c.requires.from.0.table,
  ap (λ s. s.me.1) e ∙ c.requires.from.1.empty,
  omega arith,
  joins g.T.Kept.entries g.T.Kept.constant g.T.Kept.by g.T.Kept.fin g.met.T.Kept.fin_laws _ _ c.args.into.now.seat.me.0 _ c.into_seat-seat.result.me.0 c.requires.into.1.stage (ap (λ s. s.me.0.stage) e ∙ c.requires.from.1.stage),
)
