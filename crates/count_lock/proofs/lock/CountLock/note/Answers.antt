use Rattle.std.proofs.Common.{rules, arith}
use Rattle.count_lock.proofs.Moves.{notes}
use Rattle.count_lock.proofs.lock.CountLock.note.Goals as goal

pub fetch_add-requires : goal.fetch_add-requires
fetch_add-requires g c = let z = c.args.self.now.sized.0 in let h = c.requires.entry in
    (search rules, omega arith, notes g.T.Kept.entries g.T.Kept.constant g.T.Kept.by g.T.Kept.fin g.met.T.Kept.fin_laws _ _ _ _ h.0 h.1 c.requires.turn h.2 h.3 h.4 c.requires.room 0)
