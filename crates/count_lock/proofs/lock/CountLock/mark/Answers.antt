use Rattle.std.proofs.Common.{rules, arith, subst, ap, sym, ◌∙◌, ℕ, ◌+◌, Some}
use Rattle.count_lock.proofs.Moves.{marks_one}
use Rattle.count_lock.proofs.lock.CountLock.mark.Goals as goal

pub store-requires : goal.store-requires
store-requires g c = let e = c.requires.noted.1 in
    (search rules, c.requires.lock.1, rw e (marks_one g.T.Kept.entries g.T.Kept.constant g.T.Kept.by g.T.Kept.fin g.met.T.Kept.fin_laws _ _ _ _ c.args.word c.requires.noted.0 (c.requires.ends ∙ ap Some e) (c.args.seat.now.me.0.place + 1)))
