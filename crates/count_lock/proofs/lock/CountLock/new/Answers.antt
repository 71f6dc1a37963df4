use Rattle.std.proofs.Common.{rules}
use Rattle.count_lock.proofs.Comings.{starts}
use Rattle.count_lock.proofs.lock.CountLock.new.Goals as goal

pub new-requires : goal.new-requires
new-requires g c = starts g.T.Kept.entries g.T.Kept.constant g.T.Kept.by g.T.Kept.fin g.met.T.Kept.fin_laws _ _ _ c.args.value _ (search rules) (search rules) (search rules) c.requires
