use Rattle.std.proofs.Common.{None}
use Rattle.name_tree.proofs.Renamed.{knows_still}
use Rattle.name_tree.proofs.changes.remove.Goals as goal

pub returns-clause-known : goal.returns-clause-known
returns-clause-known c known =
    knows_still c.args.name.0 None c.args.names.now.tree c.remove.new.self.tree c.args.roots.now.tree c.forget.new.roots.tree c.forget.new.roots.tree
    c.remove.ensures.set c.forget.ensures.others (λ root other is. is) tt known
