use Rattle.std.proofs.Common.{Some}
use Rattle.name_tree.proofs.Renamed.{knows_still}
use Rattle.name_tree.proofs.changes.put.Goals as goal

pub returns-then-learn-clause-known : goal.returns-then-learn-clause-known
returns-then-learn-clause-known c known =
    knows_still c.args.name.0 (Some c.args.held) c.args.names.now.tree c.put.new.self.tree c.args.roots.now.tree c.forget.new.roots.tree c.learn.new.roots.tree
    c.put.ensures.set c.forget.ensures.others c.learn.ensures.others (c.learn.ensures.learnt c.if-learn.true) (c.requires.known known)
