use Rattle.std.proofs.Common.{Some}
use Rattle.promise_names.specs.declared.names.Held.TheVariants.{Promise}
use Rattle.name_tree.proofs.Renamed.{given_renames, knows_still}
use Rattle.name_tree.proofs.changes.give.Goals as goal

pub returns-clause-renamed : goal.returns-clause-renamed
returns-clause-renamed c =
    given_renames c.args.name.0 c.args.old.number.0 c.args.new c.args.names.now.tree c.replace.new.self.tree c.requires.apart c.requires.has c.replace.ensures.set

pub returns-clause-known : goal.returns-clause-known
returns-clause-known c is known =
    knows_still c.args.name.0 (Some (Promise c.args.new)) c.args.names.now.tree c.replace.new.self.tree c.args.roots.now.tree c.forget.new.roots.tree c.learn.new.roots.tree
    c.replace.ensures.set c.forget.ensures.others c.learn.ensures.others (c.learn.ensures.learnt is) known
