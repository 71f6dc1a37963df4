use Rattle.std.proofs.Common.{sym, subst, Option, IsSome}
use Rattle.kj_base.specs.declared.nodes.Node.{Node}
use Rattle.node_arena.proofs.tests.free_first.Goals as goal

pub returns-clause-second : goal.returns-clause-second
returns-clause-second c = subst (λ (x : Option Node). IsSome x) (sym (c.free.ensures.nodes c.args.second.0 c.requires.apart)) c.requires.second
