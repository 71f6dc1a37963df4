use Rattle.std.proofs.Common.{[], ◌∷◌, refl}
use Rattle.kj_base.specs.Record.{Free}
use Rattle.kj_model.specs.Changes.{gone, gone_world}
use Rattle.promise_walks.proofs.Composed.{hears_none}
use Rattle.promise_firing.proofs.going.drop_plain.Goals as goal

pub returns-then-is_branch-clause-does : goal.returns-then-is_branch-clause-does
returns-then-is_branch-clause-does g c = record {
  items = [];
  told = hears_none (g.S.Steps.told c.args.steps.now);
  moves = λ s stands. absurd (c.is_branch.ensures.branch c.if-is_branch.true s.world stands.0 (g.met.N.Nodes.plain_is c.args.nodes.now s.world c.args.node.number.0 stands.0 c.requires.plain));
}

pub returns-clause-does : goal.returns-clause-does
returns-clause-does g c =
    let n = c.args.node.number.0 in
    record {
      items = Free n ∷ [];
      told = c.freed.ensures.freed;
      moves = λ s stands. record {
        state = gone n s;
        stands = (c.drop_node.ensures.stands s.world stands.0, g.met.M.Names.nodes_free c.args._names.now s.world (gone_world n s.world) refl stands.1);
        past_is = refl;
        ends = refl;
      };
    }
