use Rattle.std.proofs.Common.{refl}
use Rattle.kj_model.specs.World.{World}
use Rattle.kj_model.specs.Changes.{gone}
use Rattle.kj_model.specs.Fire.{without_left_over}
use Rattle.promise_walks.specs.Walks.{Both}
use Rattle.promise_walks.proofs.Changing.{does_behind}
use Rattle.promise_firing.proofs.task.drop_task.Goals as goal

pub returns-clause-does : goal.returns-clause-does
returns-clause-does g c =
    let n = c.args.task.number.0 in
    let A : World → Type 0 = Both (g.N.Nodes.stands c.args.nodes.now) (g.M.Names.stands c.args.names.now) in
    let B : World → Type 0 = Both (g.N.Nodes.stands c.args.nodes.now) (g.M.Names.stands c.take_over.new.self) in
    let C : World → Type 0 = Both (g.N.Nodes.stands c.drop_plain.new.nodes) (g.M.Names.stands c.take_over.new.self) in
    does_behind A B C (gone n) (without_left_over n) _ _
    (λ w both. (g.met.N.Nodes.names_free c.args.nodes.now w (without_left_over n w) refl (λ l. refl) both.0, c.take_over.ensures.stands w both.1))
    c.drop_plain.ensures.does
