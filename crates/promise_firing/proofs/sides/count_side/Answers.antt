use Rattle.kj_base.specs.declared.nodes.Stage.TheVariants.{Fired as FiredCase}
use Rattle.kj_model.specs.Nodes.{Fired, Side, Waits, form_at}
use Rattle.kj_model.specs.Changes.{put}
use Rattle.promise_firing.proofs.Fired.{side_kept, side_adds}
use Rattle.promise_firing.proofs.Same.{put_live}
use Rattle.promise_firing.proofs.sides.count_side.Goals as goal

pub returns-clause-stands : goal.returns-clause-stands
returns-clause-stands g c w st waits live =
    let side = c.args.side.number.0 in
    let t = c.args.tree.number.0 in
    c.announce_ready.ensures.stands (put side (Side (Fired t)) w) (c.put.ensures.stands w st (side_kept (FiredCase c.args.tree) (Waits t) (form_at side w.nodes) waits) (side_adds w side t waits)) (put_live side c.args.joined.join.number.0 (Side (Fired t)) w live)
