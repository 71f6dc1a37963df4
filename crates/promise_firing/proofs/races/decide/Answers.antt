use Rattle.std.proofs.Common.{None, Some}
use Rattle.kj_base.specs.declared.nodes.Stage.TheVariants.{Fired as FiredCase}
use Rattle.kj_model.specs.Nodes.{Fired, Side, Waits, form_at}
use Rattle.kj_model.specs.Changes.{put}
use Rattle.promise_nodes.specs.Shown.{next_number}
use Rattle.promise_firing.proofs.Fired.{side_kept, side_adds, race_kept, race_adds, race_stays}
use Rattle.promise_firing.proofs.races.decide.Goals as goal

pub returns-clause-stands : goal.returns-clause-stands
returns-clause-stands g c w st waits race_is =
    let side = c.args.side.number.0 in
    let race = c.args.race.number.0 in
    let left = c.args.left.number.0 in
    let t = c.args.tree.number.0 in
    let v = put side (Side (Fired t)) w in
    let after = race_stays side race t left (next_number left) (Side (Fired t)) w waits race_is in
    c.put-2.ensures.stands v (c.put.ensures.stands w st (side_kept (FiredCase c.args.tree) (Waits t) (form_at side w.nodes) waits) (side_adds w side t waits))
    (race_kept c.args.left (Some c.args.side.number) left (next_number left) None (form_at race v.nodes) after) (race_adds v race left (next_number left) (Some side) after)
