use Rattle.std.proofs.Common.{◌∙◌, sym, ap, true, false, Option}
use Rattle.std.specs.Prelude.{is_some}
use Rattle.kj_model.specs.Nodes.{Form, Race, Join, owner_of}
use Rattle.kj_model.specs.World.{World}
use Rattle.kj_model.specs.Fire.{fire_form}
use Rattle.promise_nodes.specs.Shown.{next_number, node_number}
use Rattle.promise_walks.specs.Walks.{Both}
use Rattle.promise_firing.specs.Stages.{sides_of}
use Rattle.promise_turns.specs.declared.looks.Event.TheVariants.{Waits}
use Rattle.promise_turns.specs.Events.{From, FromUnder, fired}
use Rattle.promise_turns.proofs.Acted.{acts_silent, acts_less}
use Rattle.promise_turns.proofs.Sided.{race_found, join_found}
use Rattle.promise_turns.proofs.siding.fire_side.Goals as goal

pub returns-in-Nothing-clause-acts : goal.returns-in-Nothing-clause-acts
returns-in-Nothing-clause-acts g c =
    let n = c.args.node.number.0 in
    let t = c.args.tree.number.0 in
    let A : World → Type 0 = Both (g.N.Nodes.stands c.args.over.now.nodes) (g.M.Names.stands c.args.over.now.names) in
    acts_silent A A g.N.Nodes.rule (From (Waits c.args.tree) n) (fired n) (λ s. s) (λ w. w) _ _
    (λ setting s stands from. (stands, sym (ap (λ (o : Option Form). fire_form setting n o s) from.2 ∙ c.in-Nothing.ensures.fires setting t s stands.0 (ap is_some from.2))))

pub returns-in-Race-clause-acts : goal.returns-in-Race-clause-acts
returns-in-Race-clause-acts g c =
    let n = c.args.node.number.0 in
    let r = c.in-Race in
    let race = r.race.number.0 in
    let form : Form = Race r.left.number.0 (next_number r.left.number.0) (node_number r.winner) in
    let A : World → Type 0 = Both (g.N.Nodes.stands c.args.over.now.nodes) (g.M.Names.stands c.args.over.now.names) in
    let B : World → Type 0 = Both (g.N.Nodes.stands c.fire_under_race.new.over.nodes) (g.M.Names.stands c.fire_under_race.new.over.names) in
    acts_less A B g.N.Nodes.rule (FromUnder c.args.tree race form n) (From (Waits c.args.tree) n) (fired n) (λ s. s) _ _ _ _
    (λ setting s stands from. (from, race_found r.race r.left r.winner (owner_of n s.world.nodes) (r.ensures.owner s.world stands.0 (ap is_some from.2))))
    c.fire_under_race.ensures.acts

pub returns-in-Join-default-true-clause-acts : goal.returns-in-Join-default-true-clause-acts
returns-in-Join-default-true-clause-acts g c =
    let n = c.args.node.number.0 in
    let r = c.in-Join-default-true in
    let form : Form = Join true (sides_of r.joined) in
    let A : World → Type 0 = Both (g.N.Nodes.stands c.args.over.now.nodes) (g.M.Names.stands c.args.over.now.names) in
    let B : World → Type 0 = Both (g.N.Nodes.stands c.fire_under_fast.new.over.nodes) (g.M.Names.stands c.fire_under_fast.new.over.names) in
    acts_less A B g.N.Nodes.rule (FromUnder c.args.tree r.joined.join.number.0 form n) (From (Waits c.args.tree) n) (fired n) (λ s. s) _ _ _ _
    (λ setting s stands from. (from, join_found r.joined true r.is_fast (owner_of n s.world.nodes) r.is_fast-test (r.ensures.owner s.world stands.0 (ap is_some from.2))))
    c.fire_under_fast.ensures.acts

pub returns-in-Join-default-false-clause-acts : goal.returns-in-Join-default-false-clause-acts
returns-in-Join-default-false-clause-acts g c =
    let n = c.args.node.number.0 in
    let r = c.in-Join-default-false in
    let form : Form = Join false (sides_of r.joined) in
    let A : World → Type 0 = Both (g.N.Nodes.stands c.args.over.now.nodes) (g.M.Names.stands c.args.over.now.names) in
    let B : World → Type 0 = Both (g.N.Nodes.stands c.fire_under_all.new.over.nodes) (g.M.Names.stands c.fire_under_all.new.over.names) in
    acts_less A B g.N.Nodes.rule (FromUnder c.args.tree r.joined.join.number.0 form n) (From (Waits c.args.tree) n) (fired n) (λ s. s) _ _ _ _
    (λ setting s stands from. (from, join_found r.joined false r.is_fast (owner_of n s.world.nodes) r.is_fast-test (r.ensures.owner s.world stands.0 (ap is_some from.2))))
    c.fire_under_all.ensures.acts
