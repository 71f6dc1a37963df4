use Rattle.std.proofs.Common.{sym, ap, subst, false}
use Rattle.std.specs.Prelude.{is_some}
use Rattle.kj_model.specs.Nodes.{Form, Join}
use Rattle.kj_model.specs.World.{World}
use Rattle.kj_model.specs.Fire.{all_fired}
use Rattle.promise_walks.specs.Walks.{Both}
use Rattle.promise_firing.specs.Stages.{sides_of}
use Rattle.promise_turns.specs.Events.{FromUnder, fired}
use Rattle.promise_turns.proofs.Acted.{acts_silent}
use Rattle.promise_turns.proofs.Sided.{side_fired_is, owner_is, all_names}
use Rattle.promise_turns.proofs.siding.fire_under_all.Goals as goal

pub returns-clause-acts : goal.returns-clause-acts
returns-clause-acts g c =
    let n = c.args.node.number.0 in
    let t = c.args.tree.number.0 in
    let join = c.args.joined.join.number.0 in
    let sides = sides_of c.args.joined in
    let form : Form = Join false sides in
    let A : World → Type 0 = Both (g.N.Nodes.stands c.args.over.now.nodes) (g.M.Names.stands c.args.over.now.names) in
    let B : World → Type 0 = Both (g.N.Nodes.stands c.count.new.over.nodes) (g.M.Names.stands c.count.new.over.names) in
    acts_silent A B g.N.Nodes.rule (FromUnder c.args.tree join form n) (fired n) (λ s. s) (all_fired join sides n t) _ _
    (λ setting s stands from.
    let o = owner_is c.args.tree n join form setting s from in
    let nodes = c.count.ensures.nodes s.world stands.0 from.0.2 (ap is_some o.0) in
    let names = g.met.M.Names.nodes_free c.args.over.now.names s.world (all_fired join sides n t s.world) (all_names join sides n t s.world) stands.1 in
    ((nodes, subst (λ names. g.M.Names.stands names (all_fired join sides n t s.world)) (sym c.count.ensures.names) names), sym (side_fired_is c.args.tree n join form setting s from)))
