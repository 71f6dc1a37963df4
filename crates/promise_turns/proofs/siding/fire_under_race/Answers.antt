use Rattle.std.proofs.Common.{◌∙◌, sym, ap, subst, Option, None}
use Rattle.kj_base.specs.declared.numbers.NodeId.{NodeId}
use Rattle.kj_model.specs.Nodes.{Race}
use Rattle.kj_model.specs.World.{World}
use Rattle.kj_model.specs.Fire.{race_fired, race_won}
use Rattle.promise_nodes.specs.Shown.{next_number, node_number}
use Rattle.promise_walks.specs.Walks.{Both}
use Rattle.promise_firing.specs.Stages.{MayWin, loser}
use Rattle.promise_turns.specs.Acting.{Acts}
use Rattle.promise_turns.specs.Events.{FromUnder, fired}
use Rattle.promise_turns.proofs.Acted.{acts_once, acts_silent}
use Rattle.promise_turns.proofs.Outliving.{wins}
use Rattle.promise_turns.proofs.Sided.{side_fired_is, owner_is}
use Rattle.promise_turns.proofs.siding.fire_under_race.Goals as goal

pub returns-in-None-clause-acts : goal.returns-in-None-clause-acts
returns-in-None-clause-acts g c =
    let n = c.args.node.number.0 in
    let t = c.args.tree.number.0 in
    let race = c.args.race.number.0 in
    let left = c.args.left.number.0 in
    let d = c.win.ensures.does in
    let A : World → Type 0 = Both (g.N.Nodes.stands c.args.over.now.nodes) (g.M.Names.stands c.args.over.now.names) in
    let B : World → Type 0 = Both (g.N.Nodes.stands c.win.new.over.nodes) (g.M.Names.stands c.win.new.over.names) in
    let acts = acts_once A B (MayWin race left n t) g.N.Nodes.rule (FromUnder c.args.tree race (Race left (next_number left) None) n) (fired n) (race_won race left (next_number left) n (loser left n) t) d.items _ _ _ _ d.told c.win.ensures.lacks d.moves
    (λ setting s stands from. let o = owner_is c.args.tree n race (Race left (next_number left) None) setting s from in wins race left n t s from.0.1 from.0.2 o.0 o.1)
    (λ setting s stands from. sym (side_fired_is c.args.tree n race (Race left (next_number left) None) setting s from)) in
    subst (λ (x : Option NodeId). Acts A B g.N.Nodes.rule (FromUnder c.args.tree race (Race left (next_number left) (node_number x)) n) (fired n) (λ s. s) (g.S.Steps.told c.args.steps.now) (g.S.Steps.told c.win.new.steps) (g.S.Steps.lacks c.args.steps.now) (g.S.Steps.lacks c.win.new.steps)) (sym c.in-None.is) acts

pub returns-in-Some-clause-acts : goal.returns-in-Some-clause-acts
returns-in-Some-clause-acts g c =
    let n = c.args.node.number.0 in
    let race = c.args.race.number.0 in
    let left = c.args.left.number.0 in
    let A : World → Type 0 = Both (g.N.Nodes.stands c.args.over.now.nodes) (g.M.Names.stands c.args.over.now.names) in
    acts_silent A A g.N.Nodes.rule (FromUnder c.args.tree race (Race left (next_number left) (node_number c.args.winner)) n) (fired n) (λ s. s) (λ w. w) _ _
    (λ setting s stands from. (stands, sym (side_fired_is c.args.tree n race (Race left (next_number left) (node_number c.args.winner)) setting s from ∙ ap (λ (x : Option NodeId). race_fired race left (next_number left) (node_number x) n c.args.tree.number.0 s) c.in-Some.is)))
