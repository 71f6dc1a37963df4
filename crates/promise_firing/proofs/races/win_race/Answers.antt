use Rattle.std.proofs.Common.{ap, refl, subst, ℕ}
use Rattle.kj_base.specs.Queue.{DepthFirst}
use Rattle.kj_model.specs.World.{World, State}
use Rattle.kj_model.specs.Nodes.{Gone, Side, form_at}
use Rattle.kj_model.specs.Changes.{put, silent}
use Rattle.kj_model.specs.Listening.{announced}
use Rattle.kj_model.specs.Fire.{race_won}
use Rattle.promise_nodes.specs.Shown.{next_number}
use Rattle.promise_walks.specs.Walks.{Both, Does}
use Rattle.promise_firing.specs.Stages.{MayBeSide, MayWin, loser, race_decided, side_emptied}
use Rattle.promise_walks.proofs.Changing.{does_silent, does_both, does_none}
use Rattle.promise_firing.proofs.Fired.{decided_spares, same_freed}
use Rattle.promise_firing.proofs.Same.{announced_names}
use Rattle.promise_firing.proofs.races.win_race.Goals as goal

pub returns-clause-does : goal.returns-clause-does
returns-clause-does g c =
    let race = c.args.race.number.0 in
    let left = c.args.left.number.0 in
    let side = c.args.side.number.0 in
    let t = c.args.tree.number.0 in
    let other = loser left side in
    let A : World → Type 0 = Both (g.N.Nodes.stands c.args.nodes.now) (g.M.Names.stands c.args.names.now) in
    let B : World → Type 0 = λ w. Both (g.N.Nodes.stands c.decide.new.nodes) (g.M.Names.stands c.args.names.now) w × MayBeSide (form_at other w.nodes) in
    let C : World → Type 0 = Both (g.N.Nodes.stands c.empty_side.new.nodes) (g.M.Names.stands c.empty_side.new.names) in
    let D : World → Type 0 = Both (g.N.Nodes.stands c.announce.new.nodes) (g.M.Names.stands c.empty_side.new.names) in
    let P : World → Type 0 = λ w. A w × MayWin race left side t w in
    let decided : State → State = silent (race_decided race left side t) in
    let first = does_silent P P B (λ s. s) decided (λ s. s) (race_decided race left side t) _ _ (does_none P (g.S.Steps.told c.args.steps.now))
    (λ s stands mid.
    let w = s.world in
    let may = stands.1 in
    let nodes = c.decide.ensures.stands w stands.0.0 may.waits may.race_is in
    let names = g.met.M.Names.nodes_free c.args.names.now w (race_decided race left side t w) refl stands.0.1 in
    (((nodes, names), (decided_spares race left side t other w may.waits may.race_is may.wins.other).side), refl)) in
    let empties = subst (λ (n : ℕ). Does (λ (w : World). Both (g.N.Nodes.stands c.decide.new.nodes) (g.M.Names.stands c.args.names.now) w × MayBeSide (form_at n w.nodes)) C (side_emptied n) (λ s. s) (g.S.Steps.told c.args.steps.now) (g.S.Steps.told c.empty_side.new.steps)) c.loser_of-other.ensures c.empty_side.ensures.does in
    let both = does_both P B C decided (side_emptied other) _ _ _ first empties in
    does_silent P C D (λ s. side_emptied other (decided s)) (race_won race left (next_number left) side other t) (λ s. s) (announced DepthFirst race) _ _ both
    (λ s stands mid.
    let w = s.world in
    let may = stands.1 in
    let v = (side_emptied other (decided s)).world in
    let spares = decided_spares race left side t other w may.waits may.race_is may.wins.other in
    let freed_same = same_freed (form_at other (race_decided race left side t w).nodes) (form_at other w.nodes) (decided s) spares.tree in (
      (c.announce.ensures.stands v mid.0 (may.wins.outlives s.past), g.met.M.Names.nodes_free c.empty_side.new.names v (announced DepthFirst race v) (announced_names DepthFirst race v) mid.1),
      ap (silent (λ u. announced DepthFirst race (put other (Side Gone) u))) freed_same,
    ))
