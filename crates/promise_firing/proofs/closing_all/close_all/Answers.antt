use Rattle.kj_model.specs.World.{World, State}
use Rattle.kj_model.specs.Calls.{left_over_closed, names_closed, detached_closed, hubs_closed}
use Rattle.promise_walks.specs.Walks.{Both}
use Rattle.promise_walks.proofs.Changing.{does_both}
use Rattle.promise_firing.proofs.closing_all.close_all.Goals as goal

pub returns-clause-does : goal.returns-clause-does
returns-clause-does g c =
    let A : World → Type 0 = Both (g.N.Nodes.stands c.args.nodes.now) (g.M.Names.stands c.args.names.now) in
    let B : World → Type 0 = Both (g.N.Nodes.stands c.close_left_over.new.nodes) (g.M.Names.stands c.close_left_over.new.names) in
    let C : World → Type 0 = Both (g.N.Nodes.stands c.close_names.new.nodes) (g.M.Names.stands c.close_names.new.names) in
    let D : World → Type 0 = Both (g.N.Nodes.stands c.close_detached.new.nodes) (g.M.Names.stands c.close_detached.new.names) in
    let E : World → Type 0 = Both (g.N.Nodes.stands c.close_hubs.new.nodes) (g.M.Names.stands c.close_hubs.new.names) in
    let two : State → State = λ s. names_closed (left_over_closed s) in
    let three : State → State = λ s. detached_closed (two s) in
    does_both A D E three hubs_closed _ _ _
    (does_both A C D two detached_closed _ _ _
    (does_both A B C left_over_closed names_closed _ _ _ c.close_left_over.ensures.does c.close_names.ensures.does)
    c.close_detached.ensures.does)
    c.close_hubs.ensures.does
