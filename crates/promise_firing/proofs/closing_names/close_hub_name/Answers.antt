use Rattle.std.proofs.Common.{sym, ap, ℕ, ◌+◌, []}
use Rattle.kj_model.specs.Nodes.{form_at}
use Rattle.kj_model.specs.World.{World, State}
use Rattle.kj_model.specs.Effects.{hub_unnamed}
use Rattle.kj_model.specs.Free.{Holding, free_to, reference_gone}
use Rattle.promise_walks.specs.Walks.{Both}
use Rattle.promise_walks.proofs.Composed.{does_from}
use Rattle.promise_firing.specs.Closed.{free_one}
use Rattle.promise_walks.proofs.Changing.{does_behind}
use Rattle.promise_walks.proofs.Unnamed.{unnamed_names, unreferenced_same}
use Rattle.promise_firing.proofs.closing_names.close_hub_name.Goals as goal

pub returns-clause-does : goal.returns-clause-does
returns-clause-does g c =
    let hub = c.args.hub.number.0 in
    let nodes = c.unname_hub.new.nodes in
    let names = c.args.names.now in
    let A : World → Type 0 = Both (g.N.Nodes.stands c.args.nodes.now) (g.M.Names.stands names) in
    let B : World → Type 0 = Both (g.N.Nodes.stands nodes) (g.M.Names.stands names) in
    let C : World → Type 0 = Both (g.N.Nodes.stands c.free_unreferenced.new.nodes) (g.M.Names.stands c.free_unreferenced.new.names) in
    let free : ℕ → State → State = free_to (Holding []) (g.N.Nodes.slots nodes + 1) in
    does_behind A B C (reference_gone (Holding []) free_one hub) (hub_unnamed hub) _ _
    (λ w stands. (c.unname_hub.ensures.stands w stands.0, g.met.M.Names.nodes_free names w (hub_unnamed hub w) (unnamed_names hub w) stands.1))
    (does_from B C (reference_gone (Holding []) free hub) (reference_gone (Holding []) free_one hub) (λ s. s) _ _
    (λ s stands. unreferenced_same (Holding []) free free_one hub (form_at hub s.world.nodes) s (ap (λ (k : ℕ). free_to (Holding []) (k + 1) hub s) (sym (g.met.N.Nodes.slots_are nodes s.world stands.0))))
    c.free_unreferenced.ensures.does)
