use Rattle.std.proofs.Common.{◌∙◌, ap, sym, refl}
use Rattle.kj_base.specs.declared.nodes.Stage.TheVariants.{Gone as GoneCase}
use Rattle.kj_model.specs.World.{World}
use Rattle.kj_model.specs.Nodes.{Gone, Side, form_at}
use Rattle.kj_model.specs.Changes.{put, silent}
use Rattle.promise_nodes.specs.Shown.{link_number}
use Rattle.promise_walks.specs.Walks.{Both}
use Rattle.promise_walks.proofs.Bare.{adds_none}
use Rattle.promise_firing.specs.Stages.{MayBeSide, side_emptied}
use Rattle.promise_walks.proofs.Changing.{does_silent, does_none}
use Rattle.promise_firing.proofs.Fired.{maybe_kept, none_freed}
use Rattle.promise_firing.proofs.races.empty_side.Goals as goal

pub returns-in-None-clause-does : goal.returns-in-None-clause-does
returns-in-None-clause-does g c =
    let n = c.args.side.number.0 in
    let A : World → Type 0 = Both (g.N.Nodes.stands c.args.nodes.now) (g.M.Names.stands c.args.names.now) in
    let C : World → Type 0 = Both (g.N.Nodes.stands c.put-in-None.new.self) (g.M.Names.stands c.args.names.now) in
    let P : World → Type 0 = λ w. A w × MayBeSide (form_at n w.nodes) in
    does_silent P P C (λ s. s) (side_emptied n) (λ s. s) (put n (Side Gone)) _ _ (does_none P (g.S.Steps.told c.args.steps.now))
    (λ s stands mid.
    let o = form_at n s.world.nodes in
    let none = c.side_tree.ensures.tree s.world stands.0.0 ∙ ap link_number c.in-None.is in
    let nodes = c.put-in-None.ensures.stands s.world stands.0.0 (maybe_kept GoneCase o stands.1) (adds_none s.world n (Side Gone) refl) in
    ((nodes, g.met.M.Names.nodes_free c.args.names.now s.world (put n (Side Gone) s.world) refl stands.0.1), ap (silent (put n (Side Gone))) (sym (none_freed o s none))))
