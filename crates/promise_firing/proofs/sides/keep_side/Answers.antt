use Rattle.std.proofs.Common.{Some, refl}
use Rattle.kj_model.specs.World.{World}
use Rattle.kj_model.specs.Value.{freed}
use Rattle.kj_model.specs.Fire.{keeps, kept_then, fast_announced}
use Rattle.promise_walks.specs.Walks.{Both}
use Rattle.promise_firing.specs.Outliving.{Outlives}
use Rattle.promise_firing.specs.Stages.{sides_of}
use Rattle.promise_walks.proofs.Changing.{does_silent, does_less}
use Rattle.promise_firing.proofs.Same.{fast_names, keeps_names, keeps_others}
use Rattle.promise_firing.proofs.sides.keep_side.Goals as goal

pub returns-clause-does : goal.returns-clause-does
returns-clause-does g c =
    let n = c.args.side.number.0 in
    let t = c.args.tree.number.0 in
    let o = c.args.outcome in
    let join = c.args.joined.join.number.0 in
    let sides = sides_of c.args.joined in
    let was = c.args.was_ready in
    let A : World → Type 0 = Both (g.N.Nodes.stands c.args.nodes.now) (g.M.Names.stands c.args.names.now) in
    let B : World → Type 0 = Both (g.N.Nodes.stands c.free_part.new.nodes) (g.M.Names.stands c.free_part.new.names) in
    let C : World → Type 0 = Both (g.N.Nodes.stands c.announce_once.new.nodes) (g.M.Names.stands c.free_part.new.names) in
    let P : World → Type 0 = λ w. A w × Outlives join t w in
    let change : World → World = λ w. fast_announced was join sides (keeps n o w) in
    does_silent P B C (freed t) (kept_then (fast_announced was join sides) n t (Some o)) (λ s. s) change _ _ (does_less A P B (freed t) (λ s. s) _ _ (λ w h. h.0) c.free_part.ensures.does)
    (λ s stands mid.
    let v = (freed t s).world in
    let u = keeps n o v in
    let live = keeps_others n join o v (stands.1 s.past) in
    let nodes = c.announce_once.ensures.stands u (c.keep.ensures.stands v mid.0) live in
    let kept = g.met.M.Names.nodes_free c.free_part.new.names v u (keeps_names n o v) mid.1 in
    ((nodes, g.met.M.Names.nodes_free c.free_part.new.names u (change v) (fast_names was join sides u) kept), refl))
