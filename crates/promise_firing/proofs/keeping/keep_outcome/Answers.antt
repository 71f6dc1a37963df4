use Rattle.std.proofs.Common.{◌∙◌, Some, refl}
use Rattle.kj_base.specs.Queue.{DepthFirst}
use Rattle.kj_model.specs.World.{World}
use Rattle.kj_model.specs.Listening.{announced}
use Rattle.kj_model.specs.Value.{freed}
use Rattle.kj_model.specs.Fire.{keeps, kept_then}
use Rattle.promise_walks.specs.Walks.{Both}
use Rattle.promise_firing.specs.Outliving.{Outlives}
use Rattle.promise_walks.proofs.Changing.{does_silent, does_less}
use Rattle.promise_firing.proofs.Kept.{keeps_rest}
use Rattle.promise_firing.proofs.Same.{announced_names, keeps_names, keeps_live}
use Rattle.promise_firing.proofs.keeping.keep_outcome.Goals as goal

pub returns-clause-does : goal.returns-clause-does
returns-clause-does g c =
    let n = c.args.node.number.0 in
    let t = c.args.tree.number.0 in
    let o = c.args.outcome in
    let A : World → Type 0 = Both (g.N.Nodes.stands c.args.nodes.now) (g.M.Names.stands c.args.names.now) in
    let B : World → Type 0 = Both (g.N.Nodes.stands c.free_part.new.nodes) (g.M.Names.stands c.free_part.new.names) in
    let C : World → Type 0 = Both (g.N.Nodes.stands c.announce.new.nodes) (g.M.Names.stands c.free_part.new.names) in
    let P : World → Type 0 = λ w. A w × Outlives n t w in
    let change : World → World = λ w. announced DepthFirst n (keeps n o w) in
    does_silent P B C (freed t) (kept_then (announced DepthFirst n) n t (Some o)) (λ s. s) change _ _ (does_less A P B (freed t) (λ s. s) _ _ (λ w h. h.0) c.free_part.ensures.does)
    (λ s stands mid.
    let v = (freed t s).world in
    let live = keeps_live n o v (stands.1 s.past) in
    let nodes = c.announce.ensures.stands (keeps n o v) (c.keep.ensures.stands v mid.0) live in
    let kept = g.met.M.Names.nodes_free c.free_part.new.names v (keeps n o v) (keeps_names n o v) mid.1 in
    ((nodes, g.met.M.Names.nodes_free c.free_part.new.names (keeps n o v) (change v) (announced_names DepthFirst n (keeps n o v)) kept), refl))

pub returns-clause-kept : goal.returns-clause-kept
returns-clause-kept g c =
    let one = c.free_part.ensures in
    let two = c.keep.ensures in
    let three = c.announce.ensures in
    keeps_rest _ _ c.requires.sound (record {
      taken = λ n h. one.taken n (two.taken n (three.taken n h));
      plain = λ n h. three.plain n (two.plain n (one.plain n h));
      next_is = three.next ∙ two.next ∙ one.next;
      slots_are = three.slots ∙ two.slots ∙ one.slots;
      roots = one.roots;
      count = one.count;
      limit_is = one.limit;
      frames = one.stack_room;
      search = one.room;
    })
