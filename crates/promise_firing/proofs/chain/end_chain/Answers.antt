use Rattle.std.proofs.Common.{◌∙◌, sym, Some, refl, subst}
use Rattle.kj_model.specs.World.{World}
use Rattle.kj_model.specs.Nodes.{Ready}
use Rattle.kj_model.specs.Changes.{gone, put}
use Rattle.kj_model.specs.Listening.{listened}
use Rattle.kj_model.specs.Value.{Gave, Took, freed}
use Rattle.kj_model.specs.Fire.{chain_ended, replaced}
use Rattle.promise_walks.specs.Walks.{Both, Does}
use Rattle.promise_walks.specs.declared.land.Given.{Given}
use Rattle.promise_walks.specs.Values.{given_of}
use Rattle.promise_walks.proofs.Composed.{does_then}
use Rattle.promise_firing.specs.Outliving.{MayEnd}
use Rattle.promise_walks.proofs.Changing.{does_silent, does_less}
use Rattle.promise_firing.proofs.Kept.{keeps_rest}
use Rattle.promise_firing.proofs.Same.{listened_names}
use Rattle.promise_firing.proofs.chain.end_chain.Goals as goal

pub returns-in-Gave-clause-does : goal.returns-in-Gave-clause-does
returns-in-Gave-clause-does g c =
    let n = c.args.chain.number.0 in
    let t = c.args.link.number.0 in
    let o = c.in-Gave.outcome in
    let A : World → Type 0 = Both (g.N.Nodes.stands c.args.nodes.now) (g.M.Names.stands c.args.names.now) in
    let B : World → Type 0 = Both (g.N.Nodes.stands c.free_part.new.nodes) (g.M.Names.stands c.free_part.new.names) in
    let C : World → Type 0 = Both (g.N.Nodes.stands c.become_ready.new.nodes) (g.M.Names.stands c.free_part.new.names) in
    let P : World → Type 0 = λ w. A w × MayEnd n t (Gave o) w in
    let change : World → World = λ w. listened n (put n (Ready o) w) in
    subst (λ (x : Given). Does (λ (w : World). A w × MayEnd n t (given_of x) w) C (chain_ended n t (Some (given_of x))) (λ s. s) (g.S.Steps.told c.args.steps.now) (g.S.Steps.told c.free_part.new.steps)) (sym c.in-Gave.is) (does_silent P B C (freed t) (chain_ended n t (Some (Gave o))) (λ s. s) change _ _ (does_less A P B (freed t) (λ s. s) _ _ (λ w h. h.0) c.free_part.ensures.does)
    (λ s stands mid.
    let v = (freed t s).world in
    let ready = put n (Ready o) v in
    ((c.become_ready.ensures.stands v mid.0, g.met.M.Names.nodes_free c.free_part.new.names ready (change v) (listened_names n ready) (g.met.M.Names.nodes_free c.free_part.new.names v ready refl mid.1)), refl)))

pub returns-in-Took-clause-does : goal.returns-in-Took-clause-does
returns-in-Took-clause-does g c =
    let n = c.args.chain.number.0 in
    let t = c.args.link.number.0 in
    let root = c.in-Took.root.number.0 in
    let A : World → Type 0 = Both (g.N.Nodes.stands c.args.nodes.now) (g.M.Names.stands c.args.names.now) in
    let B : World → Type 0 = Both (g.N.Nodes.stands c.free_part.new.nodes) (g.M.Names.stands c.free_part.new.names) in
    let C : World → Type 0 = Both (g.N.Nodes.stands c.listen.new.nodes) (g.M.Names.stands c.give_place.new.names) in
    let D : World → Type 0 = Both (g.N.Nodes.stands c.drop_plain.new.nodes) (g.M.Names.stands c.give_place.new.names) in
    let P : World → Type 0 = λ w. A w × MayEnd n t (Took root) w in
    let change : World → World = λ w. listened root (replaced n root w) in
    let first = does_silent P B C (freed t) (chain_ended n t (Some (Took root))) (gone n) change _ _ (does_less A P B (freed t) (λ s. s) _ _ (λ w h. h.0) c.free_part.ensures.does)
    (λ s stands mid.
    let v = (freed t s).world in
    let place = stands.1 s.past in
    let u = replaced n root v in
    let both = c.give_place.ensures.stands v mid place.lives place.place in
    ((c.listen.ensures.stands u both.0, g.met.M.Names.nodes_free c.give_place.new.names u (change v) (listened_names root u) both.1), refl)) in
    subst (λ (x : Given). Does (λ (w : World). A w × MayEnd n t (given_of x) w) D (chain_ended n t (Some (given_of x))) (λ s. s) (g.S.Steps.told c.args.steps.now) (g.S.Steps.told c.drop_plain.new.steps)) (sym c.in-Took.is)
    (does_then P C D (chain_ended n t (Some (Took root))) (gone n) (λ s. s) _ _ _ first c.drop_plain.ensures.does)

pub returns-in-Gave-clause-kept : goal.returns-in-Gave-clause-kept
returns-in-Gave-clause-kept g c =
    let one = c.free_part.ensures in
    let two = c.become_ready.ensures in
    keeps_rest _ _ c.requires.sound (record {
      taken = λ n h. one.taken n (two.taken n h);
      plain = λ n h. two.plain n (one.plain n h);
      next_is = two.next ∙ one.next;
      slots_are = two.slots ∙ one.slots;
      roots = one.roots;
      count = one.count;
      limit_is = one.limit;
      frames = one.stack_room;
      search = one.room;
    })
