use Rattle.std.proofs.Common.{◌≡◌, ◌∙◌, Option, Some, refl, sym, ap, subst}
use Rattle.kj_model.specs.Changes.{unnamed}
use Rattle.kj_model.specs.World.{World, Held, Promise, held_at}
use Rattle.promise_apply.proofs.Dropped.{sees_promise}
use Rattle.promise_eval.proofs.Loose.{taken_done}
use Rattle.promise_names.specs.Held.{SeesHeld}
use Rattle.promise_names.specs.declared.names.Held.{Held as HeldCase}
use Rattle.promise_nodes.proofs.Same.{unnamed_lists}
use Rattle.promise_nodes.specs.Members.{members_of}
use Rattle.promise_walks.specs.Walks.{Both}
use Rattle.promise_eval.proofs.ending.take_promise.Goals as goal

pub returns-clause-taken : goal.returns-clause-taken
returns-clause-taken g c s old =
    let name = c.args.name.0 in
    let root = c.in-Some-Promise.root.number.0 in
    let w = s.world in
    let New : World → Type 0 = Both (g.N.Nodes.stands c.args.nodes.now) (g.M.Names.stands c.remove.new.self) in
    let seen : SeesHeld (Some (c.in-Some-Promise.field-0)) (held_at name w.names) = subst (λ (o : Option HeldCase). SeesHeld o (held_at name w.names)) c.in-Some-Promise.is (c.get.ensures.held w old.1) in
    let held : held_at name w.names ≡ Some (Promise root) = sees_promise c.in-Some-Promise.root (held_at name w.names) (subst (λ (h : HeldCase). SeesHeld (Some h) (held_at name w.names)) c.in-Some-Promise.field-0-is seen) in
    taken_done New name root (held_at name w.names) s held
    (sym (c.holds_firing.ensures.holds w old.0) ∙ c.if-holds_firing.false)
    (g.met.N.Nodes.names_free c.args.nodes.now w (unnamed name w) refl (unnamed_lists name w (ap members_of held)) old.0, c.remove.ensures.stands w old.1)
