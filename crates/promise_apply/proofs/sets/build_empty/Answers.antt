use Rattle.std.proofs.Common.{◌≡◌, ◌∙◌, ℕ, Option, Some, None, sym, ap, subst, refl}
use Rattle.kj_model.specs.Nodes.{Cell}
use Rattle.kj_model.specs.World.{Held, Group, held_at}
use Rattle.kj_model.specs.Changes.{named}
use Rattle.kj_model.specs.Effects.{leaf_built, empty_built}
use Rattle.promise_nodes.specs.Shown.{link_number}
use Rattle.promise_nodes.specs.Members.{members_of}
use Rattle.promise_nodes.proofs.Same.{named_lists}
use Rattle.promise_names.specs.Held.{regrouped, regrouped_in}
use Rattle.promise_apply.proofs.Passed.{listless}
use Rattle.promise_apply.proofs.Tasked.{apart_new, empty_later, leaf_held, tasks_of}
use Rattle.promise_apply.proofs.sets.build_empty.Goals as goal

pub returns-clause-stands : goal.returns-clause-stands
returns-clause-stands g c w both tasks none =
    let name = c.args.name.0 in
    let group = c.args.group.0 in
    let e = link_number c.args.tasks.empty in
    let n = c.build_leaf-cell.result.number.0 in
    let leaf = leaf_built name (Cell None) w in
    let has = tasks_of c.args.tasks (held_at group w.names) tasks in
    let built = c.build_leaf-cell.ensures.stands w both (listless name w none) in
    let at : held_at group leaf.names ≡ Some (Group has.error has.members e) = leaf_held group name (Cell None) w (apart_new group name c.args.tasks w tasks none) ∙ has.is in
    let v = named group (Group has.error has.members (Some n)) leaf in
    let nodes = g.met.N.Nodes.names_free c.build_leaf-cell.new.nodes leaf v refl (named_lists group (Group has.error has.members (Some n)) leaf (sym (ap members_of at))) built.0 in
    let grouped : regrouped group has.members (Some n) leaf ≡ v = ap (λ (o : Option Held). regrouped_in o group has.members (Some n) leaf) at in
    let names = subst (g.M.Names.stands c.regroup.new.self) grouped (c.regroup.ensures.stands leaf has.members built.1 has.counted) in
    let number : n ≡ w.next = c.build_leaf-cell.ensures.number ∙ sym (g.met.N.Nodes.next_is c.args.nodes.now w both.0) in
    let same : v ≡ empty_built name group w =
    ap (λ (m : ℕ). named group (Group has.error has.members (Some m)) leaf) number
    ∙ empty_later name group c.args.tasks (held_at group w.names) w has c.if-tasks-eq0.false in
    (subst (g.N.Nodes.stands c.build_leaf-cell.new.nodes) same nodes, subst (g.M.Names.stands c.regroup.new.self) same names)
