use Rattle.std.proofs.Common.{◌≡◌, ◌∙◌, ℕ, [], Option, Some, Bool, true, refl, sym, ap, subst, arith}
use Rattle.std.specs.Prelude.{nat_eq, cond}
use Rattle.std.proofs.lemmas.Bool.Decides.{nat_tests}
use Rattle.kj_model.specs.World.{World, Held, Group, held_at}
use Rattle.kj_model.specs.Changes.{named}
use Rattle.kj_model.specs.Effects.{now_empty}
use Rattle.promise_nodes.specs.Shown.{link_number}
use Rattle.promise_nodes.proofs.Listed.{held_named, lists_cleared}
use Rattle.promise_names.specs.Held.{regrouped, regrouped_in}
use Rattle.promise_apply.specs.Building.{Both}
use Rattle.promise_apply.specs.Sets.{IsCleared}
use Rattle.promise_apply.proofs.Tasked.{tasks_of}
use Rattle.promise_apply.proofs.Cleared.{emptied_none}
use Rattle.promise_apply.proofs.clearing.end_tasks.Goals as goal

self : (n : ℕ) → nat_eq n n ≡ true
self n = grind (arith, nat_tests)

pub returns-clause-stands : goal.returns-clause-stands
returns-clause-stands g c w both tasks =
    let group = c.args.group.0 in
    let e = link_number c.args.tasks.empty in
    let has = tasks_of c.args.tasks (held_at group w.names) tasks in
    let new = Group has.error [] e in
    let v = named group new w in
    let nodes = c.clear_list.ensures.stands w v both.0 refl (lists_cleared group has.error e w) in
    let grouped : regrouped group [] e w ≡ v = ap (λ (o : Option Held). regrouped_in o group [] e w) has.is in
    let names = subst (g.M.Names.stands c.regroup.new.self) grouped (c.regroup.ensures.stands w [] both.1 refl) in
    let at : held_at group v.names ≡ Some new = held_named group group new w ∙ ap (λ (b : Bool). cond b (Some new) (held_at group w.names)) (self group) in
    let done = c.announce_empty.ensures.stands v (nodes, names) in
    subst (λ (u : World). IsCleared (Both (g.N.Nodes.stands c.announce_empty.new.nodes) (g.M.Names.stands c.announce_empty.new.names)) group (now_empty group u)) (sym grouped)
    (done, emptied_none group has.error e v at)
