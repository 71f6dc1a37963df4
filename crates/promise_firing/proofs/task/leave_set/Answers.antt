use Rattle.std.proofs.Common.{None, Option, ap, refl, subst, sym}
use Rattle.kj_model.specs.World.{Named}
use Rattle.kj_model.specs.Nodes.{Task}
use Rattle.kj_model.specs.Changes.{put}
use Rattle.kj_model.specs.Fire.{group_error, group_left}
use Rattle.promise_nodes.specs.Kept.{without_detached}
use Rattle.promise_names.specs.Held.{with_left_over}
use Rattle.promise_firing.proofs.Grouped.{no_group}
use Rattle.promise_firing.proofs.Same.{put_live}
use Rattle.promise_firing.proofs.task.leave_set.Goals as goal

pub returns-in-Some-clause-stands : goal.returns-in-Some-clause-stands
returns-in-Some-clause-stands g c w both live =
    let n = c.args.task.number.0 in
    let bare = put n (Task None) w in
    let listless = without_detached n bare in
    let over = with_left_over n listless in
    let nodes = g.met.N.Nodes.names_free c.delist.new.self listless over refl (λ l. refl) (c.delist.ensures.stands bare (c.put_bare.ensures.stands w both.0)) in
    let names = c.leave_over.ensures.stands listless (g.met.M.Names.nodes_free c.args.names.now w listless refl both.1) in
    c.leave_group.ensures.stands over (nodes, names) (c.in-Some.ensures over nodes (put_live n n (Task None) w live))

pub returns-in-Some-clause-error : goal.returns-in-Some-clause-error
returns-in-Some-clause-error g c w both live =
    let n = c.args.task.number.0 in
    let bare = put n (Task None) w in
    let listless = without_detached n bare in
    let over = with_left_over n listless in
    let nodes = g.met.N.Nodes.names_free c.delist.new.self listless over refl (λ l. refl) (c.delist.ensures.stands bare (c.put_bare.ensures.stands w both.0)) in
    let names = c.leave_over.ensures.stands listless (g.met.M.Names.nodes_free c.args.names.now w listless refl both.1) in
    c.leave_group.ensures.error over (nodes, names) (c.in-Some.ensures over nodes (put_live n n (Task None) w live))

pub returns-in-None-clause-stands : goal.returns-in-None-clause-stands
returns-in-None-clause-stands g c w both live =
    let n = c.args.task.number.0 in
    let bare = put n (Task None) w in
    let listless = without_detached n bare in
    let over = with_left_over n listless in
    let nodes = g.met.N.Nodes.names_free c.delist.new.self listless over refl (λ l. refl) (c.delist.ensures.stands bare (c.put_bare.ensures.stands w both.0)) in
    let names = c.leave_over.ensures.stands listless (g.met.M.Names.nodes_free c.args.names.now w listless refl both.1) in
    let none = no_group n over (g.met.M.Names.once c.leave_over.new.self over names) (c.in-None.ensures over nodes (put_live n n (Task None) w live)) in
    let same = sym (ap (λ (o : Option Named). group_left n o over) none) in
    (subst (g.N.Nodes.stands c.delist.new.self) same nodes, subst (g.M.Names.stands c.leave_over.new.self) same names)

pub returns-in-None-clause-error : goal.returns-in-None-clause-error
returns-in-None-clause-error g c w both live =
    let n = c.args.task.number.0 in
    let bare = put n (Task None) w in
    let listless = without_detached n bare in
    let over = with_left_over n listless in
    let nodes = g.met.N.Nodes.names_free c.delist.new.self listless over refl (λ l. refl) (c.delist.ensures.stands bare (c.put_bare.ensures.stands w both.0)) in
    let names = c.leave_over.ensures.stands listless (g.met.M.Names.nodes_free c.args.names.now w listless refl both.1) in
    sym (ap group_error (no_group n over (g.met.M.Names.once c.leave_over.new.self over names) (c.in-None.ensures over nodes (put_live n n (Task None) w live))))
