use Rattle.std.proofs.Common.{◌≡◌, ◌∙◌, ◌-◌, ℕ, suc, Option, Some, true, length, arith, refl, sym, ap, subst}
use Rattle.kj_base.specs.Commands.{step_of}
use Rattle.kj_model.specs.Nodes.{dropped, is_in}
use Rattle.kj_model.specs.World.{World, Held, Group, Named, held_at}
use Rattle.kj_model.specs.Changes.{named}
use Rattle.kj_model.specs.Fire.{group_error, group_left}
use Rattle.promise_nodes.specs.Shown.{link_number}
use Rattle.promise_nodes.specs.Members.{AreEachOnce, members_of}
use Rattle.promise_nodes.proofs.Listed.{lists_left}
use Rattle.promise_names.specs.declared.names.Held.{Held as HeldCase}
use Rattle.promise_names.specs.Held.{SeesHeld, regrouped_in}
use Rattle.promise_firing.proofs.Grouped.{group_is, one_less, set_seen}
use Rattle.promise_firing.proofs.task.leave_group.Goals as goal

fewer : (l d t r : ℕ) → l ≡ suc d → l ≡ t → r ≡ t - 1 → d ≡ r
fewer l d t r a b e = omega (arith, a, b, e)

pub returns-clause-stands : goal.returns-clause-stands
returns-clause-stands g c w both member =
    let n = c.args.task.number.0 in
    let group = c.args.group.0 in
    let set = c.in-Some-Group in
    let seen = set_seen set.error set.tasks set.empty (held_at group w.names) (subst (λ (h : HeldCase). SeesHeld (Some h) (held_at group w.names)) set.field-0-is (set.ensures.held w both.1)) in
    let left = dropped n seen.members in
    let old = Group (step_of set.error) seen.members (link_number set.empty) in
    let new = Group (step_of set.error) left (link_number set.empty) in
    let has : is_in n seen.members ≡ true = sym (ap (λ (o : Option Held). is_in n (members_of o)) seen.is) ∙ member in
    let apart = g.met.N.Nodes.lists_apart c.args.nodes.now w both.0 in
    let is = group_is n group old w (g.met.M.Names.once c.args.names.now w both.1) apart seen.is has in
    let once = subst (λ (o : Option Held). AreEachOnce (members_of o)) seen.is (g.met.N.Nodes.members_once c.args.nodes.now w group both.0) in
    let count = fewer (length seen.members) (length left) set.tasks c.saturating_sub.result (one_less n seen.members once has) seen.counted c.saturating_sub.ensures in
    let v = named group new w in
    let nodes = c.leave_list.ensures.stands w v both.0 refl (lists_left group n (step_of set.error) (link_number set.empty) seen.members w seen.is) in
    let names = subst (g.M.Names.stands c.regroup.new.self) (ap (λ (o : Option Held). regrouped_in o group left (link_number set.empty) w) seen.is) (c.regroup.ensures.stands w left both.1 count) in
    let done = c.announce_empty.ensures.stands v (nodes, names) in
    let same = sym (ap (λ (o : Option Named). group_left n o w) is) in
    (subst (g.N.Nodes.stands c.announce_empty.new.nodes) same done.0, subst (g.M.Names.stands c.announce_empty.new.names) same done.1)

pub returns-clause-error : goal.returns-clause-error
returns-clause-error g c w both member =
    let n = c.args.task.number.0 in
    let group = c.args.group.0 in
    let set = c.in-Some-Group in
    let seen = set_seen set.error set.tasks set.empty (held_at group w.names) (subst (λ (h : HeldCase). SeesHeld (Some h) (held_at group w.names)) set.field-0-is (set.ensures.held w both.1)) in
    let old = Group (step_of set.error) seen.members (link_number set.empty) in
    let has : is_in n seen.members ≡ true = sym (ap (λ (o : Option Held). is_in n (members_of o)) seen.is) ∙ member in
    let apart = g.met.N.Nodes.lists_apart c.args.nodes.now w both.0 in
    sym (ap group_error (group_is n group old w (g.met.M.Names.once c.args.names.now w both.1) apart seen.is has))
