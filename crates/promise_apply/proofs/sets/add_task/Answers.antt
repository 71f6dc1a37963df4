use Rattle.std.proofs.Common.{◌≡◌, ◌∙◌, ◌+◌, ℕ, ◌<◌, ◌≤◌, [], ◌∷◌, ◌++◌, Option, Some, true, sym, ap, subst, refl, length, length-append, arith}
use Rattle.std.specs.Prelude.{◌-◌, ◌^◌, min}
use Rattle.kj_model.specs.Nodes.{Task, is_in}
use Rattle.kj_model.specs.World.{Held, Group, held_at}
use Rattle.kj_model.specs.Changes.{named, unnamed}
use Rattle.kj_model.specs.Effects.{node_of, node_named, over_built, added, added_in}
use Rattle.kj_model.specs.Listening.{listened}
use Rattle.promise_nodes.specs.Shown.{link_number}
use Rattle.promise_nodes.specs.Members.{AreEachOnce, IsNoMember, lists_in, members_of}
use Rattle.promise_nodes.proofs.Listed.{lists_added}
use Rattle.promise_names.specs.Held.{regrouped, regrouped_in}
use Rattle.promise_walks.proofs.Members.{few_below}
use Rattle.promise_apply.specs.Building.{over_shown}
use Rattle.promise_apply.specs.declared.building.Over.TheVariants.{Task as TaskCase}
use Rattle.promise_apply.proofs.Same.{listened_names}
use Rattle.promise_apply.proofs.Live.{built_live, unlisted_member}
use Rattle.promise_apply.proofs.Tasked.{apart_source, over_held, over_lists, tasks_of}
use Rattle.promise_apply.proofs.sets.add_task.Goals as goal

sum_fits : (more members count next result : ℕ) → more ≡ members + 1 → members ≡ count → members ≤ next → next < 2 ^ 63 + 8 → result ≡ min (count + 1) (2 ^ 64 - 1) → more ≡ result
sum_fits more members count next result longer counts few low sum = omega (arith, longer, counts, few, low, sum)

pub returns-clause-stands : goal.returns-clause-stands
returns-clause-stands g c w both tasks held =
    let group = c.args.group.0 in
    let source = c.args.source.0 in
    let t = c.args.root.number.0 in
    let e = link_number c.args.tasks.empty in
    let next = g.N.Nodes.next c.args.nodes.now in
    let form = over_shown TaskCase in
    let over = over_built form source w in
    let n = c.take_source-task.result.number.0 in
    let taken = c.take_source-task.ensures.stands w both held in
    let number : n ≡ w.next = c.take_source-task.ensures.number ∙ sym (g.met.N.Nodes.next_is c.args.nodes.now w both.0) in
    let has = tasks_of c.args.tasks (held_at group w.names) tasks in
    let at : held_at group over.names ≡ Some (Group has.error has.members e) = over_held group source form w (apart_source group source t c.args.tasks w tasks held) ∙ has.is in
    let v = named group (Group has.error (has.members ++ n ∷ []) e) over in
    let live = built_live n (node_named source w) (Task (Some (node_named source w))) (unnamed source w) number in
    let old_member : (m list : ℕ) → is_in m (lists_in w list) ≡ true → m < next = λ m list h. g.met.N.Nodes.members_built c.args.nodes.now w list m both.0 h in
    let new : IsNoMember n (lists_in over) = unlisted_member next n (lists_in over)
    (λ list h. old_member n list (ap (is_in n) (sym (over_lists source form w (ap members_of held) list)) ∙ h)) c.take_source-task.ensures.number in
    let joined = c.join_list.ensures.stands over v taken.0 live new refl (lists_added group n has.error e has.members over at) in
    let same_members : lists_in w group ≡ has.members = ap members_of has.is in
    let few : length has.members ≤ next = few_below has.members next (subst AreEachOnce same_members (g.met.N.Nodes.members_once c.args.nodes.now w group both.0))
    (λ m h. old_member m group (ap (is_in m) same_members ∙ h)) in
    let longer : length (has.members ++ n ∷ []) ≡ length has.members + 1 = length-append has.members (n ∷ []) in
    let counts = has.counted in
    let low = c.requires.numbers in
    let sum = c.saturating_add-count.ensures in
    let more : length (has.members ++ n ∷ []) ≡ c.saturating_add-count.result = sum_fits (length (has.members ++ n ∷ [])) (length has.members) c.args.tasks.count next c.saturating_add-count.result longer counts few low sum in
    let counted = c.regroup.ensures.stands over (has.members ++ n ∷ []) taken.1 more in
    let grouped : regrouped group (has.members ++ n ∷ []) e over ≡ v = ap (λ (o : Option Held). regrouped_in o group (has.members ++ n ∷ []) e over) at in
    let names = g.met.M.Names.nodes_free c.regroup.new.self v (listened t v) (listened_names t v) (subst (g.M.Names.stands c.regroup.new.self) grouped counted) in
    let root : node_of (held_at source w.names) ≡ t = ap node_of held in
    let same : listened t v ≡ added group source w =
    ap (λ (m : ℕ). listened t (named group (Group has.error (has.members ++ m ∷ []) e) over)) number
    ∙ ap (λ (o : Option Held). listened t (added_in group w.next o over)) (sym has.is)
    ∙ ap (λ (r : ℕ). listened r (added_in group w.next (held_at group w.names) over)) (sym root) in
    (subst (g.N.Nodes.stands c.listen.new.nodes) same (c.listen.ensures.stands v joined), subst (g.M.Names.stands c.regroup.new.self) same names)
