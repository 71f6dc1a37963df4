use Rattle.std.proofs.Common.{◌≡◌, ◌∙◌, [], Option, None, refl, sym, ap, subst}
use Rattle.kj_base.specs.declared.outcomes.Outcome.{Outcome}
use Rattle.kj_base.specs.Queue.{DepthFirst}
use Rattle.kj_model.specs.World.{Held, Group, held_at}
use Rattle.kj_model.specs.Changes.{named}
use Rattle.kj_model.specs.Effects.{emptied, now_empty}
use Rattle.kj_model.specs.Listening.{settled}
use Rattle.promise_nodes.specs.Members.{members_of}
use Rattle.promise_nodes.proofs.Same.{named_lists}
use Rattle.promise_names.specs.Held.{regrouped, regrouped_in}
use Rattle.promise_listening.proofs.Settled.{settled_names}
use Rattle.promise_walks.proofs.Emptied.{set_seen, stays_seen}
use Rattle.promise_walks.proofs.emptying.announce_empty.Goals as goal

pub returns-in_default-clause-stands : goal.returns-in_default-clause-stands
returns-in_default-clause-stands g c w both =
    let group = c.args.group.0 in
    let same = stays_seen group c.get.result (held_at group w.names) w (c.get.ensures.held w both.1) (sym c.empty_cell.ensures ∙ c.in_default.is) in
    (subst (g.N.Nodes.stands c.args.nodes.now) (sym same) both.0, subst (g.M.Names.stands c.args.names.now) (sym same) both.1)

pub returns-clause-stands : goal.returns-clause-stands
returns-clause-stands g c w both =
    let group = c.args.group.0 in
    let cell = c.in-Some.cell.number.0 in
    let seen = set_seen c.get.result (held_at group w.names) c.in-Some.cell (c.get.ensures.held w both.1) (sym c.empty_cell.ensures ∙ c.in-Some.is) in
    let empty = Group seen.error [] None in
    let v = named group empty w in
    let is : regrouped group [] None w ≡ v = ap (λ (o : Option Held). regrouped_in o group [] None w) seen.is in
    let nodes = g.met.N.Nodes.names_free c.args.nodes.now w v refl (named_lists group empty w (sym (ap members_of seen.is))) both.0 in
    let names = subst (g.M.Names.stands c.regroup.new.self) is (c.regroup.ensures.stands w [] both.1 refl) in
    let o = c.void.result in
    let same : settled DepthFirst cell o v ≡ now_empty group w =
    ap (λ (x : Outcome). settled DepthFirst cell x v) c.void.ensures ∙ sym (ap (λ (h : Option Held). emptied group h w) seen.is) in (
      subst (g.N.Nodes.stands c.settle.new.nodes) same (c.settle.ensures.stands v nodes),
      subst (g.M.Names.stands c.regroup.new.self) same (g.met.M.Names.nodes_free c.regroup.new.self v (settled DepthFirst cell o v) (settled_names DepthFirst cell o v) names),
    )
