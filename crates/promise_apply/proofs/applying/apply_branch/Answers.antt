use Rattle.std.proofs.Common.{[], ◌∷◌, None, refl, sym, ap, ◌∙◌}
use Rattle.kj_base.specs.Places.{row}
use Rattle.kj_model.specs.World.{held_at}
use Rattle.kj_model.specs.Effects.{branch_built}
use Rattle.kj_model.specs.Uses.{use_as, IsNew, IsHub}
use Rattle.kj_model.specs.Apply.{anew}
use Rattle.promise_nodes.specs.Shown.{link_number}
use Rattle.promise_apply.specs.Building.{Both}
use Rattle.promise_apply.proofs.Refused.{refused_so, done_applies}
use Rattle.promise_apply.proofs.Passed.{new_absent, second_role, hub_held, hub_there, listless}
use Rattle.promise_apply.proofs.applying.apply_branch.Goals as goal

pub returns-in_err-check-clause-applied : goal.returns-in_err-check-clause-applied
returns-in_err-check-clause-applied g c cmd is =
    refused_so (Both (g.N.Nodes.stands c.args.nodes.now) (g.M.Names.stands c.args.names.now)) g.N.Nodes.rule c.from_residual.result c.in_err-check.field-0.0 cmd (use_as IsNew c.args.name.0 ∷ use_as IsHub c.args.hub.0 ∷ []) (row None 1 ∷ []) (λ w. anew 1 ∷ []) (branch_built c.args.name.0 c.args.hub.0) c.from_residual.ensures.1 is
    (λ w old. c.in_err-check.ensures.refusal w old) (λ w old p. refl)

pub returns-in-Some-clause-applied : goal.returns-in-Some-clause-applied
returns-in-Some-clause-applied g c cmd is =
    done_applies (Both (g.N.Nodes.stands c.args.nodes.now) (g.M.Names.stands c.args.names.now)) (Both (g.N.Nodes.stands c.build_branch.new.nodes) (g.M.Names.stands c.build_branch.new.names)) g.N.Nodes.rule cmd (use_as IsNew c.args.name.0 ∷ use_as IsHub c.args.hub.0 ∷ []) (row None 1 ∷ []) (λ w. anew 1 ∷ []) (branch_built c.args.name.0 c.args.hub.0) is
    (λ w old. sym (c.in_ok-check.ensures.refusal w old)) (λ w old p. refl)
    (λ w old p. c.build_branch.ensures.stands w old (hub_held (held_at c.args.hub.0 w.names) (link_number c.hub_named.result) c.in-Some.node.number.0 (second_role IsHub c.args.hub.0 (use_as IsNew c.args.name.0) [] w p) (λ n h. c.hub_named.ensures w n old.1 h) (ap link_number c.in-Some.is)) (listless c.args.name.0 w (new_absent c.args.name.0 (use_as IsHub c.args.hub.0 ∷ []) w p)))

pub returns-in-None-clause-applied : goal.returns-in-None-clause-applied
returns-in-None-clause-applied g c cmd is =
    done_applies (Both (g.N.Nodes.stands c.args.nodes.now) (g.M.Names.stands c.args.names.now)) (Both (g.N.Nodes.stands c.args.nodes.now) (g.M.Names.stands c.args.names.now)) g.N.Nodes.rule cmd (use_as IsNew c.args.name.0 ∷ use_as IsHub c.args.hub.0 ∷ []) (row None 1 ∷ []) (λ w. anew 1 ∷ []) (branch_built c.args.name.0 c.args.hub.0) is
    (λ w old. sym (c.in_ok-check.ensures.refusal w old)) (λ w old p. refl)
    (λ w old p. absurd (hub_there (held_at c.args.hub.0 w.names) (second_role IsHub c.args.hub.0 (use_as IsNew c.args.name.0) [] w p) (λ n h. sym (ap link_number c.in-None.is) ∙ c.hub_named.ensures w n old.1 h)))
