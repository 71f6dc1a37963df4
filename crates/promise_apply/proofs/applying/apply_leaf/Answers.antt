use Rattle.std.proofs.Common.{[], ◌∷◌, None, refl, sym}
use Rattle.kj_base.specs.Places.{row}
use Rattle.kj_model.specs.Effects.{leaf_built}
use Rattle.kj_model.specs.Uses.{use_as, IsNew}
use Rattle.kj_model.specs.Apply.{anew}
use Rattle.promise_nodes.specs.Shown.{shown}
use Rattle.promise_apply.specs.Building.{Both}
use Rattle.promise_apply.proofs.Refused.{refused_so, done_applies}
use Rattle.promise_apply.proofs.Passed.{new_absent, listless}
use Rattle.promise_apply.proofs.applying.apply_leaf.Goals as goal

pub returns-in_err-check-clause-applied : goal.returns-in_err-check-clause-applied
returns-in_err-check-clause-applied g c cmd is =
    refused_so (Both (g.N.Nodes.stands c.args.nodes.now) (g.M.Names.stands c.args.names.now)) g.N.Nodes.rule c.from_residual.result c.in_err-check.field-0.0 cmd (use_as IsNew c.args.name.0 ∷ []) (row None 1 ∷ []) (λ w. anew 1 ∷ []) (leaf_built c.args.name.0 (shown [] c.args.form)) c.from_residual.ensures.1 is
    (λ w old. c.in_err-check.ensures.refusal w old) (λ w old p. refl)

pub returns-clause-applied : goal.returns-clause-applied
returns-clause-applied g c cmd is =
    done_applies (Both (g.N.Nodes.stands c.args.nodes.now) (g.M.Names.stands c.args.names.now)) (Both (g.N.Nodes.stands c.build_leaf.new.nodes) (g.M.Names.stands c.build_leaf.new.names)) g.N.Nodes.rule cmd (use_as IsNew c.args.name.0 ∷ []) (row None 1 ∷ []) (λ w. anew 1 ∷ []) (leaf_built c.args.name.0 (shown [] c.args.form)) is
    (λ w old. sym (c.in_ok-check.ensures.refusal w old)) (λ w old p. refl)
    (λ w old p. c.build_leaf.ensures.stands w old (listless c.args.name.0 w (new_absent c.args.name.0 [] w p)))
