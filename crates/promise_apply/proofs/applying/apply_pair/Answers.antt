use Rattle.std.proofs.Common.{[], ◌∷◌, None, refl, sym}
use Rattle.kj_base.specs.Places.{row}
use Rattle.kj_model.specs.Nodes.{Cell}
use Rattle.kj_model.specs.Uses.{use_as, IsNew}
use Rattle.kj_model.specs.Apply.{anew}
use Rattle.promise_apply.specs.Building.{Both, pair_built}
use Rattle.promise_apply.proofs.Refused.{refused_so, done_applies}
use Rattle.promise_apply.proofs.Passed.{new_absent, second_absent, listless, leaf_listless}
use Rattle.promise_apply.proofs.applying.apply_pair.Goals as goal

pub returns-in_err-check-clause-applied : goal.returns-in_err-check-clause-applied
returns-in_err-check-clause-applied g c cmd is =
    refused_so (Both (g.N.Nodes.stands c.args.nodes.now) (g.M.Names.stands c.args.names.now)) g.N.Nodes.rule c.from_residual.result c.in_err-check.field-0.0 cmd (use_as IsNew c.args.name.0 ∷ use_as IsNew c.args.cell.0 ∷ []) (row None 1 ∷ []) (λ w. anew 1 ∷ []) (pair_built c.args.name.0 c.args.cell.0) c.from_residual.ensures.1 is
    (λ w old. c.in_err-check.ensures.refusal w old) (λ w old p. refl)

pub returns-clause-applied : goal.returns-clause-applied
returns-clause-applied g c cmd is =
    done_applies (Both (g.N.Nodes.stands c.args.nodes.now) (g.M.Names.stands c.args.names.now)) (Both (g.N.Nodes.stands c.build_pair.new.nodes) (g.M.Names.stands c.build_pair.new.names)) g.N.Nodes.rule cmd (use_as IsNew c.args.name.0 ∷ use_as IsNew c.args.cell.0 ∷ []) (row None 1 ∷ []) (λ w. anew 1 ∷ []) (pair_built c.args.name.0 c.args.cell.0) is
    (λ w old. sym (c.in_ok-check.ensures.refusal w old)) (λ w old p. refl)
    (λ w old p. c.build_pair.ensures.stands w old (record { promise = listless c.args.name.0 w (new_absent c.args.name.0 (use_as IsNew c.args.cell.0 ∷ []) w p); fulfiller = leaf_listless c.args.cell.0 c.args.name.0 (Cell None) w (second_absent c.args.name.0 c.args.cell.0 w p) }))
