use Rattle.std.proofs.Common.{[], ◌∷◌, refl, sym, ap, ◌∙◌}
use Rattle.kj_model.specs.World.{held_at}
use Rattle.kj_model.specs.Effects.{cell_dropped}
use Rattle.kj_model.specs.Uses.{use_as, IsCell}
use Rattle.promise_nodes.specs.Shown.{link_number}
use Rattle.promise_apply.specs.Building.{Both}
use Rattle.promise_apply.proofs.Refused.{refused_so, done_applies}
use Rattle.promise_apply.proofs.Passed.{first_role, cell_held, cell_there}
use Rattle.promise_apply.proofs.applying.apply_drop_cell.Goals as goal

pub returns-in_err-check-clause-applied : goal.returns-in_err-check-clause-applied
returns-in_err-check-clause-applied g c cmd is =
    refused_so (Both (g.N.Nodes.stands c.args.nodes.now) (g.M.Names.stands c.args.names.now)) g.N.Nodes.rule c.from_residual.result c.in_err-check.field-0.0 cmd (use_as IsCell c.args.name.0 ∷ []) ([]) (λ w. []) (cell_dropped c.args.name.0) c.from_residual.ensures.1 is
    (λ w old. c.in_err-check.ensures.refusal w old) (λ w old p. refl)

pub returns-in-Some-clause-applied : goal.returns-in-Some-clause-applied
returns-in-Some-clause-applied g c cmd is =
    done_applies (Both (g.N.Nodes.stands c.args.nodes.now) (g.M.Names.stands c.args.names.now)) (Both (g.N.Nodes.stands c.drop_cell.new.nodes) (g.M.Names.stands c.drop_cell.new.names)) g.N.Nodes.rule cmd (use_as IsCell c.args.name.0 ∷ []) ([]) (λ w. []) (cell_dropped c.args.name.0) is
    (λ w old. sym (c.in_ok-check.ensures.refusal w old)) (λ w old p. refl)
    (λ w old p. c.drop_cell.ensures.stands w old (cell_held (held_at c.args.name.0 w.names) (link_number c.cell_named.result) c.in-Some.cell.number.0 (first_role IsCell c.args.name.0 [] w p) (λ n h. c.cell_named.ensures w n old.1 h) (ap link_number c.in-Some.is)))

pub returns-in-None-clause-applied : goal.returns-in-None-clause-applied
returns-in-None-clause-applied g c cmd is =
    done_applies (Both (g.N.Nodes.stands c.args.nodes.now) (g.M.Names.stands c.args.names.now)) (Both (g.N.Nodes.stands c.args.nodes.now) (g.M.Names.stands c.args.names.now)) g.N.Nodes.rule cmd (use_as IsCell c.args.name.0 ∷ []) ([]) (λ w. []) (cell_dropped c.args.name.0) is
    (λ w old. sym (c.in_ok-check.ensures.refusal w old)) (λ w old p. refl)
    (λ w old p. absurd (cell_there (held_at c.args.name.0 w.names) (first_role IsCell c.args.name.0 [] w p) (λ n h. sym (ap link_number c.in-None.is) ∙ c.cell_named.ensures w n old.1 h)))
