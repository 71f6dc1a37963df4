use Rattle.std.proofs.Common.{[], ◌∷◌, Option, None, refl, sym, subst}
use Rattle.kj_base.specs.Places.{row}
use Rattle.kj_model.specs.World.{held_at}
use Rattle.kj_model.specs.Effects.{empty_built}
use Rattle.kj_model.specs.Uses.{use_as, IsNew, IsGroupAlone}
use Rattle.kj_model.specs.Apply.{anew}
use Rattle.promise_apply.specs.Building.{Both}
use Rattle.promise_apply.specs.Sets.{SeesTasks}
use Rattle.promise_apply.specs.declared.sets.Tasks.{Tasks}
use Rattle.promise_apply.proofs.Refused.{refused_so, done_applies}
use Rattle.promise_apply.proofs.Passed.{new_absent, second_role}
use Rattle.promise_apply.proofs.Tasked.{tasks_there}
use Rattle.promise_apply.proofs.sets.apply_empty.Goals as goal

pub returns-in_err-check-clause-applied : goal.returns-in_err-check-clause-applied
returns-in_err-check-clause-applied g c cmd is =
    refused_so (Both (g.N.Nodes.stands c.args.nodes.now) (g.M.Names.stands c.args.names.now)) g.N.Nodes.rule c.from_residual.result c.in_err-check.field-0.0 cmd (use_as IsNew c.args.name.0 ∷ use_as IsGroupAlone c.args.group.0 ∷ []) (row None 1 ∷ []) (λ w. anew 1 ∷ []) (empty_built c.args.name.0 c.args.group.0) c.from_residual.ensures.1 is
    (λ w old. c.in_err-check.ensures.refusal w old) (λ w old p. refl)

pub returns-in-Some-clause-applied : goal.returns-in-Some-clause-applied
returns-in-Some-clause-applied g c cmd is =
    done_applies (Both (g.N.Nodes.stands c.args.nodes.now) (g.M.Names.stands c.args.names.now)) (Both (g.N.Nodes.stands c.build_empty.new.nodes) (g.M.Names.stands c.build_empty.new.names)) g.N.Nodes.rule cmd (use_as IsNew c.args.name.0 ∷ use_as IsGroupAlone c.args.group.0 ∷ []) (row None 1 ∷ []) (λ w. anew 1 ∷ []) (empty_built c.args.name.0 c.args.group.0) is
    (λ w old. sym (c.in_ok-check.ensures.refusal w old)) (λ w old p. refl)
    (λ w old p. c.build_empty.ensures.stands w old (subst (λ (o : Option Tasks). SeesTasks o (held_at c.args.group.0 w.names)) c.in-Some.is (c.tasks_named.ensures w old.1)) (new_absent c.args.name.0 (use_as IsGroupAlone c.args.group.0 ∷ []) w p))

pub returns-in-None-clause-applied : goal.returns-in-None-clause-applied
returns-in-None-clause-applied g c cmd is =
    done_applies (Both (g.N.Nodes.stands c.args.nodes.now) (g.M.Names.stands c.args.names.now)) (Both (g.N.Nodes.stands c.args.nodes.now) (g.M.Names.stands c.args.names.now)) g.N.Nodes.rule cmd (use_as IsNew c.args.name.0 ∷ use_as IsGroupAlone c.args.group.0 ∷ []) (row None 1 ∷ []) (λ w. anew 1 ∷ []) (empty_built c.args.name.0 c.args.group.0) is
    (λ w old. sym (c.in_ok-check.ensures.refusal w old)) (λ w old p. refl)
    (λ w old p. absurd (tasks_there c.tasks_named.result (held_at c.args.group.0 w.names) (c.tasks_named.ensures w old.1) (second_role IsGroupAlone c.args.group.0 (use_as IsNew c.args.name.0) [] w p) c.in-None.is))
