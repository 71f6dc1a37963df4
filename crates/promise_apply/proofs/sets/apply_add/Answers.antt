use Rattle.std.proofs.Common.{◌∙◌, ℕ, [], ◌∷◌, Option, sym, ap, subst}
use Rattle.kj_base.specs.Places.{row}
use Rattle.kj_model.specs.World.{held_at}
use Rattle.kj_model.specs.Effects.{added}
use Rattle.kj_model.specs.Uses.{use_as, IsGroup, IsSource}
use Rattle.kj_model.specs.Apply.{before_source}
use Rattle.promise_nodes.specs.Shown.{link_number}
use Rattle.promise_apply.specs.Building.{Both}
use Rattle.promise_apply.specs.Sets.{SeesTasks}
use Rattle.promise_apply.specs.declared.sets.Tasks.{Tasks}
use Rattle.promise_apply.proofs.Refused.{refused_so, done_applies}
use Rattle.promise_apply.proofs.Passed.{second_role, promise_root, promise_held, promise_there}
use Rattle.promise_apply.proofs.sets.apply_add.Goals as goal

pub returns-in_err-check-clause-applied : goal.returns-in_err-check-clause-applied
returns-in_err-check-clause-applied g c cmd is =
    refused_so (Both (g.N.Nodes.stands c.args.nodes.now) (g.M.Names.stands c.args.names.now)) g.N.Nodes.rule c.from_residual.result c.in_err-check.field-0.0 cmd (use_as IsGroup c.args.group.0 ∷ use_as IsSource c.args.source.0 ∷ []) (row (link_number c.root_named-root.result) 1 ∷ []) (λ w. before_source 1 c.args.source.0 w ∷ []) (added c.args.group.0 c.args.source.0) c.from_residual.ensures.1 is
    (λ w old. c.in_err-check.ensures.refusal w old) (λ w old p. ap (λ (o : Option ℕ). row o 1 ∷ []) (c.root_named-root.ensures ∙ promise_root (held_at c.args.source.0 w.names) (g.M.Names.roots c.args.names.now c.args.source.0) (second_role IsSource c.args.source.0 (use_as IsGroup c.args.group.0) [] w p) (λ r h. g.met.M.Names.roots_are c.args.names.now w c.args.source.0 r old.1 h)))

pub returns-in-Some-root-clause-applied : goal.returns-in-Some-root-clause-applied
returns-in-Some-root-clause-applied g c cmd is =
    done_applies (Both (g.N.Nodes.stands c.args.nodes.now) (g.M.Names.stands c.args.names.now)) (Both (g.N.Nodes.stands c.add_task.new.nodes) (g.M.Names.stands c.add_task.new.names)) g.N.Nodes.rule cmd (use_as IsGroup c.args.group.0 ∷ use_as IsSource c.args.source.0 ∷ []) (row (link_number c.root_named-root.result) 1 ∷ []) (λ w. before_source 1 c.args.source.0 w ∷ []) (added c.args.group.0 c.args.source.0) is
    (λ w old. sym (c.in_ok-check.ensures.refusal w old)) (λ w old p. ap (λ (o : Option ℕ). row o 1 ∷ []) (c.root_named-root.ensures ∙ promise_root (held_at c.args.source.0 w.names) (g.M.Names.roots c.args.names.now c.args.source.0) (second_role IsSource c.args.source.0 (use_as IsGroup c.args.group.0) [] w p) (λ r h. g.met.M.Names.roots_are c.args.names.now w c.args.source.0 r old.1 h)))
    (λ w old p. c.add_task.ensures.stands w old
    (subst (λ (o : Option Tasks). SeesTasks o (held_at c.args.group.0 w.names)) c.in-Some.is (c.tasks_named.ensures w old.1))
    (promise_held (held_at c.args.source.0 w.names) (g.M.Names.roots c.args.names.now c.args.source.0) c.in-Some-root.root.number.0 (second_role IsSource c.args.source.0 (use_as IsGroup c.args.group.0) [] w p) (λ r h. g.met.M.Names.roots_are c.args.names.now w c.args.source.0 r old.1 h) (sym (c.root_named-root.ensures) ∙ ap link_number c.in-Some-root.is)))

pub returns-in-None-clause-applied : goal.returns-in-None-clause-applied
returns-in-None-clause-applied g c cmd is =
    done_applies (Both (g.N.Nodes.stands c.args.nodes.now) (g.M.Names.stands c.args.names.now)) (Both (g.N.Nodes.stands c.args.nodes.now) (g.M.Names.stands c.args.names.now)) g.N.Nodes.rule cmd (use_as IsGroup c.args.group.0 ∷ use_as IsSource c.args.source.0 ∷ []) (row (link_number c.root_named-root.result) 1 ∷ []) (λ w. before_source 1 c.args.source.0 w ∷ []) (added c.args.group.0 c.args.source.0) is
    (λ w old. sym (c.in_ok-check.ensures.refusal w old)) (λ w old p. ap (λ (o : Option ℕ). row o 1 ∷ []) (c.root_named-root.ensures ∙ promise_root (held_at c.args.source.0 w.names) (g.M.Names.roots c.args.names.now c.args.source.0) (second_role IsSource c.args.source.0 (use_as IsGroup c.args.group.0) [] w p) (λ r h. g.met.M.Names.roots_are c.args.names.now w c.args.source.0 r old.1 h)))
    (λ w old p. absurd (promise_there (held_at c.args.source.0 w.names) (second_role IsSource c.args.source.0 (use_as IsGroup c.args.group.0) [] w p) (λ r h. sym (ap link_number c.in-None.is) ∙ c.root_named-root.ensures ∙ g.met.M.Names.roots_are c.args.names.now w c.args.source.0 r old.1 h)))
