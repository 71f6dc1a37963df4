use Rattle.std.proofs.Common.{ℕ, [], ◌∷◌, Option, sym, ap, ◌∙◌}
use Rattle.kj_base.specs.Places.{row}
use Rattle.kj_model.specs.World.{held_at}
use Rattle.kj_model.specs.Effects.{over_listening}
use Rattle.kj_model.specs.Uses.{use_as, new_over, IsNew, IsSource}
use Rattle.kj_model.specs.Apply.{before_source}
use Rattle.promise_nodes.specs.Shown.{link_number}
use Rattle.promise_apply.specs.Building.{Both, over_shown}
use Rattle.promise_apply.proofs.Refused.{refused_so, done_applies}
use Rattle.promise_apply.proofs.Passed.{new_absent, second_role, promise_root, promise_held, promise_there, over_listless}
use Rattle.promise_apply.proofs.applying.apply_listening.Goals as goal

pub returns-in_err-check-clause-applied : goal.returns-in_err-check-clause-applied
returns-in_err-check-clause-applied g c cmd is =
    refused_so (Both (g.N.Nodes.stands c.args.nodes.now) (g.M.Names.stands c.args.names.now)) g.N.Nodes.rule c.from_residual.result c.in_err-check.field-0.0 cmd (new_over c.args.name.0 (c.args.source.0 ∷ [])) (row (link_number c.root_named-root.result) 1 ∷ []) (λ w. before_source 1 c.args.source.0 w ∷ []) (over_listening c.args.name.0 (over_shown c.args.over) c.args.source.0) c.from_residual.ensures.1 is
    (λ w old. c.in_err-check.ensures.refusal w old) (λ w old p. ap (λ (o : Option ℕ). row o 1 ∷ []) (c.root_named-root.ensures ∙ promise_root (held_at c.args.source.0 w.names) (g.M.Names.roots c.args.names.now c.args.source.0) (second_role IsSource c.args.source.0 (use_as IsNew c.args.name.0) [] w p) (λ r h. g.met.M.Names.roots_are c.args.names.now w c.args.source.0 r old.1 h)))

pub returns-in-Some-clause-applied : goal.returns-in-Some-clause-applied
returns-in-Some-clause-applied g c cmd is =
    done_applies (Both (g.N.Nodes.stands c.args.nodes.now) (g.M.Names.stands c.args.names.now)) (Both (g.N.Nodes.stands c.build_listening.new.nodes) (g.M.Names.stands c.build_listening.new.names)) g.N.Nodes.rule cmd (new_over c.args.name.0 (c.args.source.0 ∷ [])) (row (link_number c.root_named-root.result) 1 ∷ []) (λ w. before_source 1 c.args.source.0 w ∷ []) (over_listening c.args.name.0 (over_shown c.args.over) c.args.source.0) is
    (λ w old. sym (c.in_ok-check.ensures.refusal w old)) (λ w old p. ap (λ (o : Option ℕ). row o 1 ∷ []) (c.root_named-root.ensures ∙ promise_root (held_at c.args.source.0 w.names) (g.M.Names.roots c.args.names.now c.args.source.0) (second_role IsSource c.args.source.0 (use_as IsNew c.args.name.0) [] w p) (λ r h. g.met.M.Names.roots_are c.args.names.now w c.args.source.0 r old.1 h)))
    (λ w old p. c.build_listening.ensures.stands w old (promise_held (held_at c.args.source.0 w.names) (g.M.Names.roots c.args.names.now c.args.source.0) c.in-Some.root.number.0 (second_role IsSource c.args.source.0 (use_as IsNew c.args.name.0) [] w p) (λ r h. g.met.M.Names.roots_are c.args.names.now w c.args.source.0 r old.1 h) (sym (c.root_named-root.ensures) ∙ ap link_number c.in-Some.is)) (over_listless c.args.name.0 c.args.source.0 (over_shown c.args.over) w (new_absent c.args.name.0 (use_as IsSource c.args.source.0 ∷ []) w p)))

pub returns-in-None-clause-applied : goal.returns-in-None-clause-applied
returns-in-None-clause-applied g c cmd is =
    done_applies (Both (g.N.Nodes.stands c.args.nodes.now) (g.M.Names.stands c.args.names.now)) (Both (g.N.Nodes.stands c.args.nodes.now) (g.M.Names.stands c.args.names.now)) g.N.Nodes.rule cmd (new_over c.args.name.0 (c.args.source.0 ∷ [])) (row (link_number c.root_named-root.result) 1 ∷ []) (λ w. before_source 1 c.args.source.0 w ∷ []) (over_listening c.args.name.0 (over_shown c.args.over) c.args.source.0) is
    (λ w old. sym (c.in_ok-check.ensures.refusal w old)) (λ w old p. ap (λ (o : Option ℕ). row o 1 ∷ []) (c.root_named-root.ensures ∙ promise_root (held_at c.args.source.0 w.names) (g.M.Names.roots c.args.names.now c.args.source.0) (second_role IsSource c.args.source.0 (use_as IsNew c.args.name.0) [] w p) (λ r h. g.met.M.Names.roots_are c.args.names.now w c.args.source.0 r old.1 h)))
    (λ w old p. absurd (promise_there (held_at c.args.source.0 w.names) (second_role IsSource c.args.source.0 (use_as IsNew c.args.name.0) [] w p) (λ r h. sym (ap link_number c.in-None.is) ∙ c.root_named-root.ensures ∙ g.met.M.Names.roots_are c.args.names.now w c.args.source.0 r old.1 h)))
