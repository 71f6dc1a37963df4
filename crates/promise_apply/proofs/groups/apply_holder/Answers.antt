use Rattle.std.proofs.Common.{◌∙◌, [], ◌∷◌, refl, sym}
use Rattle.kj_model.specs.World.{held_at}
use Rattle.kj_model.specs.Changes.{named}
use Rattle.kj_model.specs.Uses.{use_as, IsNew}
use Rattle.promise_names.specs.Held.{held_shown}
use Rattle.promise_nodes.proofs.Same.{named_lists}
use Rattle.promise_names.proofs.Listless.{none_listed, none_shown}
use Rattle.promise_apply.specs.Building.{Both}
use Rattle.promise_apply.proofs.Refused.{refused_so, done_applies}
use Rattle.promise_apply.proofs.Passed.{new_absent, listless}
use Rattle.promise_apply.proofs.groups.apply_holder.Goals as goal

pub returns-in_err-check-clause-applied : goal.returns-in_err-check-clause-applied
returns-in_err-check-clause-applied g c cmd is =
    refused_so (Both (g.N.Nodes.stands c.args.nodes.now) (g.M.Names.stands c.args.names.now)) g.N.Nodes.rule c.from_residual.result c.in_err-check.field-0.0 cmd (use_as IsNew c.args.name.0 ∷ []) [] (λ w. []) (named c.args.name.0 (held_shown [] c.args.held)) c.from_residual.ensures.1 is
    (λ w old. c.in_err-check.ensures.refusal w old) (λ w old p. refl)

pub returns-clause-applied : goal.returns-clause-applied
returns-clause-applied g c cmd is =
    done_applies (Both (g.N.Nodes.stands c.args.nodes.now) (g.M.Names.stands c.args.names.now)) (Both (g.N.Nodes.stands c.args.nodes.now) (g.M.Names.stands c.set.new.self)) g.N.Nodes.rule cmd (use_as IsNew c.args.name.0 ∷ []) [] (λ w. []) (named c.args.name.0 (held_shown [] c.args.held)) is
    (λ w old. sym (c.in_ok-check.ensures.refusal w old)) (λ w old p. refl)
    (λ w old p.
    let name = c.args.name.0 in
    let free = listless name w (new_absent name [] w p) in
    (g.met.N.Nodes.names_free c.args.nodes.now w (named name (held_shown [] c.args.held) w) refl (named_lists name (held_shown [] c.args.held) w (none_shown c.args.held ∙ sym (none_listed (held_at name w.names) free))) old.0, c.set.ensures.stands w [] old.1 free c.requires.counted))
