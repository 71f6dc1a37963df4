use Rattle.std.proofs.Common.{◌∙◌, false, refl, sym}
use Rattle.kj_model.specs.World.{held_at}
use Rattle.kj_model.specs.Changes.{unnamed}
use Rattle.promise_nodes.proofs.Same.{unnamed_lists}
use Rattle.promise_apply.specs.Building.{Both}
use Rattle.promise_apply.proofs.Dropped.{canceler_calm, canceler_done, canceler_full, canceler_none, refused_behind, tested_count}
use Rattle.promise_apply.proofs.dropping.drop_canceler.Goals as goal

pub returns-in_err-check_count-clause-applied : goal.returns-in_err-check_count-clause-applied
returns-in_err-check_count-clause-applied g c =
    let name = c.args.name.0 in
    canceler_full (Both (g.N.Nodes.stands c.args.nodes.now) (g.M.Names.stands c.args.names.now)) g.N.Nodes.rule c.from_residual.result c.in_err-check_count.field-0.0 name c.from_residual.ensures.1
    (λ answer inside s old.
    let may = c.requires.held s.world old in
    refused_behind g.N.Nodes.rule answer inside false name s may.passes (canceler_calm name s may.canceler (g.met.M.Names.no_wraps c.args.names.now s.world name old.1))
    ∙ sym (tested_count g.N.Nodes.rule name _ s.world c.dropped.ensures (λ passes. c.in_err-check_count.ensures.refusal s.world old passes) may.passes))

pub returns-clause-applied : goal.returns-clause-applied
returns-clause-applied g c =
    let name = c.args.name.0 in
    canceler_done (Both (g.N.Nodes.stands c.args.nodes.now) (g.M.Names.stands c.args.names.now)) (Both (g.N.Nodes.stands c.args.nodes.now) (g.M.Names.stands c.remove.new.self)) g.N.Nodes.rule name
    (λ answer inside s old.
    let may = c.requires.held s.world old in
    refused_behind g.N.Nodes.rule answer inside false name s may.passes (canceler_calm name s may.canceler (g.met.M.Names.no_wraps c.args.names.now s.world name old.1))
    ∙ sym (tested_count g.N.Nodes.rule name _ s.world c.dropped.ensures (λ passes. c.in_ok-check_count.ensures.refusal s.world old passes) may.passes))
    (λ w old. (c.requires.held w old).canceler)
    (λ w old. g.met.M.Names.no_wraps c.args.names.now w name old.1)
    (λ w old. (g.met.N.Nodes.names_free c.args.nodes.now w (unnamed name w) refl (unnamed_lists name w (canceler_none (held_at name w.names) (c.requires.held w old).canceler (g.met.M.Names.no_wraps c.args.names.now w name old.1))) old.0, c.remove.ensures.stands w old.1))
