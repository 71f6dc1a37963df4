use Rattle.std.proofs.Common.{◌≡◌, ◌∙◌, true, false, refl, sym, ap}
use Rattle.kj_base.specs.Commands.{Drop}
use Rattle.kj_model.specs.Changes.{unnamed}
use Rattle.kj_model.specs.Apply.{is_busy}
use Rattle.promise_nodes.proofs.Same.{unnamed_lists}
use Rattle.promise_nodes.specs.Members.{members_of}
use Rattle.promise_apply.proofs.Dropped.{refused_behind, tree_busy, tested_count}
use Rattle.promise_apply.proofs.dropping.test_promise.Goals as goal

pub returns-then-frees_firing-clause-refusal : goal.returns-then-frees_firing-clause-refusal
returns-then-frees_firing-clause-refusal g c answer inside s old =
    let name = c.args.name.0 in
    let may = c.requires.held s.world old in
    let busy : is_busy (Drop name) s ≡ true =
    tree_busy name c.args.root.number.0 s may.held_is
    ∙ sym (c.frees_firing.ensures.found (unnamed name s.world) (g.met.N.Nodes.names_free c.args.nodes.now s.world (unnamed name s.world) refl (unnamed_lists name s.world (ap members_of may.held_is)) old.0))
    ∙ c.if-frees_firing.true in
    refused_behind g.N.Nodes.rule answer inside true name s may.passes busy

pub returns-clause-refusal : goal.returns-clause-refusal
returns-clause-refusal g c answer inside s old =
    let name = c.args.name.0 in
    let w = s.world in
    let may = c.requires.held w old in
    let busy : is_busy (Drop name) s ≡ false =
    tree_busy name c.args.root.number.0 s may.held_is
    ∙ sym (c.frees_firing.ensures.found (unnamed name w) (g.met.N.Nodes.names_free c.args.nodes.now w (unnamed name w) refl (unnamed_lists name w (ap members_of may.held_is)) old.0))
    ∙ c.if-frees_firing.false in
    refused_behind g.N.Nodes.rule answer inside false name s may.passes busy
    ∙ sym (tested_count g.N.Nodes.rule name _ w c.dropped.ensures (λ passes. c.check_count.ensures.refusal w (c.frees_firing.ensures.stands w old.0, old.1) passes) may.passes)
