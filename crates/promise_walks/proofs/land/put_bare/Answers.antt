use Rattle.std.proofs.Common.{subst, []}
use Rattle.kj_model.specs.Nodes.{Form, form_at}
use Rattle.kj_model.specs.Fire.{branches_of}
use Rattle.kj_model.specs.Changes.{put}
use Rattle.promise_nodes.specs.Shown.{shown}
use Rattle.promise_walks.proofs.Bare.{plain_shown, plain_kind, adds_none}
use Rattle.promise_walks.proofs.land.put_bare.Goals as goal

pub returns-clause-stands : goal.returns-clause-stands
returns-clause-stands g c w stands =
    let n = c.args.node.number.0 in
    let form = c.args.form in
    let bare = c.requires.bare in
    let old = form_at n w.nodes in
    subst (λ (seen : Form). g.N.Nodes.stands c.put.new.self (put n seen w)) (plain_shown form (branches_of old) bare.plain)
    (c.put.ensures.stands w stands (plain_kind form old bare.plain (g.met.N.Nodes.plain_is c.args.nodes.now w n stands c.requires.plain)) (adds_none w n (shown [] form) bare.parts))
