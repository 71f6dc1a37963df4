use Rattle.std.proofs.Common.{◌∙◌, ◌+◌, [], ℕ, Option, sym, ap}
use Rattle.kj_model.specs.Nodes.{is_in}
use Rattle.kj_model.specs.Free.{Holding}
use Rattle.kj_model.specs.Falling.{falling}
use Rattle.promise_nodes.specs.Shown.{link_number}
use Rattle.promise_apply.specs.Dropping.{frees_firing}
use Rattle.promise_apply.proofs.busy.frees_firing.Goals as goal

pub returns-in-Some-clause-found : goal.returns-in-Some-clause-found
returns-in-Some-clause-found g c w old =
    let root = c.args.root.number.0 in
    c.would_free.ensures.goes w old
    ∙ ap (λ (k : ℕ). is_in c.in-Some.node.number.0 (falling (Holding []) w (k + 1) [] [] root)) (sym (g.met.N.Nodes.slots_are c.args.nodes.now w old))
    ∙ ap (λ (o : Option ℕ). frees_firing o root w) (sym (c.firing.ensures w old ∙ ap link_number c.in-Some.is))

pub returns-in-None-clause-found : goal.returns-in-None-clause-found
returns-in-None-clause-found g c w old = ap (λ (o : Option ℕ). frees_firing o c.args.root.number.0 w) (sym (c.firing.ensures w old ∙ ap link_number c.in-None.is))
