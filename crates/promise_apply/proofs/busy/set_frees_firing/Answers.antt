use Rattle.std.proofs.Common.{◌∙◌, ◌+◌, [], ℕ, Option, sym, ap}
use Rattle.std.specs.Prelude.{reverse}
use Rattle.kj_model.specs.Nodes.{is_in}
use Rattle.kj_model.specs.Free.{Holding}
use Rattle.kj_model.specs.Falling.{falling, each_falling}
use Rattle.promise_nodes.specs.Members.{lists_in}
use Rattle.promise_nodes.specs.Shown.{link_number}
use Rattle.promise_apply.specs.Dropping.{set_frees_firing}
use Rattle.promise_apply.proofs.busy.set_frees_firing.Goals as goal

pub returns-in-Some-clause-found : goal.returns-in-Some-clause-found
returns-in-Some-clause-found g c w old =
    let tasks = lists_in w c.args.group.0 in
    c.would_free_members.ensures.goes w old
    ∙ ap (λ (k : ℕ). is_in c.in-Some.node.number.0 (each_falling (falling (Holding []) w (k + 1) []) [] (reverse tasks))) (sym (g.met.N.Nodes.slots_are c.args.nodes.now w old))
    ∙ ap (λ (o : Option ℕ). set_frees_firing o tasks w) (sym (c.firing.ensures w old ∙ ap link_number c.in-Some.is))

pub returns-in-None-clause-found : goal.returns-in-None-clause-found
returns-in-None-clause-found g c w old = ap (λ (o : Option ℕ). set_frees_firing o (lists_in w c.args.group.0) w) (sym (c.firing.ensures w old ∙ ap link_number c.in-None.is))
