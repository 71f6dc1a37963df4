use Rattle.std.proofs.Common.{sym, ap, ◌+◌, ℕ}
use Rattle.kj_model.specs.Value.{value, value_to}
use Rattle.promise_walks.specs.Values.{gave}
use Rattle.promise_walks.proofs.Answering.{gives_from}
use Rattle.promise_walks.proofs.evaluating.evaluate.Goals as goal

pub returns-clause-gives : goal.returns-clause-gives
returns-clause-gives g c =
    let n = c.args.root.number.0 in
    gives_from (g.L.Land.stands c.args.land.now) (g.L.Land.stands c.climb_all.new.land) g.L.Land.rule (λ setting s. value_to setting (g.L.Land.slots c.args.land.now + 1) n s) (λ setting s. value setting n s) gave _ _ c.climb_all.result
    (λ setting s stands. ap (λ (j : ℕ). value_to setting (j + 1) n s) (sym (g.met.L.Land.slots_are c.args.land.now s.world stands)))
    c.climb_all.ensures.gives
