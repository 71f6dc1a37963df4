use Rattle.std.proofs.lemmas.List.Sorted.{IsPermutation-map}
use Rattle.executor_core.proofs.Asking.{on_ok}
use Rattle.executor_core.proofs.asked.Asked.push.Goals as goal

pub returns-clause-numbers : goal.returns-clause-numbers
returns-clause-numbers c = let e = c.push-entered.ensures in
    IsPermutation-map (λ x. x.0) _ _ (on_ok c.push-entered.result _ e.permutation (e.succeeds c.requires))
