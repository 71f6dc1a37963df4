use Rattle.std.proofs.Common.{arith, ◌≡◌, ap, ◌∙◌, None, replicate, ℕ}
use Rattle.http_steps.proofs.table.empty_table.Goals as goal

pub returns : goal.returns
returns g c =
    let end : c.loop.counter ≡ c.args.count = grind arith in
    c.loop.invariant ∙ ap (λ (n : ℕ). replicate n None) end
