use Rattle.std.proofs.Common.{arith, ap, sym, ◌∙◌, ◌≤◌, ◌<◌}
use Rattle.count_lock.specs.Rule.{of}
use Rattle.count_lock.proofs.Whole.{all_mine}
use Rattle.count_lock.proofs.lock.CountLock.acquire.Goals as goal

pub returns-clause-unsplit : goal.returns-clause-unsplit
returns-clause-unsplit g c = λ u. let t = c.turn.ensures.turn in let p = c.args.pass.now in let by = g.T.Kept.by in
    let whole = all_mine by (g.T.Kept.entries t.0) t.8 (λ n l h. t.6 n (let e = p.from_is in let z = u.1 in let g' : p.seat.me.0.from ≤ n = omega arith in g', let e = p.until_is in let z = u.2 in let g' : n < p.seat.me.0.until = omega arith in g')) in
    ap (λ m. m.0.seen) c.take.ensures.rest ∙ ap (λ v. v.seen) t.2 ∙ sym whole ∙ ap (λ n. of by n (g.T.Kept.entries t.0)) (sym (p.number_is ∙ u.0)) ∙ t.5 ∙ sym (ap (λ m. m.0.mine) c.take.ensures.rest ∙ ap (λ v. v.mine) t.2)
