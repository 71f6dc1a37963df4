use Rattle.std.proofs.Common.{arith}
use Rattle.promise_apply.specs.Uses.{uses_shown}
use Rattle.promise_apply.proofs.Counted.{counted}
use Rattle.promise_apply.proofs.refusing.names_after.Goals as goal

pub returns-clause-names : goal.returns-clause-names
returns-clause-names g c w st passed =
    let far = counted (uses_shown c.args.uses.now) w (g.met.M.Names.once c.args.names.now w st) passed in
    let sum = far.0 in
    let low = far.1 in
    let there = c.len.ensures.names w st in
    let news = c.news.ensures.count in
    let taken = c.taken_sources.ensures.count in
    let less = c.saturating_sub.ensures in
    let more = c.awaited_more.ensures.more w st in
    omega (arith, sum, low, there, news, taken, less, more)
