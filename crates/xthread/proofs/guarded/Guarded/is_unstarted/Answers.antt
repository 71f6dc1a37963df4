use Rattle.std.proofs.Common.{ap, length, arith, refl}
use Rattle.std.proofs.lemmas.Option.{slice_get_read}
use Rattle.xthread.specs.Stock.{Book}
use Rattle.xthread.specs.Answers.{board}
use Rattle.executor_core.specs.Acts.{Desk}
use Rattle.xthread.proofs.Closing.{kept_waits}
use Rattle.xthread.proofs.guarded.Guarded.is_unstarted.Goals as goal

pub returns : goal.returns
returns g c = let below = c.requires in let w = c.self.invariant in
    let many = ap (λ (b : Book). length (board b).requests) c.self.view_is in let same = ap (λ (d : Desk). length d.requests) w.board_is in let stock = w.stock.0 in
    let at = slice_get_read c.self.inside.places.items _ c.args.request c.index.result.now refl (omega arith) c.index.ensures in
    kept_waits c.args.request c.index.result.now c.is_waiting.result w c.self.view_is at c.is_waiting.ensures.waiting c.is_waiting.ensures.other
