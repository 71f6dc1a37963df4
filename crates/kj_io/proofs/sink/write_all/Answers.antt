-- A front and the next part are a longer front.
use Rattle.std.proofs.Common.{arith}
use Rattle.std.proofs.lemmas.List.{take_rest}
use Rattle.kj_io.proofs.Octets.{appends_more}
use Rattle.kj_io.proofs.sink.write_all.Goals as goal

pub writing-preserved : goal.writing-preserved
writing-preserved g c =
    let e = c.in_ok-count.ensures in
    record {
      within = omega (arith, e.bound);
      front = appends_more _ _ _ c.args.octets.now c.writing.done c.in_ok-count.count c.writing.invariant.front (rw take_rest at e.octets);
      later = omega (arith, e.cause.later);
    }
