use Rattle.std.proofs.Common.{◌≡◌, ◌<◌, ap, arith, length}
use Rattle.name_table.proofs.Replaced.{replaced_more}
use Rattle.name_table.proofs.entries.replace.Goals as goal

pub loop-entry-preserved : goal.loop-entry-preserved
loop-entry-preserved c =
    let es = c.args.entries.now.items in
    let ys = c.loop-entry.entry-items in
    let i = c.loop-entry.entry-index in
    let len : length c.deref_mut-entry-items.result.now ≡ length es = ap length c.deref_mut-entry-items.ensures.value in
    let low : i < length es = omega (arith, len) in
    let within : i < length ys = omega (arith, len) in
    replaced_more c.args.old.number.0 c.args.new es ys i _ c.held_after-entry.result low within c.loop-entry.invariant c.held_after-entry.ensures
