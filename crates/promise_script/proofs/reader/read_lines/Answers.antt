-- One line after another.
use Rattle.std.proofs.Common.{◌+◌, refl, sym, subst}
use Rattle.promise_script.specs.declared.kept.Kept.{Kept}
use Rattle.promise_script.proofs.Keeping.{Reads, reads_first, reads_more, reads_refused}
use Rattle.promise_script.proofs.Reading.{answered_no, answered_yes, refused_as}
use Rattle.promise_script.proofs.reader.read_lines.Goals as goal

pub loop-rest-init : goal.loop-rest-init
loop-rest-init c = subst (λ (k : Kept). Reads c.args.octets.now k 0 c.args.octets.now) (sym c.in_ok-kept.ensures) (reads_first c.args.octets.now)

pub returns-then-not-branch : goal.returns-then-not-branch
returns-then-not-branch c =
    let l = c.first_line.ensures in
    refused_as c.args.octets.now c.first_line.result.0.now (c.loop-rest.number + 1) c.refusal.result c.refusal.ensures
    (reads_refused c.args.octets.now c.loop-rest.kept c.loop-rest.number _ c.loop-rest.rest.now c.first_line.result.0.now c.first_line.result.1.now
    c.loop-rest.invariant l.lines l.shorter l.parts l.tail refl
    (answered_no c.in_ok-stand_line.field-0 _ c.stand_line.new.kept c.in_ok-stand_line.ensures c.if-not-branch.true))

pub loop-rest-preserved : goal.loop-rest-preserved
loop-rest-preserved c =
    let l = c.first_line.ensures in
    reads_more c.args.octets.now c.loop-rest.kept c.loop-rest.number _ c.loop-rest.rest.now c.first_line.result.0.now c.first_line.result.1.now
    c.loop-rest.invariant l.lines l.shorter l.parts l.tail refl c.stand_line.new.kept
    (answered_yes c.in_ok-stand_line.field-0 _ c.stand_line.new.kept c.in_ok-stand_line.ensures c.if-not-branch.false)
