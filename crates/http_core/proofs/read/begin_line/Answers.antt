use Rattle.std.proofs.Common.{arith}
use Rattle.http_core.proofs.ReadLemmas.{if_opening, begins_full, begins_nowhere, begins_stopped}
use Rattle.http_core.proofs.read.begin_line.Goals as goal

pub returns-then-bytes-ge-MAX_OCTETS-clause-begins : goal.returns-then-bytes-ge-MAX_OCTETS-clause-begins
returns-then-bytes-ge-MAX_OCTETS-clause-begins c = if_opening c.read_front.result _ _ c.read_front.ensures.opens (λ o opens none. begins_full c.args.from c.args.bytes.now o c.if-bytes-ge-MAX_OCTETS.true none opens)

pub returns-in-None-clause-begins : goal.returns-in-None-clause-begins
returns-in-None-clause-begins c = begins_nowhere c.args.from c.args.bytes.now (omega arith) c.in-None.ensures.none

pub returns-in-Some-clause-begins : goal.returns-in-Some-clause-begins
returns-in-Some-clause-begins c =
    if_opening c.read_front-in-Some.result _ _ c.read_front-in-Some.ensures.opens
    (λ o opens none. begins_stopped c.args.from c.args.bytes.now c.in-Some.field-0 o c.in-Some.ensures.stops.1 c.in-Some.ensures.stops.2 c.in-Some.ensures.first none opens)
