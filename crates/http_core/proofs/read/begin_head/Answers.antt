use Rattle.std.proofs.Common.{refl}
use Rattle.http_core.proofs.ReadLemmas.{if_opening, begins_later, begins_started}
use Rattle.http_core.proofs.read.begin_head.Goals as goal

pub returns-then-not-brings_head-clause-begins : goal.returns-then-not-brings_head-clause-begins
returns-then-not-brings_head-clause-begins c = begins_later c.args.from c.args.bytes.now c.if-bytes-lt-MAX_OCTETS.true (c.if-not-brings_head.ensures.later refl)

pub returns-clause-begins : goal.returns-clause-begins
returns-clause-begins c = if_opening c.read_front.result _ _ c.read_front.ensures.opens (λ o opens start within. begins_started c.args.from c.args.bytes.now o start within opens)
