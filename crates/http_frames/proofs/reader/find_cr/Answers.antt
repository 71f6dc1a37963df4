use Rattle.std.proofs.Common.{rules}
use Rattle.http_frames.proofs.LineLemmas.{no_cr_everywhere, no_cr_before, split_at_cr}
use Rattle.http_frames.proofs.reader.find_cr.Goals as goal

pub returns-in-Some-clause-first : goal.returns-in-Some-clause-first
returns-in-Some-clause-first c =
    (no_cr_before c.args.bytes.now c.in-Some.at (search rules) (search rules), split_at_cr c.args.bytes.now c.in-Some.at (search rules) (search rules))

pub returns-in-None-clause-bound : goal.returns-in-None-clause-bound
returns-in-None-clause-bound c = no_cr_everywhere c.args.bytes.now (search rules)

pub returns-in-None-clause-first : goal.returns-in-None-clause-first
returns-in-None-clause-first c = no_cr_everywhere c.args.bytes.now (search rules)
