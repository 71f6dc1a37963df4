use Rattle.std.proofs.Common.{◌≡◌, ℕ, get_or, take, ap, ◌∙◌, arith}
use Rattle.std.specs.Prelude.{decimal}
use Rattle.conn_record.proofs.NumberLemmas.{number_run}
use Rattle.conn_record.proofs.number.read_number.Goals as goal

pub returns-then-len-octets-clause-none : goal.returns-then-len-octets-clause-none
returns-then-len-octets-clause-none c n rest fits text =
    let run = number_run c.args.octets.now n rest fits text in omega (arith, run.count, run.inside, c.digit_count-len.ensures.count)

pub returns-then-octets-len-ne10-clause-none : goal.returns-then-octets-len-ne10-clause-none
returns-then-octets-len-ne10-clause-none c n rest fits text =
    let octets = c.args.octets.now in
    let run = number_run octets n rest fits text in
    c.if-octets-len-ne10.true (ap (λ (k : ℕ). get_or octets k 0) (c.digit_count-len.ensures.count ∙ run.count) ∙ run.lf)

pub returns-in_default-clause-none : goal.returns-in_default-clause-none
returns-in_default-clause-none c n rest fits text =
    let octets = c.args.octets.now in
    let run = number_run octets n rest fits text in
    let digits : take c.digit_count-len.result octets ≡ decimal n = ap (λ (k : ℕ). take k octets) (c.digit_count-len.ensures.count ∙ run.count) ∙ run.digits in
    c.in_default.ensures.none n fits digits
