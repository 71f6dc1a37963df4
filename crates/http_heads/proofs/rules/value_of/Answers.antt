use Rattle.std.proofs.Common.{◌≡◌, ◌+◌, min, take, arith}
use Rattle.std.specs.Str.Parse.{digits_value}
use Rattle.std.proofs.lemmas.Int.Digits.{digits_value_more}
use Rattle.http_heads.proofs.ValueLemmas.{digit_at}
use Rattle.http_heads.proofs.rules.value_of.Goals as goal

pub loop-b-preserved : goal.loop-b-preserved
loop-b-preserved c =
    let digits = c.args.digits.now in
    let i = c.loop-b.b-index in
    let step : c.min-n.result ≡ min (digits_value 10 (take (i + 1) digits)) 16777217 =
    omega (arith, digits_value_more 10 digits i c.loop-b-test.true, digit_at digits i c.requires c.loop-b-test.true) in
    step
