-- One digit more.
use Rattle.std.proofs.Common.{◌≡◌, ◌+◌, ◌-◌, ◌^◌, ◌<◌, min, get_or, take, arith}
use Rattle.std.specs.List.{prefix_len}
use Rattle.std.specs.Str.Parse.{digits_value}
use Rattle.std.specs.Char.{is_ascii_digit}
use Rattle.std.proofs.lemmas.List.Sums.{prefix_len_passes}
use Rattle.std.proofs.lemmas.Int.Digits.{digits_value_more}
use Rattle.kj_base.proofs.Digits.{digit_at}
use Rattle.kj_base.proofs.numerals.clipped_value.Goals as goal

pub loop-digit-preserved : goal.loop-digit-preserved
loop-digit-preserved c =
    let word = c.args.word.now in
    let i = c.loop-digit.digit-index in
    let here : i < prefix_len is_ascii_digit word = omega (arith, c.requires) in
    let step : c.saturating_add-value.result ≡ min (digits_value 10 (take (i + 1) word)) (2 ^ 64 - 1) =
    omega (arith, digits_value_more 10 word i c.loop-digit-test.true, digit_at (get_or word i 0) (prefix_len_passes is_ascii_digit word i 0 here)) in
    step
