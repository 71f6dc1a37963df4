use Rattle.std.proofs.Common.{◌≡◌, ◌+◌, ◌<◌, min, get_or, take, true, subst, ◌∙◌, arith}
use Rattle.std.specs.Prelude.{IfSome}
use Rattle.std.specs.Char.{is_ascii_hexdigit, digit_value}
use Rattle.std.specs.Str.Parse.{digits_value}
use Rattle.std.proofs.lemmas.List.Sums.{AllPass-from_list_all}
use Rattle.std.proofs.lemmas.List.Elements.{All-get_or}
use Rattle.std.proofs.lemmas.Int.Digits.{digits_value_more}
use Rattle.http_frames.proofs.line.value_of.Goals as goal

pub unwrap-digit-requires : goal.unwrap-digit-requires
unwrap-digit-requires c =
    let digits = c.args.digits.now in
    c.parse_hex_digit.ensures.found ∙ All-get_or (λ b. is_ascii_hexdigit b ≡ true) digits c.loop-b.b-index 0 c.loop-b-test.true (AllPass-from_list_all is_ascii_hexdigit digits c.requires)

pub loop-b-preserved : goal.loop-b-preserved
loop-b-preserved c =
    let digits = c.args.digits.now in
    let i = c.loop-b.b-index in
    let value = subst (λ o. IfSome o (λ d. (d ≡ digit_value (get_or digits i 0)) × (d < 16))) c.unwrap-digit.ensures c.parse_hex_digit.ensures.value in
    let step : c.min-size.result ≡ min (digits_value 16 (take (i + 1) digits)) 16777217 = omega (arith, c.loop-b.invariant, digits_value_more 16 digits i c.loop-b-test.true, value.0) in
    step
