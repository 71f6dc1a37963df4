-- A decimal text passes each test.
use Rattle.std.proofs.Common.{◌≡◌, sym, ap, ◌∙◌, arith}
use Rattle.std.specs.Prelude.{decimal}
use Rattle.kj_base.proofs.Digits.{decimal_is_digits, value_is}
use Rattle.kj_base.proofs.numerals.read_decimal.Goals as goal

pub returns-then-digit_count-word-clause-none : goal.returns-then-digit_count-word-clause-none
returns-then-digit_count-word-clause-none c n fits text =
    omega (arith, decimal_is_digits c.args.word.now n fits text, c.digit_count.ensures.count, c.if-digit_count-word.true)

pub returns-then-not-is_decimal-clause-none : goal.returns-then-not-is_decimal-clause-none
returns-then-not-is_decimal-clause-none c n fits text =
    let value : c.clipped_value-value.result ≡ n = value_is n c.clipped_value-value.result _ fits text c.clipped_value-value.ensures in
    let yes = c.if-not-is_decimal.ensures.1 (text ∙ ap decimal (sym value)) in
    absurd (cc (yes))
