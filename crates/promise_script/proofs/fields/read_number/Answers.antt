-- A number of 2 ^ 32 or more is none of those below.
use Rattle.std.proofs.Common.{rules, arith, sym, ◌∙◌, ◌^◌}
use Rattle.kj_base.proofs.Digits.{decimal_same}
use Rattle.promise_script.proofs.Numbers.{read_is, read_none}
use Rattle.promise_script.proofs.fields.read_number.Goals as goal

pub returns-then-n-from : goal.returns-then-n-from
returns-then-n-from c = sym (read_none (2 ^ 32) c.args.word.now (λ n below text. omega (arith, decimal_same c.in_ok-n.n n (search rules) (omega arith) (sym c.in_ok-n.ensures.found ∙ text), c.from.ensures, c.if-n-from.true)))

pub returns : goal.returns
returns c = sym (read_is (2 ^ 32) c.in_ok-n.n c.args.word.now (search rules) (omega (arith, c.from.ensures, c.if-n-from.false)) c.in_ok-n.ensures.found)
