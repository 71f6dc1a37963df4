-- What is read is the number, or there is none.
use Rattle.std.proofs.Common.{◌≡◌, ℕ, ◌^◌, ◌<◌, List, Option, None, Some, IfSome, IfNone, sym, rules}
use Rattle.std.specs.Prelude.{decimal}
use Rattle.promise_script.specs.Decode.{number_read}
use Rattle.promise_script.proofs.Numbers.{read_is, read_none}
use Rattle.promise_script.proofs.fields.read_word.Goals as goal

by : (o : Option ℕ) (w : List ℕ) → IfSome o (λ n. n < 2 ^ 64) → IfSome o (λ n. w ≡ decimal n) → IfNone o ((n : ℕ) → n < 2 ^ 64 → w ≡ decimal n → ⊥) → o ≡ number_read (2 ^ 64) w
by None w small found none = sym (read_none (2 ^ 64) w none)
by (Some n) w small found none = sym (read_is (2 ^ 64) n w small small found)

pub returns : goal.returns
returns c = by c.read_decimal.result c.args.word.now (search rules) c.read_decimal.ensures.found c.read_decimal.ensures.none
