-- A line of more spaces has no meaning.
use Rattle.std.proofs.Common.{◌≡◌, ◌<◌, ◌==◌, false, rules, sym}
use Rattle.std.specs.List.{count_by}
use Rattle.promise_script.specs.ScriptText.{is_remark}
use Rattle.promise_script.proofs.Meanings.{many_words}
use Rattle.promise_script.proofs.lines.find_meaning.Goals as goal

pub returns-then-has_many_spaces : goal.returns-then-has_many_spaces
returns-then-has_many_spaces c =
    let other : is_remark c.args.text.now ≡ false = search rules in
    let many : 17 < count_by (λ x. x == 32) c.args.text.now = search rules in
    sym (many_words c.args.text.now other many)
