-- No line is left that isn't printed; so it is read again, and no longer than the text.
use Rattle.std.proofs.Common.{rules, ◌≡◌, ℕ, ◌≤◌, ◌+◌, [], List, length, subst, sym}
use Rattle.promise_commands.specs.Script.{Script}
use Rattle.promise_script.specs.Scripts.{IsReadAs}
use Rattle.script_print.proofs.Again.{read_again}
use Rattle.script_print.proofs.Kept.{printable}
use Rattle.script_print.proofs.Rows.{none_left}
use Rattle.script_print.proofs.Sizes.{no_longer}
use Rattle.script_print.proofs.script.print.Goals as goal

pub returns-clause-again : goal.returns-clause-again
returns-clause-again c = λ again read.
    let script : Script = c.args.script.now in
    let none : c.loop-left.left ≡ [] = search rules in
    let all = none_left script c.loop-left.text c.loop-left.left c.loop-left.invariant none in
    read_again script again (printable c.text.result.now script c.text.ensures)
    (subst (λ (text : List ℕ). IsReadAs text again) (sym all) read)

pub returns-clause-short : goal.returns-clause-short
returns-clause-short c = λ source is.
    let script : Script = c.args.script.now in
    let none : c.loop-left.left ≡ [] = search rules in
    let all = none_left script c.loop-left.text c.loop-left.left c.loop-left.invariant none in
    subst (λ (text : List ℕ). length text ≤ length source + 1) all (no_longer source script is)
