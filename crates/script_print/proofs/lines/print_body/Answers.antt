-- The first line, the commands, and the end.
use Rattle.std.proofs.Common.{arith, ◌≡◌, ◌∙◌, List, ℕ, [], ◌∷◌, ◌++◌, ap, map, take}
use Rattle.std.specs.Prelude.{codes, decimal}
use Rattle.std.proofs.lemmas.Grind.{common_steps}
use Rattle.std.proofs.lemmas.Result.{on_ok_weaker}
use Rattle.promise_commands.specs.declared.command.Command.{Command}
use Rattle.promise_script.specs.declared.meaning.Meaning.TheVariants.{Do, Step, Close}
use Rattle.script_print.specs.Printed.{printed_line, printed_lines, words_line}
use Rattle.script_print.proofs.Rows.{body_is}
use Rattle.script_print.proofs.lines.print_body.Goals as goal

pub returns : goal.returns
returns c =
    let commands : List Command = c.args.action.now.commands in
    let last : List ℕ = printed_line (Close c.args.action.now.ending) in
    let items : List Command = c.as_slice-command-items.result.now in
    let whole : take c.loop-command.command-index items ≡ items = grind (arith, common_steps) in
    let all : take c.loop-command.command-index items ≡ commands = whole
    ∙ c.as_slice-command-items.ensures.commands in
    let first : c.print_numbers.new.text ≡ c.args.text.now ++ printed_line (Step c.args.step) =
    c.in_ok-print_numbers.ensures
    ∙ ap (λ (n : ℕ). c.args.text.now ++ words_line (codes "step" ∷ decimal n ∷ []))
    c.from.ensures in
    on_ok_weaker c.print_ending.result
    (λ (e : c.print_ending.new.text ≡ c.loop-command.text ++ last). e
    ∙ ap (λ (ys : List ℕ). ys ++ last)
    (c.loop-command.invariant ∙ (λ i. first i ++ printed_lines (map Do (all i))))
    ∙ body_is c.args.text.now c.args.step c.args.action.now)
    c.print_ending.ensures
