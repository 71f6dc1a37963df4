-- The commands so far.
use Rattle.std.proofs.Common.{◌≡◌, ◌++◌, map, take}
use Rattle.promise_script.specs.declared.meaning.Meaning.TheVariants.{Do}
use Rattle.script_print.specs.Printed.{printed_lines}
use Rattle.script_print.proofs.lines.print_body.Given as goal

abbrev pub invariant-loop-command : goal.invariant-loop-command
invariant-loop-command l =
    l.text ≡ l.initial.text ++ printed_lines (map Do (take l.command-index l.command-items))
