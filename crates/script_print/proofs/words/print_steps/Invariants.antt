-- The steps so far.
use Rattle.std.proofs.Common.{◌≡◌, ◌++◌, map, take}
use Rattle.promise_script.specs.ScriptText.{step_word}
use Rattle.script_print.proofs.Spaced.{behind}
use Rattle.script_print.proofs.words.print_steps.Given as goal

abbrev pub invariant-loop-step : goal.invariant-loop-step
invariant-loop-step l =
    l.text ≡ l.initial.text ++ behind (map step_word (take l.step-index l.steps))
