-- The names so far.
use Rattle.std.proofs.Common.{◌≡◌, ◌++◌, map, take}
use Rattle.promise_script.specs.ScriptText.{name_word}
use Rattle.script_print.proofs.Spaced.{behind}
use Rattle.script_print.proofs.words.print_names.Given as goal

abbrev pub invariant-loop-name : goal.invariant-loop-name
invariant-loop-name l =
    l.text ≡ l.initial.text ++ behind (map name_word (take l.name-index l.names))
