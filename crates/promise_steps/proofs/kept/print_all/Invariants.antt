-- The lines so far.
use Rattle.std.proofs.Common.{◌≡◌, ◌++◌, List, map, take}
use Rattle.kj_model.specs.Log.{Told}
use Rattle.kj_model.specs.Text.{log_text}
use Rattle.promise_commands.specs.Script.{Body}
use Rattle.promise_steps.specs.Items.{item_of}
use Rattle.promise_steps.proofs.kept.print_all.Given as goal

abbrev pub invariant-loop-item : goal.invariant-loop-item
invariant-loop-item l = (bodies : List Body) → l.text ≡ l.fn.text ++ log_text (map Told (map (item_of bodies) (take l.item-index l.item-items)))
