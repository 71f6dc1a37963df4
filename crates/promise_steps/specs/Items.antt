-- The items that are told.
use Rattle.std.specs.Prelude.{List}
use Rattle.kj_base.specs.Record.{Item, Run, Free}
use Rattle.promise_commands.specs.Script.{Body}
use Rattle.promise_steps.specs.Order.{given_of}
use Rattle.promise_steps.specs.declared.told.Told.{Told}
use Rattle.promise_steps.specs.declared.told.Told.TheVariants.{Ran, Freed}

-- a run, with what it gave of the bodies of a script, or a free
abbrev pub item_of : List Body → Told → Item
item_of bodies (Ran node step input which) = Run node.0 step.0 input (given_of bodies which)
item_of bodies (Freed node) = Free node.0
