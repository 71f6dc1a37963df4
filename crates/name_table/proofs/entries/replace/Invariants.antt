use Rattle.std.proofs.Common.{◌≡◌, ◌++◌, take, drop, map}
use Rattle.name_table.specs.Entries.{entry_replaced}
use Rattle.name_table.proofs.entries.replace.Given as goal

abbrev pub invariant-loop-entry : goal.invariant-loop-entry
invariant-loop-entry l = l.entry-items ≡ map (entry_replaced l.old.number.0 l.new) (take l.entry-index l.fn.entries.items) ++ drop l.entry-index l.fn.entries.items
