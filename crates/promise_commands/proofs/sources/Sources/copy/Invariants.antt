-- The names copied so far.
use Rattle.std.proofs.Common.{◌≡◌, take}
use Rattle.promise_commands.proofs.sources.Sources.copy.Given as goal

abbrev pub invariant-loop-name : goal.invariant-loop-name
invariant-loop-name l = l.items.items ≡ take l.name-index l.source
