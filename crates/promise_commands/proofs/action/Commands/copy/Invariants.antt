-- The commands copied so far.
use Rattle.std.proofs.Common.{◌≡◌, take}
use Rattle.promise_commands.proofs.action.Commands.copy.Given as goal

abbrev pub invariant-loop-command : goal.invariant-loop-command
invariant-loop-command l = l.items.items ≡ take l.command-index l.source
