use Rattle.std.proofs.Common.{◌≡◌, ◌+◌, length, take}
use Rattle.kj_model.specs.Uses.{new_over}
use Rattle.promise_commands.specs.Commands.{name_numbers}
use Rattle.promise_apply.specs.Uses.{uses_shown}
use Rattle.promise_apply.proofs.applying.joined_uses.Given as goal

abbrev pub invariant-loop-source : goal.invariant-loop-source
invariant-loop-source l = record {
  uses : uses_shown l.uses.items ≡ new_over l.fn.name.0 (name_numbers (take l.source-index l.wanted));
  few : length l.uses.items ≡ l.source-index + 1;
}
