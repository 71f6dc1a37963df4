use Rattle.std.proofs.Common.{◌≡◌, ◌≤◌, [], length, take, drop}
use Rattle.promise_commands.specs.Commands.{name_numbers}
use Rattle.promise_apply.specs.Joining.{AreSources, are_sources, source_names}
use Rattle.promise_apply.proofs.sources.sources_named.Given as goal

abbrev pub invariant-loop-name : goal.invariant-loop-name
invariant-loop-name g l =
    let roots = g.M.Names.roots l.names in
    record {
      sources : AreSources roots l.found.items;
      names : source_names l.found.items ≡ name_numbers (take l.name-index l.wanted);
      few : length l.found.items ≤ l.name-index;
      rest : are_sources roots (source_names l.found.items) (name_numbers (drop l.name-index l.wanted)) ≡ are_sources roots [] (name_numbers l.wanted);
    }
