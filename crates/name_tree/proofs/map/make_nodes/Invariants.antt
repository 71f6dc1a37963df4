use Rattle.std.proofs.Common.{◌≡◌, vec_len}
use Rattle.name_tree.proofs.map.make_nodes.Given as goal

abbrev pub invariant-loop : goal.invariant-loop
invariant-loop g l = vec_len l.nodes ≡ l.counter
