use Rattle.node_arena.specs.Laws.{arena_takes}
use Rattle.node_arena.proofs.takes_no_more.Goals as goal

pub returns : goal.returns
returns c = arena_takes
