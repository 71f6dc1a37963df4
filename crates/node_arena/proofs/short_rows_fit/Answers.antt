use Rattle.node_arena.specs.Laws.{short_rows_fit}
use Rattle.node_arena.proofs.short_rows_fit.Goals as goal

pub returns : goal.returns
returns c = short_rows_fit
