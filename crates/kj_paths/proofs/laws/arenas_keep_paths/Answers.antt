use Rattle.kj_paths.proofs.Same.{new_same, arenas_paths, arenas_close_paths}
use Rattle.kj_paths.proofs.laws.arenas_keep_paths.Goals as goal

pub returns-clause-alike : goal.returns-clause-alike
returns-clause-alike c = new_same

pub returns-clause-between : goal.returns-clause-between
returns-clause-between c = arenas_paths

pub returns-clause-closed : goal.returns-clause-closed
returns-clause-closed c = arenas_close_paths
