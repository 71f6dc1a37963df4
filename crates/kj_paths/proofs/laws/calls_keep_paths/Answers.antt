use Rattle.kj_paths.proofs.Paths.{calls_paths, close_paths}
use Rattle.kj_paths.proofs.laws.calls_keep_paths.Goals as goal

pub returns-clause-between : goal.returns-clause-between
returns-clause-between c = calls_paths

pub returns-clause-closed : goal.returns-clause-closed
returns-clause-closed c = close_paths
