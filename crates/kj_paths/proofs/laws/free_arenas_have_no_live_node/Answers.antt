use Rattle.kj_paths.proofs.Paths.{used_lives, lives_used, next_unused, close_unused}
use Rattle.kj_paths.proofs.laws.free_arenas_have_no_live_node.Goals as goal

pub returns-clause-used : goal.returns-clause-used
returns-clause-used c = used_lives

pub returns-clause-lives : goal.returns-clause-lives
returns-clause-lives c = lives_used

pub returns-clause-next : goal.returns-clause-next
returns-clause-next c = next_unused

pub returns-clause-closed : goal.returns-clause-closed
returns-clause-closed c = close_unused
