use Rattle.kj_ownership.proofs.Answers.{drop_hub_would_free, drop_would_free, stop_would_free}
use Rattle.kj_ownership.proofs.Sets.{clear_would_free, drop_set_would_free}
use Rattle.kj_ownership.proofs.laws.busy_reads_what_goes.Goals as goal

pub returns-clause-dropped : goal.returns-clause-dropped
returns-clause-dropped c = drop_would_free

pub returns-clause-unnamed : goal.returns-clause-unnamed
returns-clause-unnamed c = drop_hub_would_free

pub returns-clause-stopped : goal.returns-clause-stopped
returns-clause-stopped c = stop_would_free

pub returns-clause-cleared : goal.returns-clause-cleared
returns-clause-cleared c = clear_would_free

pub returns-clause-without_set : goal.returns-clause-without_set
returns-clause-without_set c = drop_set_would_free
