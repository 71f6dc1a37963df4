use Rattle.std.proofs.Common.{refl}
use Rattle.http_core.proofs.ConnectionLemmas.{served_first}
use Rattle.http_core.proofs.connection.Connection.new.Goals as goal

pub returns-clause-served : goal.returns-clause-served
returns-clause-served g c = served_first g.S.Service.told _ c.new.result refl refl c.new.ensures c.new-3.ensures
