use Rattle.kj_ownership.proofs.Requests.{request_named, no_request, fires_no_request}
use Rattle.kj_ownership.proofs.running.requests_are_named.Goals as goal

pub returns-clause-named : goal.returns-clause-named
returns-clause-named c = request_named

pub returns-clause-none : goal.returns-clause-none
returns-clause-none c = no_request

pub returns-clause-fires_none : goal.returns-clause-fires_none
returns-clause-fires_none c = fires_no_request
