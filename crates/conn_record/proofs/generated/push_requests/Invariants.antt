use Rattle.std.proofs.Common.{◌≡◌, ◌-◌, ◌++◌}
use Rattle.conn_record.specs.Generator.{requests_text, after_requests}
use Rattle.conn_record.proofs.generated.push_requests.Given as goal

abbrev pub invariant-loop-request : goal.invariant-loop-request
invariant-loop-request l = record {
  text : l.out ++ requests_text l.conn l.request (l.requests - l.request) l.generator.state ≡ l.fn.out ++ requests_text l.conn 0 l.requests l.fn.generator.state;
  after : after_requests (l.requests - l.request) l.generator.state ≡ after_requests l.requests l.fn.generator.state;
}
