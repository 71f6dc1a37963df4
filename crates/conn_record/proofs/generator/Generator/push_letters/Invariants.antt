use Rattle.std.proofs.Common.{◌≡◌, ◌-◌, ◌++◌}
use Rattle.conn_record.specs.Generator.{after, letters}
use Rattle.conn_record.proofs.generator.Generator.push_letters.Given as goal

abbrev pub invariant-loop : goal.invariant-loop
invariant-loop l = record {
  letters : l.out ++ letters (l.count - l.counter) l.self.state ≡ l.fn.out ++ letters l.count l.fn.self.state;
  after : after (l.count - l.counter) l.self.state ≡ after l.count l.fn.self.state;
}
