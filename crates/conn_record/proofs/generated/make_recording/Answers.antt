use Rattle.std.proofs.Common.{◌≡◌, ℕ, List, ◌+◌, ◌-◌, ◌++◌, suc, ap, ◌∙◌, arith}
use Rattle.conn_record.specs.Records.{conn_text}
use Rattle.conn_record.specs.Generator.{requests_text}
use Rattle.conn_record.proofs.GeneratorLemmas.{connections_step}
use Rattle.conn_record.proofs.generated.make_recording.Goals as goal

pub loop-conn-preserved : goal.loop-conn-preserved
loop-conn-preserved c =
    let before = c.loop-conn in
    let made = c.push_requests.new in
    let more : c.args.conns - before.conn ≡ suc (c.args.conns - (before.conn + 1)) = omega arith in
    connections_step before.out c.push_conn.new.out made.out before.conn c.args.requests _ _ before.generator.state made.generator.state more c.in_ok-push_requests.ensures.after
    (c.in_ok-push_requests.ensures.text ∙ ap (λ (o : List ℕ). o ++ requests_text before.conn 0 c.args.requests before.generator.state) c.new-octets.ensures)
    (c.in_ok-push_conn.ensures ∙ ap (λ (o : List ℕ). before.out ++ conn_text o) c.as_slice.ensures) ∙ before.invariant
