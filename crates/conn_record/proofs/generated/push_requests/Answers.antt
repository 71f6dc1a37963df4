use Rattle.std.proofs.Common.{◌≡◌, ◌+◌, ◌-◌, suc, ◌∙◌, arith}
use Rattle.conn_record.proofs.GeneratorLemmas.{requests_step, after_requests_step}
use Rattle.conn_record.proofs.generated.push_requests.Goals as goal

pub loop-request-preserved : goal.loop-request-preserved
loop-request-preserved c =
    let before = c.loop-request in
    let done = c.push_request.new in
    let more : c.args.requests - before.request ≡ suc (c.args.requests - (before.request + 1)) = omega arith in
    record {
      text = requests_step before.out done.out c.args.conn before.request _ _ before.generator.state done.generator.state more c.in_ok-push_request.ensures.after c.in_ok-push_request.ensures.text ∙ before.invariant.text;
      after = after_requests_step _ _ before.generator.state done.generator.state more c.in_ok-push_request.ensures.after ∙ before.invariant.after;
    }
