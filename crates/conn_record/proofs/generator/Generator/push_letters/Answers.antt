use Rattle.std.proofs.Common.{◌≡◌, ◌+◌, ◌-◌, suc, ◌∙◌, arith}
use Rattle.conn_record.proofs.GeneratorLemmas.{letters_step, after_step}
use Rattle.conn_record.proofs.generator.Generator.push_letters.Goals as goal

pub loop-preserved : goal.loop-preserved
loop-preserved c =
    let more : c.args.count - c.loop.counter ≡ suc (c.args.count - (c.loop.counter + 1)) = omega arith in
    record {
      letters = letters_step c.loop.out c.push.new.self _ _ c.loop.self.state c.draw.new.self.state c.draw.result more c.draw.ensures.state c.draw.ensures.value c.in_ok-push.ensures.ok ∙ c.loop.invariant.letters;
      after = after_step _ _ c.loop.self.state c.draw.new.self.state more c.draw.ensures.state ∙ c.loop.invariant.after;
    }
