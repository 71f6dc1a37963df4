use Rattle.std.proofs.Common.{◌∙◌, length, sym}
use Rattle.std.proofs.lemmas.Bool.{eqb-true}
use Rattle.http_core.proofs.TextLemmas.{some_left, chunk_step, chunks_done, front_stays_more}
use Rattle.http_core.proofs.text.push_chunks.Goals as goal

pub loop-rest-preserved : goal.loop-rest-preserved
loop-rest-preserved c =
    let some = some_left (length c.loop-rest.rest.now) c.loop-rest-test.ensures in
    record {
      all = chunk_step c.loop-rest.out c.write_chunk.new.out c.loop-rest.rest.now c.split_at.result.0.now c.split_at.result.1.now _ c.min.ensures some c.split_at.ensures.front c.split_at.ensures.back c.in_ok-write_chunk.ensures.ok
          ∙ c.loop-rest.invariant.all;
      front = front_stays_more c.args.out.now c.loop-rest.out c.write_chunk.new.out _ c.loop-rest.invariant.front c.in_ok-write_chunk.ensures.ok;
    }

pub returns-clause-ok : goal.returns-clause-ok
returns-clause-ok c = chunks_done c.loop-rest.out c.loop-rest.rest.now _ (eqb-true _ 0 (sym c.loop-rest-test.ensures)) c.loop-rest.invariant.all
