use Rattle.std.proofs.Common.{◌∙◌, ◌||◌, ◌&&◌, not}
use Rattle.http_heads.specs.Framing.{is_chunked}
use Rattle.http_heads.proofs.ValueLemmas.{list_any_seen, ends_chunked_seen, twice_seen}
use Rattle.http_heads.proofs.rules.transfer_coding.Goals as goal

pub loop-element-preserved : goal.loop-element-preserved
loop-element-preserved c =
    let before = c.loop-element.invariant in
    let here = c.is_chunked-last.ensures in
    record {
      last = here ∙ ends_chunked_seen c.loop-element.yielded c.in-Some.element;
      seen = (λ i. before.seen i || here i) ∙ list_any_seen is_chunked c.loop-element.yielded c.in-Some.element;
      twice = (λ i. before.twice i || (before.seen i && here i)) ∙ twice_seen is_chunked c.loop-element.yielded c.in-Some.element;
      other = (λ i. before.other i || not (here i)) ∙ list_any_seen (λ e. not (is_chunked e)) c.loop-element.yielded c.in-Some.element;
    }
