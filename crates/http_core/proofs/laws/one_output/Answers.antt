use Rattle.std.proofs.Common.{◌++◌, sym, ◌∙◌}
use Rattle.http_core.specs.Requests.{replies, end_text}
use Rattle.http_core.proofs.UniqueLemmas.{one_reading}
use Rattle.http_core.proofs.laws.one_output.Goals as goal

pub returns : goal.returns
returns c f bytes output other a b =
    let same = one_reading bytes a.requests b.requests a.end b.end a.reads b.reads in
    a.output_is ∙ (λ i. replies f (same.0 i) ++ end_text (same.1 i)) ∙ sym b.output_is
