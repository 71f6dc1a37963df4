use Rattle.std.proofs.Common.{ℕ, List, ◌++◌, ◌∷◌, length, ap, sym, ◌∙◌, arith}
use Rattle.std.proofs.lemmas.List.{length-take, take-append-drop}
use Rattle.http_frames.proofs.StepLemmas.{whole_from_parts}
use Rattle.http_frames.proofs.reader.whole_chunk.Goals as goal

pub split_at-requires : goal.split_at-requires
split_at-requires c = omega (arith, c.in_ok-at.ensures.bound, ap length c.front_of.ensures, length-take 4094 c.args.piece.now)

pub returns-clause-chunk : goal.returns-clause-chunk
returns-clause-chunk c =
    let at = c.in_ok-at.at in
    let content = c.in_ok-content.content.now in
    let first = c.split_at.ensures in
    let second = c.split_at-2.ensures in
    whole_from_parts c.split_at.result.0.now c.split_at.result.1.now c.args.piece.now c.split_at-2.result.0.now c.split_at-2.result.1.now c.in_ok-behind_crlf.field-0.now c.in_ok-size.size
    (sym (take-append-drop at c.args.piece.now) ∙ (λ i. sym first.front i ++ sym first.back i))
    (c.in_ok-content.ensures ∙ ap (λ (d : List ℕ). 13 ∷ 10 ∷ d) (sym (take-append-drop c.in_ok-size.size content) ∙ (λ i. sym second.front i ++ sym second.back i)))
    c.in_ok-behind_crlf.ensures c.in_ok-size.ensures.sized.0 (omega (arith, c.in_ok-size.ensures.sized.1)) (omega (arith, ap length second.front, length-take c.in_ok-size.size content)) (omega arith)
