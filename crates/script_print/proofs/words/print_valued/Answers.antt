-- The first word, and the numbers and words behind it.
use Rattle.std.proofs.Common.{◌≡◌, ◌∙◌, List, ℕ, [], ◌∷◌, ◌++◌, ap, map}
use Rattle.std.specs.Prelude.{decimal}
use Rattle.std.proofs.lemmas.Result.{on_ok_weaker}
use Rattle.kj_model.specs.Text.{all_spaced}
use Rattle.script_print.proofs.Spaced.{longer_line_is, numbers_behind}
use Rattle.script_print.proofs.words.print_valued.Goals as goal

pub returns : goal.returns
returns c =
    let ns : List ℕ = c.args.numbers.now in
    let ws : List ℕ = c.args.words.now in
    on_ok_weaker c.push.result
    (λ (e : c.push.new.self ≡ c.print_words.new.text ++ (10 ∷ [])). e
    ∙ ap (λ (ys : List ℕ). ys ++ (10 ∷ []))
    (c.in_ok-print_words.ensures
    ∙ ap (λ (ys : List ℕ). ys ++ all_spaced ws) c.in_ok-print_start.ensures)
    ∙ longer_line_is c.args.text.now c.args.verb.now (all_spaced ns) (all_spaced ws)
    (map decimal ns) (map decimal ws) (numbers_behind ns) (numbers_behind ws))
    c.push.ensures.ok
