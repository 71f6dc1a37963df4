-- The first word, and the numbers behind it.
use Rattle.std.proofs.Common.{◌≡◌, ◌∙◌, List, ℕ, [], ◌∷◌, ◌++◌, ap, map}
use Rattle.std.specs.Prelude.{decimal}
use Rattle.std.proofs.lemmas.Result.{on_ok_weaker}
use Rattle.kj_model.specs.Text.{all_spaced}
use Rattle.script_print.proofs.Spaced.{line_is, numbers_behind}
use Rattle.script_print.proofs.words.print_numbers.Goals as goal

pub returns : goal.returns
returns c =
    let ns : List ℕ = c.args.numbers.now in
    on_ok_weaker c.push.result
    (λ (e : c.push.new.self ≡ c.print_start.new.text ++ (10 ∷ [])). e
    ∙ ap (λ (ys : List ℕ). ys ++ (10 ∷ [])) c.in_ok-print_start.ensures
    ∙ line_is c.args.text.now c.args.verb.now (all_spaced ns) (map decimal ns) (numbers_behind ns))
    c.push.ensures.ok
