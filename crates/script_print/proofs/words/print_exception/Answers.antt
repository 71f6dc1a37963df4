-- The first word, and the numbers, the kind and the code behind it.
use Rattle.std.proofs.Common.{rules, ◌≡◌, ◌∙◌, List, ℕ, [], ◌∷◌, ◌++◌, ap, map}
use Rattle.std.specs.Prelude.{decimal}
use Rattle.std.proofs.lemmas.Result.{on_ok_weaker}
use Rattle.kj_model.specs.Text.{all_spaced, kind_text, spaced}
use Rattle.promise_script.specs.ScriptText.{exception_words}
use Rattle.script_print.proofs.Spaced.{code_behind, kind_and_code, longer_line_is, numbers_behind}
use Rattle.script_print.proofs.words.print_exception.Goals as goal

pub returns : goal.returns
returns c =
    let ns : List ℕ = c.args.numbers.now in
    let kind : List ℕ = kind_text c.args.exception.kind in
    let code : List ℕ = spaced c.args.exception.code in
    let last : c.print_number.new.text ≡ ((c.print_start.new.text ++ (32 ∷ [])) ++ kind) ++ code =
    search rules in
    on_ok_weaker c.push-2.result
    (λ (e : c.push-2.new.self ≡ c.print_number.new.text ++ (10 ∷ [])). e
    ∙ ap (λ (ys : List ℕ). ys ++ (10 ∷ [])) (last ∙ kind_and_code c.print_start.new.text kind code
    ∙ ap (λ (ys : List ℕ). ys ++ (32 ∷ (kind ++ code))) c.in_ok-print_start.ensures)
    ∙ longer_line_is c.args.text.now c.args.verb.now (all_spaced ns) (32 ∷ (kind ++ code))
    (map decimal ns) (exception_words c.args.exception)
    (numbers_behind ns)
    (ap (λ (ys : List ℕ). 32 ∷ (kind ++ ys)) (code_behind c.args.exception.code)))
    c.push-2.ensures.ok
