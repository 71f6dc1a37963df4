-- The first word, the numbers, and the steps behind them.
use Rattle.std.proofs.Common.{arith, ◌≡◌, ◌∙◌, List, Option, ℕ, [], ◌∷◌, ◌++◌, ap, map, take, refl}
use Rattle.std.specs.Prelude.{decimal}
use Rattle.std.proofs.lemmas.Grind.{common_steps}
use Rattle.std.proofs.lemmas.Result.{on_ok_weaker}
use Rattle.kj_base.specs.declared.numbers.StepId.{StepId}
use Rattle.kj_model.specs.Text.{all_spaced}
use Rattle.promise_script.specs.ScriptText.{step_word}
use Rattle.script_print.proofs.Spaced.{behind, longer_line_is, numbers_behind}
use Rattle.script_print.proofs.words.print_steps.Goals as goal

pub returns : goal.returns
returns c =
    let ns : List ℕ = c.args.numbers.now in
    let steps : List (Option StepId) = c.args.steps.now in
    let all : take c.loop-step.step-index steps ≡ steps = grind (arith, common_steps) in
    let behind_all : List (Option StepId)
    → List ℕ = λ (xs : List (Option StepId)). behind (map step_word xs) in
    on_ok_weaker c.push.result
    (λ (e : c.push.new.self ≡ c.loop-step.text ++ (10 ∷ [])). e
    ∙ ap (λ (ys : List ℕ). ys ++ (10 ∷ []))
    (c.loop-step.invariant ∙ (λ i. c.in_ok-print_start.ensures i ++ behind_all (all i)))
    ∙ longer_line_is c.args.text.now c.args.verb.now (all_spaced ns) (behind_all steps)
    (map decimal ns) (map step_word steps) (numbers_behind ns) refl)
    c.push.ensures.ok
