-- The first word, the numbers, and the names behind them.
use Rattle.std.proofs.Common.{arith, ◌≡◌, ◌∙◌, List, ℕ, [], ◌∷◌, ◌++◌, ap, map, take, refl}
use Rattle.std.specs.Prelude.{decimal}
use Rattle.std.proofs.lemmas.Grind.{common_steps}
use Rattle.std.proofs.lemmas.Result.{on_ok_weaker}
use Rattle.kj_base.specs.declared.numbers.Name.{Name}
use Rattle.kj_model.specs.Text.{all_spaced}
use Rattle.promise_script.specs.ScriptText.{name_word}
use Rattle.script_print.proofs.Spaced.{behind, longer_line_is, numbers_behind}
use Rattle.script_print.proofs.words.print_names.Goals as goal

pub returns : goal.returns
returns c =
    let ns : List ℕ = c.args.numbers.now in
    let names : List Name = c.args.names.now in
    let all : take c.loop-name.name-index names ≡ names = grind (arith, common_steps) in
    let behind_all : List Name → List ℕ = λ (xs : List Name). behind (map name_word xs) in
    on_ok_weaker c.push.result
    (λ (e : c.push.new.self ≡ c.loop-name.text ++ (10 ∷ [])). e
    ∙ ap (λ (ys : List ℕ). ys ++ (10 ∷ []))
    (c.loop-name.invariant ∙ (λ i. c.in_ok-print_start.ensures i ++ behind_all (all i)))
    ∙ longer_line_is c.args.text.now c.args.verb.now (all_spaced ns) (behind_all names)
    (map decimal ns) (map name_word names) (numbers_behind ns) refl)
    c.push.ensures.ok
