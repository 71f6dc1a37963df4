-- Lines, printed one behind another.
use Rattle.std.proofs.Common.{◌≡◌, ℕ, ◌<◌, ◌+◌, List, [], ◌∷◌, ◌++◌, sym, ap, ◌∙◌, map, length, take}
use Rattle.std.specs.Prelude.{flat_map}
use Rattle.std.proofs.lemmas.List.{append_assoc, append-nil, take_more}
use Rattle.std.proofs.lemmas.Grind.{flat_map-append}
use Rattle.kj_base.specs.declared.numbers.StepId.{StepId}
use Rattle.promise_commands.specs.declared.action.Action.{Action}
use Rattle.promise_commands.specs.declared.script.NumberedLine.{NumberedLine}
use Rattle.promise_commands.specs.Script.{Body, Script, body_at, no_body}
use Rattle.promise_script.specs.declared.meaning.Meaning.{Meaning}
use Rattle.promise_script.specs.declared.meaning.Meaning.TheVariants.{Do, Step, Close}
use Rattle.promise_script.specs.Scripts.{limits_meanings}
use Rattle.script_print.specs.Printed.{action_meanings, body_meanings, outside_meaning, printed, printed_line, printed_lines}

pub printed_more : (xs ys : List Meaning) → printed_lines (xs ++ ys)
    ≡ printed_lines xs ++ printed_lines ys
printed_more xs ys = flat_map-append printed_line xs ys

-- the first line of a body, its commands and its end
pub body_is : (old : List ℕ) (step : StepId) (action : Action)
    → ((old ++ printed_line (Step step)) ++ printed_lines (map Do action.commands))
    ++ printed_line (Close action.ending)
    ≡ old ++ printed_lines (action_meanings step action)
body_is old step action =
    let inside : List Meaning = map Do action.commands in
    let last : List Meaning = Close action.ending ∷ [] in
    ap (λ (ys : List ℕ). ys ++ printed_line (Close action.ending))
    (append_assoc old (printed_line (Step step)) (printed_lines inside))
    ∙ append_assoc old (printed_line (Step step) ++ printed_lines inside)
    (printed_line (Close action.ending))
    ∙ ap (λ (ys : List ℕ). old ++ ys)
    (append_assoc (printed_line (Step step)) (printed_lines inside)
    (printed_line (Close action.ending)))
    ∙ ap (λ (ys : List ℕ). old ++ (printed_line (Step step) ++ (printed_lines inside ++ ys)))
    (sym (append-nil (printed_line (Close action.ending))))
    ∙ ap (λ (ys : List ℕ). old ++ (printed_line (Step step) ++ ys)) (sym (printed_more inside last))

-- one body more
pub body_more : (before : List ℕ) (bodies : List Body) (which : ℕ) → which < length bodies
    → (before ++ printed_lines (flat_map body_meanings (take which bodies)))
    ++ printed_lines (body_meanings (body_at bodies which))
    ≡ before ++ printed_lines (flat_map body_meanings (take (which + 1) bodies))
body_more before bodies which inside =
    let now : List Body = take which bodies in
    let body : Body = body_at bodies which in
    append_assoc before (printed_lines (flat_map body_meanings now))
    (printed_lines (body_meanings body))
    ∙ ap (λ (ys : List ℕ). before ++ ys)
    (sym (printed_more (flat_map body_meanings now) (body_meanings body)))
    ∙ ap (λ (ms : List Meaning). before ++ printed_lines (flat_map body_meanings now ++ ms))
    (sym (append-nil (body_meanings body)))
    ∙ ap (λ (ms : List Meaning). before ++ printed_lines ms)
    (sym (flat_map-append body_meanings now (body ∷ [])))
    ∙ ap (λ (bs : List Body). before ++ printed_lines (flat_map body_meanings bs))
    (sym (take_more bodies which no_body inside))

-- the limits, all bodies, and the lines outside them
pub script_is : (script : Script)
    → printed script
    ≡ (printed_lines (limits_meanings script.limits)
    ++ printed_lines (flat_map body_meanings script.bodies))
    ++ printed_lines (map outside_meaning script.lines)
script_is script =
    let limits : List Meaning = limits_meanings script.limits in
    let bodies : List Meaning = flat_map body_meanings script.bodies in
    printed_more (limits ++ bodies) (map outside_meaning script.lines)
    ∙ ap (λ (ys : List ℕ). ys ++ printed_lines (map outside_meaning script.lines))
    (printed_more limits bodies)

-- where no line is left
pub none_left : (script : Script) (text : List ℕ) (left : List NumberedLine)
    → printed script ≡ text ++ printed_lines (map outside_meaning left) → left ≡ []
    → printed script ≡ text
none_left script text left all none =
    all ∙ ap (λ (xs : List NumberedLine). text ++ printed_lines (map outside_meaning xs)) none
    ∙ append-nil text
