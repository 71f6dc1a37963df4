-- A script that is read can be printed; scripts that are the same but for the numbers of lines have
-- one text.
use Rattle.std.proofs.Common.{◌≡◌, ℕ, ◌+◌, List, [], ◌∷◌, ◌++◌, Option, None, Some, refl, sym, ap, ◌∙◌, subst, map, length, replicate}
use Rattle.std.specs.Prelude.{flat_map}
use Rattle.std.specs.List.{AllByRecursion}
use Rattle.promise_commands.specs.declared.command.Command.{Command}
use Rattle.promise_commands.specs.declared.script.Line.{Line}
use Rattle.promise_commands.specs.declared.script.NumberedLine.{NumberedLine}
use Rattle.promise_commands.specs.Script.{Body, Script}
use Rattle.promise_script.specs.declared.meaning.Meaning.{Meaning}
use Rattle.promise_script.specs.declared.meaning.Meaning.TheVariants.{Nothing, Step, Close}
use Rattle.promise_script.specs.ScriptText.{CommandFits, lines_of}
use Rattle.promise_script.specs.Scripts.{Piece, Remark, Stands, Bodied, line_meaning, inside_meaning, body_meanings as inner_meanings, piece_meanings, limits_meanings, commands_of, piece_bodies, lines_in, PiecesFit, IsScriptText}
use Rattle.promise_script.proofs.Fits.{AllFit, mean_fit, front_fits, behind_fits, limits_fit}
use Rattle.script_print.specs.Again.{BodyFits, OutsideFits, IsPrintable, IsSame, line_in}
use Rattle.script_print.specs.Printed.{body_meanings, outside_meaning, printed, printed_lines}

-- ---- read before

commands_fit : (inside : List (Option Command)) → AllFit (map inside_meaning inside)
    → AllByRecursion CommandFits (commands_of inside)
commands_fit [] fit = tt
commands_fit (None ∷ inside) fit = commands_fit inside fit.1
commands_fit (Some command ∷ inside) fit = (fit.0, commands_fit inside fit.1)

bodies_fit : (pieces : List Piece) → PiecesFit pieces → AllFit (flat_map piece_meanings pieces)
    → AllByRecursion BodyFits (flat_map piece_bodies pieces)
bodies_fit [] few fit = tt
bodies_fit (Remark ∷ pieces) few fit = bodies_fit pieces few.1 fit.1
bodies_fit (Stands line ∷ pieces) few fit = bodies_fit pieces few.1 fit.1
bodies_fit (Bodied step inside ending ∷ pieces) few fit =
    let here = front_fits (Step step ∷ inner_meanings inside ending)
    (flat_map piece_meanings pieces) fit in
    let rest = behind_fits (Step step ∷ inner_meanings inside ending)
    (flat_map piece_meanings pieces) fit in
    let last = behind_fits (map inside_meaning inside) (Close ending ∷ []) here.1 in (
      record {
        step = here.0;
        few = few.0;
        commands = commands_fit inside
            (front_fits (map inside_meaning inside) (Close ending ∷ []) here.1);
        ending = last.0;
      },
      bodies_fit pieces few.1 rest,
    )

lines_fit : (n : ℕ) (pieces : List Piece) → AllFit (flat_map piece_meanings pieces)
    → AllByRecursion OutsideFits (lines_in n pieces)
lines_fit n [] fit = tt
lines_fit n (Remark ∷ pieces) fit = lines_fit (n + 1) pieces fit.1
lines_fit n (Stands line ∷ pieces) fit = (fit.0, lines_fit (n + 1) pieces fit.1)
lines_fit n (Bodied step inside ending ∷ pieces) fit =
    lines_fit (n + length (piece_meanings (Bodied step inside ending))) pieces
    (behind_fits (Step step ∷ inner_meanings inside ending) (flat_map piece_meanings pieces) fit)

pub printable : (text : List ℕ) (script : Script) → IsScriptText text script → IsPrintable script
printable text script is =
    let front : List Meaning = replicate is.remarks Nothing in
    let limits : List Meaning = limits_meanings script.limits in
    let pieces : List Meaning = flat_map piece_meanings is.pieces in
    let fit = mean_fit (lines_of text) (front ++ limits ++ pieces) is.mean in
    let behind = behind_fits (front ++ limits) pieces fit in
    record {
      limits = limits_fit script.limits
          (behind_fits front limits (front_fits (front ++ limits) pieces fit));
      bodies = subst (λ (bs : List Body). AllByRecursion BodyFits bs) (sym is.bodies)
          (bodies_fit is.pieces is.fit behind);
      lines = subst (λ (ls : List NumberedLine). AllByRecursion OutsideFits ls) (sym is.outside)
          (lines_fit (is.remarks + length limits + 1) is.pieces behind);
    }

-- ---- printed alike

meanings_in : (lines : List NumberedLine) → map outside_meaning lines
    ≡ map line_meaning (map line_in lines)
meanings_in [] = refl
meanings_in (x ∷ xs) = ap (λ (ms : List Meaning). outside_meaning x ∷ ms) (meanings_in xs)

pub one_text : (one other : Script) → IsSame one other → printed one ≡ printed other
one_text one other same =
    let lines : map outside_meaning one.lines ≡ map outside_meaning other.lines =
    meanings_in one.lines ∙ ap (λ (ls : List Line). map line_meaning ls) same.lines
    ∙ sym (meanings_in other.lines) in
    λ i. printed_lines
    (limits_meanings (same.limits i) ++ flat_map body_meanings (same.bodies i) ++ lines i)
