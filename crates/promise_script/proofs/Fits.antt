-- The numbers of a script are those that its lines may have.
use Rattle.std.proofs.Common.{ℕ, ◌+◌, List, [], ◌∷◌, ◌++◌, Option, None, Some, Result, Ok, Err, IfOk, IfSome, sym, subst, arith, length, replicate}
use Rattle.std.specs.Prelude.{flat_map}
use Rattle.std.specs.List.{All as EachOf}
use Rattle.std.proofs.lemmas.List.Elements.{All-append, All-push}
use Rattle.kj_base.specs.declared.numbers.Limits.{Limits}
use Rattle.promise_commands.specs.declared.script.Line.{Line}
use Rattle.promise_commands.specs.declared.script.Line.TheVariants.{Do as DoLine, Turn as TurnLine, Run as RunLine, Wait as WaitLine}
use Rattle.promise_commands.specs.declared.script.NumberedLine.{NumberedLine}
use Rattle.promise_commands.specs.Script.{Script}
use Rattle.promise_script.specs.declared.meaning.Meaning.{Meaning}
use Rattle.promise_script.specs.declared.meaning.Meaning.TheVariants.{Nothing, Limits as LimitsLine, Do, Turn, Run, Wait, Step, Close}
use Rattle.promise_script.specs.declared.reader.ReadRefused.{ReadRefused}
use Rattle.promise_script.specs.ScriptText.{LimitsFit, MeaningFits, Means, lines_of}
use Rattle.promise_script.specs.Scripts.{Piece, Remark, Stands, Bodied, line_meaning, piece_meanings, limits_meanings, piece_lines, lines_in, MeanAll, IsScript, LineFits, ScriptFits, IsReadAs}

means_fits : (text : List ℕ) (m : Meaning) → Means text m → MeaningFits m
means_fits text Nothing means = tt
means_fits text (LimitsLine l) means = means.0
means_fits text (Do c) means = means.0
means_fits text Turn means = means.0
means_fits text (Run n) means = means.0
means_fits text (Wait p n) means = means.0
means_fits text (Step s) means = means.0
means_fits text (Close x) means = means.0

abbrev pub AllFit : List Meaning → Type 0
AllFit [] = Unit {0}
AllFit (m ∷ ms) = MeaningFits m × AllFit ms

pub mean_fit : (texts : List (List ℕ)) (ms : List Meaning) → MeanAll texts ms → AllFit ms
mean_fit [] [] mean = tt
mean_fit [] (m ∷ ms) mean = absurd mean
mean_fit (text ∷ texts) [] mean = absurd mean
mean_fit (text ∷ texts) (m ∷ ms) mean = (means_fits text m mean.0, mean_fit texts ms mean.1)

pub front_fits : (xs ys : List Meaning) → AllFit (xs ++ ys) → AllFit xs
front_fits [] ys fit = tt
front_fits (x ∷ xs) ys fit = (fit.0, front_fits xs ys fit.1)

pub behind_fits : (xs ys : List Meaning) → AllFit (xs ++ ys) → AllFit ys
behind_fits [] ys fit = fit
behind_fits (x ∷ xs) ys fit = behind_fits xs ys fit.1

pub limits_fit : (l : Option Limits) → AllFit (limits_meanings l) → IfSome l LimitsFit
limits_fit None fit = tt
limits_fit (Some l) fit = fit.0

abbrev Fits : NumberedLine → Type 0
Fits x = LineFits x.line

no_lines : EachOf Fits []
no_lines k d inside = absurd (omega arith)

line_fits : (line : Line) → MeaningFits (line_meaning line) → LineFits line
line_fits (DoLine c) fit = tt
line_fits TurnLine fit = tt
line_fits (RunLine n) fit = fit
line_fits (WaitLine p n) fit = fit.1

piece_fits : (n : ℕ) (p : Piece) → AllFit (piece_meanings p) → EachOf Fits (piece_lines n p)
piece_fits n Remark fit = no_lines
piece_fits n (Stands line) fit = All-push Fits [] (record { number = n; line = line }) no_lines (line_fits line fit.0)
piece_fits n (Bodied s inside x) fit = no_lines

lines_fit : (n : ℕ) (ps : List Piece) → AllFit (flat_map piece_meanings ps) → EachOf Fits (lines_in n ps)
lines_fit n [] fit = no_lines
lines_fit n (p ∷ ps) fit =
    All-append Fits (piece_lines n p) (lines_in (n + length (piece_meanings p)) ps)
    (piece_fits n p (front_fits (piece_meanings p) (flat_map piece_meanings ps) fit))
    (lines_fit (n + length (piece_meanings p)) ps (behind_fits (piece_meanings p) (flat_map piece_meanings ps) fit))

script_fits : (lines : List (List ℕ)) (s : Script) → IsScript lines s → ScriptFits s
script_fits lines s is =
    let front : List Meaning = replicate is.remarks Nothing in
    let fit = mean_fit lines (front ++ limits_meanings s.limits ++ flat_map piece_meanings is.pieces) is.mean in
    record {
      limits = limits_fit s.limits (behind_fits front (limits_meanings s.limits) (front_fits (front ++ limits_meanings s.limits) (flat_map piece_meanings is.pieces) fit));
      lines = subst (λ (xs : List NumberedLine). EachOf Fits xs) (sym is.outside)
          (lines_fit (is.remarks + length (limits_meanings s.limits) + 1) is.pieces (behind_fits (front ++ limits_meanings s.limits) (flat_map piece_meanings is.pieces) fit));
    }

pub read_fits : (text : List ℕ) (r : Result Script ReadRefused) → IsReadAs text r → IfOk r (λ s. ScriptFits s)
read_fits text (Ok s) is = script_fits (lines_of text) s is
read_fits text (Err e) is = tt
