-- What was printed is read again as the same script but for the numbers of lines.
use Rattle.std.proofs.Common.{◌≡◌, ℕ, ◌≤◌, ◌+◌, List, [], ◌∷◌, ◌++◌, Option, None, Some, Result, Ok, Err, IfSome, append_assoc, refl, sym, ap, ◌∙◌, subst, map, length}
use Rattle.std.specs.Prelude.{flat_map}
use Rattle.std.specs.List.{AllByRecursion}
use Rattle.kj_base.specs.declared.numbers.Limits.{Limits}
use Rattle.promise_commands.specs.declared.action.TheConstants.{MAX_COMMANDS}
use Rattle.promise_commands.specs.declared.command.Command.{Command}
use Rattle.promise_commands.specs.declared.script.Line.{Line}
use Rattle.promise_commands.specs.declared.script.Line.TheVariants.{Do as DoLine, Turn as TurnLine, Run as RunLine, Wait as WaitLine}
use Rattle.promise_commands.specs.declared.script.NumberedLine.{NumberedLine}
use Rattle.promise_commands.specs.Script.{Body, Script}
use Rattle.promise_script.specs.declared.meaning.Meaning.{Meaning}
use Rattle.promise_script.specs.declared.meaning.Meaning.TheVariants.{Do, Step, Close}
use Rattle.promise_script.specs.declared.reader.ReadRefused.{ReadRefused}
use Rattle.promise_script.specs.declared.reader.ReadRefused.TheVariants.{Bad, NotBuilt, NoMemory}
use Rattle.promise_script.specs.ScriptText.{CommandFits, LimitsFit, MeaningFits, lines_of}
use Rattle.promise_script.specs.Scripts.{Piece, Stands, Bodied, line_meaning, inside_meaning, piece_meanings, limits_meanings, commands_of, piece_bodies, lines_in, PiecesFit, MeanAll, IsScriptText, IsReadAs}
use Rattle.promise_script.proofs.Faults.{same_script, script_not_bad, script_built}
use Rattle.script_print.specs.Again.{BodyFits, OutsideFits, IsPrintable, IsSame, IsReadAgain, line_in}
use Rattle.script_print.specs.Printed.{body_meanings, outside_meaning, printed, script_meanings}
use Rattle.script_print.proofs.Printable.{IsSaid, printed_mean}

-- ---- each line can be said

said_more : (xs ys : List Meaning) → AllByRecursion IsSaid xs → AllByRecursion IsSaid ys
    → AllByRecursion IsSaid (xs ++ ys)
said_more [] ys first second = second
said_more (x ∷ xs) ys first second = (first.0, said_more xs ys first.1 second)

limits_said : (limits : Option Limits) → IfSome limits LimitsFit
    → AllByRecursion IsSaid (limits_meanings limits)
limits_said None fit = tt
limits_said (Some limits) fit = (fit, tt)

commands_said : (cs : List Command) → AllByRecursion CommandFits cs
    → AllByRecursion IsSaid (map Do cs)
commands_said [] fit = tt
commands_said (c ∷ cs) fit = (fit.0, commands_said cs fit.1)

body_said : (body : Body) → BodyFits body → AllByRecursion IsSaid (body_meanings body)
body_said body fit = (
  fit.step,
  said_more (map Do body.action.commands) (Close body.action.ending ∷ [])
      (commands_said body.action.commands fit.commands) (fit.ending, tt),
)

bodies_said : (bodies : List Body) → AllByRecursion BodyFits bodies
    → AllByRecursion IsSaid (flat_map body_meanings bodies)
bodies_said [] fit = tt
bodies_said (body ∷ bodies) fit = said_more (body_meanings body) (flat_map body_meanings bodies)
    (body_said body fit.0) (bodies_said bodies fit.1)

line_said : (line : Line) → MeaningFits (line_meaning line) → IsSaid (line_meaning line)
line_said (DoLine c) fit = fit
line_said TurnLine fit = fit
line_said (RunLine turns) fit = fit
line_said (WaitLine n turns) fit = fit

lines_said : (lines : List NumberedLine) → AllByRecursion OutsideFits lines
    → AllByRecursion IsSaid (map outside_meaning lines)
lines_said [] fit = tt
lines_said (x ∷ xs) fit = (line_said x.line fit.0, lines_said xs fit.1)

script_said : (script : Script) → IsPrintable script
    → AllByRecursion IsSaid (script_meanings script)
script_said script fit =
    said_more (limits_meanings script.limits ++ flat_map body_meanings script.bodies)
    (map outside_meaning script.lines)
    (said_more (limits_meanings script.limits) (flat_map body_meanings script.bodies)
    (limits_said script.limits fit.limits) (bodies_said script.bodies fit.bodies))
    (lines_said script.lines fit.lines)

-- ---- the pieces of what is printed

abbrev body_piece : Body → Piece
body_piece body = Bodied body.step (map Some body.action.commands) body.action.ending

abbrev line_piece : NumberedLine → Piece
line_piece numbered = Stands numbered.line

abbrev pieces : List Body → List NumberedLine → List Piece
pieces bodies lines = map body_piece bodies ++ map line_piece lines

commands_are : (cs : List Command) → commands_of (map Some cs) ≡ cs
commands_are [] = refl
commands_are (c ∷ cs) = ap (λ (ds : List Command). c ∷ ds) (commands_are cs)

inside_are : (cs : List Command) → map inside_meaning (map Some cs) ≡ map Do cs
inside_are [] = refl
inside_are (c ∷ cs) = ap (λ (ms : List Meaning). Do c ∷ ms) (inside_are cs)

lines_fit : (lines : List NumberedLine) → PiecesFit (map line_piece lines)
lines_fit [] = tt
lines_fit (x ∷ xs) = (tt, lines_fit xs)

pieces_fit : (bodies : List Body) (lines : List NumberedLine) → AllByRecursion BodyFits bodies
    → PiecesFit (pieces bodies lines)
pieces_fit [] lines fit = lines_fit lines
pieces_fit (body ∷ bodies) lines fit = (
  subst (λ (cs : List Command). length cs ≤ MAX_COMMANDS)
      (sym (commands_are body.action.commands)) fit.0.few,
  pieces_fit bodies lines fit.1,
)

lines_meant : (lines : List NumberedLine) → flat_map piece_meanings (map line_piece lines)
    ≡ map outside_meaning lines
lines_meant [] = refl
lines_meant (x ∷ xs) = ap (λ (ms : List Meaning). outside_meaning x ∷ ms) (lines_meant xs)

pieces_meant : (bodies : List Body) (lines : List NumberedLine)
    → flat_map piece_meanings (pieces bodies lines)
    ≡ flat_map body_meanings bodies ++ map outside_meaning lines
pieces_meant [] lines = lines_meant lines
pieces_meant (body ∷ bodies) lines =
    let here : piece_meanings (body_piece body) ≡ body_meanings body =
    ap (λ (ms : List Meaning). Step body.step ∷ (ms ++ (Close body.action.ending ∷ [])))
    (inside_are body.action.commands) in
    (λ i. here i ++ pieces_meant bodies lines i)
    ∙ sym (append_assoc (body_meanings body) (flat_map body_meanings bodies)
    (map outside_meaning lines))

no_bodies : (lines : List NumberedLine) → flat_map piece_bodies (map line_piece lines) ≡ []
no_bodies [] = refl
no_bodies (x ∷ xs) = no_bodies xs

bodies_are : (bodies : List Body) (lines : List NumberedLine)
    → flat_map piece_bodies (pieces bodies lines) ≡ bodies
bodies_are [] lines = no_bodies lines
bodies_are (body ∷ bodies) lines =
    let here : piece_bodies (body_piece body) ≡ body ∷ [] =
    ap (λ (cs : List Command).
    (record { step = body.step; action = record { commands = cs; ending = body.action.ending } })
    ∷ []) (commands_are body.action.commands) in
    (λ i. here i ++ bodies_are bodies lines i)

lines_are : (n : ℕ) (lines : List NumberedLine) → map line_in (lines_in n (map line_piece lines))
    ≡ map line_in lines
lines_are n [] = refl
lines_are n (x ∷ xs) = ap (λ (ls : List Line). x.line ∷ ls) (lines_are (n + 1) xs)

outside_are : (n : ℕ) (bodies : List Body) (lines : List NumberedLine)
    → map line_in (lines_in n (pieces bodies lines)) ≡ map line_in lines
outside_are n [] lines = lines_are n lines
outside_are n (body ∷ bodies) lines = outside_are (n + length (piece_meanings (body_piece body)))
    bodies lines

-- ---- what is read

-- the script with the numbers that its lines have in the text that is printed
abbrev pub renumbered : Script → Script
renumbered script =
    record {
      limits = script.limits;
      bodies = script.bodies;
      lines = lines_in (0 + length (limits_meanings script.limits) + 1)
          (pieces script.bodies script.lines);
    }

pub is_text : (script : Script) → IsPrintable script
    → IsScriptText (printed script) (renumbered script)
is_text script fit =
    let limits : List Meaning = limits_meanings script.limits in
    let bodies : List Meaning = flat_map body_meanings script.bodies in
    let lines : List Meaning = map outside_meaning script.lines in
    let meant : limits ++ flat_map piece_meanings (pieces script.bodies script.lines)
    ≡ script_meanings script =
    ap (λ (ms : List Meaning). limits ++ ms) (pieces_meant script.bodies script.lines)
    ∙ sym (append_assoc limits bodies lines) in
    record {
      remarks = 0;
      pieces = pieces script.bodies script.lines;
      fit = pieces_fit script.bodies script.lines fit.bodies;
      mean = subst (λ (ms : List Meaning). MeanAll (lines_of (printed script)) ms) (sym meant)
          (printed_mean (script_meanings script) (script_said script fit));
      bodies = sym (bodies_are script.bodies script.lines);
      outside = refl;
    }

pub is_same : (script : Script) → IsSame script (renumbered script)
is_same script =
    record {
      limits = refl;
      bodies = refl;
      lines = sym (outside_are (0 + length (limits_meanings script.limits) + 1) script.bodies
          script.lines);
    }

pub read_again : (script : Script) (again : Result Script ReadRefused) → IsPrintable script
    → IsReadAs (printed script) again → IsReadAgain script again
read_again script (Ok again) fit read =
    subst (λ (s : Script). IsSame script s)
    (same_script (printed script) (renumbered script) again (is_text script fit) read)
    (is_same script)
read_again script (Err (Bad n)) fit read =
    script_not_bad (printed script) (renumbered script) n (is_text script fit) read
read_again script (Err (NotBuilt n)) fit read =
    script_built (printed script) (renumbered script) n (is_text script fit) read
read_again script (Err NoMemory) fit read = tt
