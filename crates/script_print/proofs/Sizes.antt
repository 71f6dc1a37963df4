-- What is printed is no longer than what was read, but for the end of the last line.
use Rattle.std.proofs.Common.{◌≡◌, ℕ, ◌≤◌, ◌+◌, ◌==◌, List, [], ◌∷◌, ◌++◌, Option, None, Some, Bool, true, false, cond, refl, sym, ap, ◌∙◌, length-append, arith, map, length, replicate}
use Rattle.std.specs.Prelude.{flat_map}
use Rattle.std.specs.List.{onto_first}
use Rattle.std.proofs.lemmas.Grind.{flat_map-append}
use Rattle.std.proofs.lemmas.List.Splits.{join_with_byte-slice_split}
use Rattle.kj_base.specs.declared.numbers.StepId.{StepId}
use Rattle.kj_base.specs.declared.numbers.Limits.{Limits}
use Rattle.kj_base.specs.declared.endings.Ending.{Ending}
use Rattle.promise_commands.specs.declared.command.Command.{Command}
use Rattle.promise_commands.specs.declared.script.Line.{Line}
use Rattle.promise_commands.specs.declared.script.Line.TheVariants.{Do as DoLine, Turn as TurnLine, Run as RunLine, Wait as WaitLine}
use Rattle.promise_commands.specs.declared.script.NumberedLine.{NumberedLine}
use Rattle.promise_commands.specs.Script.{Body, Script}
use Rattle.promise_script.specs.declared.meaning.Meaning.{Meaning}
use Rattle.promise_script.specs.declared.meaning.Meaning.TheVariants.{Nothing, Limits as LimitsLine, Do, Turn, Run, Wait, Step, Close}
use Rattle.promise_script.specs.ScriptText.{Means, Spells, lines_of, meaning_words}
use Rattle.promise_script.specs.Scripts.{Piece, Remark, Stands, Bodied, line_meaning, inside_meaning, body_meanings as inner_meanings, piece_meanings, limits_meanings, commands_of, piece_bodies, lines_in, body_with, MeanAll, IsScriptText}
use Rattle.script_print.specs.Printed.{body_meanings, joined, outside_meaning, printed, printed_line, printed_lines}
use Rattle.script_print.proofs.Rows.{printed_more, script_is}

-- ---- lines with their ends

abbrev ended : List ℕ → List ℕ
ended line = line ++ (10 ∷ [])

abbrev all_ended : List (List ℕ) → List ℕ
all_ended lines = flat_map ended lines

onto_ended : (c : ℕ) (cs : List ℕ) (lines : List (List ℕ))
    → length (all_ended lines) ≤ length cs + 1
    → length (all_ended (onto_first c lines)) ≤ length (c ∷ cs) + 1
onto_ended c cs [] h = omega arith
onto_ended c cs (line ∷ lines) h = omega (arith, h)

line_ended : (c : ℕ) (cs : List ℕ) (lines : List (List ℕ)) (b : Bool)
    → length (all_ended lines) ≤ length cs + 1
    → length (all_ended (cond b ([] ∷ lines) (onto_first c lines))) ≤ length (c ∷ cs) + 1
line_ended c cs lines true h = omega (arith, h)
line_ended c cs lines false h = onto_ended c cs lines h

lines_ended : (text : List ℕ) → length (all_ended (lines_of text)) ≤ length text + 1
lines_ended [] = omega arith
lines_ended (c ∷ cs) = line_ended c cs (lines_of cs) (c == 10) (lines_ended cs)

-- ---- lines that mean something

-- what is printed of a line that may mean nothing
abbrev shown : Meaning → List ℕ
shown Nothing = []
shown (LimitsLine limits) = printed_line (LimitsLine limits)
shown (Do c) = printed_line (Do c)
shown Turn = printed_line Turn
shown (Run turns) = printed_line (Run turns)
shown (Wait n turns) = printed_line (Wait n turns)
shown (Step step) = printed_line (Step step)
shown (Close e) = printed_line (Close e)

abbrev all_shown : List Meaning → List ℕ
all_shown ms = flat_map shown ms

spelled : (text : List ℕ) (m : Meaning) → Spells text m
    → length (printed_line m) ≤ length (ended text)
spelled text m spells =
    let same : joined (meaning_words m) ≡ text = ap joined (sym spells.1)
    ∙ join_with_byte-slice_split 32 text in
    omega (arith, ap (λ (t : List ℕ). length (ended t)) same)

line_shown : (text : List ℕ) (m : Meaning) → Means text m → length (shown m) ≤ length (ended text)
line_shown text Nothing means = omega arith
line_shown text (LimitsLine limits) means = spelled text (LimitsLine limits) means
line_shown text (Do c) means = spelled text (Do c) means
line_shown text Turn means = spelled text Turn means
line_shown text (Run turns) means = spelled text (Run turns) means
line_shown text (Wait n turns) means = spelled text (Wait n turns) means
line_shown text (Step step) means = spelled text (Step step) means
line_shown text (Close e) means = spelled text (Close e) means

lines_shown : (texts : List (List ℕ)) (ms : List Meaning) → MeanAll texts ms
    → length (all_shown ms) ≤ length (all_ended texts)
lines_shown [] [] mean = omega arith
lines_shown [] (m ∷ ms) mean = absurd mean
lines_shown (text ∷ texts) [] mean = absurd mean
lines_shown (text ∷ texts) (m ∷ ms) mean =
    omega (
      arith,
      line_shown text m mean.0,
      lines_shown texts ms mean.1,
      length-append (shown m)
          (all_shown ms),
      length-append (ended text) (all_ended texts),
    )

-- ---- pieces

shown_more : (xs ys : List Meaning) → all_shown (xs ++ ys) ≡ all_shown xs ++ all_shown ys
shown_more xs ys = flat_map-append shown xs ys

inside_shown : (inside : List (Option Command)) → all_shown (map inside_meaning inside)
    ≡ printed_lines (map Do (commands_of inside))
inside_shown [] = refl
inside_shown (None ∷ inside) = inside_shown inside
inside_shown (Some c ∷ inside) =
    ap (λ (ys : List ℕ). printed_line (Do c) ++ ys) (inside_shown inside)

body_shown : (step : StepId) (inside : List (Option Command)) (e : Ending)
    → all_shown (Step step ∷ inner_meanings inside e)
    ≡ printed_lines (body_meanings (body_with step (commands_of inside) e))
body_shown step inside e =
    ap (λ (ys : List ℕ). printed_line (Step step) ++ ys)
    (shown_more (map inside_meaning inside) (Close e ∷ [])
    ∙ ap (λ (ys : List ℕ). ys ++ all_shown (Close e ∷ [])) (inside_shown inside)
    ∙ sym (printed_more (map Do (commands_of inside)) (Close e ∷ [])))

line_is_shown : (line : Line) → shown (line_meaning line) ≡ printed_line (line_meaning line)
line_is_shown (DoLine c) = refl
line_is_shown TurnLine = refl
line_is_shown (RunLine turns) = refl
line_is_shown (WaitLine n turns) = refl

-- the octets of bodies and of lines outside them
abbrev sizes : List Body → List NumberedLine → ℕ
sizes bodies lines = length (printed_lines (flat_map body_meanings bodies)) + length
    (printed_lines (map outside_meaning lines))

pieces_shown : (n : ℕ) (ps : List Piece) → sizes (flat_map piece_bodies ps) (lines_in n ps)
    ≡ length (all_shown (flat_map piece_meanings ps))
pieces_shown n [] = refl
pieces_shown n (Remark ∷ ps) = pieces_shown (n + 1) ps
pieces_shown n (Stands line ∷ ps) =
    let rest : List ℕ = printed_lines (map outside_meaning (lines_in (n + 1) ps)) in
    let behind : List ℕ = all_shown (flat_map piece_meanings ps) in
    omega (
      arith,
      pieces_shown (n + 1) ps,
      length-append (printed_line (line_meaning line)) rest,
      length-append (shown (line_meaning line)) behind,
      ap (λ (ys : List ℕ). length ys)
          (line_is_shown line),
    )
pieces_shown n (Bodied step inside e ∷ ps) =
    let inner : List Meaning = Step step ∷ inner_meanings inside e in
    let body : List Meaning = body_meanings (body_with step (commands_of inside) e) in
    let bodies : List Meaning = flat_map body_meanings (flat_map piece_bodies ps) in
    let behind : List Meaning = flat_map piece_meanings ps in
    let here : length (all_shown inner) ≡ length (printed_lines body) =
    ap (λ (ys : List ℕ). length ys) (body_shown step inside e) in
    let first : length (printed_lines (body ++ bodies))
    ≡ length (printed_lines body) + length (printed_lines bodies) =
    ap (λ (ys : List ℕ). length ys) (printed_more body bodies)
    ∙ length-append (printed_lines body) (printed_lines bodies) in
    let second : length (all_shown (inner ++ behind))
    ≡ length (all_shown inner) + length (all_shown behind) =
    ap (λ (ys : List ℕ). length ys) (shown_more inner behind)
    ∙ length-append (all_shown inner) (all_shown behind) in
    omega (
      arith,
      pieces_shown (n + length (piece_meanings (Bodied step inside e))) ps,
      here,
      first,
      second,
    )

limits_shown : (limits : Option Limits) → all_shown (limits_meanings limits)
    ≡ printed_lines (limits_meanings limits)
limits_shown None = refl
limits_shown (Some limits) = refl

pub no_longer : (text : List ℕ) (script : Script) → IsScriptText text script
    → length (printed script) ≤ length text + 1
no_longer text script is =
    let front : List Meaning = replicate is.remarks Nothing in
    let limits : List Meaning = limits_meanings script.limits in
    let pieces : List Meaning = flat_map piece_meanings is.pieces in
    let bodies : List ℕ = printed_lines (flat_map body_meanings script.bodies) in
    let lines : List ℕ = printed_lines (map outside_meaning script.lines) in
    let whole : length (printed script) ≡ length (printed_lines limits) + length bodies + length
    lines =
    ap (λ (ys : List ℕ). length ys) (script_is script)
    ∙ length-append (printed_lines limits ++ bodies) lines
    ∙ ap (λ (n : ℕ). n + length lines) (length-append (printed_lines limits) bodies) in
    let parts : length bodies + length lines ≡ length (all_shown pieces) =
    (λ i. sizes (is.bodies i) (is.outside i))
    ∙ pieces_shown (is.remarks + length limits + 1) is.pieces in
    let all : length (all_shown (front ++ limits ++ pieces))
    ≡ length (all_shown front) + length (all_shown limits) + length (all_shown pieces) =
    ap (λ (ys : List ℕ). length ys)
    (shown_more (front ++ limits) pieces
    ∙ ap (λ (ys : List ℕ). ys ++ all_shown pieces) (shown_more front limits))
    ∙ length-append (all_shown front ++ all_shown limits) (all_shown pieces)
    ∙ ap (λ (n : ℕ). n + length (all_shown pieces))
    (length-append (all_shown front) (all_shown limits)) in
    omega (
      arith,
      whole,
      parts,
      all,
      ap (λ (ys : List ℕ). length ys) (limits_shown script.limits),
      lines_shown (lines_of text) (front ++ limits ++ pieces) is.mean,
      lines_ended text,
    )
