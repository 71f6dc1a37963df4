-- The lines of a script are read as the script.
use Rattle.std.proofs.Common.{◌≡◌, ℕ, zero, suc, ◌<◌, ◌≤◌, ◌+◌, List, [], ◌∷◌, ◌++◌, Option, None, Some, Result, Ok, Bool, true, false, cond, nat_lt, sym, ap, ◌∙◌, arith, length, replicate}
use Rattle.std.specs.Prelude.{flat_map}
use Rattle.std.proofs.lemmas.List.{append_assoc, append-nil, length-append}
use Rattle.std.proofs.lemmas.Bool.Decides.{nat_tests}
use Rattle.kj_base.specs.declared.numbers.StepId.{StepId}
use Rattle.kj_base.specs.declared.numbers.Limits.{Limits}
use Rattle.kj_base.specs.declared.endings.Ending.{Ending}
use Rattle.promise_commands.specs.declared.command.Command.{Command}
use Rattle.promise_commands.specs.declared.script.Line.TheVariants.{Do as DoLine, Turn as TurnLine, Run as RunLine, Wait as WaitLine}
use Rattle.promise_commands.specs.declared.script.NumberedLine.{NumberedLine}
use Rattle.promise_commands.specs.Script.{Body}
use Rattle.promise_commands.specs.Script.{Script}
use Rattle.promise_script.specs.declared.meaning.Meaning.{Meaning}
use Rattle.promise_script.specs.declared.meaning.Meaning.TheVariants.{Nothing}
use Rattle.promise_commands.specs.declared.action.TheConstants.{MAX_COMMANDS}
use Rattle.promise_script.specs.declared.reader.ReadRefused.{ReadRefused}
use Rattle.promise_script.specs.Decode.{and_then}
use Rattle.promise_script.specs.Assembly.{Part, Reading, before_lines, script_read}
use Rattle.promise_script.specs.Scripts.{Piece, Remark, Stands, Bodied, body_meanings, piece_meanings, limits_meanings, commands_of, body_with, piece_bodies, piece_lines, lines_in, PieceFits, PiecesFit, IsScript}
use Rattle.promise_script.proofs.Folds.{lines_stood, meanings_stood, lines_mean, read_behind, meanings_behind}

-- a reading by its parts
abbrev pub reading : Bool → Option Limits → List Body → List NumberedLine → Option Part → Reading
reading b l bs ls p = record { started = b; limits = l; bodies = bs; lines = ls; part = p }

abbrev pub part_with : StepId → List Command → Part
part_with s cs = record { step = s; commands = cs }

pub room : (m n : ℕ) → m < n → nat_lt m n ≡ true
room m n h = grind (arith, nat_tests)

-- the lines of a body, to its end
pub inside_stood : (inside : List (Option Command)) (n : ℕ) (b : Bool) (l : Option Limits) (bs : List Body) (ls : List NumberedLine) (s : StepId) (cs : List Command) (x : Ending)
    → length cs + length (commands_of inside) ≤ MAX_COMMANDS
    → meanings_stood n (reading b l bs ls (Some (part_with s cs))) (body_meanings inside x) ≡ Some (reading b l (bs ++ body_with s (cs ++ commands_of inside) x ∷ []) ls None)
inside_stood [] n b l bs ls s cs x few =
    ap (λ (ds : List Command). Some (reading b l (bs ++ body_with s ds x ∷ []) ls None)) (sym (append-nil cs))
inside_stood (None ∷ inside) n b l bs ls s cs x few = inside_stood inside (n + 1) b l bs ls s cs x few
inside_stood (Some c ∷ inside) n b l bs ls s cs x few =
    let more : length (cs ++ c ∷ []) ≡ length cs + 1 = length-append cs (c ∷ []) in
    ap (λ (t : Bool). and_then (λ q. meanings_stood (n + 1) q (body_meanings inside x)) (cond t (Some (reading b l bs ls (Some (part_with s (cs ++ c ∷ []))))) None)) (room (length cs) MAX_COMMANDS (omega (arith, few)))
    ∙ inside_stood inside (n + 1) b l bs ls s (cs ++ c ∷ []) x (omega (arith, few, more))
    ∙ ap (λ (ds : List Command). Some (reading b l (bs ++ body_with s ds x ∷ []) ls None)) (append_assoc cs (c ∷ []) (commands_of inside))

-- the lines of a piece; whether it means something is told too
abbrev pub begun_by : Bool → Piece → Bool
begun_by b Remark = b
begun_by b (Stands line) = true
begun_by b (Bodied s inside x) = true

pub piece_stood : (p : Piece) (n : ℕ) (b : Bool) (l : Option Limits) (bs : List Body) (ls : List NumberedLine) → PieceFits p
    → meanings_stood n (reading b l bs ls None) (piece_meanings p) ≡ Some (reading (begun_by b p) l (bs ++ piece_bodies p) (ls ++ piece_lines (n + 1) p) None)
piece_stood Remark n b l bs ls fits =
    ap (λ (xs : List Body). Some (reading b l xs ls None)) (sym (append-nil bs)) ∙ ap (λ (ys : List NumberedLine). Some (reading b l (bs ++ []) ys None)) (sym (append-nil ls))
piece_stood (Stands (DoLine c)) n b l bs ls fits = ap (λ (xs : List Body). Some (reading true l xs (ls ++ piece_lines (n + 1) (Stands (DoLine c))) None)) (sym (append-nil bs))
piece_stood (Stands TurnLine) n b l bs ls fits = ap (λ (xs : List Body). Some (reading true l xs (ls ++ piece_lines (n + 1) (Stands TurnLine)) None)) (sym (append-nil bs))
piece_stood (Stands (RunLine k)) n b l bs ls fits = ap (λ (xs : List Body). Some (reading true l xs (ls ++ piece_lines (n + 1) (Stands (RunLine k))) None)) (sym (append-nil bs))
piece_stood (Stands (WaitLine p k)) n b l bs ls fits = ap (λ (xs : List Body). Some (reading true l xs (ls ++ piece_lines (n + 1) (Stands (WaitLine p k))) None)) (sym (append-nil bs))
piece_stood (Bodied s inside x) n b l bs ls fits =
    inside_stood inside (n + 1) true l bs ls s [] x (omega (arith, fits))
    ∙ ap (λ (ys : List NumberedLine). Some (reading true l (bs ++ body_with s (commands_of inside) x ∷ []) ys None)) (sym (append-nil ls))

-- the lines of all pieces
abbrev pub all_begun : Bool → List Piece → Bool
all_begun b [] = b
all_begun b (p ∷ ps) = all_begun (begun_by b p) ps

pub pieces_stood : (ps : List Piece) (n : ℕ) (b : Bool) (l : Option Limits) (bs : List Body) (ls : List NumberedLine) → PiecesFit ps
    → meanings_stood n (reading b l bs ls None) (flat_map piece_meanings ps) ≡ Some (reading (all_begun b ps) l (bs ++ flat_map piece_bodies ps) (ls ++ lines_in (n + 1) ps) None)
pieces_stood [] n b l bs ls fit =
    ap (λ (xs : List Body). Some (reading b l xs ls None)) (sym (append-nil bs)) ∙ ap (λ (ys : List NumberedLine). Some (reading b l (bs ++ []) ys None)) (sym (append-nil ls))
pieces_stood (p ∷ ps) n b l bs ls fit =
    let k = length (piece_meanings p) in
    let place : n + k + 1 ≡ n + 1 + k = omega arith in
    let first = piece_stood p n b l bs ls fit.0 in
    meanings_behind (piece_meanings p) (flat_map piece_meanings ps) n (reading b l bs ls None) (reading (begun_by b p) l (bs ++ piece_bodies p) (ls ++ piece_lines (n + 1) p) None) first
    ∙ pieces_stood ps (n + k) (begun_by b p) l (bs ++ piece_bodies p) (ls ++ piece_lines (n + 1) p) fit.1
    ∙ ap (λ (xs : List Body). Some (reading (all_begun b (p ∷ ps)) l xs ((ls ++ piece_lines (n + 1) p) ++ lines_in (n + k + 1) ps) None)) (append_assoc bs (piece_bodies p) (flat_map piece_bodies ps))
    ∙ ap (λ (ys : List NumberedLine). Some (reading (all_begun b (p ∷ ps)) l (bs ++ flat_map piece_bodies (p ∷ ps)) ys None)) (append_assoc ls (piece_lines (n + 1) p) (lines_in (n + k + 1) ps))
    ∙ ap (λ (j : ℕ). Some (reading (all_begun b (p ∷ ps)) l (bs ++ flat_map piece_bodies (p ∷ ps)) (ls ++ (piece_lines (n + 1) p ++ lines_in j ps)) None)) place

-- the lines before the pieces
abbrev pub all_meanings : ℕ → Option Limits → List Piece → List Meaning
all_meanings k l ps = replicate k Nothing ++ limits_meanings l ++ flat_map piece_meanings ps

limits_stood : (l : Option Limits) (ps : List Piece) (n : ℕ) → PiecesFit ps
    → (b : Bool) × (meanings_stood n before_lines (limits_meanings l ++ flat_map piece_meanings ps) ≡ Some (reading b l (flat_map piece_bodies ps) (lines_in (n + length (limits_meanings l) + 1) ps) None))
limits_stood None ps n fit =
    let place : n + 1 ≡ n + 0 + 1 = omega arith in
    (all_begun false ps, pieces_stood ps n false None [] [] fit ∙ ap (λ (j : ℕ). Some (reading (all_begun false ps) None (flat_map piece_bodies ps) (lines_in j ps) None)) place)
limits_stood (Some l) ps n fit = (all_begun true ps, pieces_stood ps (n + 1) true (Some l) [] [] fit)

remarks_stood : (k : ℕ) (ms : List Meaning) (n : ℕ) → meanings_stood n before_lines (replicate k Nothing ++ ms) ≡ meanings_stood (n + k) before_lines ms
remarks_stood zero ms n = let place : n ≡ n + 0 = omega arith in ap (λ (j : ℕ). meanings_stood j before_lines ms) place
remarks_stood (suc k) ms n =
    let place : n + 1 + k ≡ n + suc k = omega arith in
    remarks_stood k ms (n + 1) ∙ ap (λ (j : ℕ). meanings_stood j before_lines ms) place

abbrev made : Option Limits → List Body → List NumberedLine → Result Script ReadRefused
made l bs ls = Ok (record { limits = l; bodies = bs; lines = ls })

-- the lines of a script are read as that script
pub script_complete : (lines : List (List ℕ)) (s : Script) → IsScript lines s → script_read 0 before_lines lines ≡ Ok s
script_complete lines s is =
    let k = is.remarks in
    let front : List Meaning = replicate k Nothing in
    let behind : List Meaning = limits_meanings s.limits ++ flat_map piece_meanings is.pieces in
    let join : (front ++ limits_meanings s.limits) ++ flat_map piece_meanings is.pieces ≡ front ++ behind = append_assoc front (limits_meanings s.limits) (flat_map piece_meanings is.pieces) in
    let found = limits_stood s.limits is.pieces (0 + k) is.fit in
    let place : 0 + k + length (limits_meanings s.limits) + 1 ≡ k + length (limits_meanings s.limits) + 1 = omega arith in
    let q : Reading = reading found.0 s.limits (flat_map piece_bodies is.pieces) (lines_in (0 + k + length (limits_meanings s.limits) + 1) is.pieces) None in
    let stands : lines_stood 0 before_lines lines ≡ Some q =
    lines_mean lines (front ++ limits_meanings s.limits ++ flat_map piece_meanings is.pieces) 0 before_lines is.mean
    ∙ ap (λ (ms : List Meaning). meanings_stood 0 before_lines ms) join ∙ remarks_stood k behind 0 ∙ found.1 in
    let whole : lines ++ [] ≡ lines = append-nil lines in
    ap (λ (xs : List (List ℕ)). script_read 0 before_lines xs) (sym whole)
    ∙ read_behind lines [] 0 before_lines q stands
    ∙ ap (λ (xs : List Body). made s.limits xs (lines_in (0 + k + length (limits_meanings s.limits) + 1) is.pieces)) (sym is.bodies)
    ∙ ap (λ (j : ℕ). made s.limits s.bodies (lines_in j is.pieces)) place
    ∙ ap (λ (ys : List NumberedLine). made s.limits s.bodies ys) (sym is.outside)
