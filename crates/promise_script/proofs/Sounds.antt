-- What lines are read as, they are.
use Rattle.std.proofs.Common.{◌≡◌, ℕ, suc, ◌<◌, ◌≤◌, ◌+◌, List, [], ◌∷◌, ◌++◌, Option, None, Some, Ok, Err, Bool, true, false, cond, nat_lt, lit≤, refl, sym, ap, ◌∙◌, subst, arith, length, replicate}
use Rattle.std.specs.Prelude.{flat_map}
use Rattle.std.proofs.lemmas.List.{append_assoc, append-nil, length-append}
use Rattle.std.proofs.lemmas.Bool.Decides.{nat_tests}
use Rattle.kj_base.specs.declared.numbers.StepId.{StepId}
use Rattle.kj_base.specs.declared.numbers.Limits.{Limits}
use Rattle.kj_base.specs.declared.endings.Ending.{Ending}
use Rattle.promise_commands.specs.declared.command.Command.{Command}
use Rattle.promise_commands.specs.declared.script.Line.{Line}
use Rattle.promise_commands.specs.declared.script.Line.TheVariants.{Do as DoLine, Turn as TurnLine, Run as RunLine, Wait as WaitLine}
use Rattle.promise_commands.specs.declared.script.NumberedLine.{NumberedLine}
use Rattle.promise_commands.specs.Script.{Body}
use Rattle.promise_commands.specs.Script.{Script}
use Rattle.promise_script.specs.declared.meaning.Meaning.{Meaning}
use Rattle.promise_script.specs.declared.meaning.Meaning.TheVariants.{Nothing, Limits as LimitsLine, Do, Turn, Run, Wait, Step, Close}
use Rattle.promise_commands.specs.declared.action.TheConstants.{MAX_COMMANDS}
use Rattle.promise_script.specs.ScriptText.{Means}
use Rattle.promise_script.specs.Decode.{and_then, text_read}
use Rattle.promise_script.specs.Assembly.{Part, stood, refused_at, went_on, ended, before_lines, script_read}
use Rattle.promise_script.specs.Scripts.{Piece, Remark, Stands, Bodied, line_meaning, body_meanings, piece_meanings, limits_meanings, commands_of, body_with, piece_bodies, lines_in, PiecesFit, MeanAll, IsScript}
use Rattle.promise_script.proofs.Meanings.{text_sound}
use Rattle.promise_script.proofs.Pieces.{reading, part_with}

-- behind n lines, outside bodies: the lines are pieces, and they are added
pub record Outside (n : ℕ) (l : Option Limits) (bs : List Body) (ls : List NumberedLine) (texts : List (List ℕ)) (s : Script) : Type 0 where
  pub pieces : List Piece
  pub fit : PiecesFit pieces
  pub mean : MeanAll texts (flat_map piece_meanings pieces)
  pub limits : s.limits ≡ l
  pub bodies : s.bodies ≡ bs ++ flat_map piece_bodies pieces
  pub lines : s.lines ≡ ls ++ lines_in (n + 1) pieces

-- behind n lines, inside a body that has these commands: its end is there, and pieces behind it
pub record Inside (n : ℕ) (l : Option Limits) (bs : List Body) (ls : List NumberedLine) (part : Part) (texts : List (List ℕ)) (s : Script) : Type 0 where
  pub inside : List (Option Command)
  pub ending : Ending
  pub pieces : List Piece
  pub few : length part.commands ≤ MAX_COMMANDS → length part.commands + length (commands_of inside) ≤ MAX_COMMANDS
  pub fit : PiecesFit pieces
  pub mean : MeanAll texts (body_meanings inside ending ++ flat_map piece_meanings pieces)
  pub limits : s.limits ≡ l
  pub bodies : s.bodies ≡ bs ++ (body_with part.step (part.commands ++ commands_of inside) ending ∷ flat_map piece_bodies pieces)
  pub lines : s.lines ≡ ls ++ lines_in (n + length (body_meanings inside ending) + 1) pieces

abbrev pub Found : ℕ → Option Limits → List Body → List NumberedLine → Option Part → List (List ℕ) → Script → Type 0
Found n l bs ls None texts s = Outside n l bs ls texts s
Found n l bs ls (Some part) texts s = Inside n l bs ls part texts s

no_lines : (n : ℕ) (l : Option Limits) (bs : List Body) (ls : List NumberedLine) (s : Script) → ended n (reading true l bs ls None) ≡ Ok s → Outside n l bs ls [] s
no_lines n l bs ls s e =
    let made : Script = record { limits = l; bodies = bs; lines = ls } in
    let same : made ≡ s = cc (e) in
    record {
      pieces = [];
      fit = tt;
      mean = tt;
      limits = sym (ap (λ (x : Script). x.limits) same);
      bodies = sym (ap (λ (x : Script). x.bodies) same) ∙ sym (append-nil bs);
      lines = sym (ap (λ (x : Script). x.lines) same) ∙ sym (append-nil ls);
    }

-- a line that means nothing
remark_more : (n : ℕ) (l : Option Limits) (bs : List Body) (ls : List NumberedLine) (p : Option Part) (text : List ℕ) (texts : List (List ℕ)) (s : Script)
    → Means text Nothing → Found (n + 1) l bs ls p texts s → Found n l bs ls p (text ∷ texts) s
remark_more n l bs ls None text texts s means found =
    record { pieces = Remark ∷ found.pieces; fit = (tt, found.fit); mean = (means, found.mean); limits = found.limits; bodies = found.bodies; lines = found.lines }
remark_more n l bs ls (Some part) text texts s means found =
    let place : n + 1 + length (body_meanings found.inside found.ending) + 1 ≡ n + length (body_meanings (None ∷ found.inside) found.ending) + 1 = omega arith in
    record {
      inside = None ∷ found.inside;
      ending = found.ending;
      pieces = found.pieces;
      few = found.few;
      fit = found.fit;
      mean = (means, found.mean);
      limits = found.limits;
      bodies = found.bodies;
      lines = found.lines ∙ ap (λ (j : ℕ). ls ++ lines_in j found.pieces) place;
    }

-- a line outside bodies
line_more : (n : ℕ) (l : Option Limits) (bs : List Body) (ls : List NumberedLine) (line : Line) (text : List ℕ) (texts : List (List ℕ)) (s : Script)
    → Means text (line_meaning line) → Outside (n + 1) l bs (ls ++ record { number = n + 1; line = line } ∷ []) texts s → Outside n l bs ls (text ∷ texts) s
line_more n l bs ls line text texts s means found =
    record {
      pieces = Stands line ∷ found.pieces;
      fit = (tt, found.fit);
      mean = (means, found.mean);
      limits = found.limits;
      bodies = found.bodies;
      lines = found.lines ∙ append_assoc ls (record { number = n + 1; line = line } ∷ []) (lines_in (n + 1 + 1) found.pieces);
    }

-- a command in a body
command_more : (n : ℕ) (l : Option Limits) (bs : List Body) (ls : List NumberedLine) (part : Part) (c : Command) (text : List ℕ) (texts : List (List ℕ)) (s : Script)
    → length part.commands < MAX_COMMANDS → Means text (Do c) → Inside (n + 1) l bs ls (part_with part.step (part.commands ++ c ∷ [])) texts s → Inside n l bs ls part (text ∷ texts) s
command_more n l bs ls part c text texts s room means found =
    let more : length (part.commands ++ c ∷ []) ≡ length part.commands + 1 = length-append part.commands (c ∷ []) in
    let place : n + 1 + length (body_meanings found.inside found.ending) + 1 ≡ n + length (body_meanings (Some c ∷ found.inside) found.ending) + 1 = omega arith in
    record {
      inside = Some c ∷ found.inside;
      ending = found.ending;
      pieces = found.pieces;
      few = λ h. (omega (arith, more, room, found.few (omega (arith, more, room))));
      fit = found.fit;
      mean = (means, found.mean);
      limits = found.limits;
      bodies = found.bodies ∙ ap (λ (cs : List Command). bs ++ (body_with part.step cs found.ending ∷ flat_map piece_bodies found.pieces)) (append_assoc part.commands (c ∷ []) (commands_of found.inside));
      lines = found.lines ∙ ap (λ (j : ℕ). ls ++ lines_in j found.pieces) place;
    }

-- the end of a body
close_more : (n : ℕ) (l : Option Limits) (bs : List Body) (ls : List NumberedLine) (part : Part) (x : Ending) (text : List ℕ) (texts : List (List ℕ)) (s : Script)
    → Means text (Close x) → Outside (n + 1) l (bs ++ body_with part.step part.commands x ∷ []) ls texts s → Inside n l bs ls part (text ∷ texts) s
close_more n l bs ls part x text texts s means found =
    record {
      inside = [];
      ending = x;
      pieces = found.pieces;
      few = λ h. (omega (arith, h));
      fit = found.fit;
      mean = (means, found.mean);
      limits = found.limits;
      bodies = found.bodies ∙ append_assoc bs (body_with part.step part.commands x ∷ []) (flat_map piece_bodies found.pieces) ∙ ap (λ (cs : List Command). bs ++ (body_with part.step cs x ∷ flat_map piece_bodies found.pieces)) (sym (append-nil part.commands));
      lines = found.lines;
    }

-- the begin of a body
step_more : (n : ℕ) (l : Option Limits) (bs : List Body) (ls : List NumberedLine) (step : StepId) (text : List ℕ) (texts : List (List ℕ)) (s : Script)
    → Means text (Step step) → Inside (n + 1) l bs ls (part_with step []) texts s → Outside n l bs ls (text ∷ texts) s
step_more n l bs ls step text texts s means found =
    let place : n + 1 + length (body_meanings found.inside found.ending) + 1 ≡ n + 1 + length (piece_meanings (Bodied step found.inside found.ending)) = omega arith in
    record {
      pieces = Bodied step found.inside found.ending ∷ found.pieces;
      fit = (omega (arith, found.few (lit≤ tt)), found.fit);
      mean = (means, found.mean);
      limits = found.limits;
      bodies = found.bodies;
      lines = found.lines ∙ ap (λ (j : ℕ). ls ++ lines_in j found.pieces) place;
    }

-- what is known of the lines behind one
abbrev Rest : ℕ → Option Limits → List (List ℕ) → Script → Type 0
Rest n l texts s = (bs : List Body) (ls : List NumberedLine) (q : Option Part) → script_read (n + 1) (reading true l bs ls q) texts ≡ Ok s → Found (n + 1) l bs ls q texts s

-- whether there was room for the command
command_found : (n : ℕ) (l : Option Limits) (bs : List Body) (ls : List NumberedLine) (part : Part) (c : Command) (text : List ℕ) (texts : List (List ℕ)) (s : Script) (b : Bool)
    → Rest n l texts s → Means text (Do c) → nat_lt (length part.commands) MAX_COMMANDS ≡ b
    → went_on (cond b (Some (reading true l bs ls (Some (part_with part.step (part.commands ++ c ∷ []))))) None) (Err (refused_at (n + 1) text)) (λ q. script_read (n + 1) q texts) ≡ Ok s
    → Inside n l bs ls part (text ∷ texts) s
command_found n l bs ls part c text texts s true rest means room e =
    command_more n l bs ls part c text texts s (below (length part.commands) MAX_COMMANDS room) means (rest bs ls (Some (part_with part.step (part.commands ++ c ∷ []))) e)
  where
    below : (m k : ℕ) → nat_lt m k ≡ true → m < k
    below m k h = grind (arith, nat_tests)
command_found n l bs ls part c text texts s false rest means room e = absurd (cc (e))

-- the lines behind the limits, or behind the first line that means something
found_lines : (texts : List (List ℕ)) (n : ℕ) (l : Option Limits) (bs : List Body) (ls : List NumberedLine) (p : Option Part) (s : Script)
    → script_read n (reading true l bs ls p) texts ≡ Ok s → Found n l bs ls p texts s
found_lines [] n l bs ls None s e = no_lines n l bs ls s e
found_lines [] n l bs ls (Some part) s e = absurd (cc (e))
found_lines (text ∷ texts) n l bs ls p s e =
    by (λ bs ls q h. found_lines texts (n + 1) l bs ls q s h) p (text_read text) refl e
  where
    by : Rest n l texts s → (p : Option Part) (o : Option Meaning) → text_read text ≡ o
        → went_on (and_then (λ m. stood (n + 1) m (reading true l bs ls p)) o) (Err (refused_at (n + 1) text)) (λ q. script_read (n + 1) q texts) ≡ Ok s
        → Found n l bs ls p (text ∷ texts) s
    by rest p None read e = absurd (cc (e))
    by rest p (Some Nothing) read e = remark_more n l bs ls p text texts s (text_sound text Nothing read) (rest bs ls p e)
    by rest p (Some (LimitsLine x)) read e = absurd (cc (e))
    by rest None (Some (Do c)) read e = line_more n l bs ls (DoLine c) text texts s (text_sound text (Do c) read) (rest bs (ls ++ record { number = n + 1; line = DoLine c } ∷ []) None e)
    by rest (Some part) (Some (Do c)) read e = command_found n l bs ls part c text texts s (nat_lt (length part.commands) MAX_COMMANDS) rest (text_sound text (Do c) read) refl e
    by rest None (Some Turn) read e = line_more n l bs ls TurnLine text texts s (text_sound text Turn read) (rest bs (ls ++ record { number = n + 1; line = TurnLine } ∷ []) None e)
    by rest (Some part) (Some Turn) read e = absurd (cc (e))
    by rest None (Some (Run k)) read e = line_more n l bs ls (RunLine k) text texts s (text_sound text (Run k) read) (rest bs (ls ++ record { number = n + 1; line = RunLine k } ∷ []) None e)
    by rest (Some part) (Some (Run k)) read e = absurd (cc (e))
    by rest None (Some (Wait p k)) read e = line_more n l bs ls (WaitLine p k) text texts s (text_sound text (Wait p k) read) (rest bs (ls ++ record { number = n + 1; line = WaitLine p k } ∷ []) None e)
    by rest (Some part) (Some (Wait p k)) read e = absurd (cc (e))
    by rest None (Some (Step step)) read e = step_more n l bs ls step text texts s (text_sound text (Step step) read) (rest bs ls (Some (part_with step [])) e)
    by rest (Some part) (Some (Step step)) read e = absurd (cc (e))
    by rest None (Some (Close x)) read e = absurd (cc (e))
    by rest (Some part) (Some (Close x)) read e = close_more n l bs ls part x text texts s (text_sound text (Close x) read) (rest (bs ++ body_with part.step part.commands x ∷ []) ls None e)

-- what a script's lines are, the first k having meant nothing
record Whole (k : ℕ) (texts : List (List ℕ)) (s : Script) : Type 0 where
  remarks : ℕ
  limits : Option Limits
  pieces : List Piece
  said : s.limits ≡ limits
  fit : PiecesFit pieces
  mean : MeanAll texts (replicate remarks Nothing ++ limits_meanings limits ++ flat_map piece_meanings pieces)
  bodies : s.bodies ≡ flat_map piece_bodies pieces
  lines : s.lines ≡ lines_in (k + remarks + length (limits_meanings limits) + 1) pieces

whole_of : (k : ℕ) (texts : List (List ℕ)) (s : Script) → Outside k None [] [] texts s → Whole k texts s
whole_of k texts s found =
    let place : k + 1 ≡ k + 0 + 0 + 1 = omega arith in
    record { remarks = 0; limits = None; pieces = found.pieces; said = found.limits; fit = found.fit; mean = found.mean; bodies = found.bodies; lines = found.lines ∙ ap (λ (j : ℕ). lines_in j found.pieces) place }

whole_limited : (k : ℕ) (l : Limits) (text : List ℕ) (texts : List (List ℕ)) (s : Script) → Means text (LimitsLine l) → Outside (k + 1) (Some l) [] [] texts s → Whole k (text ∷ texts) s
whole_limited k l text texts s means found =
    let place : k + 1 + 1 ≡ k + 0 + 1 + 1 = omega arith in
    record { remarks = 0; limits = Some l; pieces = found.pieces; said = found.limits; fit = found.fit; mean = (means, found.mean); bodies = found.bodies; lines = found.lines ∙ ap (λ (j : ℕ). lines_in j found.pieces) place }

whole_more : (k : ℕ) (text : List ℕ) (texts : List (List ℕ)) (s : Script) → Means text Nothing → Whole (k + 1) texts s → Whole k (text ∷ texts) s
whole_more k text texts s means found =
    let place : k + 1 + found.remarks + length (limits_meanings found.limits) + 1 ≡ k + suc found.remarks + length (limits_meanings found.limits) + 1 = omega arith in
    record { remarks = suc found.remarks; limits = found.limits; pieces = found.pieces; said = found.said; fit = found.fit; mean = (means, found.mean); bodies = found.bodies; lines = found.lines ∙ ap (λ (j : ℕ). lines_in j found.pieces) place }

-- the lines from the first on
found_whole : (texts : List (List ℕ)) (k : ℕ) (s : Script) → script_read k before_lines texts ≡ Ok s → Whole k texts s
found_whole [] k s e = whole_of k [] s (no_lines k None [] [] s e)
found_whole (text ∷ texts) k s e = by (λ h. found_whole texts (k + 1) s h) (text_read text) refl e
  where
    by : (script_read (k + 1) before_lines texts ≡ Ok s → Whole (k + 1) texts s) → (o : Option Meaning) → text_read text ≡ o
        → went_on (and_then (λ m. stood (k + 1) m before_lines) o) (Err (refused_at (k + 1) text)) (λ q. script_read (k + 1) q texts) ≡ Ok s
        → Whole k (text ∷ texts) s
    by rest None read e = absurd (cc (e))
    by rest (Some Nothing) read e = whole_more k text texts s (text_sound text Nothing read) (rest e)
    by rest (Some (LimitsLine x)) read e = whole_limited k x text texts s (text_sound text (LimitsLine x) read) (found_lines texts (k + 1) (Some x) [] [] None s e)
    by rest (Some (Do c)) read e =
        whole_of k (text ∷ texts) s (line_more k None [] [] (DoLine c) text texts s (text_sound text (Do c) read) (found_lines texts (k + 1) None [] (record { number = k + 1; line = DoLine c } ∷ []) None s e))
    by rest (Some Turn) read e =
        whole_of k (text ∷ texts) s (line_more k None [] [] TurnLine text texts s (text_sound text Turn read) (found_lines texts (k + 1) None [] (record { number = k + 1; line = TurnLine } ∷ []) None s e))
    by rest (Some (Run n)) read e =
        whole_of k (text ∷ texts) s (line_more k None [] [] (RunLine n) text texts s (text_sound text (Run n) read) (found_lines texts (k + 1) None [] (record { number = k + 1; line = RunLine n } ∷ []) None s e))
    by rest (Some (Wait p n)) read e =
        whole_of k (text ∷ texts) s (line_more k None [] [] (WaitLine p n) text texts s (text_sound text (Wait p n) read) (found_lines texts (k + 1) None [] (record { number = k + 1; line = WaitLine p n } ∷ []) None s e))
    by rest (Some (Step step)) read e =
        whole_of k (text ∷ texts) s (step_more k None [] [] step text texts s (text_sound text (Step step) read) (found_lines texts (k + 1) None [] [] (Some (part_with step [])) s e))
    by rest (Some (Close x)) read e = absurd (cc (e))

-- what lines are read as, they are
pub script_sound : (lines : List (List ℕ)) (s : Script) → script_read 0 before_lines lines ≡ Ok s → IsScript lines s
script_sound lines s e =
    let found = found_whole lines 0 s e in
    let place : 0 + found.remarks + length (limits_meanings found.limits) + 1 ≡ found.remarks + length (limits_meanings s.limits) + 1 =
    omega (arith, ap (λ (l : Option Limits). length (limits_meanings l)) found.said) in
    record {
      remarks = found.remarks;
      pieces = found.pieces;
      fit = found.fit;
      mean = subst (λ (l : Option Limits). MeanAll lines (replicate found.remarks Nothing ++ limits_meanings l ++ flat_map piece_meanings found.pieces)) (sym found.said) found.mean;
      bodies = found.bodies;
      outside = found.lines ∙ ap (λ (j : ℕ). lines_in j found.pieces) place;
    }
