-- The lines outside bodies of a script, and where its bodies stand.
use Rattle.std.proofs.Common.{◌≡◌, ℕ, zero, suc, ◌<◌, ◌≤◌, ◌+◌, List, [], ◌∷◌, ◌++◌, Option, None, Some, Result, Ok, Err, Bool, true, false, cond, nat_lt, refl, sym, ap, ◌∙◌, subst, arith, length, get_or}
use Rattle.std.proofs.lemmas.List.{append_assoc, append-nil}
use Rattle.kj_base.specs.declared.numbers.Limits.{Limits}
use Rattle.promise_commands.specs.declared.script.Line.{Line}
use Rattle.promise_commands.specs.declared.script.Line.TheVariants.{Do as DoLine, Turn as TurnLine, Run as RunLine, Wait as WaitLine}
use Rattle.promise_commands.specs.declared.script.NumberedLine.{NumberedLine}
use Rattle.promise_commands.specs.Script.{Body, Script, body_at, no_body}
use Rattle.promise_commands.specs.declared.action.TheConstants.{MAX_COMMANDS}
use Rattle.promise_script.specs.declared.meaning.Meaning.{Meaning}
use Rattle.promise_script.specs.declared.meaning.Meaning.TheVariants.{Nothing, Limits as LimitsLine, Do, Turn, Run, Wait, Step, Close}
use Rattle.promise_script.specs.declared.reader.ReadRefused.{ReadRefused}
use Rattle.promise_script.specs.declared.reader.ReadRefused.TheVariants.{Bad}
use Rattle.promise_script.specs.declared.spots.Spot.{Spot}
use Rattle.promise_script.specs.ScriptText.{lines_of}
use Rattle.promise_script.specs.Decode.{and_then, text_read}
use Rattle.promise_script.specs.Assembly.{Part, Reading, before_lines, is_inside, refused_at, script_read, stood, went_on, with_command}
use Rattle.promise_script.specs.Left.{lines_left, numbered, said_outside, stays_inside, with_found}
use Rattle.promise_script.specs.Kept.{AreAt, IsAt}
use Rattle.promise_script.proofs.Pieces.{reading}

-- ---- the lines outside bodies

abbrev Added : ℕ → Bool → Meaning → List NumberedLine → Reading → Type 0
Added n inside m ls q = (q.lines ≡ ls ++ with_found (numbered n (said_outside inside (Some m))) []) × (is_inside q.part ≡ stays_inside inside (Some m))

as_next : (x q : Reading) (ls : List NumberedLine) (inside : Bool) → Some x ≡ Some q → x.lines ≡ ls → is_inside x.part ≡ inside → (q.lines ≡ ls) × (is_inside q.part ≡ inside)
as_next x q ls inside e lines part =
    let same : x ≡ q = cc (e) in
    (subst (λ (y : Reading). y.lines ≡ ls) same lines, subst (λ (y : Reading). is_inside y.part ≡ inside) same part)

added : (n : ℕ) (m : Meaning) (b : Bool) (l : Option Limits) (bs : List Body) (ls : List NumberedLine) (p : Option Part) (q : Reading)
    → stood n m (reading b l bs ls p) ≡ Some q → Added n (is_inside p) m ls q
added n Nothing b l bs ls None q e = as_next (reading b l bs ls None) q (ls ++ []) false e (sym (append-nil ls)) refl
added n Nothing b l bs ls (Some part) q e = as_next (reading b l bs ls (Some part)) q (ls ++ []) true e (sym (append-nil ls)) refl
added n (LimitsLine x) true l bs ls p q e = absurd (cc (e))
added n (LimitsLine x) false l bs ls None q e = as_next (reading true (Some x) bs ls None) q (ls ++ []) false e (sym (append-nil ls)) refl
added n (LimitsLine x) false l bs ls (Some part) q e = as_next (reading true (Some x) bs ls (Some part)) q (ls ++ []) true e (sym (append-nil ls)) refl
added n (Do x) b l bs ls None q e =
    as_next (reading true l bs (ls ++ record { number = n; line = DoLine x } ∷ []) None) q (ls ++ record { number = n; line = DoLine x } ∷ []) false e refl refl
added n (Do x) b l bs ls (Some part) q e = by (nat_lt (length part.commands) MAX_COMMANDS) e
  where
    by : (t : Bool) → cond t (Some (reading b l bs ls (Some (with_command x part)))) None ≡ Some q → Added n true (Do x) ls q
    by true e = as_next (reading b l bs ls (Some (with_command x part))) q (ls ++ []) true e (sym (append-nil ls)) refl
    by false e = absurd (cc (e))
added n Turn b l bs ls None q e =
    as_next (reading true l bs (ls ++ record { number = n; line = TurnLine } ∷ []) None) q (ls ++ record { number = n; line = TurnLine } ∷ []) false e refl refl
added n Turn b l bs ls (Some part) q e = absurd (cc (e))
added n (Run x) b l bs ls None q e =
    as_next (reading true l bs (ls ++ record { number = n; line = RunLine x } ∷ []) None) q (ls ++ record { number = n; line = RunLine x } ∷ []) false e refl refl
added n (Run x) b l bs ls (Some part) q e = absurd (cc (e))
added n (Wait p x) b l bs ls None q e =
    as_next (reading true l bs (ls ++ record { number = n; line = WaitLine p x } ∷ []) None) q (ls ++ record { number = n; line = WaitLine p x } ∷ []) false e refl refl
added n (Wait p x) b l bs ls (Some part) q e = absurd (cc (e))
added n (Step x) b l bs ls None q e = as_next (reading true l bs ls (Some (record { step = x; commands = [] }))) q (ls ++ []) true e (sym (append-nil ls)) refl
added n (Step x) b l bs ls (Some part) q e = absurd (cc (e))
added n (Close x) b l bs ls None q e = absurd (cc (e))
added n (Close x) b l bs ls (Some part) q e =
    as_next (reading b l (bs ++ record { step = part.step; action = record { commands = part.commands; ending = x } } ∷ []) ls None) q (ls ++ []) false e (sym (append-nil ls)) refl

found_behind : (o : Option NumberedLine) (ls : List NumberedLine) → with_found o [] ++ ls ≡ with_found o ls
found_behind None ls = refl
found_behind (Some x) ls = refl

lines_outside : (texts : List (List ℕ)) (n : ℕ) (r : Reading) (s : Script) → script_read n r texts ≡ Ok s → s.lines ≡ r.lines ++ lines_left n (is_inside r.part) texts
lines_outside [] n r s e = by (is_inside r.part) e
  where
    made : Result Script ReadRefused
    made = Ok (record { limits = r.limits; bodies = r.bodies; lines = r.lines })

    lines_of_it : Result Script ReadRefused → List NumberedLine
    lines_of_it (Ok x) = x.lines
    lines_of_it (Err x) = []

    by : (b : Bool) → cond b (Err (Bad (n + 1))) (Ok (record { limits = r.limits; bodies = r.bodies; lines = r.lines })) ≡ Ok s → s.lines ≡ r.lines ++ []
    by true e = absurd (cc (e))
    by false e = sym (ap lines_of_it e) ∙ sym (append-nil r.lines)
lines_outside (text ∷ texts) n r s e = by (λ q h. lines_outside texts (n + 1) q s h) (text_read text) e
  where
    behind : (m : Meaning) (q : Reading) → Added (n + 1) (is_inside r.part) m r.lines q → s.lines ≡ q.lines ++ lines_left (n + 1) (is_inside q.part) texts
        → s.lines ≡ r.lines ++ with_found (numbered (n + 1) (said_outside (is_inside r.part) (Some m))) (lines_left (n + 1) (stays_inside (is_inside r.part) (Some m)) texts)
    behind m q more rest =
        let found : Option NumberedLine = numbered (n + 1) (said_outside (is_inside r.part) (Some m)) in
        let left : List NumberedLine = lines_left (n + 1) (stays_inside (is_inside r.part) (Some m)) texts in
        rest ∙ ap (λ (i : Bool). q.lines ++ lines_left (n + 1) i texts) more.1 ∙ ap (λ (ls : List NumberedLine). ls ++ left) more.0
        ∙ append_assoc r.lines (with_found found []) left ∙ ap (λ (ls : List NumberedLine). r.lines ++ ls) (found_behind found left)

    by : ((q : Reading) → script_read (n + 1) q texts ≡ Ok s → s.lines ≡ q.lines ++ lines_left (n + 1) (is_inside q.part) texts)
        → (o : Option Meaning) → went_on (and_then (λ m. stood (n + 1) m r) o) (Err (refused_at (n + 1) text)) (λ q. script_read (n + 1) q texts) ≡ Ok s
        → s.lines ≡ r.lines ++ with_found (numbered (n + 1) (said_outside (is_inside r.part) o)) (lines_left (n + 1) (stays_inside (is_inside r.part) o) texts)
    by rest None e = absurd (cc (e))
    by rest (Some m) e = on (stood (n + 1) m r) refl e
      where
        on : (p : Option Reading) → stood (n + 1) m r ≡ p → went_on p (Err (refused_at (n + 1) text)) (λ q. script_read (n + 1) q texts) ≡ Ok s
            → s.lines ≡ r.lines ++ with_found (numbered (n + 1) (said_outside (is_inside r.part) (Some m))) (lines_left (n + 1) (stays_inside (is_inside r.part) (Some m)) texts)
        on None stands e = absurd (cc (e))
        on (Some q) stands e = behind m q (added (n + 1) m r.started r.limits r.bodies r.lines r.part q stands) (rest q e)

-- the lines of a script are those outside bodies that are left of its whole text
pub all_lines : (octets : List ℕ) (s : Script) → script_read 0 before_lines (lines_of octets) ≡ Ok s → lines_left 0 false (lines_of octets) ≡ s.lines
all_lines octets s e = sym (lines_outside (lines_of octets) 0 before_lines s e)

-- ---- the next line

said_stays : (inside : Bool) (o : Option Meaning) (line : Line) → said_outside inside o ≡ Some line → stays_inside inside o ≡ false
said_stays true o line e = absurd (cc (e))
said_stays false None line e = refl
said_stays false (Some Nothing) line e = refl
said_stays false (Some (LimitsLine x)) line e = refl
said_stays false (Some (Do x)) line e = refl
said_stays false (Some Turn) line e = refl
said_stays false (Some (Run x)) line e = refl
said_stays false (Some (Wait p x)) line e = refl
said_stays false (Some (Step x)) line e = absurd (cc (e))
said_stays false (Some (Close x)) line e = refl

-- a line that does something
pub one_found : (n : ℕ) (inside : Bool) (rest text behind : List ℕ) (left : List NumberedLine) (line : Line)
    → lines_left n inside (lines_of rest) ≡ left → lines_of rest ≡ text ∷ lines_of behind → said_outside inside (text_read text) ≡ Some line
    → left ≡ record { number = n + 1; line = line } ∷ lines_left (n + 1) false (lines_of behind)
one_found n inside rest text behind left line is lines said =
    sym is ∙ ap (λ (ts : List (List ℕ)). lines_left n inside ts) lines
    ∙ ap (λ (o : Option Line). with_found (numbered (n + 1) o) (lines_left (n + 1) (stays_inside inside (text_read text)) (lines_of behind))) said
    ∙ ap (λ (i : Bool). record { number = n + 1; line = line } ∷ lines_left (n + 1) i (lines_of behind)) (said_stays inside (text_read text) line said)

-- a line that does nothing
pub none_found : (n : ℕ) (inside : Bool) (rest text behind : List ℕ) (left : List NumberedLine)
    → lines_left n inside (lines_of rest) ≡ left → lines_of rest ≡ text ∷ lines_of behind → said_outside inside (text_read text) ≡ None
    → lines_left (n + 1) (stays_inside inside (text_read text)) (lines_of behind) ≡ left
none_found n inside rest text behind left is lines said =
    sym (ap (λ (o : Option Line). with_found (numbered (n + 1) o) (lines_left (n + 1) (stays_inside inside (text_read text)) (lines_of behind))) said)
    ∙ sym (ap (λ (ts : List (List ℕ)). lines_left n inside ts) lines) ∙ is

-- ---- the bodies

pub as_many : (octets : List ℕ) (spots : List Spot) (bodies : List Body) → AreAt octets spots bodies → length spots ≡ length bodies
as_many octets [] [] are = refl
as_many octets [] (b ∷ bodies) are = absurd are
as_many octets (s ∷ spots) [] are = absurd are
as_many octets (s ∷ spots) (b ∷ bodies) are = omega (arith, as_many octets spots bodies are.1)

pub one_at : (octets : List ℕ) (spots : List Spot) (bodies : List Body) (k : ℕ) (d : Spot) → AreAt octets spots bodies → k < length spots
    → IsAt octets (get_or spots k d) (body_at bodies k)
one_at octets [] bodies k d are within = absurd (omega arith)
one_at octets (s ∷ spots) [] k d are within = absurd are
one_at octets (s ∷ spots) (b ∷ bodies) zero d are within = are.0
one_at octets (s ∷ spots) (b ∷ bodies) (suc k) d are within = one_at octets spots bodies k d are.1 (omega (arith, within))

pub none_at : (octets : List ℕ) (spots : List Spot) (bodies : List Body) (k : ℕ) → AreAt octets spots bodies → length spots ≤ k → body_at bodies k ≡ no_body
none_at octets [] [] k are beyond = refl
none_at octets [] (b ∷ bodies) k are beyond = absurd are
none_at octets (s ∷ spots) [] k are beyond = absurd are
none_at octets (s ∷ spots) (b ∷ bodies) zero are beyond = absurd (omega arith)
none_at octets (s ∷ spots) (b ∷ bodies) (suc k) are beyond = none_at octets spots bodies k are.1 (omega (arith, beyond))
