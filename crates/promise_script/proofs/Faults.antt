-- What lines are read as that aren't a script: the line at fault, and why.
use Rattle.std.proofs.Common.{◌≡◌, ◌⊎◌, ℕ, ◌+◌, List, [], ◌∷◌, ◌++◌, Option, None, Some, Result, Ok, Err, Bool, true, false, cond, ◌||◌, refl, sym, ap, ◌∙◌, arith, length, inl, inr}
use Rattle.std.specs.Prelude.{codes, bytes_eq}
use Rattle.std.proofs.lemmas.List.{append-nil}
use Rattle.kj_base.specs.declared.endings.Ending.TheVariants.{Input}
use Rattle.promise_commands.specs.Script.{Script}
use Rattle.promise_script.specs.declared.meaning.Meaning.{Meaning}
use Rattle.promise_script.specs.declared.meaning.Meaning.TheVariants.{Close}
use Rattle.promise_script.specs.declared.reader.ReadRefused.{ReadRefused}
use Rattle.promise_script.specs.declared.reader.ReadRefused.TheVariants.{Bad, NotBuilt, NoMemory}
use Rattle.promise_script.specs.ScriptText.{first_word, lines_of}
use Rattle.promise_script.specs.Decode.{and_then, text_read}
use Rattle.promise_script.specs.Assembly.{Part, Reading, stood, part_closed, line_stood, unbuilt_command, refused_at, is_inside, ended, went_on, before_lines, script_read}
use Rattle.promise_script.specs.Scripts.{IsScript, IsScriptText, BeginsScript, IsFaulty, IsUnclosed, unbuilt_commands, is_among, IsBadLine, IsNotBuiltLine, IsReadAs}
use Rattle.promise_script.proofs.Folds.{lines_stood, read_behind, none_behind, stood_more}
use Rattle.promise_script.proofs.Pieces.{script_complete}
use Rattle.promise_script.proofs.Sounds.{script_sound}

-- ---- where a reading stops

-- a line that may not stand behind those before it
record Stopped (n : ℕ) (r : Reading) (lines : List (List ℕ)) (e : ReadRefused) : Type 0 where
  before : List (List ℕ)
  line : List ℕ
  behind : List (List ℕ)
  at : Reading
  whole : lines ≡ before ++ line ∷ behind
  stands : lines_stood n r before ≡ Some at
  none : line_stood (n + length before + 1) at line ≡ None
  refused : e ≡ refused_at (n + length before + 1) line

-- all lines stand, and a body is open
record Opened (n : ℕ) (r : Reading) (lines : List (List ℕ)) (e : ReadRefused) : Type 0 where
  at : Reading
  stands : lines_stood n r lines ≡ Some at
  inside : is_inside at.part ≡ true
  refused : e ≡ Bad (n + length lines + 1)

abbrev failed : ReadRefused → Result Script ReadRefused
failed e = Err e

abbrev made_of : Reading → Script
made_of r = record { limits = r.limits; bodies = r.bodies; lines = r.lines }

left_open : (n : ℕ) (r : Reading) (e : ReadRefused) (b : Bool) → is_inside r.part ≡ b
    → cond b (failed (Bad (n + 1))) (Ok (made_of r)) ≡ Err e → Opened n r [] e
left_open n r e true inside refused =
    let place : n + 1 ≡ n + 0 + 1 = omega arith in
    let same : Bad (n + 1) ≡ e = cc (refused) in
    record { at = r; stands = refl; inside = inside; refused = sym same ∙ ap (λ (k : ℕ). Bad k) place }
left_open n r e false inside refused = absurd (cc (refused))

stopped_more : (n : ℕ) (r q : Reading) (x : List ℕ) (xs : List (List ℕ)) (e : ReadRefused) → line_stood (n + 1) r x ≡ Some q → Stopped (n + 1) q xs e → Stopped n r (x ∷ xs) e
stopped_more n r q x xs e first found =
    let place : n + 1 + length found.before + 1 ≡ n + length (x ∷ found.before) + 1 = omega arith in
    record {
      before = x ∷ found.before;
      line = found.line;
      behind = found.behind;
      at = found.at;
      whole = ap (λ (ys : List (List ℕ)). x ∷ ys) found.whole;
      stands = ap (λ (o : Option Reading). and_then (λ p. lines_stood (n + 1) p found.before) o) first ∙ found.stands;
      none = ap (λ (k : ℕ). line_stood k found.at found.line) (sym place) ∙ found.none;
      refused = found.refused ∙ ap (λ (k : ℕ). refused_at k found.line) place;
    }

opened_more : (n : ℕ) (r q : Reading) (x : List ℕ) (xs : List (List ℕ)) (e : ReadRefused) → line_stood (n + 1) r x ≡ Some q → Opened (n + 1) q xs e → Opened n r (x ∷ xs) e
opened_more n r q x xs e first found =
    let place : n + 1 + length xs + 1 ≡ n + length (x ∷ xs) + 1 = omega arith in
    record {
      at = found.at;
      stands = ap (λ (o : Option Reading). and_then (λ p. lines_stood (n + 1) p xs) o) first ∙ found.stands;
      inside = found.inside;
      refused = found.refused ∙ ap (λ (k : ℕ). Bad k) place;
    }

stopped_here : (n : ℕ) (r : Reading) (x : List ℕ) (xs : List (List ℕ)) (e : ReadRefused) → line_stood (n + 1) r x ≡ None → failed (refused_at (n + 1) x) ≡ failed e → Stopped n r (x ∷ xs) e
stopped_here n r x xs e none refused =
    let place : n + 1 ≡ n + 0 + 1 = omega arith in
    let same : refused_at (n + 1) x ≡ e = cc (refused) in
    record {
      before = [];
      line = x;
      behind = xs;
      at = r;
      whole = refl;
      stands = refl;
      none = ap (λ (k : ℕ). line_stood k r x) (sym place) ∙ none;
      refused = sym same ∙ ap (λ (k : ℕ). refused_at k x) place;
    }

fault_found : (lines : List (List ℕ)) (n : ℕ) (r : Reading) (e : ReadRefused) → script_read n r lines ≡ Err e → Stopped n r lines e ⊎ Opened n r lines e
fault_found [] n r e refused = inr (left_open n r e (is_inside r.part) refl refused)
fault_found (x ∷ xs) n r e refused = by (λ q h. fault_found xs (n + 1) q e h) (line_stood (n + 1) r x) refl refused
  where
    more : (q : Reading) → line_stood (n + 1) r x ≡ Some q → Stopped (n + 1) q xs e ⊎ Opened (n + 1) q xs e → Stopped n r (x ∷ xs) e ⊎ Opened n r (x ∷ xs) e
    more q first (inl found) = inl (stopped_more n r q x xs e first found)
    more q first (inr found) = inr (opened_more n r q x xs e first found)

    by : ((q : Reading) → script_read (n + 1) q xs ≡ Err e → Stopped (n + 1) q xs e ⊎ Opened (n + 1) q xs e)
        → (o : Option Reading) → line_stood (n + 1) r x ≡ o
        → went_on o (Err (refused_at (n + 1) x)) (λ q. script_read (n + 1) q xs) ≡ Err e → Stopped n r (x ∷ xs) e ⊎ Opened n r (x ∷ xs) e
    by rest None first refused = inl (stopped_here n r x xs e first refused)
    by rest (Some q) first refused = more q first (rest q refused)

-- ---- which lines begin a script

-- a reading can be ended
abbrev Ends : ℕ → Reading → Type 0
Ends k q = (behind : List (List ℕ)) × (s : Script) × (script_read k q behind ≡ Ok s)

can_end : (k : ℕ) (q : Reading) (p : Option Part) → q.part ≡ p → Ends k q
can_end k q None at =
    ([], made_of q, ap (λ (o : Option Part). cond (is_inside o) (failed (Bad (k + 1))) (Ok (made_of q))) at)
can_end k q (Some part) at =
    let read : text_read (codes "input") ≡ Some (Close Input) = refl in (
      codes "input" ∷ [],
      record { limits = q.limits; bodies = q.bodies ++ record { step = part.step; action = record { commands = part.commands; ending = Input } } ∷ []; lines = q.lines },
      ap (λ (o : Option Meaning). went_on (and_then (λ m. stood (k + 1) m q) o) (Err (refused_at (k + 1) (codes "input"))) (λ r. script_read (k + 1) r [])) read
          ∙ ap (λ (o : Option Part). went_on (part_closed Input o q) (Err (refused_at (k + 1) (codes "input"))) (λ r. script_read (k + 1) r [])) at,
    )

stood_begins : (lines : List (List ℕ)) (q : Reading) → lines_stood 0 before_lines lines ≡ Some q → BeginsScript lines
stood_begins lines q stands =
    let end = can_end (0 + length lines) q q.part refl in
    record { behind = end.0; script = end.1; is = script_sound (lines ++ end.0) end.1 (read_behind lines end.0 0 before_lines q stands ∙ end.2) }

none_begins : (lines : List (List ℕ)) → lines_stood 0 before_lines lines ≡ None → BeginsScript lines → ⊥
none_begins lines none begins = none_behind lines begins.behind 0 before_lines begins.script none (script_complete (lines ++ begins.behind) begins.script begins.is)

begins_stood : (lines : List (List ℕ)) → BeginsScript lines → (q : Reading) × (lines_stood 0 before_lines lines ≡ Some q)
begins_stood lines begins = by (lines_stood 0 before_lines lines) refl
  where
    by : (o : Option Reading) → lines_stood 0 before_lines lines ≡ o → (q : Reading) × (lines_stood 0 before_lines lines ≡ Some q)
    by None e = absurd (none_begins lines e begins)
    by (Some q) e = (q, e)

-- behind lines that stand, a script was read exactly where no body is open
all_read : (lines : List (List ℕ)) (q : Reading) → lines_stood 0 before_lines lines ≡ Some q → script_read 0 before_lines lines ≡ ended (0 + length lines) q
all_read lines q stands = ap (λ (xs : List (List ℕ)). script_read 0 before_lines xs) (sym (append-nil lines)) ∙ read_behind lines [] 0 before_lines q stands

closed_script : (lines : List (List ℕ)) (q : Reading) → lines_stood 0 before_lines lines ≡ Some q → is_inside q.part ≡ false → (s : Script) × IsScript lines s
closed_script lines q stands closed =
    let s = made_of q in
    (s, script_sound lines s (all_read lines q stands ∙ ap (λ (b : Bool). cond b (failed (Bad (0 + length lines + 1))) (Ok s)) closed))

open_script : (lines : List (List ℕ)) (q : Reading) → lines_stood 0 before_lines lines ≡ Some q → is_inside q.part ≡ true → (s : Script) → IsScript lines s → ⊥
open_script lines q stands inside s is =
    let t = made_of q in
    let read : failed (Bad (0 + length lines + 1)) ≡ Ok s =
    sym (all_read lines q stands ∙ ap (λ (b : Bool). cond b (failed (Bad (0 + length lines + 1))) (Ok t)) inside) ∙ script_complete lines s is in
    cc (read)

-- ---- words that are to be built

chained : (a b c d e : Bool) → (a || b || c || d || e)
    ≡ cond a true (cond b true (cond c true (cond d true (cond e true false))))
chained true b c d e = refl
chained false true c d e = refl
chained false false true d e = refl
chained false false false true e = refl
chained false false false false true = refl
chained false false false false false = refl

unbuilt_same : (w : List ℕ) → unbuilt_command w ≡ is_among unbuilt_commands w
unbuilt_same w =
    chained (bytes_eq w (codes "wrap")) (bytes_eq w (codes "ask")) (bytes_eq w (codes "begin")) (bytes_eq w (codes "stop")) (bytes_eq w (codes "reply"))

-- ---- both ways

-- the line where the reading stops is the one at fault
stopped_faulty : (lines : List (List ℕ)) (e : ReadRefused) (x : Stopped 0 before_lines lines e) (n : ℕ) → n ≡ 0 + length x.before + 1 → IsFaulty lines n x.before x.line
stopped_faulty lines e x n same =
    record {
      behind = x.behind;
      whole = x.whole;
      place = omega (arith, same);
      begins = stood_begins x.before x.at x.stands;
      stops = none_begins (x.before ++ x.line ∷ []) (stood_more x.before x.line 0 before_lines x.at x.stands ∙ x.none);
    }

abbrev pub Refusal : List ℕ → ReadRefused → Type 0
Refusal text (Bad n) = IsBadLine text n
Refusal text (NotBuilt n) = IsNotBuiltLine text n
Refusal text NoMemory = ⊥

stopped_means : (text : List ℕ) (e : ReadRefused) → Stopped 0 before_lines (lines_of text) e → Refusal text e
stopped_means text e x = by e (unbuilt_command (first_word x.line)) refl x.refused
  where
    by : (d : ReadRefused) (b : Bool) → unbuilt_command (first_word x.line) ≡ b → d ≡ cond b (NotBuilt (0 + length x.before + 1)) (Bad (0 + length x.before + 1)) → Refusal text d
    by (Bad n) true here same = absurd (cc (same))
    by (Bad n) false here same =
        let n_is : n ≡ 0 + length x.before + 1 = cc (same) in
        inl (x.before, x.line, stopped_faulty (lines_of text) e x n n_is, λ unbuilt. let other : true ≡ false = sym unbuilt ∙ sym (unbuilt_same (first_word x.line)) ∙ here in cc (other))
    by (NotBuilt n) true here same =
        let n_is : n ≡ 0 + length x.before + 1 = cc (same) in
        (x.before, x.line, stopped_faulty (lines_of text) e x n n_is, sym (unbuilt_same (first_word x.line)) ∙ here)
    by (NotBuilt n) false here same = absurd (cc (same))
    by NoMemory true here same = absurd (cc (same))
    by NoMemory false here same = absurd (cc (same))

opened_means : (text : List ℕ) (e : ReadRefused) → Opened 0 before_lines (lines_of text) e → Refusal text e
opened_means text e x = by e x.refused
  where
    by : (d : ReadRefused) → d ≡ Bad (0 + length (lines_of text) + 1) → Refusal text d
    by (Bad n) same =
        let n_is : n ≡ 0 + length (lines_of text) + 1 = cc (same) in
        inr (record { place = omega (arith, n_is); begins = stood_begins (lines_of text) x.at x.stands; none = open_script (lines_of text) x.at x.stands x.inside })
    by (NotBuilt n) same = absurd (cc (same))
    by NoMemory same = absurd (cc (same))

pub refusal_means : (text : List ℕ) (e : ReadRefused) → script_read 0 before_lines (lines_of text) ≡ Err e → Refusal text e
refusal_means text e refused = by (fault_found (lines_of text) 0 before_lines e refused)
  where
    by : Stopped 0 before_lines (lines_of text) e ⊎ Opened 0 before_lines (lines_of text) e → Refusal text e
    by (inl x) = stopped_means text e x
    by (inr x) = opened_means text e x

-- what the text says, from what was read
pub read_means : (text : List ℕ) (r : Result Script ReadRefused) → ((r ≡ Err NoMemory → ⊥) → r ≡ script_read 0 before_lines (lines_of text)) → IsReadAs text r
read_means text (Ok s) is = script_sound (lines_of text) s (sym (is (λ e. cc (e))))
read_means text (Err (Bad n)) is = refusal_means text (Bad n) (sym (is (λ e. cc (e))))
read_means text (Err (NotBuilt n)) is = refusal_means text (NotBuilt n) (sym (is (λ e. cc (e))))
read_means text (Err NoMemory) is = tt

-- a line at fault is where the reading stops
abbrev StopsAt : List (List ℕ) → ℕ → List (List ℕ) → List ℕ → Type 0
StopsAt lines n before line = (q : Reading) × (lines_stood 0 before_lines before ≡ Some q) × (script_read 0 before_lines lines ≡ failed (refused_at n line))

faulty_stops : (lines : List (List ℕ)) (n : ℕ) (before : List (List ℕ)) (line : List ℕ) → IsFaulty lines n before line → StopsAt lines n before line
faulty_stops lines n before line x =
    let found = begins_stood before x.begins in
    let place : 0 + length before + 1 ≡ n = omega (arith, x.place) in (
      found.0,
      found.1,
      ap (λ (xs : List (List ℕ)). script_read 0 before_lines xs) x.whole
          ∙ read_behind before (line ∷ x.behind) 0 before_lines found.0 found.1
          ∙ by found.0 found.1 (line_stood (0 + length before + 1) found.0 line) refl
          ∙ ap (λ (k : ℕ). failed (refused_at k line)) place,
    )
  where
    by : (q : Reading) → lines_stood 0 before_lines before ≡ Some q → (o : Option Reading) → line_stood (0 + length before + 1) q line ≡ o
        → went_on o (failed (refused_at (0 + length before + 1) line)) (λ r. script_read (0 + length before + 1) r x.behind) ≡ failed (refused_at (0 + length before + 1) line)
    by q stands None e = refl
    by q stands (Some r) e = absurd (x.stops (stood_begins (before ++ line ∷ []) r (stood_more before line 0 before_lines q stands ∙ e)))

bad_read : (text : List ℕ) (n : ℕ) → IsBadLine text n → script_read 0 before_lines (lines_of text) ≡ failed (Bad n)
bad_read text n (inl (before, line, faulty, built)) =
    let found = faulty_stops (lines_of text) n before line faulty in
    found.2 ∙ by (unbuilt_command (first_word line)) refl
  where
    by : (b : Bool) → unbuilt_command (first_word line) ≡ b → failed (cond b (NotBuilt n) (Bad n)) ≡ failed (Bad n)
    by true e = absurd (built (sym (unbuilt_same (first_word line)) ∙ e))
    by false e = refl
bad_read text n (inr x) = by (lines_of text) x
  where
    end : (lines : List (List ℕ)) (q : Reading) → lines_stood 0 before_lines lines ≡ Some q → IsUnclosed lines n → (b : Bool) → is_inside q.part ≡ b
        → cond b (failed (Bad (0 + length lines + 1))) (Ok (made_of q)) ≡ failed (Bad n)
    end lines q stands y true inside = let place : 0 + length lines + 1 ≡ n = omega (arith, y.place) in ap (λ (k : ℕ). failed (Bad k)) place
    end lines q stands y false inside = let s = closed_script lines q stands inside in absurd (y.none s.0 s.1)

    by : (lines : List (List ℕ)) → IsUnclosed lines n → script_read 0 before_lines lines ≡ failed (Bad n)
    by lines y = let found = begins_stood lines y.begins in all_read lines found.0 found.1 ∙ end lines found.0 found.1 y (is_inside found.0.part) refl

not_built_read : (text : List ℕ) (n : ℕ) → IsNotBuiltLine text n → script_read 0 before_lines (lines_of text) ≡ failed (NotBuilt n)
not_built_read text n (before, line, faulty, unbuilt) =
    let found = faulty_stops (lines_of text) n before line faulty in
    found.2 ∙ ap (λ (b : Bool). failed (cond b (NotBuilt n) (Bad n))) (unbuilt_same (first_word line) ∙ unbuilt)

-- a text is read as one thing, memory apart
means_read : (text : List ℕ) (r : Result Script ReadRefused) → IsReadAs text r → (r ≡ Err NoMemory → ⊥) → script_read 0 before_lines (lines_of text) ≡ r
means_read text (Ok s) is some = script_complete (lines_of text) s is
means_read text (Err (Bad n)) is some = bad_read text n is
means_read text (Err (NotBuilt n)) is some = not_built_read text n is
means_read text (Err NoMemory) is some = absurd (some refl)

pub one_reading : (text : List ℕ) (a b : Result Script ReadRefused) → IsReadAs text a → IsReadAs text b → (a ≡ Err NoMemory → ⊥) → (b ≡ Err NoMemory → ⊥) → a ≡ b
one_reading text a b f g some other = sym (means_read text a f some) ∙ means_read text b g other

abbrev passed : Script → Result Script ReadRefused
passed s = Ok s

pub same_script : (text : List ℕ) (a b : Script) → IsScriptText text a → IsScriptText text b → a ≡ b
same_script text a b f g =
    let read : passed a ≡ passed b = sym (script_complete (lines_of text) a f) ∙ script_complete (lines_of text) b g in
    cc (read)

-- and as one of these
abbrev pub SomeReading : List ℕ → Type 0
SomeReading text = ((s : Script) × IsScriptText text s) ⊎ (((n : ℕ) × IsBadLine text n) ⊎ ((n : ℕ) × IsNotBuiltLine text n))

pub some_reading : (text : List ℕ) → SomeReading text
some_reading text = by (script_read 0 before_lines (lines_of text)) refl
  where
    by : (r : Result Script ReadRefused) → script_read 0 before_lines (lines_of text) ≡ r → SomeReading text
    by (Ok s) e = inl (s, script_sound (lines_of text) s e)
    by (Err (Bad n)) e = inr (inl (n, refusal_means text (Bad n) e))
    by (Err (NotBuilt n)) e = inr (inr (n, refusal_means text (NotBuilt n) e))
    by (Err NoMemory) e = absurd (refusal_means text NoMemory e)

pub same_bad : (text : List ℕ) (a b : ℕ) → IsBadLine text a → IsBadLine text b → a ≡ b
same_bad text a b f g = let read : failed (Bad a) ≡ failed (Bad b) = sym (bad_read text a f) ∙ bad_read text b g in cc (read)

pub same_not_built : (text : List ℕ) (a b : ℕ) → IsNotBuiltLine text a → IsNotBuiltLine text b → a ≡ b
same_not_built text a b f g = let read : failed (NotBuilt a) ≡ failed (NotBuilt b) = sym (not_built_read text a f) ∙ not_built_read text b g in cc (read)

pub script_not_bad : (text : List ℕ) (s : Script) (n : ℕ) → IsScriptText text s → IsBadLine text n → ⊥
script_not_bad text s n f g = let read : passed s ≡ failed (Bad n) = sym (script_complete (lines_of text) s f) ∙ bad_read text n g in cc (read)

pub script_built : (text : List ℕ) (s : Script) (n : ℕ) → IsScriptText text s → IsNotBuiltLine text n → ⊥
script_built text s n f g = let read : passed s ≡ failed (NotBuilt n) = sym (script_complete (lines_of text) s f) ∙ not_built_read text n g in cc (read)

pub bad_or_not_built : (text : List ℕ) (a b : ℕ) → IsBadLine text a → IsNotBuiltLine text b → ⊥
bad_or_not_built text a b f g = let read : failed (Bad a) ≡ failed (NotBuilt b) = sym (bad_read text a f) ∙ not_built_read text b g in cc (read)
