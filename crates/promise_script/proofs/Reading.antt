-- What was kept of a text, as what the text is read as.
use Rattle.std.proofs.Common.{◌≡◌, ℕ, ◌<◌, ◌^◌, List, Option, None, Some, Result, Ok, Err, Bool, true, false, sym, ap, ◌∙◌, subst, arith, length}
use Rattle.std.proofs.lemmas.Bool.{false≢true}
use Rattle.promise_commands.specs.Script.{Script}
use Rattle.promise_script.specs.declared.kept.Kept.{Kept}
use Rattle.promise_script.specs.declared.reader.ReadRefused.{ReadRefused}
use Rattle.promise_script.specs.declared.reader.ReadRefused.TheVariants.{Bad, NotBuilt, NoMemory}
use Rattle.promise_script.specs.ScriptText.{lines_of}
use Rattle.promise_script.specs.Scripts.{IsScriptText, IsReadAs, ScriptFits}
use Rattle.promise_script.specs.Assembly.{before_lines, refused_at, script_read}
use Rattle.promise_script.specs.Kept.{Answers, AreAt, IsKeptAs, IsTextOf, script_or_none, text_script}
use Rattle.promise_script.proofs.Faults.{read_means}
use Rattle.promise_script.proofs.Fits.{read_fits}
use Rattle.promise_script.proofs.Sounds.{script_sound}

pub answered_no : (stands : Bool) (next : Option Kept) (k : Kept) → Answers stands next k → stands ≡ false → next ≡ None
answered_no true next k answers said = absurd (false≢true (sym said))
answered_no false next k answers said = answers

pub answered_yes : (stands : Bool) (next : Option Kept) (k : Kept) → Answers stands next k → stands ≡ true → next ≡ Some k
answered_yes true next k answers said = answers
answered_yes false next k answers said = absurd (false≢true said)

abbrev refused : ReadRefused → Result Script ReadRefused
refused x = Err x

abbrev passed : Script → Result Script ReadRefused
passed s = Ok s

pub refused_as : (octets text : List ℕ) (n : ℕ) (x : ReadRefused) → x ≡ refused_at n text
    → script_read 0 before_lines (lines_of octets) ≡ Err (refused_at n text) → IsKeptAs octets (Err x)
refused_as octets text n (Bad m) same read = read ∙ ap refused (sym same)
refused_as octets text n (NotBuilt m) same read = read ∙ ap refused (sym same)
refused_as octets text n NoMemory same read = tt

-- what was kept of a script is of its text
pub is_text : (octets : List ℕ) (k : Kept) → IsKeptAs octets (Ok k) → length octets < 2 ^ 32 → IsTextOf octets k.limits k.spots
is_text octets k found few =
    let same : text_script octets ≡ found.0 = ap script_or_none found.1 in
    record {
      read = found.1 ∙ ap passed (sym same);
      limits_are = found.2 ∙ ap (λ (s : Script). s.limits) (sym same);
      spots_are = subst (λ (s : Script). AreAt octets k.spots s.bodies) (sym same) found.3;
      few = few;
      few_spots = omega (arith, few, found.4);
    }

pub is_script : (octets : List ℕ) (k : Kept) → IsKeptAs octets (Ok k) → IsScriptText octets (text_script octets)
is_script octets k found =
    let same : text_script octets ≡ found.0 = ap script_or_none found.1 in
    script_sound (lines_of octets) (text_script octets) (found.1 ∙ ap passed (sym same))

pub fits : (octets : List ℕ) (k : Kept) → IsKeptAs octets (Ok k) → ScriptFits (text_script octets)
fits octets k found = read_fits octets (Ok (text_script octets)) (is_script octets k found)

pub is_refused : (octets : List ℕ) (x : ReadRefused) → IsKeptAs octets (Err x) → IsReadAs octets (Err x)
is_refused octets (Bad n) read = read_means octets (Err (Bad n)) (λ some. sym read)
is_refused octets (NotBuilt n) read = read_means octets (Err (NotBuilt n)) (λ some. sym read)
is_refused octets NoMemory read = tt
