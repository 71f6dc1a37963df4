-- What reading keeps of the lines so far, beside all that they say.
use Rattle.std.specs.Prelude.{◌≡◌, ℕ, ◌<◌, ◌≤◌, ◌+◌, ◌^◌, List, [], ◌∷◌, ◌++◌, Option, None, Some, Bool, true, false, cond, drop, length, nat_lt, Result, Ok, Err}
use Rattle.kj_base.specs.declared.numbers.StepId.{StepId}
use Rattle.kj_base.specs.declared.numbers.Limits.{Limits}
use Rattle.promise_commands.specs.Script.{Body, Script}
use Rattle.promise_commands.specs.declared.action.TheConstants.{MAX_COMMANDS}
use Rattle.promise_script.specs.declared.meaning.Meaning.{Meaning}
use Rattle.promise_script.specs.declared.meaning.Meaning.TheVariants.{Nothing, Limits as LimitsLine, Do, Turn, Run, Wait, Step, Close}
use Rattle.promise_script.specs.declared.reader.ReadRefused.{ReadRefused}
use Rattle.promise_script.specs.declared.reader.ReadRefused.TheVariants.{Bad, NotBuilt, NoMemory}
use Rattle.promise_script.specs.declared.kept.Kept.{Kept}
use Rattle.promise_script.specs.declared.kept.Open.{Open}
use Rattle.promise_script.specs.declared.spots.Spot.{Spot}
use Rattle.promise_script.specs.ScriptText.{lines_of}
use Rattle.promise_script.specs.Decode.{and_then, text_read}
use Rattle.promise_script.specs.Assembly.{Part, Reading, before_lines, script_read}
use Rattle.promise_script.specs.Left.{action_from}

-- ---- one line more

-- the answer tells whether something is kept behind the line, which is this
abbrev pub Answers : Bool → Option Kept → Kept → Type 0
Answers true next k = next ≡ Some k
Answers false next k = next ≡ None

-- what may stand outside bodies alone
abbrev pub outside : Option Open → Kept → Option Kept
outside None k = Some k
outside (Some opened) k = None

abbrev pub with_body : Option Open → Kept → Kept
with_body body k = record { started = true; limits = k.limits; spots = k.spots; body = body }

abbrev pub limited : Limits → Kept → Option Kept
limited limits k = cond k.started None (Some (record { started = true; limits = Some limits; spots = k.spots; body = k.body }))

abbrev pub lined : Kept → Option Kept
lined k = outside k.body (with_body k.body k)

abbrev pub one_more : Open → Open
one_more opened = record { spot = opened.spot; commands = opened.commands + 1 }

abbrev pub body_commanded : Option Open → Kept → Option Kept
body_commanded None k = Some (with_body k.body k)
body_commanded (Some opened) k =
    cond (nat_lt opened.commands MAX_COMMANDS) (Some (record { started = k.started; limits = k.limits; spots = k.spots; body = Some (one_more opened) })) None

-- few commands in a body
abbrev pub commanded : Kept → Option Kept
commanded k = body_commanded k.body k

abbrev pub begun : StepId → ℕ → Kept → Option Kept
begun step place k = outside k.body (with_body (Some (record { spot = record { step = step; place = place }; commands = 0 })) k)

abbrev pub body_closed : Option Open → Kept → Option Kept
body_closed None k = None
body_closed (Some opened) k = Some (record { started = k.started; limits = k.limits; spots = k.spots ++ opened.spot ∷ []; body = None })

abbrev pub closed : Kept → Option Kept
closed k = body_closed k.body k

-- what is kept behind one line more, where the text goes on at this place
abbrev pub stood : ℕ → Meaning → Kept → Option Kept
stood place Nothing k = Some k
stood place (LimitsLine limits) k = limited limits k
stood place (Do command) k = commanded k
stood place Turn k = lined k
stood place (Run turns) k = lined k
stood place (Wait name turns) k = lined k
stood place (Step step) k = begun step place k
stood place (Close ending) k = closed k

-- what is kept before the first line
abbrev pub kept_before : Kept
kept_before = record { started = false; limits = None; spots = []; body = None }

-- what is kept behind one line more, from its octets
abbrev pub line_stood : ℕ → Kept → List ℕ → Option Kept
line_stood place k text = and_then (λ m. stood place m k) (text_read text)

-- ---- what it tells

-- the spot has the body's step, and its lines stand at the place
pub record IsAt (octets : List ℕ) (spot : Spot) (body : Body) : Type 0 where
  pub step : spot.step ≡ body.step
  pub action : action_from [] (lines_of (drop spot.place octets)) ≡ body.action

abbrev pub AreAt : List ℕ → List Spot → List Body → Type 0
AreAt octets [] [] = Unit {0}
AreAt octets [] (body ∷ bodies) = ⊥
AreAt octets (spot ∷ spots) [] = ⊥
AreAt octets (spot ∷ spots) (body ∷ bodies) = IsAt octets spot body × AreAt octets spots bodies

-- the body that is open goes on with these lines
pub record GoesOn (octets : List ℕ) (opened : Open) (part : Part) (texts : List (List ℕ)) : Type 0 where
  pub step : opened.spot.step ≡ part.step
  pub commands : opened.commands ≡ length part.commands
  pub action : action_from [] (lines_of (drop opened.spot.place octets)) ≡ action_from part.commands texts

abbrev pub IsOpen : List ℕ → Option Open → Option Part → List (List ℕ) → Type 0
IsOpen octets None None texts = Unit {0}
IsOpen octets None (Some part) texts = ⊥
IsOpen octets (Some opened) None texts = ⊥
IsOpen octets (Some opened) (Some part) texts = GoesOn octets opened part texts

-- this is kept of a reading, behind which these lines stand
pub record Keeps (octets : List ℕ) (k : Kept) (r : Reading) (texts : List (List ℕ)) : Type 0 where
  pub started : k.started ≡ r.started
  pub limits : k.limits ≡ r.limits
  pub spots : AreAt octets k.spots r.bodies
  pub body : IsOpen octets k.body r.part texts

-- ---- what it is at the end

-- what is kept of a text that is a script, or why it is none
abbrev pub IsKeptAs : List ℕ → Result Kept ReadRefused → Type 0
IsKeptAs octets (Ok k) =
    (s : Script) × (script_read 0 before_lines (lines_of octets) ≡ Ok s) × (k.limits ≡ s.limits) × AreAt octets k.spots s.bodies × (length k.spots ≤ length octets)
IsKeptAs octets (Err (Bad n)) = script_read 0 before_lines (lines_of octets) ≡ Err (Bad n)
IsKeptAs octets (Err (NotBuilt n)) = script_read 0 before_lines (lines_of octets) ≡ Err (NotBuilt n)
IsKeptAs octets (Err NoMemory) = Unit {0}

abbrev pub script_or_none : Result Script ReadRefused → Script
script_or_none (Ok s) = s
script_or_none (Err e) = record { limits = None; bodies = []; lines = [] }

-- the script that a text is read as
abbrev pub text_script : List ℕ → Script
text_script octets = script_or_none (script_read 0 before_lines (lines_of octets))

-- the octets are the text of a script, with these limits, and these spots are where its bodies stand
pub record IsTextOf (octets : List ℕ) (limits : Option Limits) (spots : List Spot) : Type 0 where
  pub read : script_read 0 before_lines (lines_of octets) ≡ Ok (text_script octets)
  pub limits_are : limits ≡ (text_script octets).limits
  pub spots_are : AreAt octets spots (text_script octets).bodies
  pub few : length octets < 2 ^ 32
  pub few_spots : length spots < 2 ^ 32
