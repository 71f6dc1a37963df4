-- What is kept of a reading, one line after another.
use Rattle.std.proofs.Common.{◌≡◌, ◌⊎◌, ℕ, ◌<◌, ◌≤◌, ◌+◌, ◌-◌, List, [], ◌∷◌, ◌++◌, Option, None, Some, Result, Err, Bool, true, false, cond, nat_lt, refl, sym, ap, ◌∙◌, subst, arith, length, drop, inl, inr}
use Rattle.std.proofs.lemmas.List.{length-append, drop-drop}
use Rattle.kj_base.specs.declared.numbers.Limits.{Limits}
use Rattle.kj_base.specs.declared.numbers.StepId.{StepId}
use Rattle.kj_base.specs.declared.endings.Ending.{Ending}
use Rattle.promise_commands.specs.declared.command.Command.{Command}
use Rattle.promise_commands.specs.declared.script.Line.{Line}
use Rattle.promise_commands.specs.declared.script.Line.TheVariants.{Do as DoLine, Turn as TurnLine, Run as RunLine, Wait as WaitLine}
use Rattle.promise_commands.specs.declared.script.NumberedLine.{NumberedLine}
use Rattle.promise_commands.specs.Script.{Body, Script}
use Rattle.promise_script.specs.declared.bodies.Inside.{Inside}
use Rattle.promise_script.specs.declared.bodies.Inside.TheVariants.{Nothing as NothingInside, Do as DoInside, Close as CloseInside}
use Rattle.promise_commands.specs.declared.action.TheConstants.{MAX_COMMANDS}
use Rattle.promise_script.specs.declared.meaning.Meaning.{Meaning}
use Rattle.promise_script.specs.declared.meaning.Meaning.TheVariants.{Nothing, Limits as LimitsLine, Do, Turn, Run, Wait, Step, Close}
use Rattle.promise_script.specs.declared.reader.ReadRefused.{ReadRefused}
use Rattle.promise_script.specs.declared.kept.Kept.{Kept}
use Rattle.promise_script.specs.declared.kept.Open.{Open}
use Rattle.promise_script.specs.declared.spots.Spot.{Spot}
use Rattle.promise_script.specs.ScriptText.{lines_of}
use Rattle.promise_script.specs.Decode.{and_then, text_read}
use Rattle.promise_script.specs.Assembly.{Part, Reading, before_lines, begun, body_closed, closed, commanded, is_inside, line_stood, lined, refused_at, script_read, stood, went_on, with_command}
use Rattle.promise_script.specs.Left.{action_behind, action_from, said_inside}
use Rattle.promise_script.specs.Kept.{AreAt, GoesOn, IsAt, IsOpen, Keeps, kept_before, one_more}
use Rattle.promise_script.specs.Kept.{begun as begun_kept, closed as closed_kept, commanded as commanded_kept, line_stood as kept_stood, lined as lined_kept, stood as stood_kept}
use Rattle.promise_script.proofs.Openings.{opened}
use Rattle.promise_script.proofs.Pieces.{reading}

-- ---- spots and bodies

pub at_more : (octets : List ℕ) (spots : List Spot) (bodies : List Body) (spot : Spot) (body : Body)
    → AreAt octets spots bodies → IsAt octets spot body → AreAt octets (spots ++ spot ∷ []) (bodies ++ body ∷ [])
at_more octets [] [] spot body are is = (is, tt)
at_more octets [] (b ∷ bodies) spot body are is = absurd are
at_more octets (s ∷ spots) [] spot body are is = absurd are
at_more octets (s ∷ spots) (b ∷ bodies) spot body are is = (are.0, at_more octets spots bodies spot body are.1 is)

-- ---- one line more

abbrev pub kept_with : Bool → Option Limits → List Spot → Option Open → Kept
kept_with b l ss o = record { started = b; limits = l; spots = ss; body = o }

-- where the line stands in the reading, it does in what is kept, which is kept of the next reading; and where not, not
pub record Next (octets : List ℕ) (many : ℕ) (new : Option Kept) (next : Option Reading) (texts : List (List ℕ)) : Type 0 where
  pub stands : (q : Kept) → new ≡ Some q → (p : Reading) × (next ≡ Some p) × Keeps octets q p texts × (length q.spots ≤ many + 1)
  pub stops : new ≡ None → next ≡ None

next_some : (octets : List ℕ) (many : ℕ) (k : Kept) (r : Reading) (texts : List (List ℕ)) → Keeps octets k r texts → length k.spots ≤ many + 1 → Next octets many (Some k) (Some r) texts
next_some octets many k r texts keeps few =
    record {
      stands = λ q e. let same : k ≡ q = cc (e) in (r, refl, subst (λ (x : Kept). Keeps octets x r texts) same keeps, subst (λ (x : Kept). length x.spots ≤ many + 1) same few);
      stops = λ e. absurd (cc (e));
    }

next_none : (octets : List ℕ) (many : ℕ) (texts : List (List ℕ)) → Next octets many None None texts
next_none octets many texts = record { stands = λ q e. absurd (cc (e)); stops = λ e. refl }

-- a line that a body passes over
goes_on : (octets : List ℕ) (o : Open) (part : Part) (text : List ℕ) (texts : List (List ℕ)) (inside : Inside) → said_inside (text_read text) ≡ inside
    → GoesOn octets o part (text ∷ texts) → action_from [] (lines_of (drop o.spot.place octets)) ≡ action_behind part.commands inside (λ cs. action_from cs texts)
goes_on octets o part text texts inside said on = on.action ∙ ap (λ (x : Inside). action_behind part.commands x (λ cs. action_from cs texts)) said

passed : (octets : List ℕ) (o : Option Open) (p : Option Part) (text : List ℕ) (texts : List (List ℕ)) → said_inside (text_read text) ≡ NothingInside
    → IsOpen octets o p (text ∷ texts) → IsOpen octets o p texts
passed octets None None text texts said on = tt
passed octets None (Some part) text texts said on = on
passed octets (Some o) None text texts said on = on
passed octets (Some o) (Some part) text texts said on = record { step = on.step; commands = on.commands; action = goes_on octets o part text texts NothingInside said on }

limits_next : (octets : List ℕ) (n place : ℕ) (x : Limits) (text : List ℕ) (texts : List (List ℕ)) (b c : Bool) (l m : Option Limits) (ss : List Spot) (bs : List Body) (ls : List NumberedLine) (o : Option Open) (p : Option Part)
    → said_inside (text_read text) ≡ NothingInside → b ≡ c → Keeps octets (kept_with b l ss o) (reading c m bs ls p) (text ∷ texts)
    → Next octets (length ss) (stood_kept place (LimitsLine x) (kept_with b l ss o)) (stood n (LimitsLine x) (reading c m bs ls p)) texts
limits_next octets n place x text texts true true l m ss bs ls o p said same keeps = next_none octets (length ss) texts
limits_next octets n place x text texts true false l m ss bs ls o p said same keeps = absurd (cc (same))
limits_next octets n place x text texts false true l m ss bs ls o p said same keeps = absurd (cc (same))
limits_next octets n place x text texts false false l m ss bs ls o p said same keeps =
    next_some octets (length ss) (kept_with true (Some x) ss o) (reading true (Some x) bs ls p) texts
    (record { started = refl; limits = refl; spots = keeps.spots; body = passed octets o p text texts said keeps.body }) (omega arith)

line_next : (octets : List ℕ) (n : ℕ) (line : Line) (text : List ℕ) (texts : List (List ℕ)) (b c : Bool) (l m : Option Limits) (ss : List Spot) (bs : List Body) (ls : List NumberedLine) (o : Option Open) (p : Option Part)
    → Keeps octets (kept_with b l ss o) (reading c m bs ls p) (text ∷ texts)
    → Next octets (length ss) (lined_kept (kept_with b l ss o)) (lined n line (reading c m bs ls p)) texts
line_next octets n line text texts b c l m ss bs ls None None keeps =
    next_some octets (length ss) (kept_with true l ss None) (reading true m bs (ls ++ record { number = n; line = line } ∷ []) None) texts
    (record { started = refl; limits = keeps.limits; spots = keeps.spots; body = tt }) (omega arith)
line_next octets n line text texts b c l m ss bs ls None (Some part) keeps = absurd keeps.body
line_next octets n line text texts b c l m ss bs ls (Some o) None keeps = absurd keeps.body
line_next octets n line text texts b c l m ss bs ls (Some o) (Some part) keeps = next_none octets (length ss) texts

command_next : (octets : List ℕ) (n : ℕ) (x : Command) (text : List ℕ) (texts : List (List ℕ)) (b c : Bool) (l m : Option Limits) (ss : List Spot) (bs : List Body) (ls : List NumberedLine) (o : Option Open) (p : Option Part)
    → said_inside (text_read text) ≡ DoInside x → Keeps octets (kept_with b l ss o) (reading c m bs ls p) (text ∷ texts)
    → Next octets (length ss) (commanded_kept (kept_with b l ss o)) (commanded n x (reading c m bs ls p)) texts
command_next octets n x text texts b c l m ss bs ls None None said keeps =
    next_some octets (length ss) (kept_with true l ss None) (reading true m bs (ls ++ record { number = n; line = DoLine x } ∷ []) None) texts
    (record { started = refl; limits = keeps.limits; spots = keeps.spots; body = tt }) (omega arith)
command_next octets n x text texts b c l m ss bs ls None (Some part) said keeps = absurd keeps.body
command_next octets n x text texts b c l m ss bs ls (Some o) None said keeps = absurd keeps.body
command_next octets n x text texts b c l m ss bs ls (Some o) (Some part) said keeps =
    by (nat_lt o.commands MAX_COMMANDS) (nat_lt (length part.commands) MAX_COMMANDS) refl (ap (λ (i : ℕ). nat_lt i MAX_COMMANDS) keeps.body.commands)
  where
    by : (f g : Bool) → nat_lt (length part.commands) MAX_COMMANDS ≡ g → f ≡ g
        → Next octets (length ss) (cond f (Some (kept_with b l ss (Some (one_more o)))) None) (cond g (Some (reading c m bs ls (Some (with_command x part)))) None) texts
    by true true room same =
        next_some octets (length ss) (kept_with b l ss (Some (one_more o))) (reading c m bs ls (Some (with_command x part))) texts
        (record {
          started = keeps.started;
          limits = keeps.limits;
          spots = keeps.spots;
          body = record {
            step = keeps.body.step;
            commands = ap (λ (i : ℕ). i + 1) keeps.body.commands ∙ sym (length-append part.commands (x ∷ []));
            action = goes_on octets o part text texts (DoInside x) said keeps.body ∙ ap (λ (t : Bool). action_from (cond t (part.commands ++ x ∷ []) part.commands) texts) room;
          };
        }) (omega arith)
    by true false room same = absurd (cc (same))
    by false true room same = absurd (cc (same))
    by false false room same = next_none octets (length ss) texts

step_next : (octets : List ℕ) (n place : ℕ) (x : StepId) (text : List ℕ) (texts : List (List ℕ)) (b c : Bool) (l m : Option Limits) (ss : List Spot) (bs : List Body) (ls : List NumberedLine) (o : Option Open) (p : Option Part)
    → lines_of (drop place octets) ≡ texts → Keeps octets (kept_with b l ss o) (reading c m bs ls p) (text ∷ texts)
    → Next octets (length ss) (begun_kept x place (kept_with b l ss o)) (begun x (reading c m bs ls p)) texts
step_next octets n place x text texts b c l m ss bs ls None None there keeps =
    next_some octets (length ss) (kept_with true l ss (Some (record { spot = record { step = x; place = place }; commands = 0 }))) (reading true m bs ls (Some (record { step = x; commands = [] }))) texts
    (record { started = refl; limits = keeps.limits; spots = keeps.spots; body = record { step = refl; commands = refl; action = ap (λ (ts : List (List ℕ)). action_from [] ts) there } }) (omega arith)
step_next octets n place x text texts b c l m ss bs ls None (Some part) there keeps = absurd keeps.body
step_next octets n place x text texts b c l m ss bs ls (Some o) None there keeps = absurd keeps.body
step_next octets n place x text texts b c l m ss bs ls (Some o) (Some part) there keeps = next_none octets (length ss) texts

close_next : (octets : List ℕ) (x : Ending) (text : List ℕ) (texts : List (List ℕ)) (b c : Bool) (l m : Option Limits) (ss : List Spot) (bs : List Body) (ls : List NumberedLine) (o : Option Open) (p : Option Part)
    → said_inside (text_read text) ≡ CloseInside x → Keeps octets (kept_with b l ss o) (reading c m bs ls p) (text ∷ texts)
    → Next octets (length ss) (closed_kept (kept_with b l ss o)) (closed x (reading c m bs ls p)) texts
close_next octets x text texts b c l m ss bs ls None None said keeps = next_none octets (length ss) texts
close_next octets x text texts b c l m ss bs ls None (Some part) said keeps = absurd keeps.body
close_next octets x text texts b c l m ss bs ls (Some o) None said keeps = absurd keeps.body
close_next octets x text texts b c l m ss bs ls (Some o) (Some part) said keeps =
    let many : length (ss ++ o.spot ∷ []) ≡ length ss + 1 = length-append ss (o.spot ∷ []) in
    next_some octets (length ss) (kept_with b l (ss ++ o.spot ∷ []) None) (reading c m (bs ++ body_closed x part ∷ []) ls None) texts
    (record {
      started = keeps.started;
      limits = keeps.limits;
      spots = at_more octets ss bs o.spot (body_closed x part) keeps.spots (record { step = keeps.body.step; action = goes_on octets o part text texts (CloseInside x) said keeps.body });
      body = tt;
    }) (omega (arith, many))

meaning_next : (octets : List ℕ) (n place : ℕ) (x : Meaning) (text : List ℕ) (texts : List (List ℕ)) (k : Kept) (r : Reading)
    → text_read text ≡ Some x → lines_of (drop place octets) ≡ texts → Keeps octets k r (text ∷ texts)
    → Next octets (length k.spots) (stood_kept place x k) (stood n x r) texts
meaning_next octets n place Nothing text texts k r read there keeps =
    next_some octets (length k.spots) k r texts
    (record { started = keeps.started; limits = keeps.limits; spots = keeps.spots; body = passed octets k.body r.part text texts (ap said_inside read) keeps.body }) (omega arith)
meaning_next octets n place (LimitsLine x) text texts k r read there keeps =
    limits_next octets n place x text texts k.started r.started k.limits r.limits k.spots r.bodies r.lines k.body r.part (ap said_inside read) keeps.started keeps
meaning_next octets n place (Do x) text texts k r read there keeps =
    command_next octets n x text texts k.started r.started k.limits r.limits k.spots r.bodies r.lines k.body r.part (ap said_inside read) keeps
meaning_next octets n place Turn text texts k r read there keeps =
    line_next octets n TurnLine text texts k.started r.started k.limits r.limits k.spots r.bodies r.lines k.body r.part keeps
meaning_next octets n place (Run x) text texts k r read there keeps =
    line_next octets n (RunLine x) text texts k.started r.started k.limits r.limits k.spots r.bodies r.lines k.body r.part keeps
meaning_next octets n place (Wait p x) text texts k r read there keeps =
    line_next octets n (WaitLine p x) text texts k.started r.started k.limits r.limits k.spots r.bodies r.lines k.body r.part keeps
meaning_next octets n place (Step x) text texts k r read there keeps =
    step_next octets n place x text texts k.started r.started k.limits r.limits k.spots r.bodies r.lines k.body r.part there keeps
meaning_next octets n place (Close x) text texts k r read there keeps =
    close_next octets x text texts k.started r.started k.limits r.limits k.spots r.bodies r.lines k.body r.part (ap said_inside read) keeps

text_next : (octets : List ℕ) (n place : ℕ) (text : List ℕ) (texts : List (List ℕ)) (k : Kept) (r : Reading)
    → lines_of (drop place octets) ≡ texts → Keeps octets k r (text ∷ texts)
    → Next octets (length k.spots) (kept_stood place k text) (line_stood n r text) texts
text_next octets n place text texts k r there keeps = by (text_read text) refl
  where
    by : (o : Option Meaning) → text_read text ≡ o → Next octets (length k.spots) (and_then (λ x. stood_kept place x k) o) (and_then (λ x. stood n x r) o) texts
    by None read = next_none octets (length k.spots) texts
    by (Some x) read = meaning_next octets n place x text texts k r read there keeps

-- ---- all lines

-- what is kept behind so many lines, before the rest of the octets
pub record Reads (octets : List ℕ) (k : Kept) (number : ℕ) (rest : List ℕ) : Type 0 where
  pub reading : Reading
  pub keeps : Keeps octets k reading (lines_of rest)
  pub read : script_read number reading (lines_of rest) ≡ script_read 0 before_lines (lines_of octets)
  pub tail : rest ≡ drop (length octets - length rest) octets
  pub shorter : length rest ≤ length octets
  pub room : number + length rest ≤ length octets
  pub inside_room : is_inside reading.part ≡ true → number + length rest + 1 ≤ length octets
  pub spots : length k.spots ≤ number

pub reads_first : (octets : List ℕ) → Reads octets kept_before 0 octets
reads_first octets =
    let whole : length octets - length octets ≡ 0 = omega arith in
    record {
      reading = before_lines;
      keeps = record { started = refl; limits = refl; spots = tt; body = tt };
      read = refl;
      tail = sym (ap (λ (i : ℕ). drop i octets) whole);
      shorter = omega arith;
      room = omega arith;
      inside_room = λ inside. absurd (cc (inside));
      spots = omega arith;
    }

-- one line more
module _ (octets : List ℕ) (k : Kept) (number place : ℕ) (rest text behind : List ℕ) (reads : Reads octets k number rest)
    (lines : lines_of rest ≡ text ∷ lines_of behind) (shorter : length behind < length rest) (parts : length text + length behind ≤ length rest)
    (tail : behind ≡ drop (length rest - length behind) rest) (there : place ≡ length octets - length behind) where
  whole_tail : behind ≡ drop (length octets - length behind) octets
  whole_tail =
      let same : (length octets - length rest) + (length rest - length behind) ≡ length octets - length behind = omega (arith, shorter, reads.shorter) in
      tail ∙ ap (λ (xs : List ℕ). drop (length rest - length behind) xs) reads.tail
      ∙ drop-drop (length rest - length behind) (length octets - length rest) octets ∙ ap (λ (i : ℕ). drop i octets) same

  next : Next octets (length k.spots) (kept_stood place k text) (line_stood (number + 1) reads.reading text) (lines_of behind)
  next =
      text_next octets (number + 1) place text (lines_of behind) k reads.reading
      (ap (λ (i : ℕ). lines_of (drop i octets)) there ∙ ap lines_of (sym whole_tail))
      (subst (λ (ts : List (List ℕ)). Keeps octets k reads.reading ts) lines reads.keeps)

  abbrev went : Option Reading → Result Script ReadRefused
  went o = went_on o (Err (refused_at (number + 1) text)) (λ q. script_read (number + 1) q (lines_of behind))

  read_on : went (line_stood (number + 1) reads.reading text) ≡ script_read 0 before_lines (lines_of octets)
  read_on = sym (ap (λ (ts : List (List ℕ)). script_read number reads.reading ts) lines) ∙ reads.read

  pub reads_more : (q : Kept) → kept_stood place k text ≡ Some q → Reads octets q (number + 1) behind
  reads_more q e =
      let found = next.stands q e in
      record {
        reading = found.0;
        keeps = found.2;
        read = sym (ap went found.1) ∙ read_on;
        tail = whole_tail;
        shorter = omega (arith, shorter, reads.shorter);
        room = omega (arith, shorter, reads.room);
        inside_room = λ inside. roomy (opened (number + 1) reads.reading found.0 text found.1 inside);
        spots = omega (arith, found.3, reads.spots);
      }
    where
      roomy : (is_inside reads.reading.part ≡ true) ⊎ (2 ≤ length text) → number + 1 + length behind + 1 ≤ length octets
      roomy (inl was) = omega (arith, shorter, reads.inside_room was)
      roomy (inr long) = omega (arith, parts, long, reads.room)

  pub reads_refused : kept_stood place k text ≡ None → script_read 0 before_lines (lines_of octets) ≡ Err (refused_at (number + 1) text)
  reads_refused e = sym read_on ∙ ap went (next.stops e)
