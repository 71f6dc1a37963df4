-- The log, line by line.
use Rattle.std.proofs.Common.{◌≡◌, ◌⊎◌, inl, inr, ◌∙◌, ◌<◌, ◌≤◌, ◌+◌, ℕ, zero, suc, Result, Ok, Err, OnOk, List, [], ◌∷◌, ◌++◌, Option, None, Some, is_some, map, length, drop, get_or, refl, sym, ap, subst, append-nil, arith}
use Rattle.std.proofs.lemmas.List.{append_assoc}
use Rattle.kj_base.specs.Counts.{HasLacked}
use Rattle.kj_base.specs.Record.{Item, Free}
use Rattle.promise_commands.specs.Telling.{Telling}
use Rattle.kj_model.specs.World.{State, Setting, Asked, Ended}
use Rattle.kj_model.specs.Apply.{Refused}
use Rattle.kj_model.specs.Calls.{Turned, Fired, Idle, NoMemory, Stopped, Waited, close}
use Rattle.kj_model.specs.Log.{Body, LogLine, Logged, Told as ToldLine, all_taken, applied_line, asks_taken, each_ask, each_end, each_gone, ends_taken, gone_taken, log_closed, logged, refused_line, run_rest, scripted, told_since, turned_line, wait_line, waited_line, RefusedAt, WasIdle}
use Rattle.kj_model.specs.Text.{log_text, line_text}
use Rattle.loop_core.specs.Calls.{CallIs, Closes}
use Rattle.promise_commands.specs.Scripts.{numbered_of}
use Rattle.promise_commands.specs.declared.script.NumberedLine.{NumberedLine}
use Rattle.promise_names.specs.Held.{HasNoneListed}
use Rattle.promise_steps.specs.Following.{Follows, Prints}
use Rattle.promise_turns.specs.Acting.{IsMissing}
use Rattle.promise_turns.specs.Turns.{turned_of}
use Rattle.promise_turns.specs.declared.turned.Turned.{Turned as TurnedCase}
use Rattle.promise_turns.specs.declared.turned.Turned.TheVariants.{Fired as FiredCase, Idle as IdleCase, NoMemory as NoMemoryCase, Stopped as StoppedCase}
use Rattle.promise_walks.specs.Values.{Rule, setting_of}
use Rattle.kj_script.specs.Running.{Shows}

-- texts of logs join
pub log_text-append : (xs ys : List LogLine) → log_text (xs ++ ys) ≡ log_text xs ++ log_text ys
log_text-append [] ys = refl
log_text-append (x ∷ xs) ys = ap (λ (t : List ℕ). (line_text x ++ 10 ∷ []) ++ t) (log_text-append xs ys) ∙ sym (append_assoc (line_text x ++ 10 ∷ []) (log_text xs) (log_text ys))

-- in a world that lists nothing nothing is taken
pub taken_none : (l : Logged) → HasNoneListed l.state.world → all_taken l ≡ l
taken_none l q =
    let asks : each_ask l ≡ l = ap (λ (xs : List Asked). asks_taken (length xs) l) q.asks in
    let ends : each_end l ≡ l = ap (λ (xs : List Ended). ends_taken (length xs) l) q.ended in
    let gone : each_gone l ≡ l = ap (λ (xs : List ℕ). gone_taken (length xs) l) q.abandoned in
    ap (λ (m : Logged). each_gone (each_end m)) asks ∙ ap each_gone ends ∙ gone

drop_front : (xs ys : List Item) → drop (length xs) (xs ++ ys) ≡ ys
drop_front [] ys = refl
drop_front (x ∷ xs) ys = drop_front xs ys

-- what was told since
told_is : (s r : State) (items : List Item) → r.past ≡ s.past ++ items → told_since s r ≡ map ToldLine items
told_is s r items e = ap (λ (xs : List Item). map ToldLine (drop (length s.past) xs)) e ∙ ap (map ToldLine) (drop_front s.past items)

-- the text of a log after a call
grown : (l : Logged) (r : State) (items : List Item) (old new : List ℕ) → r.past ≡ l.state.past ++ items → old ≡ log_text l.log → new ≡ old ++ log_text (map ToldLine items) → new ≡ log_text (logged l r []).log
grown l r items old new past text more =
    more ∙ ap (λ (t : List ℕ). t ++ log_text (map ToldLine items)) text ∙ sym (log_text-append l.log (map ToldLine items))
    ∙ ap (λ (xs : List LogLine). log_text (l.log ++ xs)) (sym (told_is l.state r items past)) ∙ ap log_text (sym (append-nil (l.log ++ told_since l.state r)))

none_missing : (missing : Option ℕ) → HasLacked (is_some missing) 0 0 → missing ≡ None
none_missing None h = refl
none_missing (Some step) h = absurd (omega (arith, h))

-- a call whose items were printed, by steps that never lack memory
pub record Printed {R : Type 0} (bodies : List Body) (New : State → Type 0) (told : Telling) (text : List ℕ) (l : Logged) (r : State × R) (reply : R) : Type 0 where
  pub reply_is : r.1 ≡ reply
  pub shows : Shows bodies New told text (logged l r.0 [])

pub call_printed : {R : Type 0} (bodies : List Body) (Old New : State → Type 0) (rule : Rule) (f : Setting → State → State × R) (reply : R) (a b c : Telling) (old new : List ℕ) (l : Logged)
    → CallIs Old New rule f (λ setting s. (s, reply)) a b 0 0 → Prints b c old new → Shows bodies Old a old l
    → Printed bodies New c new l (f (setting_of rule (scripted bodies)) l.state) reply
call_printed {R} bodies Old New rule f reply a b c old new l call prints shows =
    let p = prints bodies l.state.past call.items a shows.follows call.told in
    let lacking = subst (λ (o : Option ℕ). IsMissing (scripted bodies) (l.state.past ++ call.items) o) (sym (none_missing call.missing (call.counts l.state shows.stands))) tt in
    let r = call.leads (scripted bodies) l.state shows.stands p.agrees lacking in
    let end : State × R = f (setting_of rule (scripted bodies)) l.state in
    let here : r.state ≡ end.0 = ap (λ (x : State × R). x.0) r.ends in
    let past : end.0.past ≡ l.state.past ++ call.items = ap (λ (s : State). s.past) (sym here) ∙ r.past_is in
    record {
      reply_is = sym (ap (λ (x : State × R). x.1) r.ends);
      shows = record {
        stands = subst New here r.stands;
        follows = subst (λ (xs : List Item). Follows bodies xs c) (sym past) p.follows;
        printed = grown l end.0 call.items old new past shows.printed p.text;
      };
    }

-- one line more
pub line_printed : (bodies : List Body) (Stands : State → Type 0) (told : Telling) (old new : List ℕ) (l : Logged) (s : State) (line : LogLine)
    → new ≡ old ++ line_text line ++ 10 ∷ [] → Shows bodies Stands told old (logged l s []) → Shows bodies Stands told new (logged l s (line ∷ []))
line_printed bodies Stands told old new l s line more shows =
    let log : List LogLine = l.log ++ told_since l.state s in
    record {
      stands = shows.stands;
      follows = shows.follows;
      printed =
          more ∙ append_assoc old (line_text line) (10 ∷ [])
          ∙ ap (λ (t : List ℕ). t ++ (line_text line ++ 10 ∷ [])) (shows.printed ∙ ap log_text (append-nil log))
          ∙ ap (λ (t : List ℕ). log_text log ++ t) (sym (append-nil (line_text line ++ 10 ∷ [])))
          ∙ sym (log_text-append log (line ∷ []));
    }

-- nothing is taken after a call
pub taken_after : (bodies : List Body) (Stands : State → Type 0) (told : Telling) (text : List ℕ) (l : Logged) → ((s : State) → Stands s → HasNoneListed s.world) → Shows bodies Stands told text l → Shows bodies Stands told text (all_taken l)
taken_after bodies Stands told text l none shows =
    subst (λ (m : Logged). Shows bodies Stands told text m) (sym (taken_none l (none l.state shows.stands))) shows

-- a turn that is not told as idle
pub turn_shown : (bodies : List Body) (Stands : State → Type 0) (told : Telling) (text : List ℕ) (l : Logged) (s : State) (turned : Turned) → ((s : State) → Stands s → HasNoneListed s.world)
    → Shows bodies Stands told text (logged l s []) → Shows bodies Stands told text (turned_line [] s turned l)
turn_shown bodies Stands told text l s Fired none shows = taken_after bodies Stands told text (logged l s []) none shows
turn_shown bodies Stands told text l s Idle none shows = shows
turn_shown bodies Stands told text l s NoMemory none shows = taken_after bodies Stands told text (logged l s []) none shows
turn_shown bodies Stands told text l s Stopped none shows = taken_after bodies Stands told text (logged l s []) none shows

-- a command that was not refused
pub command_done : (bodies : List Body) (New : State → Type 0) (told : Telling) (text : List ℕ) (l : Logged) (r : State × Option Refused) (number : ℕ) → ((s : State) → New s → HasNoneListed s.world)
    → Printed bodies New told text l r None → Shows bodies New told text (applied_line number r l)
command_done bodies New told text l r number none p =
    subst (λ (refused : Option Refused). Shows bodies New told text (all_taken (logged l r.0 (refused_line number refused)))) (sym p.reply_is)
    (taken_after bodies New told text (logged l r.0 []) none p.shows)

-- a command that was refused, with its line
pub command_refused : (bodies : List Body) (New : State → Type 0) (told : Telling) (old new : List ℕ) (l : Logged) (r : State × Option Refused) (number : ℕ) (refused : Refused) → ((s : State) → New s → HasNoneListed s.world)
    → new ≡ old ++ line_text (RefusedAt number refused) ++ 10 ∷ [] → Printed bodies New told old l r (Some refused) → Shows bodies New told new (applied_line number r l)
command_refused bodies New told old new l r number refused none more p =
    subst (λ (o : Option Refused). Shows bodies New told new (all_taken (logged l r.0 (refused_line number o)))) (sym p.reply_is)
    (taken_after bodies New told new (logged l r.0 (RefusedAt number refused ∷ [])) none
    (line_printed bodies New told old new l r.0 (RefusedAt number refused) more p.shows))

-- a wait, with its line
pub waited_printed : (bodies : List Body) (New : State → Type 0) (told : Telling) (old new : List ℕ) (l : Logged) (r : State × Waited) (number name : ℕ) (waited : Waited) → ((s : State) → New s → HasNoneListed s.world)
    → new ≡ old ++ line_text (wait_line number name waited) ++ 10 ∷ [] → Printed bodies New told old l r waited → Shows bodies New told new (waited_line number name r l)
waited_printed bodies New told old new l r number name waited none more p =
    subst (λ (w : Waited). Shows bodies New told new (all_taken (logged l r.0 (wait_line number name w ∷ [])))) (sym p.reply_is)
    (taken_after bodies New told new (logged l r.0 (wait_line number name waited ∷ [])) none
    (line_printed bodies New told old new l r.0 (wait_line number name waited) more p.shows))

-- the closing ends the log
pub closing_printed : (bodies : List Body) (Old : State → Type 0) (freed : List ℕ) (a b c : Telling) (old new : List ℕ) (l : Logged) → Closes Old freed a b → Prints b c old new → Shows bodies Old a old l → new ≡ log_text (log_closed l)
closing_printed bodies Old freed a b c old new l closes prints shows =
    let p = prints bodies l.state.past (map Free freed) a shows.follows closes.told in
    grown l (close l.state) (map Free freed) old new (closes.closed l.state shows.stands).past_is shows.printed p.text

-- what follows from what holds at success holds there
pub on_ok : {A E : Type 0} (r : Result A E) (P Q : Type 0) → OnOk r P → (P → Q) → OnOk r Q
on_ok (Ok a) P Q h f = f h
on_ok (Err e) P Q h f = h

-- a turn that a line tells of
pub turn_told : (bodies : List Body) (Stands : State → Type 0) (told : Telling) (text : List ℕ) (l : Logged) (s : State) (turned : Turned) (case : TurnedCase) → turned ≡ turned_of case → (case ≡ IdleCase → ⊥)
    → Shows bodies Stands told text (turned_line [] s (turned_of case) l) → Shows bodies Stands told text (turned_line (WasIdle ∷ []) s turned l)
turn_told bodies Stands told text l s turned FiredCase same other shows = subst (λ (t : Turned). Shows bodies Stands told text (turned_line (WasIdle ∷ []) s t l)) (sym same) shows
turn_told bodies Stands told text l s turned IdleCase same other shows = absurd (other refl)
turn_told bodies Stands told text l s turned NoMemoryCase same other shows = subst (λ (t : Turned). Shows bodies Stands told text (turned_line (WasIdle ∷ []) s t l)) (sym same) shows
turn_told bodies Stands told text l s turned StoppedCase same other shows = subst (λ (t : Turned). Shows bodies Stands told text (turned_line (WasIdle ∷ []) s t l)) (sym same) shows

-- a turn that found the queue empty, with its line
pub idle_told : (bodies : List Body) (Stands : State → Type 0) (told : Telling) (old new : List ℕ) (l : Logged) (s : State) (turned : Turned) → turned ≡ Idle → new ≡ old ++ line_text WasIdle ++ 10 ∷ []
    → Shows bodies Stands told old (turned_line [] s Idle l) → Shows bodies Stands told new (turned_line (WasIdle ∷ []) s turned l)
idle_told bodies Stands told old new l s turned same more shows =
    subst (λ (t : Turned). Shows bodies Stands told new (turned_line (WasIdle ∷ []) s t l)) (sym same) (line_printed bodies Stands told old new l s WasIdle more shows)

-- a run of turns ends with one that doesn't fire
pub run_ends : (rest : Logged → Logged) (turned : Turned) (case : TurnedCase) (s : State) (l : Logged) → turned ≡ turned_of case → (case ≡ FiredCase → ⊥) → run_rest rest turned (turned_line [] s turned l) ≡ turned_line [] s (turned_of case) l
run_ends rest turned FiredCase s l same other = absurd (other refl)
run_ends rest turned IdleCase s l same other = ap (λ (t : Turned). run_rest rest t (turned_line [] s t l)) same
run_ends rest turned NoMemoryCase s l same other = ap (λ (t : Turned). run_rest rest t (turned_line [] s t l)) same
run_ends rest turned StoppedCase s l same other = ap (λ (t : Turned). run_rest rest t (turned_line [] s t l)) same

-- three answers of a turn that are not idle
pub not_idle : (case : TurnedCase) → (case ≡ FiredCase) ⊎ (case ≡ NoMemoryCase) ⊎ (case ≡ StoppedCase) → case ≡ IdleCase → ⊥
not_idle FiredCase which e = absurd (cc e)
not_idle IdleCase (inl a) e = absurd (cc a)
not_idle IdleCase (inr (inl a)) e = absurd (cc a)
not_idle IdleCase (inr (inr a)) e = absurd (cc a)
not_idle NoMemoryCase which e = absurd (cc e)
not_idle StoppedCase which e = absurd (cc e)
