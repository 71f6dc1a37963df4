-- Commands and turns from state to state.
use Rattle.std.proofs.Common.{◌≡◌, ◌∙◌, ℕ, suc, List, [], ◌++◌, Option, None, Some, Bool, true, false, is_some, refl, sym, ap, subst}
use Rattle.kj_base.specs.Commands.{Command}
use Rattle.kj_base.specs.Counts.{HasLacked}
use Rattle.kj_base.specs.Record.{Item}
use Rattle.promise_commands.specs.Telling.{Telling}
use Rattle.kj_model.specs.Apply.{Refused, apply}
use Rattle.kj_model.specs.Calls.{CallApply, CallTurn, Turned, NoMemory, more_turns, run, turn, turn_unless}
use Rattle.kj_model.specs.World.{World, State, Setting}
use Rattle.kj_ownership.proofs.Calls.{call_keeps, rests_of}
use Rattle.kj_ownership.proofs.TurnLacks.{turn_told}
use Rattle.kj_ownership.specs.Kept.{Kept}
use Rattle.promise_apply.specs.Applying.{DoesCommand}
use Rattle.promise_turns.specs.Acting.{Acts, IsMissing}
use Rattle.promise_turns.specs.Turns.{MayTurn, lacked_memory, turned_as, turned_of}
use Rattle.promise_turns.specs.declared.turned.Turned.{Turned as TurnedCase}
use Rattle.promise_turns.specs.declared.turned.Turned.TheVariants.{Fired as FiredCase, Idle as IdleCase, NoMemory as NoMemoryCase, Stopped as StoppedCase}
use Rattle.promise_turns.proofs.Answering.{told_agrees, told_answer, told_end}
use Rattle.promise_walks.specs.Walks.{Both}
use Rattle.promise_walks.specs.Values.{Answer, Agrees, Rule, setting_of}
use Rattle.loop_core.specs.Calls.{CallIs, ComesTo}
use Rattle.loop_core.specs.Loops.{StandsAt}
use Rattle.loop_core.proofs.Called.{Found, call_in, found_in, led, stands_still}

-- a command, with the frees that it tells
pub command_called : (rule : Rule) (OldNodes OldNames NewNodes NewNames : World → Type 0) (c : Command) (refused : Option Refused) (a b : Telling) (k l : ℕ)
    → l ≡ k → DoesCommand (Both OldNodes OldNames) (Both NewNodes NewNames) rule refused c a b
    → CallIs (StandsAt rule OldNodes OldNames) (StandsAt rule NewNodes NewNames) rule (λ setting s. apply setting false c s) (λ setting s. (s, refused)) a b k l
command_called rule OldNodes OldNames NewNodes NewNames c refused a b k l same done = record {
  items = done.items;
  missing = None;
  told = done.told;
  counts = λ s old. same;
  leads = λ answer s old agrees lacking.
      let setting : Setting = setting_of rule answer in
      let r = done.applied answer false s old.stands in
      record {
        state = (apply setting false c s).0;
        stands = record { takes = old.takes; stands = r.stands; kept = call_keeps setting (CallApply c) s old.takes refl tt old.kept };
        past_is = r.past_is;
        ends = ap (λ (o : Option Refused). ((apply setting false c s).0, o)) (sym r.reply);
      };
}

-- where the answer isn't that there was no memory, none was missing
missing_as : TurnedCase → Option ℕ → Option ℕ
missing_as FiredCase missing = None
missing_as IdleCase missing = None
missing_as NoMemoryCase missing = missing
missing_as StoppedCase missing = None

-- what a turn's parts say of it
pub record TurnIs (rule : Rule) (OldNodes OldNames NewNodes NewNames : World → Type 0) (turned : TurnedCase) (a b : Telling) (k l : ℕ) : Type 0 where
  pub acts : Acts (Both OldNodes OldNames) (Both NewNodes NewNames) rule MayTurn turn (turned_as turned) a b k l
  pub memory : (answer : Answer) (s : State) → Both OldNodes OldNames s.world → MayTurn (setting_of rule answer) s → HasLacked (lacked_memory turned) k l

-- a stopped loop's turn is the same whatever steps answer
stopped_turn : (setting other : Setting) (s : State) → s.world.stopped ≡ true → turn setting s ≡ turn other s
stopped_turn setting other s e = ap (λ (b : Bool). turn_unless b setting s) e ∙ sym (ap (λ (b : Bool). turn_unless b other s) e)

not_memory : (turned : TurnedCase) → (turned ≡ NoMemoryCase → ⊥) → turned_of turned ≡ NoMemory → ⊥
not_memory FiredCase other e = absurd (cc e)
not_memory IdleCase other e = absurd (cc e)
not_memory NoMemoryCase other e = other refl
not_memory StoppedCase other e = absurd (cc e)

-- where a step finds no memory just where one found none
gone : (rule : Rule) (OldNodes OldNames NewNodes NewNames : World → Type 0) (turned : TurnedCase) (a b : Telling) (k l : ℕ) (t : TurnIs rule OldNodes OldNames NewNodes NewNames turned a b k l)
    (answer : Answer) (s : State) → StandsAt rule OldNodes OldNames s → Agrees answer s.past t.acts.items → IsMissing answer (s.past ++ t.acts.items) t.acts.missing
    → ComesTo (StandsAt rule NewNodes NewNames) (turn (setting_of rule answer) s) (turned_as turned) (s.past ++ t.acts.items)
gone rule OldNodes OldNames NewNodes NewNames turned a b k l t answer s old agrees lacking =
    let setting : Setting = setting_of rule answer in
    let r = t.acts.goes answer s old.stands (old.takes, rests_of s old.kept) agrees lacking in
    let here : r.state ≡ (turn setting s).0 = ap (λ (x : State × Turned). x.0) r.ends in
    record {
      state = r.state;
      stands = record { takes = old.takes; stands = r.stands; kept = subst Kept (sym here) (call_keeps setting CallTurn s old.takes refl tt old.kept) };
      past_is = r.past_is;
      ends = r.ends;
    }

-- where the answer isn't that there was no memory, whether steps find any after what was told doesn't matter
found : (rule : Rule) (OldNodes OldNames NewNodes NewNames : World → Type 0) (turned : TurnedCase) (a b : Telling) (k l : ℕ) (t : TurnIs rule OldNodes OldNames NewNodes NewNames turned a b k l)
    (missing : Option ℕ) → t.acts.missing ≡ missing → (turned ≡ NoMemoryCase → ⊥) → (answer : Answer) (s : State) → StandsAt rule OldNodes OldNames s → Agrees answer s.past t.acts.items
    → ComesTo (StandsAt rule NewNodes NewNames) (turn (setting_of rule answer) s) (turned_as turned) (s.past ++ t.acts.items)
unfolding gone
found rule OldNodes OldNames NewNodes NewNames turned a b k l t None none other answer s old agrees =
    gone rule OldNodes OldNames NewNodes NewNames turned a b k l t answer s old agrees (subst (λ (o : Option ℕ). IsMissing answer (s.past ++ t.acts.items) o) (sym none) tt)
found rule OldNodes OldNames NewNodes NewNames turned a b k l t (Some step) some other answer s old agrees = by s.world.stopped refl
  where
    whole : List Item
    whole = s.past ++ t.acts.items

    lacking : IsMissing (told_answer None whole) whole t.acts.missing
    lacking = subst (λ (o : Option ℕ). IsMissing (told_answer None whole) whole o) (sym some) (told_end whole step)

    there : ComesTo (StandsAt rule NewNodes NewNames) (turn (setting_of rule (told_answer None whole)) s) (turned_as turned) whole
    there = gone rule OldNodes OldNames NewNodes NewNames turned a b k l t (told_answer None whole) s old (told_agrees None s.past t.acts.items) lacking

    stopped : there.state.world.stopped ≡ true
    stopped = t.acts.stops (told_answer None whole) s old.stands (old.takes, rests_of s old.kept) (told_agrees None s.past t.acts.items) lacking (ap (λ (o : Option ℕ). is_some o) some)

    by : (b : Bool) → s.world.stopped ≡ b → ComesTo (StandsAt rule NewNodes NewNames) (turn (setting_of rule answer) s) (turned_as turned) whole
    by true e = record {
      state = there.state;
      stands = there.stands;
      past_is = there.past_is;
      ends = there.ends ∙ stopped_turn (setting_of rule (told_answer None whole)) (setting_of rule answer) s e;
    }
    by false e = absurd (not_memory turned other
        (ap (λ (x : State × Turned). x.1) there.ends
        ∙ turn_told (setting_of rule (told_answer None whole)) s e (ap (λ (x : State × Turned). x.0.world.stopped) (sym there.ends) ∙ stopped)))

turn_leads : (rule : Rule) (OldNodes OldNames NewNodes NewNames : World → Type 0) (turned : TurnedCase) (a b : Telling) (k l : ℕ) (t : TurnIs rule OldNodes OldNames NewNodes NewNames turned a b k l)
    (answer : Answer) (s : State) → StandsAt rule OldNodes OldNames s → Agrees answer s.past t.acts.items → IsMissing answer (s.past ++ t.acts.items) (missing_as turned t.acts.missing)
    → ComesTo (StandsAt rule NewNodes NewNames) (turn (setting_of rule answer) s) (turned_as turned) (s.past ++ t.acts.items)
unfolding missing_as
turn_leads rule OldNodes OldNames NewNodes NewNames FiredCase a b k l t answer s old agrees lacking = found rule OldNodes OldNames NewNodes NewNames FiredCase a b k l t t.acts.missing refl (λ e. absurd (cc e)) answer s old agrees
turn_leads rule OldNodes OldNames NewNodes NewNames IdleCase a b k l t answer s old agrees lacking = found rule OldNodes OldNames NewNodes NewNames IdleCase a b k l t t.acts.missing refl (λ e. absurd (cc e)) answer s old agrees
turn_leads rule OldNodes OldNames NewNodes NewNames NoMemoryCase a b k l t answer s old agrees lacking = gone rule OldNodes OldNames NewNodes NewNames NoMemoryCase a b k l t answer s old agrees lacking
turn_leads rule OldNodes OldNames NewNodes NewNames StoppedCase a b k l t answer s old agrees lacking = found rule OldNodes OldNames NewNodes NewNames StoppedCase a b k l t t.acts.missing refl (λ e. absurd (cc e)) answer s old agrees

turn_counts : (rule : Rule) (OldNodes OldNames NewNodes NewNames : World → Type 0) (turned : TurnedCase) (a b : Telling) (k l : ℕ) (t : TurnIs rule OldNodes OldNames NewNodes NewNames turned a b k l)
    (s : State) → StandsAt rule OldNodes OldNames s → HasLacked (is_some (missing_as turned t.acts.missing)) k l
unfolding missing_as
turn_counts rule OldNodes OldNames NewNodes NewNames FiredCase a b k l t s old = t.memory (told_answer None []) s old.stands (old.takes, rests_of s old.kept)
turn_counts rule OldNodes OldNames NewNodes NewNames IdleCase a b k l t s old = t.memory (told_answer None []) s old.stands (old.takes, rests_of s old.kept)
turn_counts rule OldNodes OldNames NewNodes NewNames NoMemoryCase a b k l t s old = t.acts.lacks
turn_counts rule OldNodes OldNames NewNodes NewNames StoppedCase a b k l t s old = t.memory (told_answer None []) s old.stands (old.takes, rests_of s old.kept)

-- a turn
pub turn_called : (rule : Rule) (OldNodes OldNames NewNodes NewNames : World → Type 0) (turned : TurnedCase) (a b : Telling) (k l : ℕ) → TurnIs rule OldNodes OldNames NewNodes NewNames turned a b k l
    → CallIs (StandsAt rule OldNodes OldNames) (StandsAt rule NewNodes NewNames) rule turn (λ setting. turned_as turned) a b k l
turn_called rule OldNodes OldNames NewNodes NewNames turned a b k l t = record {
  items = t.acts.items;
  missing = missing_as turned t.acts.missing;
  told = t.acts.told;
  counts = turn_counts rule OldNodes OldNames NewNodes NewNames turned a b k l t;
  leads = turn_leads rule OldNodes OldNames NewNodes NewNames turned a b k l t;
}

-- the count rises just where a turn answers that there was no memory
pub turn_memory : (rule : Rule) (OldNodes OldNames NewNodes NewNames : World → Type 0) (turned : TurnedCase) (a b : Telling) (k l : ℕ) → TurnIs rule OldNodes OldNames NewNodes NewNames turned a b k l
    → (s : State) → StandsAt rule OldNodes OldNames s → HasLacked (lacked_memory turned) k l
turn_memory rule OldNodes OldNames NewNodes NewNames turned a b k l t s old = t.memory (told_answer None []) s old.stands (old.takes, rests_of s old.kept)

turn_fired : (rule : Rule) (OldNodes OldNames NewNodes NewNames : World → Type 0) (a b : Telling) (k l : ℕ) → TurnIs rule OldNodes OldNames NewNodes NewNames FiredCase a b k l
    → Found (StandsAt rule OldNodes OldNames) (StandsAt rule NewNodes NewNames) rule turn (λ setting. turned_as FiredCase) a b k l
unfolding missing_as turn_called
turn_fired rule OldNodes OldNames NewNodes NewNames a b k l t = record { call = turn_called rule OldNodes OldNames NewNodes NewNames FiredCase a b k l t; none = refl }

-- a turn that fired, of so many
pub first_fired : (rule : Rule) (OldNodes OldNames NewNodes NewNames : World → Type 0) (n : ℕ) (a b : Telling) (k l : ℕ) → TurnIs rule OldNodes OldNames NewNodes NewNames FiredCase a b k l
    → Found (StandsAt rule OldNodes OldNames) (StandsAt rule NewNodes NewNames) rule (λ setting. run setting (suc n)) (λ setting. run setting n) a b k l
first_fired rule OldNodes OldNames NewNodes NewNames n a b k l t =
    found_in (StandsAt rule OldNodes OldNames) (StandsAt rule NewNodes NewNames) rule turn (λ setting. turned_as FiredCase) (λ setting r. more_turns (run setting n) r.1 r.0) a b k l
    (turn_fired rule OldNodes OldNames NewNodes NewNames a b k l t)

-- a turn that ends the run
pub last_turn : (A B : State → Type 0) (rule : Rule) (n : ℕ) (turned : TurnedCase) (a b : Telling) (k l : ℕ)
    → (turned ≡ FiredCase → ⊥)
    → CallIs A B rule turn (λ setting. turned_as turned) a b k l
    → CallIs A B rule (λ setting. run setting (suc n)) (λ setting. turned_as turned) a b k l
last_turn A B rule n FiredCase a b k l other p = absurd (other refl)
last_turn A B rule n IdleCase a b k l other p =
    call_in A B rule turn (λ setting. turned_as IdleCase) (λ setting r. more_turns (run setting n) r.1 r.0) a b k l p
last_turn A B rule n NoMemoryCase a b k l other p =
    call_in A B rule turn (λ setting. turned_as NoMemoryCase) (λ setting r. more_turns (run setting n) r.1 r.0) a b k l p
last_turn A B rule n StoppedCase a b k l other p =
    call_in A B rule turn (λ setting. turned_as StoppedCase) (λ setting r. more_turns (run setting n) r.1 r.0) a b k l p

-- the count rises just where the turn behind turns that fired answers that there was no memory
pub last_memory : {E : Type 0} (A B : State → Type 0) (rule : Rule) (f g : Setting → State → E) (turned : TurnedCase) (a b : Telling) (k l m : ℕ)
    → Found A B rule f g a b k l → ((s : State) → B s → HasLacked (lacked_memory turned) l m) → (s : State) → A s → HasLacked (lacked_memory turned) k m
last_memory A B rule f g turned a b k l m p memory s old =
    let r = led A B rule f g a b k l p.call p.none s old in
    subst (λ (n : ℕ). HasLacked (lacked_memory turned) n m) (stands_still A B rule f g a b k l p.call p.none s old) (memory r.state r.stands)
