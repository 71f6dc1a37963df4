-- The turns of a wait, from state to state.
use Rattle.std.proofs.Common.{◌≡◌, ◌∙◌, ◌≤◌, ℕ, suc, List, [], ◌∷◌, ◌++◌, Option, None, Some, Bool, true, false, is_some, length, refl, sym, ap, subst, arith}
use Rattle.std.specs.Prelude.{◌==◌, nat_eq, IsSome}
use Rattle.std.proofs.lemmas.Bool.{false≢true}
use Rattle.kj_base.specs.declared.nodes.Link.{Link}
use Rattle.kj_base.specs.Counts.{HasLacked}
use Rattle.kj_base.specs.Queue.{Events, IsQueue, head_of, rewound}
use Rattle.kj_base.specs.Record.{Item}
use Rattle.promise_commands.specs.Telling.{Telling}
use Rattle.kj_model.specs.Calls.{Turned, Fired, NoMemory, Waited, WaitIdle, WaitNoMemory, let_go, lost, rewound_world, turn, wait_more, wait_turn, wait_turned}
use Rattle.kj_model.specs.Changes.{silent, with_queue}
use Rattle.kj_model.specs.World.{World, State, Setting}
use Rattle.kj_ownership.specs.Kept.{Rests}
use Rattle.kj_ownership.proofs.Turns.{turn_passes}
use Rattle.kj_ownership.proofs.TurnLacks.{turn_told}
use Rattle.promise_turns.specs.Acting.{Acts, IsMissing}
use Rattle.promise_turns.specs.Turns.{IsTaken, RunsOn, lacked_memory, turned_as, turned_in, turned_of}
use Rattle.promise_turns.specs.declared.turned.TakenTurn.{TakenTurn as TakenCase}
use Rattle.promise_turns.specs.declared.turned.TakenTurn.TheVariants.{Fired as FiredIn, Idle as IdleIn, NoMemory as NoMemoryIn}
use Rattle.promise_turns.proofs.Answering.{told_agrees, told_answer, told_end}
use Rattle.promise_turns.proofs.Taken.{idle_is}
use Rattle.promise_walks.specs.Walks.{Both}
use Rattle.promise_walks.specs.Values.{Answer, Agrees, Rule, setting_of}
use Rattle.loop_core.specs.Calls.{CallIs, ComesTo}
use Rattle.loop_core.specs.Waits.{Rested, Waits, left_of_wait}
use Rattle.loop_core.specs.declared.waiting.WaitEnd.TheVariants.{Ready, Idle as IdleEnd, NoMemory as NoMemoryEnd}
use Rattle.loop_core.proofs.Called.{Found, led, stands_still}

-- what a turn's parts say of it
pub record TakenIs (rule : Rule) (OldNodes OldNames NewNodes NewNames : World → Type 0) (taken : TakenCase) (a b : Telling) (k l : ℕ) : Type 0 where
  pub acts : Acts (Both OldNodes OldNames) (Both NewNodes NewNames) rule RunsOn turn (turned_as (turned_in taken)) a b k l
  pub memory : (answer : Answer) (s : State) → Both OldNodes OldNames s.world → RunsOn (setting_of rule answer) s → HasLacked (lacked_memory (turned_in taken)) k l
  pub event : (w : World) → OldNodes w → IsTaken taken (head_of w.queue)

-- the definition leads to where the next turn may begin
turn_leads : (rule : Rule) (OldNodes OldNames NewNodes NewNames : World → Type 0) (taken : TakenCase) (a b : Telling) (k l : ℕ) (t : TakenIs rule OldNodes OldNames NewNodes NewNames taken a b k l)
    (answer : Answer) (s : State) → Waits rule OldNodes OldNames s → Agrees answer s.past t.acts.items → IsMissing answer (s.past ++ t.acts.items) t.acts.missing
    → ComesTo (Rested rule NewNodes NewNames) (turn (setting_of rule answer) s) (turned_as (turned_in taken)) (s.past ++ t.acts.items)
turn_leads rule OldNodes OldNames NewNodes NewNames taken a b k l t answer s old agrees lacking =
    let setting : Setting = setting_of rule answer in
    let r = t.acts.goes answer s old.rested.stands ((old.rested.takes, old.rested.rests), old.runs) agrees lacking in
    let here : r.state ≡ (turn setting s).0 = ap (λ (x : State × Turned). x.0) r.ends in
    record {
      state = r.state;
      stands = record { takes = old.rested.takes; stands = r.stands; rests = subst (λ (u : State). Rests u) (sym here) (turn_passes setting s old.rested.takes old.rested.rests).rests };
      past_is = r.past_is;
      ends = r.ends;
    }

-- whether a turn says that there was no memory
abbrev NotLacking : TakenCase → Type 0
NotLacking (FiredIn event) = Unit {0}
NotLacking IdleIn = Unit {0}
NotLacking NoMemoryIn = ⊥

not_memory : (taken : TakenCase) → NotLacking taken → turned_of (turned_in taken) ≡ NoMemory → ⊥
not_memory (FiredIn event) other e = cc
not_memory IdleIn other e = cc
not_memory NoMemoryIn other e = other

-- else none was missing
none_missing : (rule : Rule) (OldNodes OldNames NewNodes NewNames : World → Type 0) (taken : TakenCase) (a b : Telling) (k l : ℕ) (t : TakenIs rule OldNodes OldNames NewNodes NewNames taken a b k l)
    (missing : Option ℕ) → t.acts.missing ≡ missing → NotLacking taken → (s : State) → Waits rule OldNodes OldNames s → missing ≡ None
none_missing rule OldNodes OldNames NewNodes NewNames taken a b k l t None is other s old = refl
none_missing rule OldNodes OldNames NewNodes NewNames taken a b k l t (Some step) is other s old = absurd (not_memory taken other (answered ∙ told))
  where
    whole : List Item
    whole = s.past ++ t.acts.items

    setting : Setting
    setting = setting_of rule (told_answer None whole)

    from : RunsOn setting s
    from = ((old.rested.takes, old.rested.rests), old.runs)

    agrees : Agrees (told_answer None whole) s.past t.acts.items
    agrees = told_agrees None s.past t.acts.items

    lacking : IsMissing (told_answer None whole) whole t.acts.missing
    lacking = subst (λ (o : Option ℕ). IsMissing (told_answer None whole) whole o) (sym is) (told_end whole step)

    ends : turned_as (turned_in taken) (t.acts.goes (told_answer None whole) s old.rested.stands from agrees lacking).state ≡ turn setting s
    ends = (t.acts.goes (told_answer None whole) s old.rested.stands from agrees lacking).ends

    stopped : (turn setting s).0.world.stopped ≡ true
    stopped = sym (ap (λ (x : State × Turned). x.0.world.stopped) ends) ∙ t.acts.stops (told_answer None whole) s old.rested.stands from agrees lacking (ap (λ (o : Option ℕ). is_some o) is)

    answered : turned_of (turned_in taken) ≡ (turn setting s).1
    answered = ap (λ (x : State × Turned). x.1) ends

    told : (turn setting s).1 ≡ NoMemory
    told = turn_told setting s old.runs stopped

-- what a wait does with its turn
turned_is : (setting : Setting) (n e : ℕ) (b : Bool) (x : State × Turned) (s : State) → head_of s.world.queue ≡ Some e → nat_eq e 0 ≡ b → x ≡ turn setting s
    → wait_turned setting (wait_more setting n) b x.1 x.0 ≡ wait_more setting (suc n) s
turned_is setting n e b x s head is ends =
    ap (λ (c : Bool). wait_turned setting (wait_more setting n) c x.1 x.0) (sym is)
    ∙ ap (λ (y : State × Turned). wait_turned setting (wait_more setting n) (e == 0) y.1 y.0) ends
    ∙ sym (ap (λ (o : Option ℕ). wait_turn setting (wait_more setting n) o s) head)

fired_lacks : Fired ≡ NoMemory → ⊥
fired_lacks e = cc

-- a loop that fired runs on
runs_on : (setting : Setting) (b : Bool) (u s : State) → u.world.stopped ≡ b → s.world.stopped ≡ false → (u, Fired) ≡ turn setting s → u.world.stopped ≡ false
runs_on setting false u s is runs ends = is
runs_on setting true u s is runs ends = absurd (fired_lacks (ap (λ (x : State × Turned). x.1) ends ∙ turn_told setting s runs (sym (ap (λ (x : State × Turned). x.0.world.stopped) ends) ∙ is)))

-- a turn that doesn't say that there was no memory, by where it leads
turn_found : (rule : Rule) (OldNodes OldNames NewNodes NewNames : World → Type 0) (New : State → Type 0) (after : Setting → State → State × Waited) (taken : TakenCase) (n : ℕ) (a b : Telling) (k l : ℕ) → NotLacking taken
    → ((setting : Setting) (s u : State) → Waits rule OldNodes OldNames s → IsTaken taken (head_of s.world.queue) → Rested rule NewNodes NewNames u → turned_as (turned_in taken) u ≡ turn setting s
    → New u × (after setting u ≡ wait_more setting (suc n) s))
    → TakenIs rule OldNodes OldNames NewNodes NewNames taken a b k l
    → Found (Waits rule OldNodes OldNames) New rule (λ setting. wait_more setting (suc n)) after a b k l
turn_found rule OldNodes OldNames NewNodes NewNames New after taken n a b k l other goes t = record {
  call = record {
    items = t.acts.items;
    missing = None;
    told = t.acts.told;
    counts = λ s old. subst (λ (lacks : Bool). HasLacked lacks k l) (not_lacked taken other) (t.memory (told_answer None []) s old.rested.stands ((old.rested.takes, old.rested.rests), old.runs));
    leads = λ answer s old agrees lacking.
        let none = none_missing rule OldNodes OldNames NewNodes NewNames taken a b k l t t.acts.missing refl other s old in
        let r = turn_leads rule OldNodes OldNames NewNodes NewNames taken a b k l t answer s old agrees (subst (λ (o : Option ℕ). IsMissing answer (s.past ++ t.acts.items) o) (sym none) tt) in
        let end = goes (setting_of rule answer) s r.state old (t.event s.world old.rested.stands.0) r.stands r.ends in
        record { state = r.state; stands = end.0; past_is = r.past_is; ends = end.1 };
  };
  none = refl;
}
  where
    not_lacked : (taken : TakenCase) → NotLacking taken → lacked_memory (turned_in taken) ≡ false
    not_lacked (FiredIn event) other = refl
    not_lacked IdleIn other = refl
    not_lacked NoMemoryIn other = absurd other

-- the event of a node fired
pub other_fired : (rule : Rule) (OldNodes OldNames NewNodes NewNames : World → Type 0) (event : Link) (n : ℕ) (a b : Telling) (k l : ℕ) → nat_eq event.number.0 0 ≡ false
    → TakenIs rule OldNodes OldNames NewNodes NewNames (FiredIn event) a b k l
    → Found (Waits rule OldNodes OldNames) (Waits rule NewNodes NewNames) rule (λ setting. wait_more setting (suc n)) (λ setting. wait_more setting n) a b k l
other_fired rule OldNodes OldNames NewNodes NewNames event n a b k l apart =
    turn_found rule OldNodes OldNames NewNodes NewNames (Waits rule NewNodes NewNames) (λ (setting : Setting). wait_more setting n) (FiredIn event) n a b k l tt
    (λ setting s u old head rested ends. (
      record { rested = rested; runs = runs_on setting u.world.stopped u s refl old.runs ends },
      turned_is setting n event.number.0 false (u, Fired) s head apart ends,
    ))

-- the event of the wait fired
pub own_fired : (rule : Rule) (OldNodes OldNames NewNodes NewNames : World → Type 0) (event : Link) (n : ℕ) (a b : Telling) (k l : ℕ) → nat_eq event.number.0 0 ≡ true
    → TakenIs rule OldNodes OldNames NewNodes NewNames (FiredIn event) a b k l
    → Found (Waits rule OldNodes OldNames) (Rested rule NewNodes NewNames) rule (λ setting. wait_more setting (suc n)) (λ setting. left_of_wait Ready setting) a b k l
own_fired rule OldNodes OldNames NewNodes NewNames event n a b k l own =
    turn_found rule OldNodes OldNames NewNodes NewNames (Rested rule NewNodes NewNames) (λ (setting : Setting). left_of_wait Ready setting) (FiredIn event) n a b k l tt
    (λ setting s u old head rested ends. (rested, turned_is setting n event.number.0 true (u, Fired) s head own ends))

-- an empty queue is rewound
no_points : (xs : List ℕ) (depth breadth : ℕ) → head_of (record { list = xs; depth = depth; breadth = breadth }) ≡ None → depth ≤ breadth → breadth ≤ length xs → depth ≡ 0
no_points [] depth breadth none low high = omega (arith, low, high)
no_points (x ∷ xs) depth breadth none low high = absurd (cc none)

rewound_is : (q : Events) → head_of q ≡ None → IsQueue q → rewound q ≡ q
rewound_is q none is = ap (λ (d : ℕ). record { list = q.list; depth = d; breadth = q.breadth }) (sym (no_points q.list q.depth q.breadth none is.depth is.breadth))

same_state : (s : State) → head_of s.world.queue ≡ None → IsQueue s.world.queue → silent rewound_world s ≡ s
same_state s none is = ap (λ (q : Events). silent (with_queue q) s) (rewound_is s.world.queue none is)

-- no event is armed
pub none_fired : (rule : Rule) (OldNodes OldNames NewNodes NewNames : World → Type 0) (n : ℕ) (a b : Telling) (k l : ℕ)
    → TakenIs rule OldNodes OldNames NewNodes NewNames IdleIn a b k l
    → Found (Waits rule OldNodes OldNames) (Rested rule NewNodes NewNames) rule (λ setting. wait_more setting (suc n)) (λ setting. left_of_wait IdleEnd setting) a b k l
none_fired rule OldNodes OldNames NewNodes NewNames n a b k l =
    turn_found rule OldNodes OldNames NewNodes NewNames (Rested rule NewNodes NewNames) (λ (setting : Setting). left_of_wait IdleEnd setting) IdleIn n a b k l tt
    (λ setting s u old head rested ends.
    let here : u ≡ s = ap (λ (x : State × Turned). x.0) (ends ∙ idle_is setting s old.runs head) ∙ same_state s head old.rested.rests.owned.queue in
    (rested, ap (λ (v : State). (let_go v, WaitIdle)) here ∙ sym (ap (λ (o : Option ℕ). wait_turn setting (wait_more setting n) o s) head)))

-- a step found no memory
lost_is : (setting : Setting) (n : ℕ) (head : Option ℕ) (u s : State) → head_of s.world.queue ≡ head → IsSome head → (u, NoMemory) ≡ turn setting s → (silent lost u, WaitNoMemory) ≡ wait_more setting (suc n) s
lost_is setting n None u s is some ends = absurd (false≢true some)
lost_is setting n (Some e) u s is some ends = by (nat_eq e 0) refl
  where
    by : (b : Bool) → nat_eq e 0 ≡ b → (silent lost u, WaitNoMemory) ≡ wait_more setting (suc n) s
    by true own = turned_is setting n e true (u, NoMemory) s is own ends
    by false apart = turned_is setting n e false (u, NoMemory) s is apart ends

pub none_found : (rule : Rule) (OldNodes OldNames NewNodes NewNames : World → Type 0) (n : ℕ) (a b : Telling) (k l : ℕ)
    → TakenIs rule OldNodes OldNames NewNodes NewNames NoMemoryIn a b k l
    → CallIs (Waits rule OldNodes OldNames) (Rested rule NewNodes NewNames) rule (λ setting. wait_more setting (suc n)) (λ setting. left_of_wait NoMemoryEnd setting) a b k l
none_found rule OldNodes OldNames NewNodes NewNames n a b k l t = record {
  items = t.acts.items;
  missing = t.acts.missing;
  told = t.acts.told;
  counts = λ s old. t.acts.lacks;
  leads = λ answer s old agrees lacking.
      let r = turn_leads rule OldNodes OldNames NewNodes NewNames NoMemoryIn a b k l t answer s old agrees lacking in
      record {
        state = r.state;
        stands = r.stands;
        past_is = r.past_is;
        ends = lost_is (setting_of rule answer) n (head_of s.world.queue) r.state s refl (t.event s.world old.rested.stands.0) r.ends;
      };
}

-- the count behind turns that fired and one more
pub last_lacks : {E : Type 0} (rule : Rule) (OldNodes OldNames MidNodes MidNames NewNodes NewNames : World → Type 0) (f g : Setting → State → E) (taken : TakenCase) (a b c : Telling) (k l m : ℕ)
    → Found (Waits rule OldNodes OldNames) (Waits rule MidNodes MidNames) rule f g a b k l → TakenIs rule MidNodes MidNames NewNodes NewNames taken b c l m
    → (s : State) → Waits rule OldNodes OldNames s → HasLacked (lacked_memory (turned_in taken)) k m
last_lacks rule OldNodes OldNames MidNodes MidNames NewNodes NewNames f g taken a b c k l m p t s old =
    let A : State → Type 0 = Waits rule OldNodes OldNames in
    let B : State → Type 0 = Waits rule MidNodes MidNames in
    let r = led A B rule f g a b k l p.call p.none s old in
    subst (λ (n : ℕ). HasLacked (lacked_memory (turned_in taken)) n m) (stands_still A B rule f g a b k l p.call p.none s old)
    (t.memory (told_answer None []) r.state r.stands.rested.stands ((r.stands.rested.takes, r.stands.rested.rests), r.stands.runs))

-- a state at which the next turn of a wait may begin, whether the loop runs or not
pub found_rested : {E : Type 0} (A : State → Type 0) (rule : Rule) (Nodes Names : World → Type 0) (f g : Setting → State → E) (a b : Telling) (k l : ℕ)
    → Found A (Waits rule Nodes Names) rule f g a b k l → Found A (Rested rule Nodes Names) rule f g a b k l
found_rested A rule Nodes Names f g a b k l p = record {
  call = record {
    items = p.call.items;
    missing = p.call.missing;
    told = p.call.told;
    counts = p.call.counts;
    leads = λ answer s old agrees lacking.
        let r = p.call.leads answer s old agrees lacking in
        record { state = r.state; stands = r.stands.rested; past_is = r.past_is; ends = r.ends };
  };
  none = p.none;
}
