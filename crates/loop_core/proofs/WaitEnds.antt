-- A wait from its beginning to its end.
use Rattle.std.proofs.Common.{◌≡◌, ◌∙◌, ℕ, List, [], Option, None, Some, Bool, refl, sym, ap, subst}
use Rattle.std.proofs.lemmas.List.{append-nil}
use Rattle.promise_commands.specs.Telling.{Telling}
use Rattle.kj_model.specs.Calls.{CallWait, Waited, NotThere, held_awaited, wait, wait_held, wait_more, wait_unless, with_awaited}
use Rattle.kj_model.specs.Apply.{Unknown, WrongKind}
use Rattle.kj_model.specs.Changes.{silent, unnamed}
use Rattle.kj_model.specs.World.{World, State, Setting, Held, Promise, held_at}
use Rattle.kj_ownership.proofs.Calls.{call_keeps, rests_of}
use Rattle.kj_ownership.proofs.Reached.{listened_only}
use Rattle.kj_ownership.proofs.Waits.{held_rests}
use Rattle.kj_ownership.specs.Kept.{Kept}
use Rattle.promise_names.specs.Held.{SeesHeld, held_shown, root_of}
use Rattle.promise_names.specs.declared.names.Held.{Held as HeldCase}
use Rattle.promise_names.specs.declared.names.Held.TheVariants.{Promise as PromiseCase, CellOf as CellCase, AskCell as AskCase, HubOf as HubCase, Group as GroupCase, Canceler as CancelerCase, RequestOf as RequestCase}
use Rattle.promise_walks.proofs.Composed.{hears_none}
use Rattle.promise_walks.specs.Walks.{Both}
use Rattle.promise_walks.specs.Values.{Rule, setting_of}
use Rattle.loop_core.specs.Calls.{CallIs}
use Rattle.loop_core.specs.Loops.{StandsAt}
use Rattle.loop_core.specs.Waits.{MayHold, StandsIn, Waits}
use Rattle.loop_core.proofs.Called.{Found, call_silent}

-- the promise is taken out of its name, and the wait listens
pub wait_begins : (rule : Rule) (OldNodes OldNames NewNodes NewNames : World → Type 0) (name root n : ℕ) (a : Telling) (k : ℕ)
    → ((w : World) → Both OldNodes OldNames w → held_at name w.names ≡ Some (Promise root) → Both NewNodes NewNames (held_awaited name root w))
    → Found (MayHold rule OldNodes OldNames name root) (Waits rule NewNodes NewNames) rule (λ setting. wait setting name n) (λ setting. wait_more setting n) a a k k
wait_begins rule OldNodes OldNames NewNodes NewNames name root n a k begins = record {
  call = record {
    items = [];
    missing = None;
    told = hears_none a;
    counts = λ s old. refl;
    leads = λ answer s old agrees lacking. record {
      state = silent (held_awaited name root) s;
      stands = record {
        rested = record { takes = old.stands.takes; stands = begins s.world old.stands.stands old.held; rests = held_rests name root s old.held old.stands.kept.none_awaited (rests_of s old.stands.kept) };
        runs = ap (λ (w : World). w.stopped) (listened_only root (with_awaited (Some (record { name = name; root = root })) (unnamed name s.world))).same ∙ old.runs;
      };
      past_is = sym (append-nil s.past);
      ends = sym (ap (λ (b : Bool). wait_unless b (setting_of rule answer) name n s) old.runs ∙ ap (λ (o : Option Held). wait_held (setting_of rule answer) name n o s) old.held);
    };
  };
  none = refl;
}

-- a wait that changes nothing
pub wait_stays : (rule : Rule) (Nodes Names : World → Type 0) (name n : ℕ) (waited : Waited) (a : Telling) (k : ℕ)
    → ((setting : Setting) (s : State) → StandsAt rule Nodes Names s → wait setting name n s ≡ (s, waited))
    → CallIs (StandsAt rule Nodes Names) (StandsAt rule Nodes Names) rule (λ setting. wait setting name n) (λ setting s. (s, waited)) a a k k
wait_stays rule Nodes Names name n waited a k same =
    call_silent (StandsAt rule Nodes Names) (StandsAt rule Nodes Names) rule (λ setting. wait setting name n) (λ setting s. (s, waited)) a k
    (λ answer s old. record { state = s; stands = old; past_is = refl; ends = sym (same (setting_of rule answer) s old) })

-- behind what was told a change that isn't told
pub call_after : {E : Type 0} (A B C : State → Type 0) (rule : Rule) (f g h : Setting → State → E) (change : World → World) (a b : Telling) (k l : ℕ)
    → CallIs A B rule f g a b k l
    → ((setting : Setting) (s : State) → B s → C (silent change s) × (h setting (silent change s) ≡ g setting s))
    → CallIs A C rule f h a b k l
call_after A B C rule f g h change a b k l p same = record {
  items = p.items;
  missing = p.missing;
  told = p.told;
  counts = p.counts;
  leads = λ answer s old agrees lacking.
      let r = p.leads answer s old agrees lacking in
      let q = same (setting_of rule answer) r.state r.stands in
      record { state = silent change r.state; stands = q.0; past_is = r.past_is; ends = q.1 ∙ r.ends };
}

-- what each state keeps between two calls is kept by a whole wait
pub wait_ends : (rule : Rule) (OldNodes OldNames NewNodes NewNames : World → Type 0) (name n : ℕ) (waited : Waited) (a b : Telling) (k l : ℕ)
    → CallIs (StandsAt rule OldNodes OldNames) (StandsIn NewNodes NewNames) rule (λ setting. wait setting name n) (λ setting s. (s, waited)) a b k l
    → CallIs (StandsAt rule OldNodes OldNames) (StandsAt rule NewNodes NewNames) rule (λ setting. wait setting name n) (λ setting s. (s, waited)) a b k l
wait_ends rule OldNodes OldNames NewNodes NewNames name n waited a b k l p = record {
  items = p.items;
  missing = p.missing;
  told = p.told;
  counts = p.counts;
  leads = λ answer s old agrees lacking.
      let setting : Setting = setting_of rule answer in
      let r = p.leads answer s old agrees lacking in
      let here : r.state ≡ (wait setting name n s).0 = ap (λ (x : State × Waited). x.0) r.ends in
      record {
        state = r.state;
        stands = record { takes = old.takes; stands = r.stands; kept = subst Kept (sym here) (call_keeps setting (CallWait name n) s old.takes refl tt old.kept) };
        past_is = r.past_is;
        ends = r.ends;
      };
}

root_case : (root : ℕ) (members : List ℕ) (held : HeldCase) → root_of (Some held) ≡ Some root → ◌≡◌ {A = Option Held} (Some (held_shown members held)) (Some (Promise root))
root_case root members (PromiseCase link) is = cc
root_case root members (CellCase cell) is = absurd cc
root_case root members (AskCase cell taken) is = absurd cc
root_case root members (HubCase hub) is = absurd cc
root_case root members (GroupCase error tasks empty) is = absurd cc
root_case root members CancelerCase is = absurd cc
root_case root members (RequestCase request) is = absurd cc

-- a name that has a promise
pub root_seen : (root : ℕ) (held : HeldCase) (o : Option Held) → SeesHeld (Some held) o → root_of (Some held) ≡ Some root → o ≡ Some (Promise root)
root_seen root held None sees is = absurd sees
root_seen root held (Some seen) sees is = ap (λ (h : Held). Some h) sees.is ∙ root_case root sees.members held is

wrong_case : (setting : Setting) (name n : ℕ) (members : List ℕ) (held : HeldCase) (s : State) → root_of (Some held) ≡ None → wait_held setting name n (Some (held_shown members held)) s ≡ (s, NotThere (WrongKind name))
wrong_case setting name n members (PromiseCase root) s none = absurd cc
wrong_case setting name n members (CellCase cell) s none = refl
wrong_case setting name n members (AskCase cell taken) s none = refl
wrong_case setting name n members (HubCase hub) s none = refl
wrong_case setting name n members (GroupCase error tasks empty) s none = refl
wrong_case setting name n members CancelerCase s none = refl
wrong_case setting name n members (RequestCase request) s none = refl

-- a name that has no promise is refused
pub wrong_seen : (setting : Setting) (name n : ℕ) (held : HeldCase) (o : Option Held) (s : State) → SeesHeld (Some held) o → root_of (Some held) ≡ None → wait_held setting name n o s ≡ (s, NotThere (WrongKind name))
wrong_seen setting name n held None s sees none = absurd sees
wrong_seen setting name n held (Some seen) s sees none = ap (λ (h : Held). wait_held setting name n (Some h) s) sees.is ∙ wrong_case setting name n sees.members held s none

-- and one that isn't there
pub none_seen : (setting : Setting) (name n : ℕ) (o : Option Held) (s : State) → SeesHeld None o → wait_held setting name n o s ≡ (s, NotThere (Unknown name))
none_seen setting name n None s sees = refl
none_seen setting name n (Some seen) s sees = absurd sees

-- a name that isn't there holds nothing
pub none_there : (o : Option Held) → SeesHeld None o → o ≡ None
none_there None sees = refl
none_there (Some seen) sees = absurd sees
