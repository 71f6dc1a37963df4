-- The parts of a wait's end, told as calls.
use Rattle.std.proofs.Common.{◌≡◌, ℕ, List, Option, None, Some, true, refl, ap}
use Rattle.kj_base.specs.Counts.{HasLacked}
use Rattle.kj_base.specs.Record.{Item}
use Rattle.kj_base.specs.declared.outcomes.Outcome.{Outcome}
use Rattle.promise_commands.specs.Telling.{Telling, Hears}
use Rattle.kj_model.specs.Calls.{Waited, Done, WaitNoMemory, lost, wait_valued}
use Rattle.kj_model.specs.Changes.{silent}
use Rattle.kj_model.specs.Value.{value}
use Rattle.kj_model.specs.World.{World, State}
use Rattle.promise_walks.specs.Walks.{Both, Does}
use Rattle.promise_walks.specs.Values.{Rule, Goes, Lacks, gave}
use Rattle.loop_core.specs.Calls.{CallIs}
use Rattle.loop_core.specs.Waits.{StandsIn, awaited_gone, valued_at}
use Rattle.loop_core.proofs.Called.{Found}

-- what is done without steps, with its answer
pub found_does : (OldNodes OldNames NewNodes NewNames : World → Type 0) (rule : Rule) (f : State → State) (waited : Waited) (a b : Telling) (k l : ℕ)
    → Does (Both OldNodes OldNames) (Both NewNodes NewNames) f (λ s. s) a b → l ≡ k
    → Found {E = State × Waited} (StandsIn OldNodes OldNames) (StandsIn NewNodes NewNames) rule (λ setting s. (f s, waited)) (λ setting s. (s, waited)) a b k l
found_does OldNodes OldNames NewNodes NewNames rule f waited a b k l d same = record {
  call = record {
    items = d.items;
    missing = None;
    told = d.told;
    counts = λ s old. same;
    leads = λ answer s old agrees lacking.
        let r = d.moves s old in
        record { state = r.state; stands = r.stands; past_is = r.past_is; ends = ap (λ (u : State). answered u) r.ends };
  };
  none = refl;
}
  where
    answered : State → State × Waited
    answered u = (u, waited)

-- the tree was evaluated
pub found_valued : (OldNodes OldNames NewNodes NewNames : World → Type 0) (rule : Rule) (root : ℕ) (outcome : Outcome) (items : List Item) (a b : Telling) (k l : ℕ)
    → Hears a items b → l ≡ k → Goes (Both OldNodes OldNames) (Both NewNodes NewNames) rule (λ setting s. value setting root s) (gave outcome) items
    → Found {E = State × Waited} (StandsIn OldNodes OldNames) (StandsIn NewNodes NewNames) rule (valued_at root) (λ setting s. (awaited_gone s, Done outcome)) a b k l
found_valued OldNodes OldNames NewNodes NewNames rule root outcome items a b k l told same goes = record {
  call = record {
    items = items;
    missing = None;
    told = told;
    counts = λ s old. same;
    leads = λ answer s old agrees lacking.
        let r = goes answer s old agrees in
        record { state = r.state; stands = r.stands; past_is = r.past_is; ends = ap (λ (x : State × Option Outcome). wait_valued x.1 x.0) r.ends };
  };
  none = refl;
}

-- a step found no memory
pub call_lacks : (OldNodes OldNames NewNodes NewNames : World → Type 0) (rule : Rule) (root : ℕ) (items : List Item) (a b : Telling) (k l : ℕ)
    → Hears a items b → HasLacked true k l → Lacks (Both OldNodes OldNames) (Both NewNodes NewNames) rule (λ setting s. value setting root s) items
    → CallIs {E = State × Waited} (StandsIn OldNodes OldNames) (StandsIn NewNodes NewNames) rule (valued_at root) (λ setting s. (silent lost s, WaitNoMemory)) a b k l
call_lacks OldNodes OldNames NewNodes NewNames rule root items a b k l told lacked lacks = record {
  items = items;
  missing = Some lacks.step;
  told = told;
  counts = λ s old. lacked;
  leads = λ answer s old agrees lacking.
      let r = lacks.moves answer s old agrees lacking in
      record { state = r.state; stands = r.stands; past_is = r.past_is; ends = ap (λ (x : State × Option Outcome). wait_valued x.1 x.0) r.ends };
}
