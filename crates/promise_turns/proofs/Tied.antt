-- The host counts a lack of memory just where the loop is stopped after the event.
use Rattle.std.proofs.Common.{◌≡◌, ◌∙◌, sym, ap, subst, ℕ, List, ◌++◌, Option, None, Some, Bool, true, false, refl}
use Rattle.std.specs.Prelude.{is_some}
use Rattle.kj_base.specs.Counts.{HasLacked}
use Rattle.kj_base.specs.Record.{Item}
use Rattle.promise_commands.specs.Telling.{Telling}
use Rattle.kj_model.specs.Log.{passing}
use Rattle.kj_model.specs.Nodes.{form_at}
use Rattle.kj_model.specs.World.{World, State, Setting}
use Rattle.kj_ownership.specs.Memory.{FindsMemory}
use Rattle.kj_ownership.proofs.EventLacks.{form_goes, found}
use Rattle.promise_walks.specs.Walks.{Moved}
use Rattle.promise_walks.specs.Values.{Answer, Agrees, Rule, setting_of}
use Rattle.promise_turns.specs.Acting.{Acts, IsMissing}
use Rattle.promise_turns.specs.Events.{fired}
use Rattle.promise_turns.proofs.Answering.{told_answer, told_agrees, told_always, told_end}

-- where steps find memory an event doesn't stop the loop
pub fired_runs : (n : ℕ) (setting : Setting) (s : State) → s.world.stopped ≡ false → FindsMemory setting → (fired n setting s).world.stopped ≡ false
fired_runs n setting s runs finds = found setting s.world.stopped (fired n setting s) finds (form_goes setting n (form_at n s.world.nodes) s) ∙ runs

-- from one state, where a step is missing or none is
by_missing : (New : World → Type 0) (rule : Rule) (change : Setting → State → State) (k l : ℕ) (is : Bool) (s : State) (items : List Item) (missing : Option ℕ)
    → ((setting : Setting) → FindsMemory setting → (change setting s).world.stopped ≡ false)
    → ((answer : Answer) → New (change (setting_of rule answer) s).world → is ≡ (change (setting_of rule answer) s).world.stopped)
    → HasLacked (is_some missing) k l
    → (goes : (answer : Answer) → Agrees answer s.past items → IsMissing answer (s.past ++ items) missing → Moved New (change (setting_of rule answer) s) (λ s. s) (s.past ++ items))
    → ((answer : Answer) (agrees : Agrees answer s.past items) (lacking : IsMissing answer (s.past ++ items) missing) → is_some missing ≡ true → (goes answer agrees lacking).state.world.stopped ≡ true)
    → HasLacked is k l
by_missing New rule change k l is s items None runs tells lacks goes stops =
    let answer = told_answer (Some passing) (s.past ++ items) in
    let r = goes answer (told_agrees (Some passing) s.past items) tt in
    let runs_on = runs (setting_of rule answer) (told_always (s.past ++ items)) in
    subst (λ (b : Bool). HasLacked b k l) (sym (tells answer (subst (λ (t : State). New t.world) r.ends r.stands) ∙ runs_on)) lacks
by_missing New rule change k l is s items (Some step) runs tells lacks goes stops =
    let answer = told_answer None (s.past ++ items) in
    let agrees = told_agrees None s.past items in
    let lacking = told_end (s.past ++ items) step in
    let r = goes answer agrees lacking in
    subst (λ (b : Bool). HasLacked b k l) (sym (tells answer (subst (λ (t : State). New t.world) r.ends r.stands) ∙ sym (ap (λ (t : State). t.world.stopped) r.ends) ∙ stops answer agrees lacking refl)) lacks

pub tied : (Old New : World → Type 0) (rule : Rule) (From : Setting → State → Type 0) (change : Setting → State → State) (a b : Telling) (k l : ℕ) (is : Bool)
    → Acts Old New rule From change (λ s. s) a b k l
    → (s : State) → Old s.world → ((answer : Answer) → From (setting_of rule answer) s)
    → ((setting : Setting) → FindsMemory setting → (change setting s).world.stopped ≡ false)
    → ((answer : Answer) → New (change (setting_of rule answer) s).world → is ≡ (change (setting_of rule answer) s).world.stopped)
    → HasLacked is k l
tied Old New rule From change a b k l is d s old from runs tells =
    by_missing New rule change k l is s d.items d.missing runs tells d.lacks
    (λ answer agrees lacking. d.goes answer s old (from answer) agrees lacking)
    (λ answer agrees lacking some. d.stops answer s old (from answer) agrees lacking some)
