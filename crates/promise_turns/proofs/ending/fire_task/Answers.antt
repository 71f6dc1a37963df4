use Rattle.std.proofs.Common.{◌≡◌, ◌∙◌, sym, ap, ℕ, Option, None, Some}
use Rattle.kj_base.specs.declared.outcomes.Outcome.{Outcome}
use Rattle.kj_model.specs.Nodes.{Form, Task, form_at, parts_found}
use Rattle.kj_model.specs.World.{World, State, Setting}
use Rattle.kj_model.specs.Value.{value}
use Rattle.kj_model.specs.Fire.{task_valued, fire_form}
use Rattle.kj_ownership.proofs.Lacks.{value_stops}
use Rattle.kj_ownership.proofs.Outlives.{value_outlives}
use Rattle.promise_walks.specs.Walks.{Both}
use Rattle.promise_firing.specs.Outliving.{Outlives}
use Rattle.promise_turns.specs.declared.looks.Event.TheVariants.{Ends}
use Rattle.promise_turns.specs.Events.{From, fired}
use Rattle.promise_turns.proofs.Acted.{acts_more, acts_lacking}
use Rattle.promise_turns.proofs.Outliving.{owned}
use Rattle.promise_turns.proofs.ending.fire_task.Goals as goal

task_fired : (setting : Setting) (n tree : ℕ) (o : Option Outcome) (s : State) → form_at n s.world.nodes ≡ Some (Task (Some tree)) → (value setting tree s).1 ≡ o → task_valued setting n tree o (value setting tree s).0 ≡ fired n setting s
task_fired setting n tree o s at is = sym (ap (λ (x : Option Form). fire_form setting n x s) at ∙ ap (λ (x : Option Outcome). task_valued setting n tree x (value setting tree s).0) is)

pub returns-in-Ok-clause-acts : goal.returns-in-Ok-clause-acts
returns-in-Ok-clause-acts g c =
    let n = c.args.node.number.0 in
    let t = c.args.tree.number.0 in
    let o = c.in-Ok.outcome in
    let e = c.in-Ok.ensures in
    let A : World → Type 0 = Both (g.N.Nodes.stands c.args.over.now.nodes) (g.M.Names.stands c.args.over.now.names) in
    let B : World → Type 0 = Both (g.N.Nodes.stands c.evaluate.new.self.nodes) (g.M.Names.stands c.evaluate.new.self.names) in
    let C : World → Type 0 = Both (g.N.Nodes.stands c.finish.new.over.nodes) (g.M.Names.stands c.finish.new.over.names) in
    acts_more A B C (Outlives n t) g.N.Nodes.rule (From (Ends c.args.tree) n) (λ setting s. value setting t s) o (fired n) (λ setting. task_valued setting n t (Some o)) e.gives.items _ _ _ _ _ _
    e.gives.told e.lacks e.gives.same c.finish.ensures.acts
    (λ setting s from given. value_outlives setting n t s from.0 from.1 (owned n t s (ap parts_found from.2)))
    (λ setting s stands from given. task_fired setting n t (Some o) s from.2 given)

pub returns-in-Err-clause-acts : goal.returns-in-Err-clause-acts
returns-in-Err-clause-acts g c =
    let n = c.args.node.number.0 in
    let t = c.args.tree.number.0 in
    let e = c.in-Err.ensures in
    let A : World → Type 0 = Both (g.N.Nodes.stands c.args.over.now.nodes) (g.M.Names.stands c.args.over.now.names) in
    let B : World → Type 0 = Both (g.N.Nodes.stands c.evaluate.new.self.nodes) (g.M.Names.stands c.evaluate.new.self.names) in
    acts_lacking A B g.N.Nodes.rule (From (Ends c.args.tree) n) (λ setting s. value setting t s) (fired n) e.gives.items _ _ _ _ e.gives.told e.lacks e.gives.same (λ setting. value_stops setting t)
    (λ setting s stands from given. task_fired setting n t None s from.2 given)
