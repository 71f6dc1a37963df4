use Rattle.std.proofs.Common.{◌∙◌, sym, ap, Option, Some}
use Rattle.kj_base.specs.declared.outcomes.Outcome.{Outcome}
use Rattle.kj_base.specs.Queue.{DepthFirst}
use Rattle.kj_model.specs.World.{World}
use Rattle.kj_model.specs.Value.{value}
use Rattle.kj_model.specs.Listening.{announced}
use Rattle.kj_model.specs.Fire.{kept_then}
use Rattle.kj_ownership.proofs.Outlives.{value_outlives}
use Rattle.kj_ownership.proofs.Lacks.{value_stops}
use Rattle.promise_walks.specs.Walks.{Both}
use Rattle.promise_firing.specs.Outliving.{Outlives}
use Rattle.promise_turns.specs.declared.looks.Event.TheVariants.{Keeps as KeepsCase}
use Rattle.promise_turns.specs.Events.{From, fired}
use Rattle.promise_turns.proofs.Acted.{acts_then, acts_lacking}
use Rattle.promise_turns.proofs.Outliving.{owned}
use Rattle.promise_turns.proofs.keeping.fire_keeping.Goals as goal

pub returns-in-Ok-clause-acts : goal.returns-in-Ok-clause-acts
returns-in-Ok-clause-acts g c =
    let n = c.args.node.number.0 in
    let t = c.args.tree.number.0 in
    let o = c.in-Ok.outcome in
    let e = c.in-Ok.ensures in
    let d = c.keep.ensures.does in
    let A : World → Type 0 = Both (g.N.Nodes.stands c.args.over.now.nodes) (g.M.Names.stands c.args.over.now.names) in
    let B : World → Type 0 = Both (g.N.Nodes.stands c.evaluate.new.self.nodes) (g.M.Names.stands c.evaluate.new.self.names) in
    let C : World → Type 0 = Both (g.N.Nodes.stands c.keep.new.over.nodes) (g.M.Names.stands c.keep.new.over.names) in
    acts_then A B C (Outlives n t) g.N.Nodes.rule (From (KeepsCase c.args.tree) n) (λ setting s. value setting t s) o (fired n) (λ setting. kept_then (announced DepthFirst n) n t (Some o)) e.gives.items d.items _ _ _ _ _ _
    e.gives.told d.told e.lacks c.keep.ensures.lacks e.gives.same (λ setting. d.moves)
    (λ setting s from given. value_outlives setting n t s from.0 from.1 (owned n t s from.2.owns))
    (λ setting s stands from given. sym (from.2.fires setting n s ∙ ap (λ (x : Option Outcome). kept_then (announced DepthFirst n) n t x (value setting t s).0) given))

pub returns-in-Err-clause-acts : goal.returns-in-Err-clause-acts
returns-in-Err-clause-acts g c =
    let n = c.args.node.number.0 in
    let t = c.args.tree.number.0 in
    let e = c.in-Err.ensures in
    let A : World → Type 0 = Both (g.N.Nodes.stands c.args.over.now.nodes) (g.M.Names.stands c.args.over.now.names) in
    let B : World → Type 0 = Both (g.N.Nodes.stands c.evaluate.new.self.nodes) (g.M.Names.stands c.evaluate.new.self.names) in
    acts_lacking A B g.N.Nodes.rule (From (KeepsCase c.args.tree) n) (λ setting s. value setting t s) (fired n) e.gives.items _ _ _ _ e.gives.told e.lacks e.gives.same (λ setting. value_stops setting t)
    (λ setting s stands from given. sym (from.2.fires setting n s ∙ ap (λ (x : Option Outcome). kept_then (announced DepthFirst n) n t x (value setting t s).0) given))
