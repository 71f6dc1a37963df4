use Rattle.std.proofs.Common.{None, Some, true}
use Rattle.kj_model.specs.Nodes.{Form, Join}
use Rattle.kj_model.specs.World.{World}
use Rattle.kj_model.specs.Value.{value}
use Rattle.kj_model.specs.Fire.{fast_announced, kept_then}
use Rattle.kj_ownership.proofs.Outlives.{value_owner_outlives}
use Rattle.kj_ownership.proofs.Lacks.{value_stops}
use Rattle.promise_walks.specs.Walks.{Both}
use Rattle.promise_firing.specs.Outliving.{Outlives}
use Rattle.promise_firing.specs.Stages.{sides_of}
use Rattle.promise_turns.specs.Events.{FromUnder, fired}
use Rattle.promise_turns.proofs.Acted.{acts_then, acts_lacking}
use Rattle.promise_turns.proofs.Outliving.{owned}
use Rattle.promise_turns.proofs.Sided.{owner_is, part_is, fast_fired_is}
use Rattle.promise_turns.proofs.siding.fire_under_fast.Goals as goal

pub returns-in-Ok-clause-acts : goal.returns-in-Ok-clause-acts
returns-in-Ok-clause-acts g c =
    let n = c.args.node.number.0 in
    let t = c.args.tree.number.0 in
    let join = c.args.joined.join.number.0 in
    let sides = sides_of c.args.joined in
    let form : Form = Join true sides in
    let was = c.is_fast_ready-was_ready.result in
    let o = c.in-Ok.outcome in
    let e = c.in-Ok.ensures in
    let d = c.keep.ensures.does in
    let A : World → Type 0 = Both (g.N.Nodes.stands c.args.over.now.nodes) (g.M.Names.stands c.args.over.now.names) in
    let B : World → Type 0 = Both (g.N.Nodes.stands c.evaluate.new.self.nodes) (g.M.Names.stands c.evaluate.new.self.names) in
    let C : World → Type 0 = Both (g.N.Nodes.stands c.keep.new.over.nodes) (g.M.Names.stands c.keep.new.over.names) in
    acts_then A B C (Outlives join t) g.N.Nodes.rule (FromUnder c.args.tree join form n) (λ setting s. value setting t s) o (fired n) (λ setting. kept_then (fast_announced was join sides) n t (Some o)) e.gives.items d.items _ _ _ _ _ _
    e.gives.told d.told e.lacks c.keep.ensures.lacks e.gives.same (λ setting. d.moves)
    (λ setting s from given. value_owner_outlives setting n t join s from.0.0 from.0.1 (owned n t s (part_is c.args.tree n join form setting s from)) (owner_is c.args.tree n join form setting s from).1)
    (λ setting s stands from given. fast_fired_is c.args.tree n join sides was (Some o) setting s (c.is_fast_ready-was_ready.ensures s.world stands.0) from given)

pub returns-in-Err-clause-acts : goal.returns-in-Err-clause-acts
returns-in-Err-clause-acts g c =
    let n = c.args.node.number.0 in
    let t = c.args.tree.number.0 in
    let join = c.args.joined.join.number.0 in
    let sides = sides_of c.args.joined in
    let form : Form = Join true sides in
    let was = c.is_fast_ready-was_ready.result in
    let e = c.in-Err.ensures in
    let A : World → Type 0 = Both (g.N.Nodes.stands c.args.over.now.nodes) (g.M.Names.stands c.args.over.now.names) in
    let B : World → Type 0 = Both (g.N.Nodes.stands c.evaluate.new.self.nodes) (g.M.Names.stands c.evaluate.new.self.names) in
    acts_lacking A B g.N.Nodes.rule (FromUnder c.args.tree join form n) (λ setting s. value setting t s) (fired n) e.gives.items _ _ _ _ e.gives.told e.lacks e.gives.same (λ setting. value_stops setting t)
    (λ setting s stands from given. fast_fired_is c.args.tree n join sides was None setting s (c.is_fast_ready-was_ready.ensures s.world stands.0) from given)
