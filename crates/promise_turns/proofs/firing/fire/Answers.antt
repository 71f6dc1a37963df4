use Rattle.std.proofs.Common.{◌≡◌, ◌<◌, ◌∙◌, arith, sym, ap, ℕ, Option, None}
use Rattle.kj_model.specs.Nodes.{Form, form_at}
use Rattle.kj_model.specs.World.{World, State, Setting}
use Rattle.kj_model.specs.Fire.{fire_form}
use Rattle.promise_walks.specs.Walks.{Both}
use Rattle.promise_turns.specs.Events.{FromNode, FromTaken, fired}
use Rattle.promise_turns.proofs.Acted.{acts_silent, acts_less}
use Rattle.promise_turns.proofs.firing.fire.Goals as goal

wait_is : (n : ℕ) (setting : Setting) (s : State) → n ≡ 0 → form_at 0 s.world.nodes ≡ None → fired n setting s ≡ s
wait_is n setting s zero none = ap (λ (m : ℕ). fire_form setting n (form_at m s.world.nodes) s) zero ∙ ap (λ (o : Option Form). fire_form setting n o s) none

pub returns-then-node-eq0-clause-acts : goal.returns-then-node-eq0-clause-acts
returns-then-node-eq0-clause-acts g c =
    let n = c.args.node.number.0 in
    let A : World → Type 0 = Both (g.N.Nodes.stands c.args.over.now.nodes) (g.M.Names.stands c.args.over.now.names) in
    acts_silent A A g.N.Nodes.rule (FromTaken n) (fired n) (λ s. s) (λ w. w) _ _
    (λ setting s stands from. (stands, sym (wait_is n setting s c.if-node-eq0.true from.2)))

above_zero : (n : ℕ) → (n ≡ 0 → ⊥) → 0 < n
above_zero n h = omega (arith, h)

pub returns-clause-acts : goal.returns-clause-acts
returns-clause-acts g c =
    let n = c.args.node.number.0 in
    let A : World → Type 0 = Both (g.N.Nodes.stands c.args.over.now.nodes) (g.M.Names.stands c.args.over.now.names) in
    let B : World → Type 0 = Both (g.N.Nodes.stands c.fire_node.new.over.nodes) (g.M.Names.stands c.fire_node.new.over.names) in
    acts_less A B g.N.Nodes.rule (FromNode n) (FromTaken n) (fired n) (λ s. s) _ _ _ _
    (λ setting s stands from. (from.0, from.1 (above_zero n c.if-node-eq0.false), from.3))
    c.fire_node.ensures.acts
