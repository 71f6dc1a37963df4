use Rattle.std.proofs.Common.{◌≡◌, ◌∙◌, sym, subst, ℕ}
use Rattle.std.proofs.lemmas.Bool.{false≢true}
use Rattle.kj_model.specs.Nodes.{form_at}
use Rattle.kj_model.specs.World.{World, State, Setting}
use Rattle.promise_walks.specs.Walks.{Both}
use Rattle.promise_turns.specs.declared.looks.Event.{Event}
use Rattle.promise_turns.specs.declared.looks.Event.TheVariants.{Takes, Keeps, Shares, Waits, Ends, Nothing}
use Rattle.promise_turns.specs.Events.{From, FromNode, IsEvent, fired}
use Rattle.promise_turns.proofs.Acted.{acts_silent, acts_less}
use Rattle.promise_turns.proofs.firing.fire_node.Goals as goal

nothing_is : (e : Event) (n : ℕ) (setting : Setting) (s : State) → e ≡ Nothing → IsEvent e (form_at n s.world.nodes) → fired n setting s ≡ s
nothing_is e n setting s is event = subst (λ (x : Event). IsEvent x (form_at n s.world.nodes)) is event setting n s

pub returns-in-Requests-clause-acts : goal.returns-in-Requests-clause-acts
returns-in-Requests-clause-acts g c =
    let n = c.args.node.number.0 in
    let A : World → Type 0 = Both (g.N.Nodes.stands c.args.over.now.nodes) (g.M.Names.stands c.args.over.now.names) in
    acts_silent A A g.N.Nodes.rule (FromNode n) (fired n) (λ s. s) (λ w. w) _ _
    (λ setting s stands from. absurd (false≢true (sym from.2 ∙ subst (λ (e : Event). IsEvent e (form_at n s.world.nodes)) c.in-Requests.is (c.look.ensures.event s.world stands.0))))

pub returns-in-Nothing-clause-acts : goal.returns-in-Nothing-clause-acts
returns-in-Nothing-clause-acts g c =
    let n = c.args.node.number.0 in
    let A : World → Type 0 = Both (g.N.Nodes.stands c.args.over.now.nodes) (g.M.Names.stands c.args.over.now.names) in
    acts_silent A A g.N.Nodes.rule (FromNode n) (fired n) (λ s. s) (λ w. w) _ _
    (λ setting s stands from. (stands, sym (nothing_is c.look.result n setting s c.in-Nothing.is (c.look.ensures.event s.world stands.0))))

pub returns-in-Takes-clause-acts : goal.returns-in-Takes-clause-acts
returns-in-Takes-clause-acts g c =
    let n = c.args.node.number.0 in
    let A : World → Type 0 = Both (g.N.Nodes.stands c.args.over.now.nodes) (g.M.Names.stands c.args.over.now.names) in
    let B : World → Type 0 = Both (g.N.Nodes.stands c.fire_chain.new.over.nodes) (g.M.Names.stands c.fire_chain.new.over.names) in
    acts_less A B g.N.Nodes.rule (From (Takes c.in-Takes.link) n) (FromNode n) (fired n) (λ s. s) _ _ _ _
    (λ setting s stands from. (from.0, from.1, c.in-Takes.ensures.event s.world stands.0))
    c.fire_chain.ensures.acts

pub returns-in-Keeps-clause-acts : goal.returns-in-Keeps-clause-acts
returns-in-Keeps-clause-acts g c =
    let n = c.args.node.number.0 in
    let A : World → Type 0 = Both (g.N.Nodes.stands c.args.over.now.nodes) (g.M.Names.stands c.args.over.now.names) in
    let B : World → Type 0 = Both (g.N.Nodes.stands c.fire_keeping.new.over.nodes) (g.M.Names.stands c.fire_keeping.new.over.names) in
    acts_less A B g.N.Nodes.rule (From (Keeps c.in-Keeps.tree) n) (FromNode n) (fired n) (λ s. s) _ _ _ _
    (λ setting s stands from. (from.0, from.1, c.in-Keeps.ensures.event s.world stands.0))
    c.fire_keeping.ensures.acts

pub returns-in-Shares-clause-acts : goal.returns-in-Shares-clause-acts
returns-in-Shares-clause-acts g c =
    let n = c.args.node.number.0 in
    let A : World → Type 0 = Both (g.N.Nodes.stands c.args.over.now.nodes) (g.M.Names.stands c.args.over.now.names) in
    let B : World → Type 0 = Both (g.N.Nodes.stands c.fire_sharing.new.over.nodes) (g.M.Names.stands c.fire_sharing.new.over.names) in
    acts_less A B g.N.Nodes.rule (From (Shares c.in-Shares.tree) n) (FromNode n) (fired n) (λ s. s) _ _ _ _
    (λ setting s stands from. (from.0, from.1, c.in-Shares.ensures.event s.world stands.0))
    c.fire_sharing.ensures.acts

pub returns-in-Waits-clause-acts : goal.returns-in-Waits-clause-acts
returns-in-Waits-clause-acts g c =
    let n = c.args.node.number.0 in
    let A : World → Type 0 = Both (g.N.Nodes.stands c.args.over.now.nodes) (g.M.Names.stands c.args.over.now.names) in
    let B : World → Type 0 = Both (g.N.Nodes.stands c.fire_side.new.over.nodes) (g.M.Names.stands c.fire_side.new.over.names) in
    acts_less A B g.N.Nodes.rule (From (Waits c.in-Waits.tree) n) (FromNode n) (fired n) (λ s. s) _ _ _ _
    (λ setting s stands from. (from.0, from.1, c.in-Waits.ensures.event s.world stands.0))
    c.fire_side.ensures.acts

pub returns-in-Ends-clause-acts : goal.returns-in-Ends-clause-acts
returns-in-Ends-clause-acts g c =
    let n = c.args.node.number.0 in
    let A : World → Type 0 = Both (g.N.Nodes.stands c.args.over.now.nodes) (g.M.Names.stands c.args.over.now.names) in
    let B : World → Type 0 = Both (g.N.Nodes.stands c.fire_task.new.over.nodes) (g.M.Names.stands c.fire_task.new.over.names) in
    acts_less A B g.N.Nodes.rule (From (Ends c.in-Ends.tree) n) (FromNode n) (fired n) (λ s. s) _ _ _ _
    (λ setting s stands from. (from.0, from.1, c.in-Ends.ensures.event s.world stands.0))
    c.fire_task.ensures.acts
