use Rattle.std.proofs.Common.{◌≡◌, ◌∙◌, sym, ap, ℕ, Option, None, Some}
use Rattle.kj_model.specs.Nodes.{Form, Chain, form_at}
use Rattle.kj_model.specs.World.{World, State, Setting}
use Rattle.kj_model.specs.Value.{Given, value_link}
use Rattle.kj_model.specs.Fire.{chain_ended, fire_form}
use Rattle.kj_ownership.proofs.Lacks.{link_stops}
use Rattle.promise_walks.specs.Walks.{Both}
use Rattle.promise_walks.specs.Values.{given_of}
use Rattle.promise_firing.specs.Outliving.{MayEnd}
use Rattle.promise_turns.specs.declared.looks.Event.TheVariants.{Takes}
use Rattle.promise_turns.specs.Events.{From, fired}
use Rattle.promise_turns.proofs.Acted.{acts_then, acts_lacking}
use Rattle.promise_turns.proofs.Outliving.{may_end}
use Rattle.promise_turns.proofs.ending.fire_chain.Goals as goal

chain_fired : (setting : Setting) (n link : ℕ) (given : Option Given) (s : State) → form_at n s.world.nodes ≡ Some (Chain link) → (value_link setting link s).1 ≡ given → chain_ended n link given (value_link setting link s).0 ≡ fired n setting s
chain_fired setting n link given s at is = sym (ap (λ (o : Option Form). fire_form setting n o s) at ∙ ap (λ (x : Option Given). chain_ended n link x (value_link setting link s).0) is)

pub returns-in-Ok-clause-acts : goal.returns-in-Ok-clause-acts
returns-in-Ok-clause-acts g c =
    let n = c.args.node.number.0 in
    let t = c.args.link.number.0 in
    let x = given_of c.in-Ok.given in
    let e = c.in-Ok.ensures in
    let d = c.give.ensures.does in
    let A : World → Type 0 = Both (g.N.Nodes.stands c.args.over.now.nodes) (g.M.Names.stands c.args.over.now.names) in
    let B : World → Type 0 = Both (g.N.Nodes.stands c.evaluate_link.new.self.nodes) (g.M.Names.stands c.evaluate_link.new.self.names) in
    let C : World → Type 0 = Both (g.N.Nodes.stands c.give.new.over.nodes) (g.M.Names.stands c.give.new.over.names) in
    acts_then A B C (MayEnd n t x) g.N.Nodes.rule (From (Takes c.args.link) n) (λ setting s. value_link setting t s) x (fired n) (λ setting. chain_ended n t (Some x)) e.gives.items d.items _ _ _ _ _ _
    e.gives.told d.told e.lacks c.give.ensures.lacks e.gives.same (λ setting. d.moves)
    (λ setting s from given. may_end setting n t x s from.0 from.1 from.2 given)
    (λ setting s stands from given. chain_fired setting n t (Some x) s from.2 given)

pub returns-in-Err-clause-acts : goal.returns-in-Err-clause-acts
returns-in-Err-clause-acts g c =
    let n = c.args.node.number.0 in
    let t = c.args.link.number.0 in
    let e = c.in-Err.ensures in
    let A : World → Type 0 = Both (g.N.Nodes.stands c.args.over.now.nodes) (g.M.Names.stands c.args.over.now.names) in
    let B : World → Type 0 = Both (g.N.Nodes.stands c.evaluate_link.new.self.nodes) (g.M.Names.stands c.evaluate_link.new.self.names) in
    acts_lacking A B g.N.Nodes.rule (From (Takes c.args.link) n) (λ setting s. value_link setting t s) (fired n) e.gives.items _ _ _ _ e.gives.told e.lacks e.gives.same (λ setting. link_stops setting t)
    (λ setting s stands from given. chain_fired setting n t None s from.2 given)
