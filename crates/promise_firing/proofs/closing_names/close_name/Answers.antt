use Rattle.std.proofs.Common.{refl, ap, subst, [], Option}
use Rattle.kj_model.specs.World.{World, State, held_at}
use Rattle.kj_model.specs.Changes.{silent, unnamed}
use Rattle.kj_model.specs.Calls.{closed_held}
use Rattle.promise_nodes.proofs.Listed.{lists_unnamed}
use Rattle.promise_names.specs.declared.names.Held.{Held as HeldCase}
use Rattle.promise_names.specs.Held.{held_shown, SeesHeld}
use Rattle.promise_walks.specs.Walks.{Both}
use Rattle.promise_walks.proofs.Composed.{does_from}
use Rattle.promise_firing.specs.Closed.{name_closed, set_closed}
use Rattle.promise_walks.proofs.Changing.{does_behind, does_both, does_none}
use Rattle.promise_firing.proofs.Sets.{no_name_first, tasks_first}
use Rattle.promise_firing.proofs.closing_names.close_name.Goals as goal

pub returns-in-Some-clause-does : goal.returns-in-Some-clause-does
returns-in-Some-clause-does g c =
    let name = c.args.name.0 in
    let held = c.in-Some.held in
    let A : World → Type 0 = Both (g.N.Nodes.stands c.args.nodes.now) (g.M.Names.stands c.args.names.now) in
    let B : World → Type 0 = Both (g.N.Nodes.stands c.close_tasks.new.nodes) (g.M.Names.stands c.close_tasks.new.names) in
    let C : World → Type 0 = Both (g.N.Nodes.stands c.clear_list.new.self) (g.M.Names.stands c.remove.new.self) in
    let D : World → Type 0 = Both (g.N.Nodes.stands c.close_held.new.nodes) (g.M.Names.stands c.close_held.new.names) in
    let rest : State → State = λ s. closed_held (held_shown [] held) (silent (unnamed name) s) in
    does_from A D (λ s. rest (set_closed name s)) (name_closed name) (λ s. s) _ _
    (λ s stands. tasks_first held name s (g.met.M.Names.rising c.args.names.now s.world stands.1) (subst (λ (o : Option HeldCase). SeesHeld o (held_at name s.world.names)) c.in-Some.is (c.get-held.ensures.held s.world stands.1)))
    (does_both A B D (set_closed name) rest _ _ _ c.close_tasks.ensures.does
    (does_behind B C D (closed_held (held_shown [] held)) (unnamed name) _ _
    (λ w stands. (c.clear_list.ensures.stands w (unnamed name w) stands.0 refl (lists_unnamed name w), c.remove.ensures.stands w stands.1))
    c.close_held.ensures.does))

pub returns-in_default-clause-does : goal.returns-in_default-clause-does
returns-in_default-clause-does g c =
    let name = c.args.name.0 in
    let A : World → Type 0 = Both (g.N.Nodes.stands c.args.nodes.now) (g.M.Names.stands c.args.names.now) in
    let B : World → Type 0 = Both (g.N.Nodes.stands c.close_tasks.new.nodes) (g.M.Names.stands c.close_tasks.new.names) in
    let C : World → Type 0 = Both (g.N.Nodes.stands c.clear_list.new.self) (g.M.Names.stands c.remove.new.self) in
    let rest : State → State = λ s. silent (unnamed name) s in
    does_from A C (λ s. rest (set_closed name s)) (name_closed name) (λ s. s) _ _
    (λ s stands. no_name_first name s (subst (λ (o : Option HeldCase). SeesHeld o (held_at name s.world.names)) c.in_default.is (c.get-held.ensures.held s.world stands.1)))
    (does_both A B C (set_closed name) rest _ _ _ c.close_tasks.ensures.does
    (does_behind B C C (λ s. s) (unnamed name) _ _
    (λ w stands. (c.clear_list.ensures.stands w (unnamed name w) stands.0 refl (lists_unnamed name w), c.remove.ensures.stands w stands.1))
    (does_none C _)))
