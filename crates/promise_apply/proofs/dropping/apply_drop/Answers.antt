use Rattle.std.proofs.lemmas.Bool.{false≢true}
use Rattle.std.proofs.Common.{◌∙◌, [], ◌∷◌, Option, None, Some, sym, ap, subst}
use Rattle.kj_base.specs.Commands.{Drop}
use Rattle.kj_model.specs.World.{World, held_at}
use Rattle.kj_model.specs.Uses.{Use}
use Rattle.promise_commands.specs.Refusals.{refusal_of}
use Rattle.promise_names.specs.declared.names.Held.{Held as HeldCase}
use Rattle.promise_names.specs.Held.{SeesHeld}
use Rattle.promise_apply.specs.Building.{Both}
use Rattle.promise_apply.specs.Applying.{refused_first}
use Rattle.promise_apply.proofs.Told.{silent_does}
use Rattle.promise_apply.proofs.Dropped.{droppable, err_does, is_droppable, never_does, refused_named, sees_canceler, sees_droppable, sees_hub, sees_promise, sees_set}
use Rattle.promise_apply.proofs.dropping.apply_drop.Goals as goal

pub returns-in_err-check_named-clause-applied : goal.returns-in_err-check_named-clause-applied
returns-in_err-check_named-clause-applied g c =
    let name = c.args.name.0 in
    let A : World → Type 0 = Both (g.N.Nodes.stands c.args.nodes.now) (g.M.Names.stands c.args.names.now) in
    err_does A A g.N.Nodes.rule c.from_residual.result c.in_err-check_named.field-0.0 (Drop name) _ c.from_residual.ensures.1 (λ w old. old)
    (λ answer inside s old. refused_named g.N.Nodes.rule answer inside name _ s (c.in_err-check_named.ensures.refusal s.world old ∙ ap (λ (u : Use). refused_first (u ∷ []) s.world) c.dropped.ensures))

pub drop_promise-requires-clause-held : goal.drop_promise-requires-clause-held
drop_promise-requires-clause-held g c w old = record {
  held_is = sees_promise c.in-Some-Promise.root (held_at c.args.name.0 w.names) (subst (λ (o : Option HeldCase). SeesHeld o (held_at c.args.name.0 w.names)) (c.in-Some-Promise.is ∙ ap (λ (h : HeldCase). Some h) c.in-Some-Promise.field-0-is) (c.get.ensures.held w old.1));
  passes = sym (c.in_ok-check_named.ensures.refusal w old ∙ ap (λ (u : Use). refused_first (u ∷ []) w) c.dropped.ensures);
}

pub drop_hub-requires-clause-held : goal.drop_hub-requires-clause-held
drop_hub-requires-clause-held g c w old = record {
  held_is = sees_hub c.in-Some-HubOf.hub (held_at c.args.name.0 w.names) (subst (λ (o : Option HeldCase). SeesHeld o (held_at c.args.name.0 w.names)) (c.in-Some-HubOf.is ∙ ap (λ (h : HeldCase). Some h) c.in-Some-HubOf.field-0-is) (c.get.ensures.held w old.1));
  passes = sym (c.in_ok-check_named.ensures.refusal w old ∙ ap (λ (u : Use). refused_first (u ∷ []) w) c.dropped.ensures);
}

pub drop_set-requires-clause-passes : goal.drop_set-requires-clause-passes
drop_set-requires-clause-passes g c w old = sym (c.in_ok-check_named.ensures.refusal w old ∙ ap (λ (u : Use). refused_first (u ∷ []) w) c.dropped.ensures)

pub drop_set-requires-clause-tasks : goal.drop_set-requires-clause-tasks
drop_set-requires-clause-tasks g c w names =
    sees_set c.in-Some-Group.field-0-0 c.in-Some-Group.tasks c.in-Some-Group.empty (held_at c.args.name.0 w.names)
    (subst (λ (o : Option HeldCase). SeesHeld o (held_at c.args.name.0 w.names)) (c.in-Some-Group.is ∙ ap (λ (h : HeldCase). Some h) c.in-Some-Group.field-0-is) (c.get.ensures.held w names))

pub drop_canceler-requires-clause-held : goal.drop_canceler-requires-clause-held
drop_canceler-requires-clause-held g c w old = record {
  canceler = sees_canceler (held_at c.args.name.0 w.names) (subst (λ (o : Option HeldCase). SeesHeld o (held_at c.args.name.0 w.names)) (c.in-Some-Canceler.is ∙ ap (λ (h : HeldCase). Some h) c.in-Some-Canceler.field-0-is) (c.get.ensures.held w old.1));
  passes = sym (c.in_ok-check_named.ensures.refusal w old ∙ ap (λ (u : Use). refused_first (u ∷ []) w) c.dropped.ensures);
}

pub returns-in-Some-Canceler-clause-applied : goal.returns-in-Some-Canceler-clause-applied
returns-in-Some-Canceler-clause-applied g c =
    silent_does (Both (g.N.Nodes.stands c.args.nodes.now) (g.M.Names.stands c.args.names.now)) (Both (g.N.Nodes.stands c.args.nodes.now) (g.M.Names.stands c.drop_canceler.new.names)) g.N.Nodes.rule
    (refusal_of c.drop_canceler.result) (Drop c.args.name.0) _ c.drop_canceler.ensures.applied

pub returns-in-Some-CellOf-clause-applied : goal.returns-in-Some-CellOf-clause-applied
returns-in-Some-CellOf-clause-applied g c =
    let name = c.args.name.0 in
    let A : World → Type 0 = Both (g.N.Nodes.stands c.args.nodes.now) (g.M.Names.stands c.args.names.now) in
    never_does A A g.N.Nodes.rule None (Drop name) _
    (λ w old. false≢true (sym (ap is_droppable (c.in-Some-CellOf.is ∙ ap (λ (h : HeldCase). Some h) c.in-Some-CellOf.field-0-is))
    ∙ sees_droppable c.get.result (held_at name w.names) (c.get.ensures.held w old.1) (droppable name w (sym (c.in_ok-check_named.ensures.refusal w old ∙ ap (λ (u : Use). refused_first (u ∷ []) w) c.dropped.ensures)))))

pub returns-in-Some-AskCell-clause-applied : goal.returns-in-Some-AskCell-clause-applied
returns-in-Some-AskCell-clause-applied g c =
    let name = c.args.name.0 in
    let A : World → Type 0 = Both (g.N.Nodes.stands c.args.nodes.now) (g.M.Names.stands c.args.names.now) in
    never_does A A g.N.Nodes.rule None (Drop name) _
    (λ w old. false≢true (sym (ap is_droppable (c.in-Some-AskCell.is ∙ ap (λ (h : HeldCase). Some h) c.in-Some-AskCell.field-0-is))
    ∙ sees_droppable c.get.result (held_at name w.names) (c.get.ensures.held w old.1) (droppable name w (sym (c.in_ok-check_named.ensures.refusal w old ∙ ap (λ (u : Use). refused_first (u ∷ []) w) c.dropped.ensures)))))

pub returns-in-Some-RequestOf-clause-applied : goal.returns-in-Some-RequestOf-clause-applied
returns-in-Some-RequestOf-clause-applied g c =
    let name = c.args.name.0 in
    let A : World → Type 0 = Both (g.N.Nodes.stands c.args.nodes.now) (g.M.Names.stands c.args.names.now) in
    never_does A A g.N.Nodes.rule None (Drop name) _
    (λ w old. false≢true (sym (ap is_droppable (c.in-Some-RequestOf.is ∙ ap (λ (h : HeldCase). Some h) c.in-Some-RequestOf.field-0-is))
    ∙ sees_droppable c.get.result (held_at name w.names) (c.get.ensures.held w old.1) (droppable name w (sym (c.in_ok-check_named.ensures.refusal w old ∙ ap (λ (u : Use). refused_first (u ∷ []) w) c.dropped.ensures)))))

pub returns-in-None-clause-applied : goal.returns-in-None-clause-applied
returns-in-None-clause-applied g c =
    let name = c.args.name.0 in
    let A : World → Type 0 = Both (g.N.Nodes.stands c.args.nodes.now) (g.M.Names.stands c.args.names.now) in
    never_does A A g.N.Nodes.rule None (Drop name) _
    (λ w old. false≢true (sym (ap is_droppable c.in-None.is)
    ∙ sees_droppable c.get.result (held_at name w.names) (c.get.ensures.held w old.1) (droppable name w (sym (c.in_ok-check_named.ensures.refusal w old ∙ ap (λ (u : Use). refused_first (u ∷ []) w) c.dropped.ensures)))))
