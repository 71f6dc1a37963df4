use Rattle.std.proofs.Common.{◌∙◌, sym, ap, subst, refl, Bool, true, false}
use Rattle.kj_model.specs.World.{World}
use Rattle.kj_model.specs.Changes.{silent}
use Rattle.kj_model.specs.Calls.{turned_by}
use Rattle.promise_walks.specs.Walks.{Both}
use Rattle.promise_walks.specs.Values.{setting_of}
use Rattle.promise_firing.specs.Events.{event_ended}
use Rattle.promise_turns.specs.declared.turned.Turned.TheVariants.{Fired, NoMemory}
use Rattle.promise_turns.specs.Events.{FromTaken, fired}
use Rattle.promise_turns.specs.Turns.{turned_as, turned_at}
use Rattle.promise_turns.proofs.Acted.{acts_after}
use Rattle.promise_turns.proofs.Taken.{none_left}
use Rattle.promise_turns.proofs.Tied.{tied, fired_runs}
use Rattle.promise_turns.proofs.turning.turn_at.Goals as goal

pub returns-then-has_ended-clause-turns : goal.returns-then-has_ended-clause-turns
returns-then-has_ended-clause-turns g c =
    let n = c.args.event.number.0 in
    let A : World → Type 0 = Both (g.N.Nodes.stands c.args.over.now.nodes) (g.M.Names.stands c.args.over.now.names) in
    let B : World → Type 0 = Both (g.N.Nodes.stands c.fire.new.over.nodes) (g.M.Names.stands c.fire.new.over.names) in
    let C : World → Type 0 = Both (g.N.Nodes.stands c.end.new.over.nodes) (g.M.Names.stands c.end.new.over.names) in
    acts_after A B C g.N.Nodes.rule (FromTaken n) (fired n) (turned_at n) (turned_as NoMemory) event_ended _ _ _ _ c.fire.ensures.acts
    (λ w stands. (c.end.ensures.nodes w stands.0, subst (λ names. g.M.Names.stands names (event_ended w)) (sym c.end.ensures.names) (g.met.M.Names.nodes_free c.fire.new.over.names w (event_ended w) refl stands.1))) (λ w. refl)
    (λ setting s old from stands.
    let none = g.met.M.Names.over_is c.args.over.now.names s.world old.1 ∙ c.requires.none_over in
    ap (λ (b : Bool). (silent event_ended (fired n setting s), turned_by b)) (c.if-has_ended.ensures.stopped (event_ended (fired n setting s).world) stands.1 (none_left n setting s from none)))

pub returns-clause-turns : goal.returns-clause-turns
returns-clause-turns g c =
    let n = c.args.event.number.0 in
    let A : World → Type 0 = Both (g.N.Nodes.stands c.args.over.now.nodes) (g.M.Names.stands c.args.over.now.names) in
    let B : World → Type 0 = Both (g.N.Nodes.stands c.fire.new.over.nodes) (g.M.Names.stands c.fire.new.over.names) in
    let C : World → Type 0 = Both (g.N.Nodes.stands c.end.new.over.nodes) (g.M.Names.stands c.end.new.over.names) in
    acts_after A B C g.N.Nodes.rule (FromTaken n) (fired n) (turned_at n) (turned_as Fired) event_ended _ _ _ _ c.fire.ensures.acts
    (λ w stands. (c.end.ensures.nodes w stands.0, subst (λ names. g.M.Names.stands names (event_ended w)) (sym c.end.ensures.names) (g.met.M.Names.nodes_free c.fire.new.over.names w (event_ended w) refl stands.1))) (λ w. refl)
    (λ setting s old from stands.
    let none = g.met.M.Names.over_is c.args.over.now.names s.world old.1 ∙ c.requires.none_over in
    ap (λ (b : Bool). (silent event_ended (fired n setting s), turned_by b)) (c.if-has_ended.ensures.stopped (event_ended (fired n setting s).world) stands.1 (none_left n setting s from none)))

pub returns-then-has_ended-clause-memory : goal.returns-then-has_ended-clause-memory
returns-then-has_ended-clause-memory g c = λ answer s stands from runs.
    let n = c.args.event.number.0 in
    let none = g.met.M.Names.over_is c.args.over.now.names s.world stands.1 ∙ c.requires.none_over in
    let A : World → Type 0 = Both (g.N.Nodes.stands c.args.over.now.nodes) (g.M.Names.stands c.args.over.now.names) in
    let B : World → Type 0 = Both (g.N.Nodes.stands c.fire.new.over.nodes) (g.M.Names.stands c.fire.new.over.names) in
    tied A B g.N.Nodes.rule (FromTaken n) (fired n) _ _ _ _ true c.fire.ensures.acts s stands (λ other. from) (λ setting finds. fired_runs n setting s runs finds)
    (λ other stood.
    let w = (fired n (setting_of g.N.Nodes.rule other) s).world in
    let names = subst (λ names. g.M.Names.stands names (event_ended w)) (sym c.end.ensures.names) (g.met.M.Names.nodes_free c.fire.new.over.names w (event_ended w) refl stood.1) in
    c.if-has_ended.ensures.stopped (event_ended w) names (none_left n (setting_of g.N.Nodes.rule other) s from none))

pub returns-clause-memory : goal.returns-clause-memory
returns-clause-memory g c = λ answer s stands from runs.
    let n = c.args.event.number.0 in
    let none = g.met.M.Names.over_is c.args.over.now.names s.world stands.1 ∙ c.requires.none_over in
    let A : World → Type 0 = Both (g.N.Nodes.stands c.args.over.now.nodes) (g.M.Names.stands c.args.over.now.names) in
    let B : World → Type 0 = Both (g.N.Nodes.stands c.fire.new.over.nodes) (g.M.Names.stands c.fire.new.over.names) in
    tied A B g.N.Nodes.rule (FromTaken n) (fired n) _ _ _ _ false c.fire.ensures.acts s stands (λ other. from) (λ setting finds. fired_runs n setting s runs finds)
    (λ other stood.
    let w = (fired n (setting_of g.N.Nodes.rule other) s).world in
    let names = subst (λ names. g.M.Names.stands names (event_ended w)) (sym c.end.ensures.names) (g.met.M.Names.nodes_free c.fire.new.over.names w (event_ended w) refl stood.1) in
    c.if-has_ended.ensures.stopped (event_ended w) names (none_left n (setting_of g.N.Nodes.rule other) s from none))
