use Rattle.std.proofs.Common.{◌∙◌, Bool, sym, ap, subst}
use Rattle.kj_model.specs.Apply.{Unknown, WrongKind}
use Rattle.kj_model.specs.Calls.{NotThere, WaitStopped, wait, wait_unless}
use Rattle.kj_model.specs.World.{World, Setting, held_at}
use Rattle.promise_names.specs.Held.{SeesHeld}
use Rattle.loop_core.specs.Loops.{StandsAt}
use Rattle.promise_commands.specs.Waits.{waited_of}
use Rattle.loop_core.specs.Waits.{MayHold, StandsIn, waited_as}
use Rattle.loop_core.proofs.Called.{call_less}
use Rattle.loop_core.proofs.WaitEnds.{none_seen, root_seen, wait_ends, wait_stays, wrong_seen}
use Rattle.loop_core.proofs.waits.wait_over.Goals as goal

pub returns-then-has_ended-clause-waits : goal.returns-then-has_ended-clause-waits
returns-then-has_ended-clause-waits g c =
    let rule = g.N.Nodes.rule in
    let Nodes : World → Type 0 = g.N.Nodes.stands c.args.over.now.nodes in
    let Names : World → Type 0 = g.M.Names.stands c.args.over.now.names in
    wait_stays rule Nodes Names c.args.name.0 c.args.turns WaitStopped _ _
    (λ setting s old. ap (λ (b : Bool). wait_unless b setting c.args.name.0 c.args.turns s) (sym (c.has_ended.ensures.stopped s.world old.stands.1 old.kept.left_over) ∙ c.if-has_ended.true))

pub returns-in_default-clause-waits : goal.returns-in_default-clause-waits
returns-in_default-clause-waits g c =
    let rule = g.N.Nodes.rule in
    let name = c.args.name.0 in
    let turns = c.args.turns in
    let Nodes : World → Type 0 = g.N.Nodes.stands c.args.over.now.nodes in
    let Names : World → Type 0 = g.M.Names.stands c.args.over.now.names in
    wait_stays rule Nodes Names name turns (NotThere (Unknown name)) _ _
    (λ setting s old. ap (λ (b : Bool). wait_unless b setting name turns s) (sym (c.has_ended.ensures.stopped s.world old.stands.1 old.kept.left_over) ∙ c.if-has_ended.false)
    ∙ none_seen setting name turns (held_at name s.world.names) s (subst (λ o. SeesHeld o (held_at name s.world.names)) c.in_default.is (c.held_over.ensures.held s.world old.stands.1)))

pub returns-in-None-clause-waits : goal.returns-in-None-clause-waits
returns-in-None-clause-waits g c =
    let rule = g.N.Nodes.rule in
    let name = c.args.name.0 in
    let turns = c.args.turns in
    let Nodes : World → Type 0 = g.N.Nodes.stands c.args.over.now.nodes in
    let Names : World → Type 0 = g.M.Names.stands c.args.over.now.names in
    wait_stays rule Nodes Names name turns (NotThere (WrongKind name)) _ _
    (λ setting s old. ap (λ (b : Bool). wait_unless b setting name turns s) (sym (c.has_ended.ensures.stopped s.world old.stands.1 old.kept.left_over) ∙ c.if-has_ended.false)
    ∙ wrong_seen setting name turns c.in-Some.held (held_at name s.world.names) s (c.in-Some.ensures.held s.world old.stands.1) (sym c.in-None.ensures))

pub returns-in-Some-promise_of-clause-waits : goal.returns-in-Some-promise_of-clause-waits
returns-in-Some-promise_of-clause-waits g c =
    let rule = g.N.Nodes.rule in
    let name = c.args.name.0 in
    let root = c.in-Some-promise_of.root.number.0 in
    let turns = c.args.turns in
    let Nodes : World → Type 0 = g.N.Nodes.stands c.args.over.now.nodes in
    let Names : World → Type 0 = g.M.Names.stands c.args.over.now.names in
    let NewNodes : World → Type 0 = g.N.Nodes.stands c.wait_for.new.over.nodes in
    let NewNames : World → Type 0 = g.M.Names.stands c.wait_for.new.over.names in
    wait_ends rule Nodes Names NewNodes NewNames name turns (waited_of c.wait_for.result) _ _ _ _
    (call_less (MayHold rule Nodes Names name root) (StandsIn NewNodes NewNames) (StandsAt rule Nodes Names) rule (λ (setting : Setting). wait setting name turns) (λ (setting : Setting). waited_as c.wait_for.result) _ _ _ _
    (λ s old. record {
      stands = old;
      runs = sym (c.has_ended.ensures.stopped s.world old.stands.1 old.kept.left_over) ∙ c.if-has_ended.false;
      held = root_seen root c.in-Some.held (held_at name s.world.names) (c.in-Some.ensures.held s.world old.stands.1) (sym c.in-Some-promise_of.ensures);
    }) c.wait_for.ensures.waits)
