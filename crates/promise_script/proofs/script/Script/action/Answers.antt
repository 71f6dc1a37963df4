-- The action from the place of a spot is that of the body.
use Rattle.std.proofs.Common.{rules, ◌≡◌, ◌∙◌, ◌<◌, ◌≤◌, ap, sym, subst, length, drop, get_or, List, [], IfOk}
use Rattle.promise_commands.specs.declared.action.Action.{Action}
use Rattle.promise_commands.specs.Script.{Body, Script, body_at}
use Rattle.promise_script.specs.declared.spots.Spot.{Spot}
use Rattle.promise_script.specs.ScriptText.{lines_of}
use Rattle.promise_script.specs.Kept.{text_script}
use Rattle.promise_script.specs.Left.{action_from}
use Rattle.promise_script.proofs.Outside.{none_at, one_at}
use Rattle.promise_script.proofs.script.Script.action.Goals as goal

pub returns-in-Some : goal.returns-in-Some
returns-in-Some c =
    let ss : List Spot = c.self.inside.spots in
    let within : c.args.which < length ss = search rules in
    let is : c.in-Some.spot.now ≡ get_or ss c.args.which c.in-Some.spot.now = search rules in
    let at = one_at c.self.inside.octets.now ss (text_script c.self.inside.octets.now).bodies c.args.which c.in-Some.spot.now c.self.invariant.spots_are within in
    let same : action_from [] (lines_of c.text_from.result.now) ≡ (body_at c.args.self.now.bodies c.args.which).action =
    ap (λ xs. action_from [] (lines_of xs)) c.text_from.ensures
    ∙ ap (λ (x : Spot). action_from [] (lines_of (drop x.place c.self.inside.octets.now))) is
    ∙ at.action ∙ ap (λ (s : Script). (body_at s.bodies c.args.which).action) c.self.view_is in
    subst (λ (a : Action). IfOk c.read_action.result (λ action. action ≡ a)) same c.read_action.ensures

pub returns-in-None : goal.returns-in-None
returns-in-None c =
    let ss : List Spot = c.self.inside.spots in
    let beyond : length ss ≤ c.args.which = search rules in
    let none = none_at c.self.inside.octets.now ss (text_script c.self.inside.octets.now).bodies c.args.which c.self.invariant.spots_are beyond in
    c.passing.ensures ∙ sym (ap (λ (b : Body). b.action) none) ∙ ap (λ (s : Script). (body_at s.bodies c.args.which).action) c.self.view_is
