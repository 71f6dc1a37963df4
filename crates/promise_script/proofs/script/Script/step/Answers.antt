-- The step of a spot is that of the body.
use Rattle.std.proofs.Common.{rules, ◌≡◌, ◌∙◌, ◌<◌, ◌≤◌, ap, sym, length, get_or, List}
use Rattle.promise_commands.specs.Script.{Body, Script, body_at}
use Rattle.promise_script.specs.declared.spots.Spot.{Spot}
use Rattle.promise_script.specs.Kept.{text_script}
use Rattle.promise_script.proofs.Outside.{none_at, one_at}
use Rattle.promise_script.proofs.script.Script.step.Goals as goal

pub returns-in-Some : goal.returns-in-Some
returns-in-Some c =
    let ss : List Spot = c.self.inside.spots in
    let within : c.args.which < length ss = search rules in
    let is : c.in-Some.spot.now ≡ get_or ss c.args.which c.in-Some.spot.now = search rules in
    let at = one_at c.self.inside.octets.now ss (text_script c.self.inside.octets.now).bodies c.args.which c.in-Some.spot.now c.self.invariant.spots_are within in
    ap (λ (x : Spot). x.step) is ∙ at.step ∙ ap (λ (s : Script). (body_at s.bodies c.args.which).step) c.self.view_is

pub returns-in-None : goal.returns-in-None
returns-in-None c =
    let ss : List Spot = c.self.inside.spots in
    let beyond : length ss ≤ c.args.which = search rules in
    let none = none_at c.self.inside.octets.now ss (text_script c.self.inside.octets.now).bodies c.args.which c.self.invariant.spots_are beyond in
    sym (ap (λ (b : Body). b.step) none) ∙ ap (λ (s : Script). (body_at s.bodies c.args.which).step) c.self.view_is
