-- As many bodies as spots.
use Rattle.std.proofs.Common.{◌∙◌, ap, length, List}
use Rattle.promise_commands.specs.Script.{Script}
use Rattle.promise_script.specs.declared.spots.Spot.{Spot}
use Rattle.promise_script.specs.Kept.{text_script}
use Rattle.promise_script.proofs.Outside.{as_many}
use Rattle.promise_script.proofs.script.Script.body_count.Goals as goal

pub returns : goal.returns
returns c =
    ap (λ (ss : List Spot). length ss) c.as_slice.ensures
    ∙ as_many c.self.inside.octets.now c.self.inside.spots (text_script c.self.inside.octets.now).bodies c.self.invariant.spots_are
    ∙ ap (λ (s : Script). length s.bodies) c.self.view_is
