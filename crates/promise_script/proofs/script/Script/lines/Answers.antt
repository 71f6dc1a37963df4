-- The lines that are left of the whole text.
use Rattle.std.proofs.Common.{◌∙◌, ap}
use Rattle.promise_commands.specs.Script.{Script}
use Rattle.promise_script.specs.Kept.{text_script}
use Rattle.promise_script.proofs.Outside.{all_lines}
use Rattle.promise_script.proofs.script.Script.lines.Goals as goal

pub returns : goal.returns
returns c =
    c.new.ensures ∙ all_lines c.self.inside.octets.now (text_script c.self.inside.octets.now) c.self.invariant.read ∙ ap (λ (s : Script). s.lines) c.self.view_is
