-- The octets that were read are the text of what was read.
use Rattle.std.proofs.Common.{subst}
use Rattle.promise_commands.specs.Script.{Script}
use Rattle.promise_script.specs.ScriptText.{lines_of}
use Rattle.promise_script.specs.Kept.{text_script}
use Rattle.promise_script.specs.Scripts.{IsScriptText}
use Rattle.promise_script.proofs.Sounds.{script_sound}
use Rattle.promise_script.proofs.script.Script.text.Goals as goal

pub returns : goal.returns
returns c =
    subst (λ (s : Script). IsScriptText c.self.inside.octets.now s) c.self.view_is
    (script_sound (lines_of c.self.inside.octets.now) (text_script c.self.inside.octets.now) c.self.invariant.read)
