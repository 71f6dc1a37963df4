-- What was read is what the text says, and a script's numbers fit.
use Rattle.std.proofs.Common.{Result, subst}
use Rattle.promise_script.specs.declared.kept.Kept.{Kept}
use Rattle.promise_script.specs.declared.reader.ReadRefused.{ReadRefused}
use Rattle.promise_script.specs.Kept.{IsKeptAs}
use Rattle.promise_script.proofs.Reading.{fits, is_refused, is_script}
use Rattle.promise_script.proofs.reader.read.Goals as goal

pub returns-in-Ok-clause-text : goal.returns-in-Ok-clause-text
returns-in-Ok-clause-text c =
    is_script c.args.octets.now c.in-Ok.kept (subst (λ (r : Result Kept ReadRefused). IsKeptAs c.args.octets.now r) c.in-Ok.is c.read_lines.ensures)

pub returns-in-Ok-clause-fits : goal.returns-in-Ok-clause-fits
returns-in-Ok-clause-fits c =
    fits c.args.octets.now c.in-Ok.kept (subst (λ (r : Result Kept ReadRefused). IsKeptAs c.args.octets.now r) c.in-Ok.is c.read_lines.ensures)

pub returns-in-Err-clause-text : goal.returns-in-Err-clause-text
returns-in-Err-clause-text c =
    is_refused c.args.octets.now c.in-Err.refused (subst (λ (r : Result Kept ReadRefused). IsKeptAs c.args.octets.now r) c.in-Err.is c.read_lines.ensures)
