-- An input that is a script, and one with a line at fault.
use Rattle.std.proofs.Common.{◌∙◌, Err, List, ℕ, subst}
use Rattle.promise_script.specs.Scripts.{IsBadLine, IsNotBuiltLine, IsReadAs, IsScriptText}
use Rattle.promise_script.specs.declared.reader.ReadRefused.{ReadRefused}
use Rattle.kj_serve.proofs.Ran.{ran_ends}
use Rattle.kj_serve.proofs.Refused.{bad_line_ends, not_built_ends}
use Rattle.kj_serve.proofs.run.run_command.Goals as goal

pub returns-in-Err-Bad : goal.returns-in-Err-Bad
returns-in-Err-Bad g c =
    let e = c.write_numbered.ensures in
    let w = c.in-Whole.ensures in
    let read = subst (λ (r : ReadRefused). IsReadAs c.as_slice.result.now (Err r)) c.in-Err-Bad.field-0-is c.in-Err-Bad.ensures.text in
    let fault = subst (λ (x : List ℕ). IsBadLine x c.in-Err-Bad.line) c.as_slice.ensures read in
    bad_line_ends c.write_numbered.result c.in-Err-Bad.line _ _ c.in-Whole.octets (record { read = w.0; at_end = w.1; short = w.2 }) fault e.done (λ four. (e.cause four, e.front four)) e.no_memory e.statuses

pub returns-in-Err-NotBuilt : goal.returns-in-Err-NotBuilt
returns-in-Err-NotBuilt g c =
    let e = c.write_numbered-in-Err-NotBuilt.ensures in
    let w = c.in-Whole.ensures in
    let read = subst (λ (r : ReadRefused). IsReadAs c.as_slice.result.now (Err r)) c.in-Err-NotBuilt.field-0-is c.in-Err-NotBuilt.ensures.text in
    let fault = subst (λ (x : List ℕ). IsNotBuiltLine x c.in-Err-NotBuilt.line) c.as_slice.ensures read in
    not_built_ends c.write_numbered-in-Err-NotBuilt.result c.in-Err-NotBuilt.line _ _ c.in-Whole.octets (record { read = w.0; at_end = w.1; short = w.2 }) fault e.done (λ four. (e.cause four, e.front four)) e.no_memory e.statuses

pub returns-in-Ok-run_script : goal.returns-in-Ok-run_script
returns-in-Ok-run_script g c =
    let e = c.finish.ensures in
    let w = c.in-Whole.ensures in
    let text = subst (λ (x : List ℕ). IsScriptText x c.in-Ok.script) c.as_slice.ensures c.in-Ok.ensures.text in
    ran_ends c.finish.result _ _ c.in-Whole.octets c.as_slice-in-Ok-run_script.result.now (record { read = w.0; at_end = w.1; short = w.2 })
    (record { script = c.in-Ok.script; text = text; log = c.as_slice-in-Ok-run_script.ensures ∙ c.in-Ok-run_script.ensures })
    e.done (λ four. (e.cause four, e.front four)) e.statuses
