-- From the first line to the last.
use Rattle.std.proofs.Common.{rules, ◌≡◌, ◌∙◌, [], ◌∷◌, List, Option, map, sym, ap}
use Rattle.kj_model.specs.Log.{Body, Logged, limits_or, log_closed, log_lines, new_log, setting_of}
use Rattle.kj_model.specs.Text.{log_text}
use Rattle.promise_commands.specs.Scripts.{body_of, numbered_of}
use Rattle.promise_commands.specs.declared.script.NumberedLine.{NumberedLine}
use Rattle.promise_script.specs.Left.{with_found}
use Rattle.kj_script.proofs.run.run_on.Goals as goal

pub loop-left-init : goal.loop-left-init
loop-left-init g c =
    let bodies : List Body = map body_of c.args.script.now.bodies in
    let setting = setting_of g.N.Nodes.rule bodies in
    let first : Logged = new_log (limits_or c.args.script.now.limits) in (
      first,
      record {
        stands = c.requires;
        follows = c.in_ok-steps.ensures;
        printed = c.new-text.ensures;
      },
      ap (λ (xs : List NumberedLine). log_lines setting (map numbered_of xs) first) (sym c.lines-left.ensures),
    )

pub loop-left-preserved : goal.loop-left-preserved
loop-left-preserved g c =
    let bodies : List Body = map body_of c.args.script.now.bodies in
    let setting = setting_of g.N.Nodes.rule bodies in
    let before = c.loop-left.invariant in
    let now : Logged = before.0 in
    let left : c.loop-left.left ≡ c.in-Some.line ∷ c.next.new.self =
    c.in_ok-line.ensures.next ∙ ap (λ (o : Option NumberedLine). with_found o c.next.new.self) c.in-Some.is in (
      _,
      c.in_ok-do_line.ensures bodies now before.1,
      before.2 ∙ ap (λ (xs : List NumberedLine). log_lines setting (map numbered_of xs) now) left,
    )

pub returns : goal.returns
returns g c =
    let bodies : List Body = map body_of c.args.script.now.bodies in
    let setting = setting_of g.N.Nodes.rule bodies in
    let first : Logged = new_log (limits_or c.args.script.now.limits) in
    let before = c.loop-left.invariant in
    let now : Logged = before.0 in
    let none : c.loop-left.left ≡ [] = search rules in
    let all : log_lines setting (map numbered_of c.args.script.now.lines) first ≡ now = before.2 ∙ ap (λ (xs : List NumberedLine). log_lines setting (map numbered_of xs) now) none in
    c.in_ok-close.ensures bodies now before.1 ∙ ap (λ (l : Logged). log_text (log_closed l)) (sym all)
