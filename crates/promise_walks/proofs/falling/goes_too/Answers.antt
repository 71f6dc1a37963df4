use Rattle.std.proofs.Common.{sym, ◌∙◌}
use Rattle.promise_walks.proofs.Seen.{goes_gone, goes_by}
use Rattle.promise_walks.proofs.falling.goes_too.Goals as goal

pub returns-then-is_gone : goal.returns-then-is_gone
returns-then-is_gone g c w way gone stands marks = goes_gone way gone c.args.hub.number.0 w.nodes (sym (c.is_gone.ensures way gone marks) ∙ c.if-is_gone.true)

pub returns : goal.returns
returns g c w way gone stands marks =
    c.are_off.ensures w way gone stands marks
    ∙ goes_by way gone c.args.hub.number.0 w.nodes c.is_unnamed_hub.result (sym (c.is_gone.ensures way gone marks) ∙ c.if-is_gone.false) c.if-not-is_unnamed_hub.false (c.is_unnamed_hub.ensures w stands)
