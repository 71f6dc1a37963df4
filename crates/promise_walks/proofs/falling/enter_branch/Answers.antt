use Rattle.std.proofs.Common.{ap, sym, ◌∙◌, Bool, ◌∷◌}
use Rattle.std.specs.Prelude.{false}
use Rattle.promise_walks.specs.Stacks.{falls_count}
use Rattle.promise_walks.proofs.Fallen.{entered_branch, marks_left, is_there}
use Rattle.promise_walks.proofs.falling.enter_branch.Goals as goal

pub returns-then-goes_too-clause-enters : goal.returns-then-goes_too-clause-enters
returns-then-goes_too-clause-enters g c w way gone stands marks stays is =
    let n = c.args.node.number.0 in
    let now = marks_left _ _ way gone n marks stays (c.mark.ensures.marks w stands (is_there _ _ is)) in
    entered_branch w _ way gone c.args.node c.args.hub 1 now stays is
    (ap (λ (b : Bool). falls_count b false) (sym c.if-goes_too.true ∙ c.goes_too.ensures w (n ∷ way) gone (c.mark.ensures.stands w stands) now))

pub returns-else-goes_too-clause-enters : goal.returns-else-goes_too-clause-enters
returns-else-goes_too-clause-enters g c w way gone stands marks stays is =
    let n = c.args.node.number.0 in
    let now = marks_left _ _ way gone n marks stays (c.mark.ensures.marks w stands (is_there _ _ is)) in
    entered_branch w _ way gone c.args.node c.args.hub 0 now stays is
    (ap (λ (b : Bool). falls_count b false) (sym c.if-goes_too.false ∙ c.goes_too.ensures w (n ∷ way) gone (c.mark.ensures.stands w stands) now))
