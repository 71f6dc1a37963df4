use Rattle.std.proofs.Common.{ap, sym, ◌∙◌, length, arith, cond, Bool, ℕ}
use Rattle.count_lock.specs.Passes.{constant, seen}
use Rattle.executor_core.specs.Acts.{Desk}
use Rattle.xthread.specs.Stock.{Book}
use Rattle.xthread.specs.Answers.{board}
use Rattle.executor_core.proofs.Ends.{end_below}
use Rattle.xthread.proofs.Closing.{closing}
use Rattle.xthread.proofs.Marks.{last_is, ends_there, unstarted_is, marking_more, marking_else, board_at, all_marked, noted_by}
use Rattle.xthread.proofs.executor.Executor.note_close.Goals as goal
use Rattle.xthread.proofs.executor.Executor.note_close.Goals.{then-is_unstarted, else-is_unstarted}

pub mark-requires-clause-word : goal.mark-requires-clause-word
mark-requires-clause-word g c = let noted = c.note-noted.ensures in let i = c.loop-number.invariant in
    let waits = unstarted_is c.is_unstarted.result (constant c.args.pass.now) (seen c.args.pass.now) c.loop-number.number (c.value-in-loop-number.ensures ∙ noted.value) c.requires.value c.is_unstarted.ensures in
    let es = ap (λ (b : Book). b.entries) (c.value.ensures ∙ noted.value) ∙ c.requires.value.0 in
    let below = end_below (constant c.args.pass.now) (seen c.args.pass.now) closing c.loop-number.number c.requires.legal (waits ∙ ap (λ (b : Bool). cond {A = ℕ} b 1 0) c.if-is_unstarted.true) in
    let same = last_is (seen c.args.pass.now) closing _ _ es c.last_place-place.ensures noted.pass.2 in
    let words = c.requires.lock.2 in let short = c.requires.target.1 in let at = noted.pass.2 in (omega arith, same ∙ sym i.place_same, omega arith)

pub mark-requires-clause-ends : goal.mark-requires-clause-ends
mark-requires-clause-ends g c = let noted = c.note-noted.ensures in let i = c.loop-number.invariant in
    let waits = unstarted_is c.is_unstarted.result (constant c.args.pass.now) (seen c.args.pass.now) c.loop-number.number (c.value-in-loop-number.ensures ∙ noted.value) c.requires.value c.is_unstarted.ensures in
    let es = ap (λ (b : Book). b.entries) (c.value.ensures ∙ noted.value) ∙ c.requires.value.0 in let sees = i.sees.0 ∙ noted.seen.0 in
    ends_there (seen c.args.pass.now) closing c.loop-number.number c.last_place-place.result (i.same.constant ∙ noted.pass.0.constant) sees c.requires.legal
    (waits ∙ ap (λ (b : Bool). cond {A = ℕ} b 1 0) c.if-is_unstarted.true) (c.last_place-place.ensures ∙ ap length (es ∙ sym sees))

pub loop-number-preserved : goal.loop-number-preserved
loop-number-preserved g c = let noted = c.note-noted.ensures in let i = c.loop-number.invariant in
    let waits = unstarted_is c.is_unstarted.result (constant c.args.pass.now) (seen c.args.pass.now) c.loop-number.number (c.value-in-loop-number.ensures ∙ noted.value) c.requires.value c.is_unstarted.ensures in
    elim c.if-is_unstarted.branch [
      | then-is_unstarted w ↦ let m = w.mark.ensures in marking_more w.pass-is i m.pass.0 m.pass.1 m.marked m.same
      | else-is_unstarted w ↦ marking_else w.pass-is i (waits ∙ ap (λ (b : Bool). cond {A = ℕ} b 1 0) w.if-is_unstarted.false)
    ]

pub release-requires-clause-marked : goal.release-requires-clause-marked
release-requires-clause-marked g c = let noted = c.note-noted.ensures in let i = c.loop-number.invariant in
    let many = c.submitted-number-end.ensures ∙ ap (λ (b : Book). length (board b).requests) (c.value-2.ensures ∙ noted.value) ∙ ap (λ (d : Desk). length d.requests) (board_at c.requires.value) in
    let test = c.loop-number-test.false in
    all_marked _ (seen c.args.pass.now) _ (i.same.constant ∙ noted.pass.0.constant) (i.sees.0 ∙ noted.seen.0) (i.place_same ∙ noted.pass.2) c.requires.legal (omega arith) i.below

pub returns : goal.returns
returns g c = let noted = c.note-noted.ensures in let i = c.loop-number.invariant in let r = c.release.ensures in
    noted_by noted.pass.0 noted.seen noted.kin noted.accounts i.same i.sees r.pass.0 r.same r.pass.1 r.accounts
