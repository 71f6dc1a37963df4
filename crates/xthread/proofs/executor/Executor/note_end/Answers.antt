use Rattle.std.proofs.Common.{ap, ◌∙◌, sym, length, arith}
use Rattle.count_lock.specs.Passes.{constant, seen}
use Rattle.executor_core.specs.Histories.{board_of}
use Rattle.xthread.specs.Stock.{Book}
use Rattle.xthread.proofs.Marks.{last_is, ends_there, ends_it, ends_below, one_marked, noted_by}
use Rattle.xthread.proofs.executor.Executor.note_end.Goals as goal

pub mark-requires-clause-word : goal.mark-requires-clause-word
mark-requires-clause-word g c = let noted = c.note-noted.ensures in let e = c.args.entry in let es = ap (λ (b : Book). b.entries) (c.value.ensures ∙ noted.value) ∙ c.requires.value.0 in
    let below = ends_below e c.args.request c.requires.ends _ _ c.requires.legal in let same = last_is _ e _ _ es c.last_place-place.ensures noted.pass.2 in
    let words = c.requires.lock.2 in let short = c.requires.entry.1 in let at = noted.pass.2 in (omega arith, same, omega arith)

pub mark-requires-clause-ends : goal.mark-requires-clause-ends
mark-requires-clause-ends g c = let noted = c.note-noted.ensures in let e = c.args.entry in let es = ap (λ (b : Book). b.entries) (c.value.ensures ∙ noted.value) ∙ c.requires.value.0 in
    ends_there _ e c.args.request _ noted.pass.0.constant noted.seen.0 c.requires.legal (ends_it e c.args.request c.requires.ends (board_of (constant c.args.pass.now) (seen c.args.pass.now))) (c.last_place-place.ensures ∙ ap length (es ∙ sym noted.seen.0))

pub release-requires-clause-marked : goal.release-requires-clause-marked
release-requires-clause-marked g c = let noted = c.note-noted.ensures in let m = c.mark.ensures in
    one_marked c.args.entry c.args.request c.requires.ends _ _ (m.pass.0.constant ∙ noted.pass.0.constant) (m.same.0 ∙ noted.seen.0) (m.marked.0 ∙ noted.pass.2) m.marked.1

pub returns : goal.returns
returns g c = let noted = c.note-noted.ensures in let m = c.mark.ensures in let r = c.release.ensures in
    noted_by noted.pass.0 noted.seen noted.kin noted.accounts m.pass.0 m.same r.pass.0 r.same r.pass.1 r.accounts
