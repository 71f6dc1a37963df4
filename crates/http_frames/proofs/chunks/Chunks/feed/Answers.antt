use Rattle.std.proofs.Common.{refl, subst, sym, ◌++◌}
use Rattle.http_frames.specs.Progress.{IsFed}
use Rattle.http_frames.specs.Pieces.{IsReadBy, ReadsPiece, TookAll}
use Rattle.http_frames.proofs.ChunkLemmas.{no_body_waits}
use Rattle.http_frames.proofs.StepLemmas.{all_taken, waits_of}
use Rattle.http_frames.proofs.chunks.Chunks.feed.Goals as goal

pub returns-in-Took-clause-answer : goal.returns-in-Took-clause-answer
returns-in-Took-clause-answer c bytes fed =
    let new = c.read.new.self in
    let all = bytes ++ c.args.piece.now in
    let steps = subst (ReadsPiece c.self.inside.reader c.args.piece.now new) c.in-Took.is c.in_ok-read.ensures.steps in
    let count = subst (TookAll c.args.piece.now) c.in-Took.is c.in_ok-read.ensures.all in
    let read : IsReadBy new all = subst (IsReadBy new) (all_taken bytes c.args.piece.now c.in-Took.field-0 count) (steps.2 bytes (subst (λ p. IsFed p bytes) (sym c.self.view_is) fed)) in
    let waits = waits_of new.stage new.pending new.body all steps.1 read in
    (refl, read, no_body_waits all waits, waits)

pub returns-in-Bad-clause-answer : goal.returns-in-Bad-clause-answer
returns-in-Bad-clause-answer c bytes fed =
    let steps = subst (ReadsPiece c.self.inside.reader c.args.piece.now c.read.new.self) c.in-Bad.is c.in_ok-read.ensures.steps in
    (refl, steps bytes (subst (λ p. IsFed p bytes) (sym c.self.view_is) fed))
