use Rattle.std.proofs.Common.{◌≡◌, subst}
use Rattle.std.specs.Prelude.{IfOk}
use Rattle.http_frames.specs.declared.reader.Reader.{Reader}
use Rattle.http_frames.specs.Pieces.{ReadsPiece}
use Rattle.http_frames.proofs.reader.Reader.take_at_line.Goals as goal

pub returns-in-0-clause-steps : goal.returns-in-0-clause-steps
returns-in-0-clause-steps c =
    let same : c.take_chunks.new.self ≡ c.args.self.now = c.in_ok-count.ensures.none c.in-0.is in
    subst (λ (r : Reader). IfOk c.take_line-in-0.result (ReadsPiece r c.args.piece.now c.take_line-in-0.new.self)) same c.take_line-in-0.ensures.steps
