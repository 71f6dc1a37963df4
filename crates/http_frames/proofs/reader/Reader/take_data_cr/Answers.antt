use Rattle.std.proofs.Common.{arith}
use Rattle.http_frames.proofs.StepLemmas.{cr_missing, cr_comes}
use Rattle.http_frames.proofs.reader.Reader.take_data_cr.Goals as goal

pub returns-then-piece-ne13-clause-steps : goal.returns-then-piece-ne13-clause-steps
returns-then-piece-ne13-clause-steps c = λ bytes read. cr_missing c.args.self.now.stage c.args.self.now.pending c.args.self.now.body c.args.piece.now bytes c.requires.stage c.requires.sound c.requires.some c.if-piece-ne13.true read

pub returns-clause-steps : goal.returns-clause-steps
returns-clause-steps c = (
  omega (arith, c.requires.some),
  record { small = c.requires.sound.small; kept = tt },
  λ bytes read. cr_comes c.args.self.now.stage c.args.self.now.pending c.args.self.now.body c.args.piece.now bytes c.requires.stage c.requires.some c.if-piece-ne13.false read,
)
