use Rattle.std.proofs.Common.{arith}
use Rattle.http_frames.proofs.StepLemmas.{lf_missing, lf_comes, line_starts_sound}
use Rattle.http_frames.proofs.reader.Reader.take_data_lf.Goals as goal

pub returns-then-piece-ne10-clause-steps : goal.returns-then-piece-ne10-clause-steps
returns-then-piece-ne10-clause-steps c = λ bytes read. lf_missing c.args.self.now.stage c.args.self.now.pending c.args.self.now.body c.args.piece.now bytes c.requires.stage c.requires.sound c.requires.some c.if-piece-ne10.true read

pub returns-clause-steps : goal.returns-clause-steps
returns-clause-steps c = (
  omega (arith, c.requires.some),
  line_starts_sound c.args.self.now.stage c.args.self.now.pending c.args.self.now.body c.truncate.new.self c.requires.sound c.truncate.ensures,
  λ bytes read. lf_comes c.args.self.now.stage c.args.self.now.pending c.args.self.now.body c.args.piece.now c.truncate.new.self bytes c.requires.stage c.requires.some c.if-piece-ne10.false c.truncate.ensures read,
)
