use Rattle.std.proofs.Common.{arith, inr, ap, length, ◌-◌}
use Rattle.std.proofs.lemmas.List.{length-append, length-take}
use Rattle.http_frames.proofs.StepLemmas.{trailer_grows, trailer_never, crowded_sound, crowded_stays, crowded_short}
use Rattle.http_frames.proofs.reader.Reader.take_crowded.Goals as goal

pub returns-then-len-eq-MAX_OCTETS-clause-steps : goal.returns-then-len-eq-MAX_OCTETS-clause-steps
returns-then-len-eq-MAX_OCTETS-clause-steps c = λ bytes read.
    trailer_never c.args.self.now.stage c.args.self.now.pending c.args.self.now.body c.front_of-front.result.now c.args.piece.now c.extend.new.self bytes _ (inr c.requires.stage) c.requires.sound c.front_of-front.ensures c.in_ok-extend.ensures.ok
    (crowded_stays c.args.self.now.stage c.args.self.now.pending c.args.self.now.body c.front_of-front.result.now c.extend.new.self c.requires.stage c.requires.sound c.in_ok-extend.ensures.ok) read

pub returns-clause-steps : goal.returns-clause-steps
returns-clause-steps c = (
  omega (arith, ap length c.front_of-front.ensures, length-take (65536 - c.len.result) c.args.piece.now),
  crowded_sound c.args.self.now.stage c.args.self.now.stage c.args.self.now.pending c.args.self.now.body c.extend.new.self c.requires.sound c.requires.stage (crowded_stays c.args.self.now.stage c.args.self.now.pending c.args.self.now.body c.front_of-front.result.now c.extend.new.self c.requires.stage c.requires.sound c.in_ok-extend.ensures.ok)
      (omega (arith, c.len.ensures, c.len-2.ensures, ap length c.in_ok-extend.ensures.ok, length-append c.args.self.now.pending c.front_of-front.result.now, ap length c.front_of-front.ensures, length-take (65536 - c.len.result) c.args.piece.now, crowded_short c.args.self.now.stage c.args.self.now.pending c.args.self.now.body c.requires.stage c.requires.sound)),
  λ bytes read. trailer_grows c.args.self.now.stage c.args.self.now.stage c.args.self.now.pending c.args.self.now.body c.front_of-front.result.now c.args.piece.now c.extend.new.self bytes _ (inr c.requires.stage) (inr c.requires.stage) c.front_of-front.ensures c.in_ok-extend.ensures.ok read,
)
