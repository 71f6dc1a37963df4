use Rattle.std.proofs.Common.{arith, ◌-◌, length, take}
use Rattle.std.proofs.lemmas.List.{length-take}
use Rattle.http_frames.proofs.StepLemmas.{data_grows, data_ends, data_sound}
use Rattle.http_frames.proofs.reader.Reader.take_data.Goals as goal

pub returns-in_ok-extend-clause-steps : goal.returns-in_ok-extend-clause-steps
returns-in_ok-extend-clause-steps c =
    let fits = data_sound c.args.self.now.stage c.args.self.now.pending c.args.self.now.body c.extend.new.self c.args.piece.now c.args.left (c.args.left - length c.args.piece.now) c.requires.stage c.requires.sound (omega arith) c.in_ok-extend.ensures.ok in (
      omega arith,
      record { small = omega (arith, fits); kept = (omega arith, fits) },
      λ bytes read. data_grows c.args.self.now.stage c.args.self.now.pending c.args.self.now.body c.args.piece.now c.extend.new.self bytes c.args.left c.requires.stage c.if-piece-left.true c.in_ok-extend.ensures.ok read,
    )

pub returns-in_ok-extend-2-clause-steps : goal.returns-in_ok-extend-2-clause-steps
returns-in_ok-extend-2-clause-steps c =
    let fits = data_sound c.args.self.now.stage c.args.self.now.pending c.args.self.now.body c.extend-else-piece-left.new.self (take c.args.left c.args.piece.now) c.args.left 0 c.requires.stage c.requires.sound (omega (arith, length-take c.args.left c.args.piece.now)) c.in_ok-extend-2.ensures.ok in (
      omega arith,
      record { small = omega (arith, fits); kept = tt },
      λ bytes read. data_ends c.args.self.now.stage c.args.self.now.pending c.args.self.now.body c.args.piece.now c.extend-else-piece-left.new.self bytes c.args.left c.requires.stage c.if-piece-left.false c.in_ok-extend-2.ensures.ok read,
    )
