use Rattle.std.proofs.lemmas.List.{length-take}
use Rattle.std.proofs.Common.{arith, refl, [], ◌∷◌, ◌+◌, take, drop, inl, inr, sym, append-nil}
use Rattle.http_frames.proofs.StepLemmas.{line_sound, line_grows, line_long, line_ends}
use Rattle.http_frames.specs.declared.reader.Stage.TheVariants.{LineEnd}
use Rattle.http_frames.proofs.reader.Reader.take_line.Goals as goal

pub returns-then-piece-room-clause-steps : goal.returns-then-piece-room-clause-steps
returns-then-piece-room-clause-steps c = λ bytes read.
    line_long c.args.self.now.stage c.args.self.now.pending c.args.self.now.body c.args.piece.now c.args.piece.now [] bytes c.requires.stage c.requires.sound (sym (append-nil c.args.piece.now)) c.in_default.ensures.first (omega (arith, c.len-room.ensures)) read

pub returns-in_default-clause-steps : goal.returns-in_default-clause-steps
returns-in_default-clause-steps c = (
  omega arith,
  line_sound c.args.self.now.stage c.args.self.now.stage c.args.self.now.pending c.args.self.now.body c.args.piece.now c.extend.new.self c.requires.stage (inl c.requires.stage) c.requires.sound c.in_default.ensures.first c.in_ok-extend.ensures.ok (omega (arith, c.len-room.ensures)),
  λ bytes read. line_grows c.args.self.now.stage c.args.self.now.pending c.args.self.now.body c.args.piece.now c.extend.new.self bytes c.requires.stage c.in_ok-extend.ensures.ok read,
)

pub returns-then-at-room-clause-steps : goal.returns-then-at-room-clause-steps
returns-then-at-room-clause-steps c = λ bytes read.
    line_long c.args.self.now.stage c.args.self.now.pending c.args.self.now.body c.args.piece.now (take c.in-Some.at c.args.piece.now) (13 ∷ drop (c.in-Some.at + 1) c.args.piece.now) bytes c.requires.stage c.requires.sound c.in-Some.ensures.first.1 c.in-Some.ensures.first.0 (omega (arith, c.len-room.ensures, length-take c.in-Some.at c.args.piece.now, c.in-Some.ensures.bound)) read

pub returns-clause-steps : goal.returns-clause-steps
returns-clause-steps c = (
  omega (arith, c.in-Some.ensures.bound),
  line_sound c.args.self.now.stage LineEnd c.args.self.now.pending c.args.self.now.body (take c.in-Some.at c.args.piece.now) c.extend-2.new.self c.requires.stage (inr refl) c.requires.sound c.in-Some.ensures.first.0 c.in_ok-extend-2.ensures.ok (omega (arith, c.len-room.ensures, length-take c.in-Some.at c.args.piece.now, c.in-Some.ensures.bound)),
  λ bytes read. line_ends c.args.self.now.stage c.args.self.now.pending c.args.self.now.body c.args.piece.now c.extend-2.new.self bytes c.in-Some.at c.requires.stage c.in-Some.ensures.bound c.in-Some.ensures.first.1 c.in_ok-extend-2.ensures.ok read,
)
