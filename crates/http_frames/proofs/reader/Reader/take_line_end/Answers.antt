use Rattle.std.proofs.Common.{arith, List, ℕ, sym, ap, subst, ◌∙◌, ◌≡◌, true, false}
use Rattle.std.specs.Prelude.{IsTrue}
use Rattle.http_frames.specs.Chunks.{is_size_line, size_of}
use Rattle.http_frames.proofs.StepLemmas.{end_missing, line_unsized, line_large, line_opens, line_closes, opens_sound, closes_sound}
use Rattle.http_frames.proofs.reader.Reader.take_line_end.Goals as goal

pub returns-then-piece-ne10-clause-steps : goal.returns-then-piece-ne10-clause-steps
returns-then-piece-ne10-clause-steps c = λ bytes read. end_missing c.args.self.now.stage c.args.self.now.pending c.args.self.now.body c.args.piece.now bytes c.requires.stage c.requires.sound c.requires.some c.if-piece-ne10.true read

pub returns-in_default-clause-steps : goal.returns-in_default-clause-steps
returns-in_default-clause-steps c = λ bytes read.
    line_unsized c.args.self.now.stage c.args.self.now.pending c.args.self.now.body c.args.piece.now bytes c.requires.stage c.requires.sound c.requires.some c.if-piece-ne10.false
    (λ h. let wrong : false ≡ true = sym c.in_default.ensures.no_size ∙ ap is_size_line c.as_slice.ensures ∙ h in cc) read

pub returns-then-size-len-clause-steps : goal.returns-then-size-len-clause-steps
returns-then-size-len-clause-steps c = λ bytes read.
    line_large c.args.self.now.stage c.args.self.now.pending c.args.self.now.body c.args.piece.now bytes c.requires.stage c.requires.sound c.requires.some c.if-piece-ne10.false
    (subst (λ (l : List ℕ). IsTrue (is_size_line l)) c.as_slice.ensures c.in-Some.ensures.sized.0)
    (omega (arith, c.len.ensures, c.in-Some.ensures.sized.1, ap size_of c.as_slice.ensures)) read

pub returns-then-size-eq0-clause-steps : goal.returns-then-size-eq0-clause-steps
returns-then-size-eq0-clause-steps c = (
  omega (arith, c.requires.some),
  closes_sound c.args.self.now.stage c.args.self.now.pending c.args.self.now.body c.truncate.new.self c.requires.sound c.truncate.ensures,
  λ bytes read. line_closes c.args.self.now.stage c.args.self.now.pending c.args.self.now.body c.args.piece.now c.truncate.new.self bytes c.requires.stage c.requires.some c.if-piece-ne10.false c.truncate.ensures
      (subst (λ (l : List ℕ). IsTrue (is_size_line l)) c.as_slice.ensures c.in-Some.ensures.sized.0)
      (omega (arith, c.in-Some.ensures.sized.1, ap size_of c.as_slice.ensures)) read,
)

pub returns-clause-steps : goal.returns-clause-steps
returns-clause-steps c = (
  omega (arith, c.requires.some),
  opens_sound c.args.self.now.stage c.args.self.now.pending c.args.self.now.body c.truncate.new.self c.in-Some.size c.requires.sound (omega arith) (omega (arith, c.len.ensures)),
  λ bytes read. line_opens c.args.self.now.stage c.args.self.now.pending c.args.self.now.body c.args.piece.now c.truncate.new.self bytes c.in-Some.size c.requires.stage c.requires.some c.if-piece-ne10.false c.truncate.ensures
      (subst (λ (l : List ℕ). IsTrue (is_size_line l)) c.as_slice.ensures c.in-Some.ensures.sized.0)
      (omega arith) (omega (arith, c.in-Some.ensures.sized.1, ap size_of c.as_slice.ensures, c.len.ensures)) read,
)
