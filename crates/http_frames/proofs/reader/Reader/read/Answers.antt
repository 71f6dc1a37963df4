use Rattle.std.proofs.Common.{◌-◌, ◌++◌, [], ℕ, List, arith, subst, length, take, drop}
use Rattle.std.proofs.lemmas.List.{take_rest, length-take, length-drop}
use Rattle.http_frames.specs.Chunks.{Body, NeverHasBody}
use Rattle.http_frames.specs.Pieces.{IsReadBy, ReadsPiece}
use Rattle.http_frames.proofs.StepLemmas.{fronts_join, front_and_rest}
use Rattle.http_frames.proofs.reader.Reader.read.Goals as goal

pub loop-at-preserved : goal.loop-at-preserved
loop-at-preserved c =
    let piece = c.args.piece.now in
    let at = c.loop-at.at in
    let rest = take (length piece - at) (drop at piece) in
    let steps = subst (ReadsPiece c.loop-at.self rest c.take.new.self) c.in-Took.is c.in_ok-count.ensures.steps in
    record {
      inside = omega (arith, steps.0, length-take (length piece - at) (drop at piece), length-drop at piece, c.loop-at.invariant.inside);
      sound = steps.1;
      read = λ bytes read. subst (IsReadBy c.take.new.self) (fronts_join bytes piece rest at c.in-Took.count (take_rest piece at)) (steps.2 (bytes ++ take at piece) (c.loop-at.invariant.read bytes read));
    }

pub returns-in-Whole-clause-steps : goal.returns-in-Whole-clause-steps
returns-in-Whole-clause-steps c =
    let piece = c.args.piece.now in
    let at = c.loop-at.at in
    let rest = take (length piece - at) (drop at piece) in
    let steps = subst (ReadsPiece c.loop-at.self rest c.take.new.self) c.in-Whole.is c.in_ok-count.ensures.steps in (
      omega (arith, steps.0, length-take (length piece - at) (drop at piece), length-drop at piece, c.loop-at.invariant.inside),
      λ bytes read. subst (λ (b : List ℕ). Body b c.take.new.self.body c.in-Whole.trailer []) (fronts_join bytes piece rest at c.in-Whole.count (take_rest piece at)) (steps.1 (bytes ++ take at piece) (c.loop-at.invariant.read bytes read)),
    )

pub returns-in-Bad-clause-steps : goal.returns-in-Bad-clause-steps
returns-in-Bad-clause-steps c = λ bytes read.
    let piece = c.args.piece.now in
    let at = c.loop-at.at in
    let rest = take (length piece - at) (drop at piece) in
    let steps = subst (ReadsPiece c.loop-at.self rest c.take.new.self) c.in-Bad.is c.in_ok-count.ensures.steps in
    subst NeverHasBody (front_and_rest bytes piece rest at (take_rest piece at)) (steps (bytes ++ take at piece) (c.loop-at.invariant.read bytes read))
