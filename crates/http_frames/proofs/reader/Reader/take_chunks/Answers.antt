use Rattle.std.proofs.Common.{◌-◌, ◌<◌, ◌++◌, ℕ, Option, IfSome, arith, subst, length, take, drop}
use Rattle.std.proofs.lemmas.List.{take_rest, length-take, length-drop}
use Rattle.http_frames.specs.declared.reader.Intake.TheVariants.{Took}
use Rattle.http_frames.specs.Pieces.{IsReadBy, ReadsPiece}
use Rattle.http_frames.proofs.StepLemmas.{fronts_join}
use Rattle.http_frames.proofs.reader.Reader.take_chunks.Goals as goal

pub loop-count-preserved : goal.loop-count-preserved
loop-count-preserved c =
    let piece = c.args.piece.now in
    let at = c.loop-count.at in
    let rest = take (length piece - at) (drop at piece) in
    let new = c.take_chunk.new.self in
    let steps : (0 < c.in-Some.count) × ReadsPiece c.loop-count.self rest new (Took c.in-Some.count) =
    subst (λ (o : Option ℕ). IfSome o (λ n. (0 < n) × ReadsPiece c.loop-count.self rest new (Took n))) c.in-Some.is c.in_ok-count.ensures.some in
    record {
      inside = omega (arith, steps.1.0, length-take (length piece - at) (drop at piece), length-drop at piece, c.loop-count.invariant.inside);
      sound = steps.1.1;
      stage = c.in_ok-count.ensures.line.0;
      bare = c.in_ok-count.ensures.line.1;
      same = λ none. absurd (omega (arith, none, steps.0));
      read = λ bytes read. subst (IsReadBy new) (fronts_join bytes piece rest at c.in-Some.count (take_rest piece at)) (steps.1.2 (bytes ++ take at piece) (c.loop-count.invariant.read bytes read));
    }
