use Rattle.std.proofs.Common.{◌+◌, ◌<◌, ◌≤◌, take, length, arith, ap, ◌∙◌, rules}
use Rattle.std.proofs.lemmas.List.{length-take, take-take}
use Rattle.http_frames.proofs.reader.first_line.Goals as goal

pub returns-in-Some-clause-front : goal.returns-in-Some-clause-front
returns-in-Some-clause-front c =
    let inside : c.in-Some.at < length c.front_of-front.result.now = search rules in
    let fits : c.in-Some.at + 1 ≤ c.args.most = omega (arith, inside, ap length c.front_of-front.ensures, length-take c.args.most c.args.piece.now) in
    (c.in-Some.at + 1, ap (take (c.in-Some.at + 1)) c.front_of-front.ensures ∙ take-take (c.in-Some.at + 1) c.args.most c.args.piece.now fits)

pub returns-in-None-clause-front : goal.returns-in-None-clause-front
returns-in-None-clause-front c = (c.args.most, c.front_of-front.ensures)
