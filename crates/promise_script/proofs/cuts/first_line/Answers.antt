-- Up to the first LF, or to the end.
use Rattle.std.proofs.Common.{◌≡◌, ◌+◌, ◌-◌, [], take, drop, length, arith, rules}
use Rattle.promise_script.proofs.Cutting.{first_and_rest, line_alone, take_over}
use Rattle.std.proofs.lemmas.List.{length-drop}
use Rattle.promise_script.proofs.cuts.first_line.Goals as goal

pub returns-in-Some-clause-lines : goal.returns-in-Some-clause-lines
returns-in-Some-clause-lines c =
    let xs = c.args.rest.now in
    let behind : take (length xs - (c.in-Some.at + 1)) (drop (c.in-Some.at + 1) xs) ≡ drop (c.in-Some.at + 1) xs = take_over (length xs - (c.in-Some.at + 1)) (drop (c.in-Some.at + 1) xs) (omega (arith, length-drop (c.in-Some.at + 1) xs)) in
    first_and_rest xs c.in-Some.at (take (length xs - (c.in-Some.at + 1)) (drop (c.in-Some.at + 1) xs)) (search rules) behind

pub returns-in-None-clause-lines : goal.returns-in-None-clause-lines
returns-in-None-clause-lines c =
    let xs = c.args.rest.now in
    let behind : take (length xs - length xs) (drop (length xs) xs) ≡ [] = search rules in
    line_alone xs (take (length xs - length xs) (drop (length xs) xs)) c.requires (search rules) behind
