use Rattle.kj_serve.proofs.OutputLemmas.{some_given}
use Rattle.kj_serve.proofs.laws.some_output.Goals as goal

pub returns : goal.returns
returns c form input =
    let some = c.some_script.ensures in
    some_given (record { some = some.some; not_bad = some.not_bad; built = some.built; either = some.either }) c.some_recording.ensures c.some_output.ensures form input
