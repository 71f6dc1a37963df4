use Rattle.kj_serve.proofs.OutputLemmas.{one_given}
use Rattle.kj_serve.proofs.laws.one_output.Goals as goal

pub returns : goal.returns
returns c form input a b s t p q =
    let one = c.one_script.ensures in
    let some = c.some_script.ensures in
    one_given (record { script = one.script; bad = one.bad; not_built = one.not_built }) (record { some = some.some; not_bad = some.not_bad; built = some.built; either = some.either })
    c.one_recording.ensures c.one_output.ensures form input a b s t p q
