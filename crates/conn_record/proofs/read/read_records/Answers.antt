use Rattle.std.proofs.Common.{◌≡◌, length, arith, inr}
use Rattle.conn_record.proofs.RecordLemmas.{most_conns, no_recording, some_left}
use Rattle.conn_record.specs.declared.read.TheConstants.{MAX_CONNS}
use Rattle.conn_record.proofs.read.read_records.Goals as goal

pub returns-then-whole-eq-MAX_CONNS-clause-refused : goal.returns-then-whole-eq-MAX_CONNS-clause-refused
returns-then-whole-eq-MAX_CONNS-clause-refused c =
    let bytes = c.args.bytes.now in
    let whole = c.loop-rest.records in
    let rest = c.loop-rest.rest.now in
    let text = c.loop-rest.invariant.text in
    let full : length whole ≡ MAX_CONNS = omega arith in
    (no_recording bytes whole rest (omega arith) text (some_left rest c.loop-rest-test.ensures) (λ b begins. omega (arith, begins.few, full)), record { most = λ b begins. begins.few; there = inr (whole, record { few = omega arith; rest = rest; text = text }, full) })

pub returns-in_default-read_conn-clause-refused : goal.returns-in_default-read_conn-clause-refused
returns-in_default-read_conn-clause-refused c =
    let bytes = c.args.bytes.now in
    let whole = c.loop-rest.records in
    let rest = c.loop-rest.rest.now in
    let text = c.loop-rest.invariant.text in
    let most = most_conns bytes whole rest (omega arith) text c.in_default-read_conn.ensures in
    (no_recording bytes whole rest (omega arith) text (some_left rest c.loop-rest-test.ensures) most, record { most = λ b begins. omega (arith, most b begins, c.len-whole.ensures); there = inr (whole, record { few = omega arith; rest = rest; text = text }, omega arith) })
