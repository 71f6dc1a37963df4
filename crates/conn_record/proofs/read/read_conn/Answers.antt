use Rattle.std.proofs.Common.{◌≡◌, ℕ, List, ◌∷◌, get_or, length, sym, ap, ◌∙◌, arith}
use Rattle.std.proofs.lemmas.List.{get_or_at, length-append}
use Rattle.conn_record.proofs.RecordLemmas.{octets_behind}
use Rattle.conn_record.proofs.read.read_conn.Goals as goal

pub returns-then-octets-len : goal.returns-then-octets-len
returns-then-octets-len c conn rest text =
    let found = octets_behind c.args.bytes.now c.in_ok-numbered.numbered.now c.in_ok-len.octets.now conn rest c.in_ok-len.len (omega arith) c.in_ok-len.ensures.fits c.in_ok-numbered.ensures.cases.1 c.in_ok-len.ensures.found text in
    omega (arith, found.0, ap length found.1, length-append conn (10 ∷ rest))

pub returns-then-octets-len-ne10 : goal.returns-then-octets-len-ne10
returns-then-octets-len-ne10 c conn rest text =
    let octets = c.in_ok-len.octets.now in
    let found = octets_behind c.args.bytes.now c.in_ok-numbered.numbered.now octets conn rest c.in_ok-len.len (omega arith) c.in_ok-len.ensures.fits c.in_ok-numbered.ensures.cases.1 c.in_ok-len.ensures.found text in
    let lf : get_or octets c.in_ok-len.len 0 ≡ 10 = ap (λ (o : List ℕ). get_or o c.in_ok-len.len 0) found.1 ∙ get_or_at conn 10 rest 0 c.in_ok-len.len (sym found.0) in
    c.if-octets-len-ne10.true lf
