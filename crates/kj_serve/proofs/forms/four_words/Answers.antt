-- Numbers past the limits are of no form.
use Rattle.std.proofs.Common.{rules, arith}
use Rattle.kj_serve.proofs.OneForm.{conns_within, requests_within, all_within}
use Rattle.kj_serve.proofs.forms.four_words.Goals as goal

pub returns-then-not-is_within-clause-none : goal.returns-then-not-is_within-clause-none
returns-then-not-is_within-clause-none c form is =
    let within = conns_within _ _ _ _ form c.in_ok-conns.conns is c.in_ok-conns.ensures.found (search rules) in
    absurd (cc (c.if-not-is_within.ensures.1 (within.0, omega (arith, within.1))))

pub returns-then-not-is_within-2-clause-none : goal.returns-then-not-is_within-2-clause-none
returns-then-not-is_within-2-clause-none c form is =
    let within = requests_within _ _ _ _ form c.in_ok-requests.requests is c.in_ok-requests.ensures.found (search rules) in
    absurd (cc (c.if-not-is_within-2.ensures.1 (within.0, omega (arith, within.1))))

pub returns-then-conns-requests-gt-MAX_REQUESTS_IN_ALL-clause-none : goal.returns-then-conns-requests-gt-MAX_REQUESTS_IN_ALL-clause-none
returns-then-conns-requests-gt-MAX_REQUESTS_IN_ALL-clause-none c form is =
    omega (arith, all_within _ _ _ _ form c.in_ok-conns.conns c.in_ok-requests.requests is c.in_ok-conns.ensures.found (search rules) c.in_ok-requests.ensures.found (search rules), c.if-conns-requests-gt-MAX_REQUESTS_IN_ALL.true)
