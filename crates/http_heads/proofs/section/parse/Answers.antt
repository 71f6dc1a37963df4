use Rattle.std.proofs.Common.{◌≡◌, ◌≤◌, length, take, drop, ap, ◌∙◌, arith, rules}
use Rattle.std.proofs.lemmas.List.{length-map, length-take}
use Rattle.httparse.specs.Spans.{header_bytes, name_and_value, IsSectionOf, IsSectionWithin}
use Rattle.httparse.specs.Grammar.{print_section}
use Rattle.http_heads.proofs.FrontLemmas.{fields_from_pairs}
use Rattle.http_heads.proofs.section.parse.Goals as goal

pub returns-in_ok-fill_fields-in-Ok-Complete : goal.returns-in_ok-fill_fields-in-Ok-Complete
returns-in_ok-fill_fields-in-Ok-Complete c =
    let headers = c.parse_headers.new.headers in
    let found : IsSectionOf c.args.bytes.now 0 headers (c.in-Ok-Complete.len, c.in-Ok-Complete.count) = search rules in
    let within : IsSectionWithin c.args.bytes.now headers c.in-Ok-Complete.len c.in-Ok-Complete.count = search rules in
    let few : length found.0 ≤ 100 = omega (arith, within.count_fits, c.parse_headers.auto.headers, ap length found.2.fields_are, length-map found.0 name_and_value, length-map (take c.in-Ok-Complete.count headers) (header_bytes c.args.bytes.now), length-take c.in-Ok-Complete.count headers) in
    let long : c.in-Ok-Complete.len ≡ length (print_section found.0 found.1) = omega (arith, found.2.len_is) in
    (found.0, found.1, drop c.in-Ok-Complete.len c.args.bytes.now, found.2.reads, few, long, fields_from_pairs _ found.0 (c.in_ok-fill_fields-in-Ok-Complete.ensures ∙ found.2.fields_are))
