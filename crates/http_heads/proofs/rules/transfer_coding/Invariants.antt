use Rattle.std.proofs.Common.{◌≡◌, not, map, nat_lt, count_by}
use Rattle.std.specs.List.{list_any}
use Rattle.http_heads.specs.Framing.{is_chunked, ends_chunked}
use Rattle.http_heads.proofs.rules.transfer_coding.Given as goal

abbrev pub invariant-loop-element : goal.invariant-loop-element
invariant-loop-element l =
    let es = map (λ e. e.now) l.yielded in
    record {
      last : l.last ≡ ends_chunked es;
      seen : l.seen ≡ list_any is_chunked es;
      twice : l.twice ≡ nat_lt 1 (count_by is_chunked es);
      other : l.other ≡ list_any (λ e. not (is_chunked e)) es;
    }
