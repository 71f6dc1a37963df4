use Rattle.std.proofs.Common.{◌≡◌, map}
use Rattle.std.specs.List.{list_any}
use Rattle.http_heads.specs.Values.{is_same}
use Rattle.http_heads.proofs.rules.has_option.Given as goal

abbrev pub invariant-loop-element : goal.invariant-loop-element
invariant-loop-element l = l.found ≡ list_any (λ e. is_same e l.option) (map (λ e. e.now) l.yielded)
