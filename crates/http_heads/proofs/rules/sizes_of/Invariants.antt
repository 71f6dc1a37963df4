use Rattle.std.proofs.Common.{◌≡◌, map}
use Rattle.std.specs.Prelude.{fold}
use Rattle.http_heads.specs.declared.rules.Sizes.TheVariants.{Absent}
use Rattle.http_heads.specs.Framing.{add_length}
use Rattle.http_heads.proofs.rules.sizes_of.Given as goal

abbrev pub invariant-loop-element : goal.invariant-loop-element
invariant-loop-element l = l.sizes ≡ fold add_length Absent (map (λ e. e.now) l.yielded)
