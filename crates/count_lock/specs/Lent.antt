-- A `Held` that lends its value ends with what was written to it.
use Rattle.std.specs.Borrow.{Lends, MutBor, Fml}
use denote.RattleType.{RattleType}
use Rattle.count_lock.specs.declared.held.Held.{Held}
use Rattle.count_lock.specs.contracts.held.Held.{the_row}

abbrev pub with_value : {T : Type 0} → Held T → T → Held T
with_value h x = record h { value = x }

abbrev pub LendsValue : (R : RattleType) → MutBor (Held R.Denot) → MutBor R.Denot → Fml
LendsValue R s r = Lends (the_row R) R s r (with_value s.now)
