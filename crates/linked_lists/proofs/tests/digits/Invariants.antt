-- The member at hand is one of the list.
use Rattle.std.proofs.Common.{◌≡◌, true}
use Rattle.std.specs.Prelude.{IfSome}
use Rattle.linked_lists.specs.Lists.{is_in, members}
use Rattle.linked_lists.proofs.tests.digits.Given as goal

abbrev pub invariant-loop : goal.invariant-loop
invariant-loop l = IfSome l.member (λ number. is_in number (members l.lists l.head) ≡ true)
