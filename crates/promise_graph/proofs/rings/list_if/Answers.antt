use Rattle.std.proofs.Common.{sym, subst, Bool}
use Rattle.promise_graph.specs.Rings.{MayBeListed}
use Rattle.promise_graph.proofs.rings.list_if.Goals as goal

pub returns-then-is_listed : goal.returns-then-is_listed
returns-then-is_listed c = subst (λ (b : Bool). MayBeListed b c.args.rings.now c.join.new.rings c.args.slot c.args.head) (sym c.if-is_listed.true) (record { between = c.cut.new.rings; cut = c.cut.ensures; joined = c.join.ensures })
