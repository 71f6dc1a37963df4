use Rattle.std.proofs.Common.{None, rules, sym, subst, arith}
use Rattle.promise_names.specs.Held.{HasRoot}
use Rattle.name_table.specs.Entries.{IsRising}
use Rattle.name_table.specs.Table.{Table, Stands, view_of, root_at}
use Rattle.name_table.proofs.Rising.{rising_without}
use Rattle.name_table.proofs.Calls.{with_entries, remove_stands, remove_root}
use Rattle.name_table.proofs.table.NameTableNames.remove.Goals as goal

pub invariant_of-self : goal.invariant_of-self
invariant_of-self c =
    let kept = c.self.invariant in
    record {
      rising = subst IsRising (sym c.take.ensures.items) (rising_without c.args.name.0 c.self.inside.entries.items kept.rising);
      few = omega (arith, c.take.ensures.few, kept.few);
      counted = kept.counted;
      room = omega (arith, c.take.ensures.capacity, kept.room);
      room_over = kept.room_over;
    }

pub returns-clause-stands : goal.returns-clause-stands
returns-clause-stands c w st =
    let inner : Stands (view_of c.self.inside) w = subst (λ (t : Table). Stands t w) (sym c.self.view_is) st in
    remove_stands c.args.name.0 c.take.new.entries.items (view_of c.self.inside) w c.take.ensures.items inner

pub returns-clause-root : goal.returns-clause-root
returns-clause-root c =
    let new = c.take.new.entries.items in
    subst (λ (t : Table). HasRoot (root_at t) (root_at (with_entries new (view_of c.self.inside))) c.args.name.0 None) c.self.view_is
    (remove_root c.args.name.0 new (view_of c.self.inside) (search rules) c.take.ensures.items)
