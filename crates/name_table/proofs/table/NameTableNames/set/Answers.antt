use Rattle.std.proofs.Common.{◌+◌, ◌<◌, rules, sym, subst, arith}
use Rattle.promise_names.specs.Held.{HasRoot, root_of}
use Rattle.std.specs.Prelude.{Some}
use Rattle.name_table.specs.declared.entries.Entry.{Entry}
use Rattle.name_table.specs.Entries.{IsRising}
use Rattle.name_table.specs.Table.{Table, Stands, count_of, view_of, root_at}
use Rattle.name_table.proofs.Rising.{rising_entered}
use Rattle.name_table.proofs.Calls.{with_entries, set_stands, set_root}
use Rattle.name_table.proofs.table.NameTableNames.set.Goals as goal

pub invariant_of-self : goal.invariant_of-self
invariant_of-self c =
    let x : Entry = record { name = c.args.name; held = c.args.held } in
    let es = c.self.inside.entries.items in
    let kept = c.self.invariant in
    let room : count_of (view_of c.self.inside) < c.self.inside.limit + 1 = subst (λ (t : Table). count_of t < t.limit + 1) (sym c.self.view_is) c.requires.room in
    record {
      rising = subst IsRising (sym c.put.ensures.items) (rising_entered x es kept.rising);
      few = omega (arith, c.put.ensures.few, room);
      counted = kept.counted;
      room = omega (arith, c.put.ensures.capacity, kept.room);
      room_over = kept.room_over;
    }

pub returns-clause-stands : goal.returns-clause-stands
returns-clause-stands c w members st listless counted =
    let inner : Stands (view_of c.self.inside) w = subst (λ (t : Table). Stands t w) (sym c.self.view_is) st in
    set_stands c.args.name c.args.held members c.put.new.entries.items (view_of c.self.inside) w
    (search rules) c.requires.kind counted c.put.ensures.items inner

pub returns-clause-root : goal.returns-clause-root
returns-clause-root c =
    let new = c.put.new.entries.items in
    subst (λ (t : Table). HasRoot (root_at t) (root_at (with_entries new (view_of c.self.inside))) c.args.name.0 (root_of (Some c.args.held))) c.self.view_is
    (set_root c.args.name c.args.held new (view_of c.self.inside) (search rules) c.put.ensures.items)

pub put-requires-clause-room : goal.put-requires-clause-room
put-requires-clause-room c =
    let room : count_of (view_of c.self.inside) < c.self.inside.limit + 1 = subst (λ (t : Table). count_of t < t.limit + 1) (sym c.self.view_is) c.requires.room in
    omega (arith, room, c.self.invariant.room)
