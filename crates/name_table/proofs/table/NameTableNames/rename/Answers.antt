use Rattle.std.proofs.Common.{◌≡◌, ◌∙◌, List, sym, subst, ap, arith, length}
use Rattle.std.proofs.lemmas.List.{length-map}
use Rattle.promise_names.specs.Held.{root_of, root_renamed}
use Rattle.name_table.specs.declared.entries.Entry.{Entry}
use Rattle.name_table.specs.Entries.{IsRising, held_in, entry_replaced}
use Rattle.name_table.specs.Table.{Table, Stands, count_of, held_count, view_of, root_at}
use Rattle.name_table.proofs.Awaited.{as_many, renamed_root}
use Rattle.name_table.proofs.Replaced.{rising_replaced, roots_are}
use Rattle.name_table.proofs.Calls.{rename_stands, with_both}
use Rattle.name_table.proofs.table.NameTableNames.rename.Goals as goal

pub invariant_of-self : goal.invariant_of-self
invariant_of-self c =
    let es = c.self.inside.entries.items in
    let kept = c.self.invariant in
    let len : length c.replace.new.entries.items ≡ length es = ap length c.replace.ensures.items ∙ length-map es (entry_replaced c.args.old.number.0 c.args.new) in
    record {
      rising = subst IsRising (sym c.replace.ensures.items) (rising_replaced c.args.old.number.0 c.args.new es kept.rising);
      few = omega (arith, len, kept.few);
      counted = kept.counted;
      room = omega (arith, c.replace.ensures.capacity, kept.room);
      room_over = kept.room_over;
    }

pub returns-clause-stands : goal.returns-clause-stands
returns-clause-stands c w st =
    let inner : Stands (view_of c.self.inside) w = subst (λ (t : Table). Stands t w) (sym c.self.view_is) st in
    rename_stands c.args.old.number.0 c.args.new c.replace.new.entries.items _ (view_of c.self.inside) w c.replace.ensures.items c.awaited_after-self-inside.ensures inner

pub returns-clause-roots : goal.returns-clause-roots
returns-clause-roots c name =
    let old = c.args.old.number.0 in
    let new = c.args.new in
    let t : Table = view_of c.self.inside in
    let u : Table = with_both c.replace.new.entries.items c.awaited_after-self-inside.result t in
    renamed_root old new t u name c.awaited_after-self-inside.ensures
    (ap (λ (l : List Entry). root_of (held_in name l)) c.replace.ensures.items ∙ roots_are old new c.self.inside.entries.items name)
    ∙ ap (λ (t : Table). root_renamed old new.number.0 (root_at t name)) c.self.view_is

pub returns-clause-count : goal.returns-clause-count
returns-clause-count c =
    let old = c.args.old.number.0 in
    let new = c.args.new in
    let es = c.self.inside.entries.items in
    let many : length c.replace.new.entries.items ≡ length es = ap length c.replace.ensures.items ∙ length-map es (entry_replaced old new) in
    let held = ap held_count c.awaited_after-self-inside.ensures ∙ as_many old new c.self.inside.awaited in
    let before = ap count_of c.self.view_is in
    omega (arith, many, held, before)
