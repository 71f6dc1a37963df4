use Rattle.std.proofs.Common.{rules, sym, subst, ap, ◌∙◌, arith}
use Rattle.name_table.specs.Entries.{IsRising}
use Rattle.name_table.specs.Table.{Table, Stands, view_of, root_at}
use Rattle.name_table.proofs.Regrouped.{rising_regrouped, regroup_roots, regroup_stands}
use Rattle.name_table.proofs.table.NameTableNames.regroup.Goals as goal

pub invariant_of-self : goal.invariant_of-self
invariant_of-self c =
    let es = c.self.inside.entries.items in
    let kept = c.self.invariant in
    let rising = rising_regrouped c.args.group c.args.tasks c.args.empty es kept.rising in
    record {
      rising = subst IsRising (sym c.regroup.ensures.items) rising;
      few = omega (arith, c.regroup.ensures.count, kept.few);
      counted = kept.counted;
      room = omega (arith, c.regroup.ensures.capacity, kept.room);
      room_over = kept.room_over;
    }

pub returns-clause-stands : goal.returns-clause-stands
returns-clause-stands c w members st many =
    let inner : Stands (view_of c.self.inside) w = subst (λ (t : Table). Stands t w) (sym c.self.view_is) st in
    regroup_stands c.args.group c.args.tasks c.args.empty members c.regroup.new.entries.items (view_of c.self.inside) w
    (search rules) many c.regroup.ensures.items inner

pub returns-clause-roots : goal.returns-clause-roots
returns-clause-roots c name =
    regroup_roots c.args.group c.args.tasks c.args.empty c.regroup.new.entries.items (view_of c.self.inside)
    c.regroup.ensures.items name
    ∙ ap (λ (t : Table). root_at t name) c.self.view_is
