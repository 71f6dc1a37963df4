use Rattle.std.proofs.Common.{◌≡◌, rules, sym, subst, ap, ◌∙◌, arith}
use Rattle.name_table.specs.Entries.{held_in, entries_regrouped}
use Rattle.name_table.specs.Table.{Table, Stands, count_of, root_at}
use Rattle.name_table.proofs.Regrouped.{regroup_roots, regroup_stands}
use Rattle.name_tree.specs.Kept.{view_of}
use Rattle.name_tree.specs.Listed.{listed}
use Rattle.name_tree.proofs.Counts.{split_still}
use Rattle.name_tree.proofs.Depth.{names_depth}
use Rattle.name_tree.proofs.Rises.{length_listed}
use Rattle.name_tree.proofs.Told.{told_is, knows_told}
use Rattle.name_tree.proofs.names.NameTreeNames.regroup.Goals as goal
use Rattle.name_tree.proofs.names.NameTreeNames.regroup.Goals.{After-regroup}

-- the list with the set
list_is : (c : After-regroup) → listed c.regroup.new.names.tree
    ≡ entries_regrouped (held_in c.args.group.0 (listed c.self.inside.names.tree)) c.args.group c.args.tasks c.args.empty (listed c.self.inside.names.tree)
list_is c =
    let names = c.self.inside.names in
    let new = c.regroup.new.names in
    told_is names.cut.at names.cut.step c.args.group c.args.tasks c.args.empty names.tree new.tree c.self.invariant.names.split
    (split_still new.tree names.cut new.cut c.regroup.ensures.cut c.regroup.ensures.names.split) c.regroup.ensures.set

pub invariant_of-self : goal.invariant_of-self
invariant_of-self c =
    let kept = c.self.invariant in
    let names = c.self.inside.names in
    let new = c.regroup.new.names in
    let e = c.regroup.ensures in
    let names_cut = e.cut ∙ kept.names_cut in
    record {
      names = e.names;
      names_cut = names_cut;
      names_depth = names_depth new names_cut e.names;
      all = e.total ∙ kept.all;
      counted = kept.counted;
      roots = kept.roots;
      roots_cut = kept.roots_cut;
      roots_depth = kept.roots_depth;
      all_roots = kept.all_roots;
      known = λ is. knows_told c.args.group.0 c.args.tasks c.args.empty names.tree new.tree c.self.inside.roots.tree e.set (kept.known is);
      room_over = kept.room_over;
    }

pub returns-clause-stands : goal.returns-clause-stands
returns-clause-stands c w members st many =
    let inner : Stands (view_of c.self.inside) w = subst (λ (t : Table). Stands t w) (sym c.self.view_is) st in
    regroup_stands c.args.group c.args.tasks c.args.empty members (listed c.regroup.new.names.tree) (view_of c.self.inside) w
    (search rules) many (list_is c) inner

pub returns-clause-roots : goal.returns-clause-roots
returns-clause-roots c name =
    regroup_roots c.args.group c.args.tasks c.args.empty (listed c.regroup.new.names.tree) (view_of c.self.inside) (list_is c) name
    ∙ ap (λ (t : Table). root_at t name) c.self.view_is

pub returns-clause-count : goal.returns-clause-count
returns-clause-count c =
    let is = ap count_of c.self.view_is in
    let count = c.regroup.ensures.count in
    omega (arith, count, is, length_listed c.self.inside.names.tree, length_listed c.regroup.new.names.tree)
