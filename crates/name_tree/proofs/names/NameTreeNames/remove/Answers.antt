use Rattle.std.proofs.Common.{◌≡◌, ℕ, Option, None, rules, sym, subst, ap, ◌∙◌, arith}
use Rattle.std.specs.Prelude.{IsSome}
use Rattle.promise_names.specs.Held.{HasRoot, root_of}
use Rattle.name_table.specs.Entries.{without_entry}
use Rattle.name_table.specs.Table.{Table, Stands, count_of, root_at}
use Rattle.name_table.proofs.Calls.{with_entries, remove_stands, remove_root}
use Rattle.name_table.proofs.Awaited.{root_named}
use Rattle.name_tree.specs.Kept.{view_of}
use Rattle.name_tree.specs.Listed.{listed}
use Rattle.name_tree.specs.Trees.{value_at}
use Rattle.name_tree.proofs.Counts.{some_held, split_still}
use Rattle.name_tree.proofs.Depth.{names_depth, roots_depth}
use Rattle.name_tree.proofs.Lists.{gone_is}
use Rattle.name_tree.proofs.Rises.{held_listed, length_listed}
use Rattle.name_tree.proofs.names.NameTreeNames.remove.Goals as goal
use Rattle.name_tree.proofs.names.NameTreeNames.remove.Goals.{After-remove}

-- the list without the name
list_is : (c : After-remove) → listed c.remove.new.names.tree ≡ without_entry c.args.name.0 (listed c.self.inside.names.tree)
list_is c =
    let names = c.self.inside.names in
    let new = c.remove.new.names in
    gone_is names.cut.at names.cut.step c.args.name.0 names.tree new.tree c.self.invariant.names.split
    (split_still new.tree names.cut new.cut c.remove.ensures.cut c.remove.ensures.names.split) c.remove.ensures.set

pub invariant_of-self : goal.invariant_of-self
invariant_of-self c =
    let kept = c.self.invariant in
    let new = c.remove.new in
    let e = c.remove.ensures in
    let names_cut = e.cut ∙ kept.names_cut in
    let roots_cut = e.roots_cut ∙ kept.roots_cut in
    record {
      names = e.names;
      names_cut = names_cut;
      names_depth = names_depth new.names names_cut e.names;
      all = e.total ∙ kept.all;
      counted = kept.counted;
      roots = e.roots;
      roots_cut = roots_cut;
      roots_depth = roots_depth new.roots roots_cut e.roots;
      all_roots = e.roots_total ∙ kept.all_roots;
      known = λ is. e.known (kept.known is);
      room_over = kept.room_over;
    }

pub returns-clause-stands : goal.returns-clause-stands
returns-clause-stands c w st =
    let inner : Stands (view_of c.self.inside) w = subst (λ (t : Table). Stands t w) (sym c.self.view_is) st in
    remove_stands c.args.name.0 (listed c.remove.new.names.tree) (view_of c.self.inside) w (list_is c) inner

pub returns-clause-root : goal.returns-clause-root
returns-clause-root c =
    let new = listed c.remove.new.names.tree in
    subst (λ (t : Table). HasRoot (root_at t) (root_at (with_entries new (view_of c.self.inside))) c.args.name.0 None) c.self.view_is
    (remove_root c.args.name.0 new (view_of c.self.inside) (search rules) (list_is c))

pub returns-clause-gone : goal.returns-clause-gone
returns-clause-gone c some =
    let names = c.self.inside.names in
    let at = held_listed names.tree names.cut.at names.cut.step c.self.invariant.names.split c.args.name.0 in
    let root : root_at (view_of c.self.inside) c.args.name.0 ≡ root_at c.args.self.now c.args.name.0 = ap (λ (t : Table). root_at t c.args.name.0) c.self.view_is in
    let named = root_named (view_of c.self.inside) c.args.name.0 (search rules) in
    let here : IsSome (root_of (value_at c.args.name.0 names.tree)) = subst (λ (o : Option ℕ). IsSome o) (sym root ∙ named ∙ ap root_of at) some in
    let count = c.remove.ensures.gone (some_held (value_at c.args.name.0 names.tree) here) in
    let is = ap count_of c.self.view_is in
    omega (arith, count, is, length_listed names.tree, length_listed c.remove.new.names.tree)

pub returns-clause-few : goal.returns-clause-few
returns-clause-few c =
    let is = ap count_of c.self.view_is in
    let few = c.remove.ensures.few in
    omega (arith, few, is, length_listed c.self.inside.names.tree, length_listed c.remove.new.names.tree)
