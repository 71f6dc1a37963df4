use Rattle.std.proofs.Common.{◌≡◌, ◌+◌, ◌<◌, Some, rules, sym, subst, ap, ◌∙◌, arith}
use Rattle.promise_names.specs.Held.{HasRoot, root_of}
use Rattle.name_table.specs.Entries.{entered}
use Rattle.name_table.specs.Table.{Table, Stands, count_of, root_at}
use Rattle.name_table.proofs.Calls.{with_entries, set_stands, set_root}
use Rattle.name_tree.specs.Kept.{view_of}
use Rattle.name_tree.specs.Listed.{listed}
use Rattle.name_tree.proofs.Counts.{split_still}
use Rattle.name_tree.proofs.Depth.{names_depth, roots_depth}
use Rattle.name_tree.proofs.Lists.{put_is}
use Rattle.name_tree.proofs.Rises.{length_listed}
use Rattle.name_tree.proofs.names.NameTreeNames.set.Goals as goal
use Rattle.name_tree.proofs.names.NameTreeNames.set.Goals.{After-put-self-inside}

-- the list with the name
list_is : (c : After-put-self-inside) → listed c.put-self-inside.new.names.tree ≡ entered (record { name = c.args.name; held = c.args.held }) (listed c.self.inside.names.tree)
list_is c =
    let names = c.self.inside.names in
    let new = c.put-self-inside.new.names in
    put_is names.cut.at names.cut.step (record { name = c.args.name; held = c.args.held }) names.tree new.tree c.self.invariant.names.split
    (split_still new.tree names.cut new.cut c.put-self-inside.ensures.cut c.put-self-inside.ensures.names.split) c.put-self-inside.ensures.set

pub put-self-inside-requires-clause-room : goal.put-self-inside-requires-clause-room
put-self-inside-requires-clause-room c =
    let room : count_of (view_of c.self.inside) < c.self.inside.limit + 1 = subst (λ (t : Table). count_of t < t.limit + 1) (sym c.self.view_is) c.requires.room in
    omega (arith, room, length_listed c.self.inside.names.tree, c.self.invariant.all)

pub invariant_of-self : goal.invariant_of-self
invariant_of-self c =
    let kept = c.self.invariant in
    let new = c.put-self-inside.new in
    let e = c.put-self-inside.ensures in
    let names_cut = e.cut ∙ kept.names_cut in
    let roots_cut = e.roots_cut ∙ kept.roots_cut in
    record {
      names = e.names;
      names_cut = names_cut;
      names_depth = names_depth new.names names_cut e.names;
      all = e.total ∙ kept.all;
      counted = kept.counted;
      roots = e.roots;
      roots_cut = roots_cut;
      roots_depth = roots_depth new.roots roots_cut e.roots;
      all_roots = e.roots_total ∙ kept.all_roots;
      known = e.known;
      room_over = kept.room_over;
    }

pub returns-clause-stands : goal.returns-clause-stands
returns-clause-stands c w members st listless counted =
    let inner : Stands (view_of c.self.inside) w = subst (λ (t : Table). Stands t w) (sym c.self.view_is) st in
    set_stands c.args.name c.args.held members (listed c.put-self-inside.new.names.tree) (view_of c.self.inside) w
    (search rules) c.requires.kind counted (list_is (goal.at.returns-clause-stands c).After-put-self-inside) inner

pub returns-clause-root : goal.returns-clause-root
returns-clause-root c =
    let new = listed c.put-self-inside.new.names.tree in
    subst (λ (t : Table). HasRoot (root_at t) (root_at (with_entries new (view_of c.self.inside))) c.args.name.0 (root_of (Some c.args.held))) c.self.view_is
    (set_root c.args.name c.args.held new (view_of c.self.inside) (search rules) (list_is (goal.at.returns-clause-root c).After-put-self-inside))

pub returns-clause-few : goal.returns-clause-few
returns-clause-few c =
    let is = ap count_of c.self.view_is in
    let few = c.put-self-inside.ensures.few in
    omega (arith, few, is, length_listed c.self.inside.names.tree, length_listed c.put-self-inside.new.names.tree)
