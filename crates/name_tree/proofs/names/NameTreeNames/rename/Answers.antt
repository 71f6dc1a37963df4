use Rattle.std.proofs.Common.{◌≡◌, ◌<◌, ℕ, List, Some, is_some, map, sym, subst, ap, ◌∙◌, arith}
use Rattle.std.specs.Prelude.{IsSome}
use Rattle.promise_names.specs.Held.{AreApart, awaited_key, root_of, root_renamed}
use Rattle.name_table.specs.declared.entries.Entry.{Entry}
use Rattle.name_table.specs.Entries.{held_in, entry_replaced}
use Rattle.name_table.specs.Table.{Table, Stands, count_of, held_count, root_at}
use Rattle.name_table.proofs.Awaited.{as_many, renamed_root, root_named}
use Rattle.name_table.proofs.Calls.{rename_stands, with_both}
use Rattle.name_table.proofs.Replaced.{roots_are}
use Rattle.name_tree.specs.declared.cut.Cut.{Cut}
use Rattle.name_tree.specs.Trees.{value_at}
use Rattle.name_tree.specs.Kept.{view_of}
use Rattle.name_tree.specs.Listed.{listed, root_in}
use Rattle.name_tree.proofs.Counts.{some_held, split_still}
use Rattle.name_tree.proofs.Depth.{names_depth, roots_depth}
use Rattle.name_tree.proofs.Lists.{renamed_is}
use Rattle.name_tree.proofs.Rises.{held_listed, length_listed}
use Rattle.name_tree.proofs.names.NameTreeNames.rename.Goals as goal
use Rattle.name_tree.proofs.names.NameTreeNames.rename.Goals.{After-rename-self-inside}

-- the list with the other tree
list_is : (c : After-rename-self-inside) → listed c.rename-self-inside.new.names.tree ≡ map (entry_replaced c.args.old.number.0 c.args.new) (listed c.self.inside.names.tree)
list_is c =
    let names = c.self.inside.names in
    let new = c.rename-self-inside.new.names in
    renamed_is names.cut.at names.cut.step c.args.old.number.0 c.args.new names.tree new.tree c.self.invariant.names.split
    (split_still new.tree names.cut new.cut c.rename-self-inside.ensures.cut c.rename-self-inside.ensures.names.split) c.rename-self-inside.ensures.renamed

pub rename-self-inside-requires-clause-apart : goal.rename-self-inside-requires-clause-apart
rename-self-inside-requires-clause-apart c name other root is too =
    let names = c.self.inside.names in
    let apart : AreApart (root_at (view_of c.self.inside)) = subst (λ (t : Table). AreApart (root_at t)) (sym c.self.view_is) c.requires.apart in
    let held = held_listed names.tree names.cut.at names.cut.step c.self.invariant.names.split in
    let at : names.cut.at ≡ 2147483648 = ap (λ (cut : Cut). cut.at) c.self.invariant.names_cut in
    let seen : (n : ℕ) → root_in n names.tree ≡ Some root → root_at (view_of c.self.inside) n ≡ Some root = λ n h.
    let some : IsSome (value_at n names.tree) = some_held (value_at n names.tree) (ap is_some h) in
    let low : n < awaited_key = let within = c.self.invariant.names.within n some in omega (arith, within, at) in
    root_named (view_of c.self.inside) n low ∙ ap root_of (held n) ∙ h in
    apart name other root (seen name is) (seen other too)

pub invariant_of-self : goal.invariant_of-self
invariant_of-self c =
    let kept = c.self.invariant in
    let new = c.rename-self-inside.new in
    let e = c.rename-self-inside.ensures in
    let names_cut = e.cut ∙ kept.names_cut in
    let roots_cut = e.roots_cut ∙ kept.roots_cut in
    record {
      names = e.names;
      names_cut = names_cut;
      names_depth = names_depth new.names names_cut e.names;
      all = e.total ∙ kept.all;
      counted = kept.counted;
      roots = e.roots;
      roots_cut = roots_cut;
      roots_depth = roots_depth new.roots roots_cut e.roots;
      all_roots = e.roots_total ∙ kept.all_roots;
      known = e.known;
      room_over = kept.room_over;
    }

pub returns-clause-stands : goal.returns-clause-stands
returns-clause-stands c w st =
    let inner : Stands (view_of c.self.inside) w = subst (λ (t : Table). Stands t w) (sym c.self.view_is) st in
    rename_stands c.args.old.number.0 c.args.new (listed c.rename-self-inside.new.names.tree) _ (view_of c.self.inside) w (list_is (goal.at.returns-clause-stands c).After-rename-self-inside) c.awaited_after-self-inside.ensures inner

pub returns-clause-roots : goal.returns-clause-roots
returns-clause-roots c name =
    let old = c.args.old.number.0 in
    let new = c.args.new in
    let t : Table = view_of c.self.inside in
    let u : Table = with_both (listed c.rename-self-inside.new.names.tree) c.awaited_after-self-inside.result t in
    renamed_root old new t u name c.awaited_after-self-inside.ensures
    (ap (λ (l : List Entry). root_of (held_in name l)) (list_is (goal.at.returns-clause-roots c).After-rename-self-inside) ∙ roots_are old new (listed c.self.inside.names.tree) name)
    ∙ ap (λ (t : Table). root_renamed old new.number.0 (root_at t name)) c.self.view_is

pub returns-clause-count : goal.returns-clause-count
returns-clause-count c =
    let count = c.rename-self-inside.ensures.count in
    let held = ap held_count c.awaited_after-self-inside.ensures ∙ as_many c.args.old.number.0 c.args.new c.self.inside.awaited in
    let is = ap count_of c.self.view_is in
    omega (arith, count, held, is, length_listed c.self.inside.names.tree, length_listed c.rename-self-inside.new.names.tree)
