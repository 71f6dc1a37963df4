-- What a contract sees of a `NameTree`.
use Rattle.std.specs.Prelude.{◌≡◌, ◌+◌, ◌<◌, ◌≤◌, ◌^◌, true, vec_capacity}
use Rattle.name_table.specs.Table.{Table}
use Rattle.name_tree.specs.declared.names.NameTree.TheInside.{Inside}
use Rattle.name_tree.specs.Listed.{listed, Knows}
use Rattle.name_tree.specs.Cuts.{name_cut, root_cut}
use Rattle.name_tree.specs.Depth.{depth_of}
use Rattle.name_tree.specs.Maps.{IsMap, total_of}

-- the table that has the same names
abbrev pub view_of : Inside → Table
view_of t = record { entries = listed t.names.tree; limit = t.limit; awaited = t.awaited; over = t.over.items; stopped = t.stopped }

-- there is room for all names that there may be, and one more, and for as many roots, each root has its name where all are known, and no tree is deeper than its keys have bits
pub record IsKept (t : Inside) : Type 0 where
  pub names : IsMap t.names
  pub names_cut : t.names.cut ≡ name_cut
  pub names_depth : depth_of t.names.tree ≤ 33
  pub all : total_of t.names ≡ t.limit + 1
  pub counted : t.limit < 2 ^ 32
  pub roots : IsMap t.roots
  pub roots_cut : t.roots.cut ≡ root_cut
  pub roots_depth : depth_of t.roots.tree ≤ 65
  pub all_roots : total_of t.roots ≡ t.limit + 1
  pub known : t.is_known ≡ true → Knows t.names.tree t.roots.tree
  pub room_over : 2 ≤ vec_capacity t.over
