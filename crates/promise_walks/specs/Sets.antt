-- Sets that are empty.
use Rattle.std.specs.Prelude.{Option, None, Some, ◌==◌, if◌then◌else◌}
use Rattle.kj_base.specs.declared.nodes.Link.{Link}
use Rattle.promise_names.specs.declared.names.Held.{Held as HeldCase}
use Rattle.promise_names.specs.declared.names.Held.TheVariants.{Group as GroupCase}

-- the cell that waits until a set is empty, where the set has no tasks
abbrev pub empty_cell : Option HeldCase → Option Link
empty_cell (Some (GroupCase error tasks empty)) = if tasks == 0 then empty else None
empty_cell other = None
