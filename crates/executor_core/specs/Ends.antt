-- Where in a history a request ends.
use Rattle.std.specs.Prelude.{ℕ, ◌+◌, ◌==◌, if◌then◌else◌, List, [], ◌∷◌, Option, Some, None}
use Rattle.executor_core.specs.declared.entry.Entry.{Entry}
use Rattle.executor_core.specs.Acts.{Desk, act}
use Rattle.executor_core.specs.Histories.{fresh, ends_by}

-- of entries from a board on, the first of which has this place: the place of the first that ends the request, where one does
abbrev pub end_from : Desk → ℕ → ℕ → List Entry → Option ℕ
end_from d at r [] = None
end_from d at r (e ∷ es) = if ends_by d r e.call e.reply == 0 then end_from (act d e.caller e.call).0 (at + 1) r es else Some at

-- the place of the entry that ends the request, where one does
abbrev pub end_of : ℕ → List Entry → ℕ → Option ℕ
end_of limit es r = end_from (fresh limit) 0 r es
