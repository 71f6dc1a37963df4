-- What commands and records leave to the loose names, and room for new names.
use Rattle.std.specs.Prelude.{ℕ, zero, suc, ◌+◌, ◌≤◌, List, [], ◌∷◌, Bool, true, not, ◌&&◌, length}
use Rattle.std.specs.List.{list_any}
use Rattle.kj_base.specs.Commands.{Command}
use Rattle.kj_base.specs.Record.{Item, Run, Free}
use Rattle.kj_model.specs.World.{World}
use Rattle.kj_model.specs.Uses.{Use, uses_of, is_new}

-- how many names a command names
abbrev pub names_of : Command → ℕ
names_of c = length (uses_of c)

-- those of all commands
abbrev pub names_of_all : List Command → ℕ
names_of_all [] = zero
names_of_all (c ∷ cs) = names_of c + names_of_all cs

-- those of all commands of the steps that ran
abbrev pub names_in : List Item → ℕ
names_in [] = zero
names_in (Run n step input action ∷ items) = names_of_all action.commands + names_in items
names_in (Free n ∷ items) = names_in items

-- no new name is loose
abbrev pub spares_uses : (ℕ → Bool) → List Use → Bool
spares_uses loose us = not (list_any (λ (u : Use). is_new u.role && loose u.name) us)

-- a command makes no loose name
abbrev pub spares : (ℕ → Bool) → Command → Bool
spares loose c = spares_uses loose (uses_of c)

-- none of these commands does
abbrev pub all_spare : (ℕ → Bool) → List Command → Bool
all_spare loose [] = true
all_spare loose (c ∷ cs) = spares loose c && all_spare loose cs

-- no command of the steps that ran does
abbrev pub spared_in : (ℕ → Bool) → List Item → Bool
spared_in loose [] = true
spared_in loose (Run n step input action ∷ items) = all_spare loose action.commands && spared_in loose items
spared_in loose (Free n ∷ items) = spared_in loose items

-- room for so many names more, beside that of an awaited promise
abbrev pub HasRoom : ℕ → World → Type 0
HasRoom more w = suc (length w.names + more) ≤ w.limits.names
